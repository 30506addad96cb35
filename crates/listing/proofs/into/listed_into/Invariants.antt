use Rattle.buffers.proofs.Fillings.{Filling}
use Rattle.items.specs.Ascending.{kept}
use Rattle.items.specs.Items.{from_name}
use Rattle.listing.specs.Listed.{listed_of}
use Rattle.listing.proofs.into.listed_into.Given as goal

abbrev pub invariant-loop-name : goal.invariant-loop-name
invariant-loop-name g l =
    let xs = g.S.Shelf.items l.shelf in
    let all = listed_of (g.L.Listing.takes l.listing) (g.L.Listing.shows l.listing) in
    Filling l.initial.out 0 (all xs) l.out l.after (all (kept (from_name l.name) xs))
