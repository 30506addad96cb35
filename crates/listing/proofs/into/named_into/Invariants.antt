use Rattle.std.proofs.Common.{map, length, None}
use Rattle.buffers.proofs.Fillings.{Filling}
use Rattle.items.specs.Ascending.{kept}
use Rattle.items.specs.Items.{wanted}
use Rattle.listing.proofs.into.named_into.Given as goal

abbrev pub invariant-loop-item : goal.invariant-loop-item
invariant-loop-item g l =
    let xs = g.S.Shelf.items l.shelf in
    let shows = g.L.Listing.shows l.listing in
    Filling l.initial.out l.place (map shows (kept (wanted g.V.Ord.cmp l.name None None) xs)) l.out l.after (map shows (kept (wanted g.V.Ord.cmp l.name None l.above) xs))

abbrev pub decreases-loop-item : goal.decreases-loop-item
decreases-loop-item g l = length (kept (wanted g.V.Ord.cmp l.name None l.above) (g.S.Shelf.items l.shelf))
