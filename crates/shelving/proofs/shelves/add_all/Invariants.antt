use Rattle.std.proofs.Common.{◌≡◌, take}
use Rattle.shelving.specs.Adding.{added_all}
use Rattle.shelving.proofs.shelves.add_all.Given as goal

-- the shelf stays of its limit, and the items so far were added
abbrev pub invariant-loop-item : goal.invariant-loop-item
invariant-loop-item g l = record {
  items : g.S.Shelf.items l.shelf ≡ added_all g.S.Of.Ord.cmp (g.S.Shelf.limit l.initial.shelf) (take l.item-index l.held) (g.S.Shelf.items l.initial.shelf);
  limit : g.S.Shelf.limit l.shelf ≡ g.S.Shelf.limit l.initial.shelf;
}
