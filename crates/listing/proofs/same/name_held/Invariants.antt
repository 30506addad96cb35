use Rattle.std.proofs.Common.{◌≡◌, length, None}
use Rattle.items.specs.Ascending.{kept}
use Rattle.items.specs.Items.{item_order, named, wanted}
use Rattle.listing.specs.Listed.{all_held}
use Rattle.listing.proofs.same.name_held.Given as goal

-- whether all are held hangs on those to come
abbrev pub invariant-loop-item : goal.invariant-loop-item
invariant-loop-item g l =
    let xs = g.S.Shelf.items l.left in
    let ys = g.T.Shelf.items l.other in
    all_held (item_order g.V.Ord.cmp) (kept (wanted g.V.Ord.cmp l.name None l.above) xs) ys ≡ all_held (item_order g.V.Ord.cmp) (kept (named l.name) xs) ys

abbrev pub decreases-loop-item : goal.decreases-loop-item
decreases-loop-item g l = length (kept (wanted g.V.Ord.cmp l.name None l.above) (g.S.Shelf.items l.left))
