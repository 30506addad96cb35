use Rattle.std.proofs.Common.{◌≡◌, ◌+◌, eqb, length, None}
use Rattle.items.specs.Ascending.{kept}
use Rattle.items.specs.Items.{wanted}
use Rattle.items.proofs.walks.count_of.Given as goal

-- those counted and those to come are all
abbrev pub invariant-loop-count : goal.invariant-loop-count
invariant-loop-count g l =
    let xs = g.S.Shelf.items l.shelf in
    l.count + length (kept (wanted g.S.Of.Ord.cmp l.name None l.last) xs) ≡ length (kept (λ y. eqb y.name l.name) xs)
