use Rattle.std.proofs.Common.{◌≡◌, drop}
use Rattle.items.specs.Items.{item_order}
use Rattle.rules.specs.Step.{moved, with_all}
use Rattle.rules.specs.declared.moves.Cause.TheVariants.{Asked}
use Rattle.step.proofs.changes.ask_all.Given as goal

-- what the moves still to come make is what all make
abbrev pub invariant-loop-change : goal.invariant-loop-change
invariant-loop-change g l =
    (g.S.Shelf.limit l.shelf ≡ g.S.Shelf.limit l.initial.shelf)
    × (with_all (item_order g.V.Ord.cmp) (g.S.Shelf.items l.shelf) (moved Asked (drop l.change-index l.moves)) ≡ with_all (item_order g.V.Ord.cmp) (g.S.Shelf.items l.initial.shelf) (moved Asked l.moves))
