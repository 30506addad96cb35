use Rattle.std.proofs.Common.{◌≡◌, not, drop}
use Rattle.items.specs.Ascending.{kept}
use Rattle.rules.specs.Kinds.{values_by}
use Rattle.rules.specs.Step.{taken}
use Rattle.step.proofs.changes.take_all.Given as goal

-- what the moves still to come leave is what all leave
abbrev pub invariant-loop-change : goal.invariant-loop-change
invariant-loop-change g l =
    (g.S.Shelf.limit l.shelf ≡ g.S.Shelf.limit l.initial.shelf)
    × (kept (λ x. not (taken (values_by g.V.Ord.cmp g.V.Value.blank g.V.Value.reads) (drop l.change-index l.moves) x)) (g.S.Shelf.items l.shelf) ≡ kept (λ x. not (taken (values_by g.V.Ord.cmp g.V.Value.blank g.V.Value.reads) l.moves x)) (g.S.Shelf.items l.initial.shelf))
