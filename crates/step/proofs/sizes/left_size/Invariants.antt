use Rattle.std.proofs.Common.{◌≡◌, length, take}
use Rattle.rules.specs.Kinds.{values_by}
use Rattle.step.proofs.SetSizes.{left_by}
use Rattle.step.proofs.sizes.left_size.Given as goal

abbrev pub invariant-loop-i : goal.invariant-loop-i
invariant-loop-i g l = l.left ≡ length (left_by (values_by g.V.Ord.cmp g.V.Value.blank g.V.Value.reads) (take l.i l.moves) (g.S.Shelf.items l.shelf))
