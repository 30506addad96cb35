use Rattle.std.proofs.Common.{◌≡◌, ◌+◌, ◌^◌, ◌≤◌, length, take}
use Rattle.items.specs.Items.{item_order}
use Rattle.rules.specs.Kinds.{values_by}
use Rattle.rules.specs.Step.{moved, with_all}
use Rattle.rules.specs.declared.moves.Cause.TheVariants.{Asked}
use Rattle.step.proofs.SetSizes.{left_by}
use Rattle.step.proofs.sizes.new_size.Given as goal

abbrev pub invariant-loop-i : goal.invariant-loop-i
invariant-loop-i g l =
    (l.size ≡ length (with_all (item_order g.V.Ord.cmp) (left_by (values_by g.V.Ord.cmp g.V.Value.blank g.V.Value.reads) l.moves (g.S.Shelf.items l.shelf)) (moved Asked (take l.i l.moves))))
    × (l.size ≤ 2 ^ 64 + l.i)
