use Rattle.std.proofs.Common.{◌≡◌, ◌+◌, ◌≤◌, [], take, drop}
use Rattle.rules.specs.Kinds.{values_by}
use Rattle.step.specs.Counts.{count_from, is_counted}
use Rattle.step.proofs.counts.count_part.Given as goal

abbrev pub invariant-loop-i : goal.invariant-loop-i
invariant-loop-i g l =
    let test = is_counted (values_by g.V.Ord.cmp g.V.Value.blank g.V.Value.reads) l.moves (g.S.Shelf.items l.shelf) l.name l.part in
    (l.total + count_from test (take l.i l.moves) (drop l.i l.moves) ≡ count_from test [] l.moves) × (l.total ≤ l.i)
