use Rattle.rules.specs.Kinds.{values_by}
use Rattle.counting.proofs.Tallying.{Tallying}
use Rattle.counting.proofs.counts.count_moves.Given as goal

-- the moves so far are counted
abbrev pub invariant-loop-i : goal.invariant-loop-i
invariant-loop-i g l = Tallying (values_by g.V.Ord.cmp g.V.Value.blank g.V.Value.reads) l.moves (g.S.Shelf.items l.shelf) l.initial.tallies l.tallies l.i
