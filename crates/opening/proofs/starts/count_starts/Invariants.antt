use Rattle.opening.proofs.Inits.{Starting}
use Rattle.opening.proofs.starts.count_starts.Given as goal

-- the states so far are counted
abbrev pub invariant-loop-i : goal.invariant-loop-i
invariant-loop-i l = Starting l.states l.initial.tallies l.tallies l.i
