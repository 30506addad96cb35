use Rattle.std.proofs.Common.{◌≤◌, length}
use Rattle.replay.proofs.session.Session.run.Given as goal

-- lines are only taken from the script
abbrev pub invariant-loop-line : goal.invariant-loop-line
invariant-loop-line g l = length l.run.script.left.now ≤ length l.initial.run.script.left.now

abbrev pub decreases-loop-line : goal.decreases-loop-line
decreases-loop-line g l = length l.run.script.left.now
