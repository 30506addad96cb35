use Rattle.std.proofs.Common.{◌≤◌, length}
use Rattle.replay.proofs.sessions.session.Given as goal

-- lines are only taken from the script
abbrev pub invariant-loop-standing : goal.invariant-loop-standing
invariant-loop-standing g l = length l.run.script.left.now ≤ length l.initial.run.script.left.now

abbrev pub decreases-loop-standing : goal.decreases-loop-standing
decreases-loop-standing g l = length l.run.script.left.now
