use Rattle.std.proofs.Common.{length}
use Rattle.replay.proofs.sessions.first_session.Given as goal

abbrev pub decreases-loop-line : goal.decreases-loop-line
decreases-loop-line l = length l.run.script.left.now
