use Rattle.std.proofs.Common.{◌+◌, cond, is_some, length}
use Rattle.replay.proofs.sessions.replay.Given as goal

-- the lines left, and one more turn for a session that is still to begin
abbrev pub decreases-loop-next : goal.decreases-loop-next
decreases-loop-next l = cond (is_some l.next) (1 + length l.run.script.left.now) 0
