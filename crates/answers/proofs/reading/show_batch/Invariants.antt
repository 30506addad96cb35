use Rattle.std.proofs.Common.{◌-◌, length}
use Rattle.answers.proofs.reading.show_batch.Given as goal

-- the bytes that the reader has not read
abbrev pub decreases-loop-event : goal.decreases-loop-event
decreases-loop-event g l = length l.reader.bytes.now - l.reader.place
