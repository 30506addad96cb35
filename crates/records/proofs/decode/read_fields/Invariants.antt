use Rattle.std.proofs.Common.{◌-◌}
use Rattle.records.proofs.FieldReads.{Come}
use Rattle.records.proofs.decode.read_fields.Given as goal

abbrev pub invariant-loop-number : goal.invariant-loop-number
invariant-loop-number g l = Come g.V.Value.reads l.bytes l.kind l.map l.start (l.number - 1) l.left l.at l.event
