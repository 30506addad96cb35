use Rattle.records.specs.Fields.{fields_of}
use Rattle.records.proofs.FieldWrites.{Sizing}
use Rattle.records.proofs.encode.event_size.Given as goal

abbrev pub invariant-loop-field : goal.invariant-loop-field
invariant-loop-field g l = Sizing g.V.Value.written (fields_of l.event) l.field-index l.n
