use Rattle.values.specs.Form.{bytes_in}
use Rattle.records.specs.Fields.{fields_of}
use Rattle.records.specs.Record.{event_bytes}
use Rattle.records.proofs.Filling.{Filling}
use Rattle.records.proofs.encode.fill.Given as goal

abbrev pub invariant-loop-field : goal.invariant-loop-field
invariant-loop-field g l = let w = g.V.Value.written in Filling w (bytes_in (event_bytes w l.event)) l.initial.buffer (fields_of l.event) l.field-index l.at l.buffer
