use Rattle.std.proofs.Common.{arith, rules}
use Rattle.records.specs.Fields.{fields_of}
use Rattle.records.specs.Record.{event_bytes}
use Rattle.records.proofs.FieldWrites.{field-is}
use Rattle.records.proofs.Filling.{fill_none, fill-has, fill-fits, fill_more, fill_end, some_is, two-room}
use Rattle.records.proofs.encode.fill.Goals as goal

pub bounds-buffer-0 : goal.bounds-buffer-0
bounds-buffer-0 g c = omega (arith, two-room g.V.Value.written c.args.event.now c.args.buffer.now c.requires.event_value c.requires.event_in_bounds)

pub bounds-buffer-1 : goal.bounds-buffer-1
bounds-buffer-1 g c = let h = two-room g.V.Value.written c.args.event.now c.args.buffer.now c.requires.event_value c.requires.event_in_bounds in search rules

pub loop-field-init : goal.loop-field-init
loop-field-init g c = let w = g.V.Value.written in fill_none w c.args.event.now _ c.args.buffer.now _ (some_is (event_bytes w c.args.event.now) c.requires.event_value) c.map.ensures c.requires.event_in_bounds

pub put_field-at-requires : goal.put_field-at-requires
put_field-at-requires g c =
    let w = g.V.Value.written in
    let fs = fields_of c.args.event.now in
    record {
      field_value = fill-has w _ _ fs _ _ _ c.loop-field-test.true _ (field-is c.fields.result (fields_of c.args.event.now) _ _ c.fields.ensures c.loop-field-test.true) c.loop-field.invariant;
      field_in_bounds = fill-fits w _ _ fs _ _ _ c.loop-field-test.true _ (field-is c.fields.result (fields_of c.args.event.now) _ _ c.fields.ensures c.loop-field-test.true) c.loop-field.invariant;
    }

pub loop-field-preserved : goal.loop-field-preserved
loop-field-preserved g c =
    let p = c.put_field-at.ensures in
    fill_more g.V.Value.written _ _ (fields_of c.args.event.now) _ _ _ c.loop-field-test.true _ (field-is c.fields.result (fields_of c.args.event.now) _ _ c.fields.ensures c.loop-field-test.true) c.loop-field.invariant _ _ c.put_field-at.auto.buffer p.end p.front p.rest

pub returns : goal.returns
returns g c =
    let p = fill_end g.V.Value.written c.args.event.now c.args.buffer.now c.requires.event_value _ _ _ _ (omega arith) c.loop-field.invariant in
    record { count = p.0; bytes = p.1 }
