use Rattle.std.proofs.Common.{length, sym, ap, ◌∙◌, arith}
use Rattle.std.specs.Option.{option_map}
use Rattle.records.specs.Fields.{fields_of}
use Rattle.records.specs.Record.{field_bytes}
use Rattle.records.proofs.FieldWrites.{event-sized, field-is, kind-large, size-end, size-more, size-stop}
use Rattle.records.proofs.encode.event_size.Goals as goal

pub returns-then-not-kind_fits : goal.returns-then-not-kind_fits
returns-then-not-kind_fits g c = kind-large g.V.Value.written c.args.event.now (sym c.kind_fits.ensures ∙ c.if-not-kind_fits.true)

pub returns-in_err-size : goal.returns-in_err-size
returns-in_err-size g c =
    let w = g.V.Value.written in
    let e = c.in_err-size.ensures ∙ ap (λ f. option_map length (field_bytes w f)) (field-is c.fields.result (fields_of c.args.event.now) _ _ c.fields.ensures c.loop-field-test.true) in
    c.from_residual.ensures ∙ event-sized w c.args.event.now (sym c.kind_fits.ensures ∙ c.if-not-kind_fits.false) _ (size-stop w (fields_of c.args.event.now) _ _ c.loop-field-test.true c.loop-field.invariant e)

pub loop-field-preserved : goal.loop-field-preserved
loop-field-preserved g c =
    let w = g.V.Value.written in
    let e = c.in_ok-size.ensures ∙ ap (λ f. option_map length (field_bytes w f)) (field-is c.fields.result (fields_of c.args.event.now) _ _ c.fields.ensures c.loop-field-test.true) in
    size-more w (fields_of c.args.event.now) _ _ c.loop-field-test.true c.loop-field.invariant _ e (omega arith)

pub returns : goal.returns
returns g c = size-end g.V.Value.written c.args.event.now (sym c.kind_fits.ensures ∙ c.if-not-kind_fits.false) _ _ (omega arith) c.loop-field.invariant
