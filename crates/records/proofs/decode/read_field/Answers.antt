use Rattle.std.proofs.Common.{Err, sym, ap, ◌∙◌, arith}
use Rattle.records.proofs.FieldReads.{field-none, field-read, end-within}
use Rattle.records.proofs.decode.read_field.Goals as goal

pub returns-then-is_absent : goal.returns-then-is_absent
returns-then-is_absent g c = record { value = field-none g.met.V.Value.form c.args.bytes.now c.args.at c.args.map (sym c.is_absent.ensures ∙ c.if-is_absent.true); within = c.requires }

pub overflow_add-result : goal.overflow_add-result
overflow_add-result g c =
    let h = end-within g.met.V.Value.form c.args.bytes.now c.args.at c.args.map (λ i. (c.type_inv.bytes i).fits) c.requires _ _ c.in-Ok.ensures in
    record { fits = omega arith }

pub returns-in-Ok : goal.returns-in-Ok
returns-in-Ok g c = record {
  value = field-read g.met.V.Value.form c.args.bytes.now c.args.at c.args.map (sym c.is_absent.ensures ∙ c.if-is_absent.false) _ c.in-Ok.ensures;
  within = end-within g.met.V.Value.form c.args.bytes.now c.args.at c.args.map (λ i. (c.type_inv.bytes i).fits) c.requires _ _ c.in-Ok.ensures;
}

pub returns-in-Err : goal.returns-in-Err
returns-in-Err g c =
    let e = sym c.in-Err.is ∙ c.read.ensures in
    record { value = ap Err c.saturating_add.ensures ∙ field-read g.met.V.Value.form c.args.bytes.now c.args.at c.args.map (sym c.is_absent.ensures ∙ c.if-is_absent.false) _ e; within = tt }
