use Rattle.std.proofs.Common.{sym, ◌∙◌}
use Rattle.records.proofs.Covers.{covered}
use Rattle.records.proofs.RecordReads.{record-kind, record-cut, record-fields}
use Rattle.records.proofs.decode.read_record.Goals as goal

pub returns-then-not-kind_fits : goal.returns-then-not-kind_fits
returns-then-not-kind_fits g c = record { value = record-kind g.V.Value.reads c.args.bytes.now c.args.at c.requires (sym c.kind_fits.ensures ∙ c.if-not-kind_fits.true); covers = tt }

pub returns-then-bytes-at-lt2 : goal.returns-then-bytes-at-lt2
returns-then-bytes-at-lt2 g c = record { value = record-cut g.V.Value.reads c.args.bytes.now c.args.at c.requires (sym c.kind_fits.ensures ∙ c.if-not-kind_fits.false) c.if-bytes-at-lt2.true; covers = tt }

pub returns : goal.returns
returns g c =
    let a = c.args in
    let e = c.read_fields.ensures ∙ record-fields g.V.Value.reads a.bytes.now a.at c.requires (sym c.kind_fits.ensures ∙ c.if-not-kind_fits.false) c.if-bytes-at-lt2.false in
    record { value = e; covers = covered g.met.V.Value.form a.bytes.now a.at (λ i. (c.type_inv.bytes i).fits) _ e }
