use Rattle.std.proofs.Common.{◌≡◌, ◌+◌, ◌-◌, ◌<◌, true, ◌∙◌, subst, arith}
use Rattle.std.proofs.lemmas.Bool.{and_from, cond-true, le-leb}
use Rattle.std.proofs.lemmas.Result.{err_from_is_err_and}
use Rattle.records.proofs.FieldReads.{Come, come-more, come-stop, come-end}
use Rattle.records.proofs.decode.read_fields.Goals as goal

pub returns-in_err-value : goal.returns-in_err-value
returns-in_err-value g c =
    let a = c.args in
    let p = err_from_is_err_and c.from_residual.result c.from_residual.ensures.1 in
    let below : c.loop-number.number - 1 < 8 = omega (arith, c.loop-number-test.true) in
    rw (p.1, p.2) (come-stop g.V.Value.reads a.bytes.now a.kind a.map a.start _ _ _ _ below c.loop-number.invariant _ c.in_err-value.ensures.value)

pub loop-number-preserved : goal.loop-number-preserved
loop-number-preserved g c =
    let a = c.args in
    let n = c.loop-number.number in
    let e = c.in_ok-value.ensures in
    let s = c.set_field.ensures in
    let below : n - 1 < 8 = omega (arith, c.loop-number-test.true) in
    let there : c.set_field.result ≡ true = s.answer ∙ and_from _ _ (le-leb 1 n c.loop-number.auto.number) (le-leb n 8 c.loop-number-test.true) in
    let next : n - 1 + 1 ≡ n + 1 - 1 = omega (arith, c.loop-number.auto.number) in
    subst (λ i. Come g.V.Value.reads a.bytes.now a.kind a.map a.start i c.rest_of-left.result c.in_ok-value.end c.set_field.new.self) next
    (come-more g.V.Value.reads a.bytes.now a.kind a.map a.start _ _ _ _ below c.loop-number.invariant _ c.rest_of-left.ensures _ _ _ e.value e.within s.kind (s.fields ∙ cond-true c.set_field.result _ _ there))

pub returns : goal.returns
returns g c =
    let a = c.args in
    let all : c.loop-number.number - 1 ≡ 8 = omega (arith, c.loop-number-test.false, c.loop-number.auto.number-end (omega arith)) in
    come-end g.V.Value.reads a.bytes.now a.kind a.map a.start _ _ _ _ all c.loop-number.invariant
