use Rattle.std.proofs.Common.{◌≡◌, length, vec_items, subst}
use Rattle.sheets.specs.Loading.{load_refusal}
use Rattle.sheets.specs.View.{Loads}
use Rattle.tables.proofs.tables.Tables.load.Goals as goal

pub returns-clause-answer : goal.returns-clause-answer
returns-clause-answer g c =
    let t = c.args.self.now in
    let p = c.deref.ensures.value in
    let q = c.deref-2.ensures.value in
    let r = c.deref-3.ensures.value in
    let k = c.kinds.ensures in
    let same : load_refusal c.deref.result.now c.deref-2.result.now c.kinds.result (length c.deref-3.result.now) ≡ load_refusal (vec_items t.states) (vec_items t.rows) t.kinds (length (vec_items t.constants)) = cc in
    subst (Loads c.load.result) same c.load.ensures.answer
