use Rattle.std.proofs.Common.{◌≡◌, ◌-◌, vec_items, vec_len, set, ap, ◌∙◌, rules}
use Rattle.std.proofs.lemmas.List.{set-get_or}
use Rattle.std.proofs.lemmas.Result.{err_from_is_err_and}
use Rattle.tables.proofs.building.in_last.Goals as goal

pub returns-in_err-last : goal.returns-in_err-last
returns-in_err-last c =
    let p = err_from_is_err_and c.from_residual.result c.from_residual.ensures.1 in
    let rows = vec_items c.args.rows.now in
    let n = vec_len c.args.rows.now - 1 in
    let last = c.in-Some.last.now in
    let same : set rows n last ≡ rows = ap (set rows n) c.in-Some.ensures.value ∙ set-get_or rows n last in
    rw (p.1, p.2) (search rules, same)
