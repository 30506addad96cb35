use Rattle.std.proofs.Common.{◌∙◌, rules, tests}
use Rattle.std.proofs.lemmas.Iterator.{YieldsList-from_slice}
use Rattle.std.proofs.lemmas.Iterator.Search.{any_from_yields_List}
use Rattle.rules.specs.Kinds.{values_by}
use Rattle.rules.specs.Step.{row_fires}
use Rattle.sheets.specs.declared.tables.Row.{Row}
use Rattle.firing.specs.At.{event_in, sheet_in}
use Rattle.firing.proofs.FiredRows.{any-fires}
use Rattle.firing.proofs.collect.any_fires.Goals as goal

pub returns : goal.returns
returns g c =
    let K = values_by g.V.Ord.cmp g.V.Value.blank g.V.Value.reads in
    let s = sheet_in c.args.at.now in
    let e = event_in c.args.at.now in
    let F = g.S.Shelf.items c.args.shelf.now in
    any_from_yields_List (λ (r : Row). row_fires K s e c.args.item.now r F) _ _ _ c.any.ensures.ran (YieldsList-from_slice c.args.at.now.rows.now cc) (λ x r q k. search (rules, tests)) ∙ any-fires K s e c.args.item.now F
