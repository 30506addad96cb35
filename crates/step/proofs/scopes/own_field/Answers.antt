use Rattle.std.proofs.Common.{rules, tests}
use Rattle.std.proofs.lemmas.Iterator.Search.{find_from_yields_List}
use Rattle.sheets.proofs.Present.{yields_present}
use Rattle.sheets.specs.declared.tables.Cell.{Cell}
use Rattle.step.specs.Scopes.{own_first}
use Rattle.step.proofs.OwnFields.{own-read}
use Rattle.step.proofs.scopes.own_field.Goals as goal

pub returns-clause-field : goal.returns-clause-field
returns-clause-field c =
    let f = find_from_yields_List (λ (x : Cell). own_first x.want) _ _ _ c.find.ensures.ran (yields_present c.args.cells.now (cc) (cc) (cc) (cc)) (λ x b q k. search (rules, tests)) in
    own-read c.args.cells.now c.find.result c.map.result c.filter.result f (search (rules, tests)) (search (rules, tests))
