use Rattle.std.proofs.Common.{rules, tests}
use Rattle.std.proofs.lemmas.Iterator.Search.{any_from_yields_List}
use Rattle.sheets.specs.declared.tables.Cell.{Cell}
use Rattle.sheets.specs.Sound.{binds}
use Rattle.sheets.proofs.Present.{yields_present}
use Rattle.sheets.proofs.names.Names.is_bound.Goals as goal

pub returns : goal.returns
returns c = any_from_yields_List (λ (d : Cell). binds c.args.slot d.want) _ _ _ c.any.ensures.ran (yields_present c.args.self.cells.now (cc) (cc) (cc) (cc)) (λ x b q k. search (rules, tests))
