use Rattle.std.proofs.Common.{rules, tests}
use Rattle.std.proofs.lemmas.Iterator.Search.{any_from_yields_List}
use Rattle.sheets.specs.Keyed.{keyed_cell}
use Rattle.sheets.proofs.Present.{yields_present}
use Rattle.sheets.proofs.keying.cells_keyed.Goals as goal

pub returns : goal.returns
returns c = any_from_yields_List (keyed_cell c.args.states.now c.args.row.now c.args.field) _ _ _ c.any.ensures.ran (yields_present c.args.row.now.cells (cc) (cc) (cc) (cc)) (λ x b q k. search (rules, tests))
