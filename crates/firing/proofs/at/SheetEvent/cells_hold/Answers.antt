use Rattle.std.proofs.Common.{rules, tests}
use Rattle.std.proofs.lemmas.Iterator.Search.{all_from_yields_List}
use Rattle.rules.specs.Kinds.{values_by}
use Rattle.rules.specs.Step.{cell_holds}
use Rattle.sheets.proofs.Present.{yields_present}
use Rattle.firing.specs.At.{event_in, sheet_in}
use Rattle.firing.proofs.at.SheetEvent.cells_hold.Goals as goal

pub returns : goal.returns
returns g c = all_from_yields_List (cell_holds (values_by g.V.Ord.cmp g.V.Value.blank g.V.Value.reads) (sheet_in c.args.self.now) (event_in c.args.self.now) c.args.item.now c.args.row.now) _ _ _ c.all.ensures.ran (yields_present c.args.row.now.cells (cc) (cc) (cc) (cc)) (λ x b q k. search (rules, tests))
