use Rattle.std.proofs.Common.{unwrap_or, ap, ◌∙◌, rules, tests}
use Rattle.std.proofs.lemmas.Iterator.Search.{find_from_yields_List}
use Rattle.rules.specs.Kinds.{values_by}
use Rattle.sheets.proofs.Present.{yields_present}
use Rattle.sheets.specs.Sound.{binds}
use Rattle.sheets.specs.Words.{present}
use Rattle.sheets.specs.declared.tables.Cell.{Cell}
use Rattle.firing.specs.At.{event_in}
use Rattle.firing.proofs.SlotValues.{slot-read}
use Rattle.firing.proofs.at.SheetEvent.slot_value.Goals as goal

pub returns : goal.returns
returns g c =
    let K = values_by g.V.Ord.cmp g.V.Value.blank g.V.Value.reads in
    let f = find_from_yields_List (λ (x : Cell). binds c.args.slot x.want) _ _ _ c.find.ensures.ran (yields_present c.args.row.now.cells (cc) (cc) (cc) (cc)) (λ x b q k. search (rules, tests)) in
    c.unwrap_or.ensures ∙ ap (unwrap_or c.and_then.result) c.filler.ensures ∙ slot-read K (event_in c.args.self.now) c.args.slot (present c.args.row.now.cells) c.find.result c.and_then.result f (search (rules, tests))
