use Rattle.std.proofs.Common.{rules, tests}
use Rattle.std.proofs.lemmas.Iterator.Search.{all_from_yields_List}
use Rattle.sheets.specs.Keyed.{keyed_entry}
use Rattle.sheets.proofs.Present.{yields_present}
use Rattle.sheets.proofs.keying.Key.entries_keyed.Goals as goal

pub returns : goal.returns
returns c = all_from_yields_List (keyed_entry c.args.self.states.now c.args.self.argument) _ _ _ c.all.ensures.ran (yields_present c.args.entries.now (cc) (cc) (cc) (cc)) (λ x b q k. search (rules, tests))
