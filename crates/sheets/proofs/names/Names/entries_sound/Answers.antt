use Rattle.std.proofs.Common.{rules, tests}
use Rattle.std.proofs.lemmas.Iterator.Search.{all_from_yields_List}
use Rattle.sheets.specs.Sound.{sound_entry}
use Rattle.sheets.specs.Words.{present}
use Rattle.sheets.proofs.Present.{yields_present}
use Rattle.sheets.proofs.names.Names.entries_sound.Goals as goal

pub returns : goal.returns
returns c = all_from_yields_List (sound_entry c.args.self.constants c.args.self.parameters c.args.self.states.now (present c.args.self.cells.now)) _ _ _ c.all.ensures.ran (yields_present c.args.entries.now (cc) (cc) (cc) (cc)) (λ x b q k. search (rules, tests))
