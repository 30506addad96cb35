use Rattle.std.proofs.Common.{rules}
use Rattle.rowwords.proofs.PatternSteps.{character-behind, has-letter}
use Rattle.rowwords.proofs.patterns.behind_letter.Goals as goal

pub range_from-requires : goal.range_from-requires
range_from-requires c = λ _. (has-letter c.args.word.now c.requires.0, search (rules, character-behind))
