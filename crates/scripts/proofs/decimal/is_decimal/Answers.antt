use Rattle.std.proofs.Common.{rules}
use Rattle.scripts.proofs.DigitSteps.{all_digits}
use Rattle.scripts.proofs.decimal.is_decimal.Goals as goal

pub returns-then-not-is_empty : goal.returns-then-not-is_empty
returns-then-not-is_empty c = search (rules, all_digits c.args.word.now)
