use Rattle.std.proofs.Common.{rules}
use Rattle.std.proofs.lemmas.Str.Parse.{numerals_by_value, tells_all_ascii_digits, parse_digits}
use Rattle.scripts.proofs.decimal.number.Goals as goal

pub returns : goal.returns
returns c = search (rules, parse_digits (numerals_by_value _ tells_all_ascii_digits) 64 c.args.word.now _ c.parse.ensures.value.0)
