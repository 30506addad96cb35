use Rattle.std.proofs.Common.{sym, arith}
use Rattle.std.proofs.lemmas.List.{set_past}
use Rattle.counting.proofs.counts.count_name.Goals as goal

-- src/counts.rt:100:1
pub returns-else-name-lt32 : goal.returns-else-name-lt32
returns-else-name-lt32 c = sym (set_past c.args.tallies.now c.args.name _ (omega arith))
