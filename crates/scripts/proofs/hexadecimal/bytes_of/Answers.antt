use Rattle.std.proofs.Common.{vec_items, rules}
use Rattle.std.proofs.lemmas.List.{take_rest}
use Rattle.scripts.proofs.HexSteps.{turn}
use Rattle.scripts.proofs.hexadecimal.bytes_of.Goals as goal

pub loop-left-preserved : goal.loop-left-preserved
loop-left-preserved c = turn c.args.word.now (vec_items c.loop-left.bytes) (vec_items c.push.new.self) c.loop-left.left.now _ _ c.loop-left.invariant (search rules) (search rules) c.in_ok-push.ensures.items (take_rest c.loop-left.left.now 2)
