use Rattle.std.proofs.Common.{arith}
use Rattle.indexed.proofs.Fresh.{numbered_more}
use Rattle.indexed.proofs.shelf.calls.numbers.Goals as goal

pub loop-i-preserved : goal.loop-i-preserved
loop-i-preserved c =
    let i = c.loop-i.invariant in
    let p = c.in_ok-push.ensures in
    (numbered_more c.loop-i.i _ _ p.items i.0, omega (arith, p.capacity))
