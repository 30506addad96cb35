use Rattle.std.proofs.Common.{◌≡◌, replicate}
use Rattle.shelving.proofs.buffers.filled.Given as goal

-- the same in as many places as there were turns
abbrev pub invariant-loop-done : goal.invariant-loop-done
invariant-loop-done g l = l.all.items ≡ replicate l._done l.x
