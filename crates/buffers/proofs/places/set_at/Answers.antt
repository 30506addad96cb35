use Rattle.std.proofs.Common.{sym, rules}
use Rattle.std.proofs.lemmas.List.{set_past}
use Rattle.buffers.proofs.places.set_at.Goals as goal

pub returns-else-place-buffer : goal.returns-else-place-buffer
returns-else-place-buffer g c = sym (set_past c.args.buffer.now c.args.place c.args.x (search rules))
