use Rattle.std.proofs.Common.{sym, ◌∙◌}
use Rattle.values.specs.ReferenceRows.{reads-not, reads_all}
use Rattle.values.proofs.references.ReferenceValue.read.Goals as goal

pub returns-then-found-n : goal.returns-then-found-n
returns-then-found-n c = reads-not c.args.bytes.now _ _ c.from-n.ensures (sym c.length_fits.ensures ∙ c.if-not-length_fits.false) c.min.ensures _ c.until_zero-found.ensures.value c.if-found-n.true

pub returns : goal.returns
returns c = reads_all c.args.bytes.now _ _ c.from-n.ensures (sym c.length_fits.ensures ∙ c.if-not-length_fits.false) c.min.ensures _ _ c.until_zero-found.ensures.value c.if-found-n.false c.pack.ensures
