use Rattle.values.specs.ReferenceRows.{padded-made}
use Rattle.values.proofs.rows.padded_row.Goals as goal

pub returns : goal.returns
returns c = padded-made c.args.bytes.now c.copy_from_slice.new.self c.copy_from_slice.ensures.after
