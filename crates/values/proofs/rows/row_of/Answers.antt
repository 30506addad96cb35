use Rattle.values.specs.ReferenceRows.{row_made}
use Rattle.values.proofs.rows.row_of.Goals as goal

pub returns : goal.returns
returns c = row_made c.args.x c.put_number.new.buffer c.put_number-2.new.buffer c.put_number.ensures c.put_number-2.ensures
