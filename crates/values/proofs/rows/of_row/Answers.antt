use Rattle.values.specs.ReferenceRows.{row_read}
use Rattle.values.proofs.rows.of_row.Goals as goal

pub returns : goal.returns
returns c = row_read c.args.row.now _ _ c.requires c.number_of.ensures c.number_of-2.ensures
