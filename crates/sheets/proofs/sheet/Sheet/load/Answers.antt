use Rattle.std.proofs.Common.{length}
use Rattle.sheets.proofs.Loads.{copies-keyed, copies-sound}
use Rattle.sheets.proofs.sheet.Sheet.load.Goals as goal

pub table_of-requires : goal.table_of-requires
table_of-requires g c =
    let a = c.args in
    let p = c.in_ok-states.ensures.items in
    let q = c.in_ok-rows.ensures.items in
    record {
      sound = copies-sound a.states.now _ a.rows.now _ a.kinds.now (length a.constants.now) p q c.in_ok-check.ensures;
      keyed = copies-keyed a.states.now _ a.rows.now _ a.kinds.now _ p q c.is_keyed-keyed.ensures;
    }
