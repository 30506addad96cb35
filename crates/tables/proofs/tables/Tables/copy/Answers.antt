use Rattle.std.proofs.Common.{◌∙◌}
use Rattle.tables.proofs.TableCopies.{same_tables}
use Rattle.tables.proofs.tables.Tables.copy.Goals as goal

pub returns : goal.returns
returns g c =
    same_tables c.args.self.now.kinds
    (c.in_ok-from_slice.ensures.items ∙ c.deref.ensures.value)
    (c.in_ok-from_slice-2.ensures.items ∙ c.deref-2.ensures.value)
    (c.in_ok-from_slice-3.ensures.items ∙ c.deref-3.ensures.value)
