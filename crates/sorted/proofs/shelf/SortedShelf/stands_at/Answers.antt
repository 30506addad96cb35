use Rattle.std.proofs.Common.{is_some, sym, ap, ◌∙◌}
use Rattle.items.proofs.Orders.{item-total}
use Rattle.items.proofs.Ascending.{held_first}
use Rattle.sorted.proofs.shelf.SortedShelf.stands_at.Goals as goal

pub returns : goal.returns
returns g c =
    c.is_some.ensures ∙ ap is_some c.find.ensures
    ∙ sym (held_first (item-total g.met.V.Value.total) c.args.item.now c.args.self.now.cells.items)
