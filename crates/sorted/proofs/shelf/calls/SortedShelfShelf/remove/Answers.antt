use Rattle.std.proofs.Common.{sym, refl}
use Rattle.items.proofs.Orders.{item-total}
use Rattle.items.proofs.Ascending.{without-none}
use Rattle.sorted.proofs.shelf.calls.SortedShelfShelf.remove.Goals as goal

pub returns-then-not-stands_at : goal.returns-then-not-stands_at
returns-then-not-stands_at g c =
    let n = c.if-not-stands_at.ensures in
    record {
      answer = n;
      items = sym (without-none (item-total g.met.V.Value.total) c.args.item.now c.args.self.now.cells.items (sym n));
      limit = refl;
    }
