use Rattle.std.proofs.Common.{sym, refl}
use Rattle.items.proofs.Orders.{item-total}
use Rattle.items.proofs.Ascending.{without-none}
use Rattle.indexed.proofs.shelf.calls.IndexedShelfShelf.remove.Goals as goal

pub returns-in_default : goal.returns-in_default
returns-in_default g c =
    record {
      answer = sym c.in_default.ensures;
      items = sym (without-none (item-total g.met.V.Value.total) c.args.item.now _ c.in_default.ensures);
      limit = refl;
    }
