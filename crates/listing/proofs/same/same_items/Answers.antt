use Rattle.std.proofs.Common.{sym, ◌∙◌}
use Rattle.items.proofs.Orders.{item-total}
use Rattle.listing.proofs.Subsets.{count-of-same, same-by-count}
use Rattle.listing.proofs.same.same_items.Goals as goal

pub returns : goal.returns
returns g c =
    let s = c.args.left.now in
    let t = c.args.other.now in
    let o = item-total g.met.V.Value.total in
    record {
      same = λ r. same-by-count o (g.S.Shelf.items s) (g.T.Shelf.items t) (g.met.S.Shelf.ascending s) (g.met.T.Shelf.ascending t) (sym c.as_many_held.ensures ∙ r);
      differ = λ e. c.as_many_held.ensures ∙ count-of-same o (g.S.Shelf.items s) (g.T.Shelf.items t) e;
    }
