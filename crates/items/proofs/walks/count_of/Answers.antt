use Rattle.std.proofs.Common.{eqb, length, None, sym, ap, arith}
use Rattle.items.specs.Items.{wanted}
use Rattle.items.proofs.Next.{length-kept, kept-none, rest_more}
use Rattle.items.proofs.walks.count_of.Goals as goal

pub returns-in-None : goal.returns-in-None
returns-in-None g c =
    let s = c.args.shelf.now in
    let e = ap length (kept-none (wanted g.S.Of.Ord.cmp c.args.name None c.loop-count.last) (g.S.Shelf.items s) (sym c.in-None.ensures)) in
    omega (arith, e, c.loop-count.invariant)

pub loop-count-preserved : goal.loop-count-preserved
loop-count-preserved g c =
    let s = c.args.shelf.now in
    let e = ap length (rest_more g.met.S.Of.Value.total c.args.name None c.loop-count.last (g.S.Shelf.items s) (g.met.S.Shelf.ascending s) c.in-Some.item (sym c.in-Some.ensures)) in
    omega (arith, e, c.loop-count.invariant)

pub returns : goal.returns
returns g c =
    let l = length-kept (λ y. eqb y.name c.args.name) (g.S.Shelf.items c.args.shelf.now) in
    omega (arith, l, c.loop-count.invariant, c.count-total.ensures)
