use Rattle.std.proofs.Common.{None}
use Rattle.items.proofs.Next.{coming-less}
use Rattle.listing.proofs.HeldWalks.{item-missing, item-there, items-done, items-start}
use Rattle.listing.proofs.same.name_held.Goals as goal

pub loop-item-init : goal.loop-item-init
loop-item-init g c = items-start g.V.Ord.cmp (g.S.Shelf.items c.args.left.now) (g.T.Shelf.items c.args.other.now) c.args.name

pub returns-then-not-holds : goal.returns-then-not-holds
returns-then-not-holds g c =
    let s = c.args.left.now in
    item-missing g.met.V.Value.total c.args.name c.loop-item.above (g.S.Shelf.items s) (g.T.Shelf.items c.args.other.now) _ c.loop-item.invariant (g.met.S.Shelf.ascending s) c.in-Some.item c.in-Some.ensures c.if-not-holds.ensures

pub loop-item-smaller : goal.loop-item-smaller
loop-item-smaller g c =
    let s = c.args.left.now in
    coming-less g.met.V.Value.total c.args.name None c.loop-item.above (g.S.Shelf.items s) (g.met.S.Shelf.ascending s) c.in-Some.item c.in-Some.ensures

pub loop-item-preserved : goal.loop-item-preserved
loop-item-preserved g c =
    let s = c.args.left.now in
    item-there g.met.V.Value.total c.args.name c.loop-item.above (g.S.Shelf.items s) (g.T.Shelf.items c.args.other.now) _ c.loop-item.invariant (g.met.S.Shelf.ascending s) c.in-Some.item c.in-Some.ensures c.if-not-holds.ensures

pub returns : goal.returns
returns g c = items-done g.met.V.Value.total c.args.name c.loop-item.above (g.S.Shelf.items c.args.left.now) (g.T.Shelf.items c.args.other.now) _ c.loop-item.invariant c.in_default.ensures
