use Rattle.firing.specs.Effects.{item_gives}
use Rattle.buffers.proofs.Fillings.{filling-more, filled-all, counted-all}
use Rattle.items.proofs.Next.{coming-less}
use Rattle.rules.specs.Kinds.{values_by}
use Rattle.step.proofs.Walks.{listed_more, listed-end}
use Rattle.step.proofs.walk.listed_into.Goals as goal

pub loop-item-smaller : goal.loop-item-smaller
loop-item-smaller g c =
    let s = c.args.shelf.now in
    coming-less g.met.V.Value.total c.args.name c.args.first c.loop-item.above (g.S.Shelf.items s) (g.met.S.Shelf.ascending s) c.in-Some.item c.in-Some.ensures

pub loop-item-preserved : goal.loop-item-preserved
loop-item-preserved g c =
    let s = c.args.shelf.now in
    let F = g.S.Shelf.items s in
    let f = item_gives (g.E.Effect.of_entry c.args.effect.now c.args.at.now) (values_by g.V.Ord.cmp g.V.Value.blank g.V.Value.reads) c.args.at.now F (g.E.Effect.of_item c.args.effect.now c.args.at.now) in
    filling-more (f c.in-Some.item) _ _ _ c.loop-item.invariant (listed_more g.V.Ord.cmp f F g.met.V.Value.total c.args.name c.args.first c.loop-item.above (g.met.S.Shelf.ascending s) c.in-Some.item c.in-Some.ensures) c.item_into-after.ensures.out c.item_into-after.ensures.place

pub returns : goal.returns
returns g c =
    let s = c.args.shelf.now in
    let F = g.S.Shelf.items s in
    let f = item_gives (g.E.Effect.of_entry c.args.effect.now c.args.at.now) (values_by g.V.Ord.cmp g.V.Value.blank g.V.Value.reads) c.args.at.now F (g.E.Effect.of_item c.args.effect.now c.args.at.now) in
    let e = listed-end g.V.Ord.cmp f F c.args.name c.args.first c.loop-item.above c.in_default.ensures in
    record { out = filled-all c.loop-item.invariant e; place = counted-all c.loop-item.invariant e }
