use Rattle.std.proofs.Common.{[], ◌∷◌, map, set, None, refl, ap, ◌∙◌}
use Rattle.buffers.specs.Places.{fill, places_after}
use Rattle.buffers.proofs.Fillings.{filling-start, filling-more, filled-all, counted-all}
use Rattle.items.proofs.Next.{coming-less}
use Rattle.listing.proofs.Lists.{shown-more, shown-end, wanted-named}
use Rattle.listing.proofs.into.named_into.Goals as goal

pub loop-item-init : goal.loop-item-init
loop-item-init g c = filling-start _ _ _ _ refl

pub loop-item-smaller : goal.loop-item-smaller
loop-item-smaller g c =
    let s = c.args.shelf.now in
    coming-less g.met.V.Value.total c.args.name None c.loop-item.above (g.S.Shelf.items s) (g.met.S.Shelf.ascending s) c.in-Some.item c.in-Some.ensures

pub loop-item-preserved : goal.loop-item-preserved
loop-item-preserved g c =
    let s = c.args.shelf.now in
    let shows = g.L.Listing.shows c.args.listing.now in
    filling-more (shows c.in-Some.item ∷ []) _ _ _ c.loop-item.invariant
    (shown-more g.met.V.Value.total shows c.args.name c.loop-item.above (g.S.Shelf.items s) (g.met.S.Shelf.ascending s) c.in-Some.item c.in-Some.ensures)
    (c.put-after.ensures.buffer ∙ ap (set c.loop-item.out c.loop-item.after) c.show.ensures) c.put-after.ensures.place

pub returns : goal.returns
returns g c =
    let xs = g.S.Shelf.items c.args.shelf.now in
    let shows = g.L.Listing.shows c.args.listing.now in
    let e = shown-end g.met.V.Value.total shows c.args.name c.loop-item.above xs c.in_default.ensures in
    let n = ap (map shows) (wanted-named g.V.Ord.cmp c.args.name xs) in
    record { out = filled-all c.loop-item.invariant e ∙ ap (fill c.args.out.now c.args.place) n; place = counted-all c.loop-item.invariant e ∙ ap (places_after c.args.place) n }
