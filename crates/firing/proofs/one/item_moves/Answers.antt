use Rattle.std.proofs.Common.{ap, ◌∙◌}
use Rattle.rules.specs.Kinds.{values_by}
use Rattle.buffers.specs.Places.{fill, places_after}
use Rattle.firing.proofs.Gives.{moves-given}
use Rattle.firing.proofs.one.item_moves.Goals as goal

pub returns : goal.returns
returns g c =
    let e = moves-given (values_by g.V.Ord.cmp g.V.Value.blank g.V.Value.reads) c.args.at.now (g.S.Shelf.items c.args.shelf.now) c.args.item.now in
    record { out = c.item_into.ensures.out ∙ ap (fill c.args.out.now c.args.place) e; place = c.item_into.ensures.place ∙ ap (places_after c.args.place) e }
