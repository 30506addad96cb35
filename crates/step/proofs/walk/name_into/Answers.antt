use Rattle.std.proofs.Common.{ap, ◌∙◌}
use Rattle.firing.specs.Effects.{item_gives}
use Rattle.buffers.specs.Places.{fill, places_after}
use Rattle.rules.specs.Kinds.{values_by}
use Rattle.step.proofs.Scoped.{only-named, nothing-named}
use Rattle.step.proofs.Skips.{quiet-gives}
use Rattle.step.proofs.walk.name_into.Goals as goal

pub returns-in-Only : goal.returns-in-Only
returns-in-Only g c =
    let F = g.S.Shelf.items c.args.shelf.now in
    let K = values_by g.V.Ord.cmp g.V.Value.blank g.V.Value.reads in
    let many = g.E.Effect.of_entry c.args.effect.now c.args.at.now in
    let one = g.E.Effect.of_item c.args.effect.now c.args.at.now in
    let e = only-named g.V.Ord.cmp (item_gives many K c.args.at.now F one) c.args.name F c.in-Only.value (λ x n s. let q = c.in-Only.ensures F x n s in quiet-gives K c.args.at.now F x many one q (g.met.E.Effect.quiet c.args.effect.now c.args.at.now x q.stays q.rests)) in
    record { out = c.listed_into-in-Only.ensures.out ∙ ap (fill c.args.out.now c.args.place) e; place = c.listed_into-in-Only.ensures.place ∙ ap (places_after c.args.place) e }

pub returns-in-Nothing : goal.returns-in-Nothing
returns-in-Nothing g c =
    let F = g.S.Shelf.items c.args.shelf.now in
    let K = values_by g.V.Ord.cmp g.V.Value.blank g.V.Value.reads in
    let many = g.E.Effect.of_entry c.args.effect.now c.args.at.now in
    let one = g.E.Effect.of_item c.args.effect.now c.args.at.now in
    let e = nothing-named g.V.Ord.cmp (item_gives many K c.args.at.now F one) c.args.name F (λ x n s. let q = c.in-Nothing.ensures F x n s in quiet-gives K c.args.at.now F x many one q (g.met.E.Effect.quiet c.args.effect.now c.args.at.now x q.stays q.rests)) in
    record { out = ap (fill c.args.out.now c.args.place) e; place = ap (places_after c.args.place) e }
