use Rattle.rules.specs.Kinds.{values_by}
use Rattle.step.proofs.SetSizes.{ascends-left, left-fewer, left-same, left_by}
use Rattle.step.proofs.sizes.left_after.Goals as goal

pub returns-then-leaves : goal.returns-then-leaves
returns-then-leaves g c =
    let K = (values_by g.V.Ord.cmp g.V.Value.blank g.V.Value.reads) in
    let t = g.met.V.Value.total in
    let F = g.S.Shelf.items c.args.shelf.now in
    let u = g.met.S.Shelf.ascending c.args.shelf.now in
    left-fewer K t c.args.change.now (left_by K c.args.front.now F) (ascends-left K t c.args.front.now F u) c.args.left c.requires.left c.if-leaves.ensures

pub returns-else-leaves : goal.returns-else-leaves
returns-else-leaves g c =
    let K = (values_by g.V.Ord.cmp g.V.Value.blank g.V.Value.reads) in
    let t = g.met.V.Value.total in
    let F = g.S.Shelf.items c.args.shelf.now in
    let u = g.met.S.Shelf.ascending c.args.shelf.now in
    left-same K t c.args.change.now (left_by K c.args.front.now F) (ascends-left K t c.args.front.now F u) c.args.left c.requires.left c.if-leaves.ensures
