use Rattle.std.proofs.Common.{arith}
use Rattle.items.specs.Items.{item_order}
use Rattle.rules.specs.Kinds.{values_by}
use Rattle.rules.specs.Step.{moved, with_all}
use Rattle.rules.specs.declared.moves.Cause.TheVariants.{Asked}
use Rattle.step.proofs.SetSizes.{ascends-there, left_by, size-more, size_same}
use Rattle.step.proofs.sizes.size_after.Goals as goal

pub returns-then-joins : goal.returns-then-joins
returns-then-joins g c =
    let K = (values_by g.V.Ord.cmp g.V.Value.blank g.V.Value.reads) in
    let t = g.met.V.Value.total in
    let F = g.S.Shelf.items c.args.shelf.now in
    let u = g.met.S.Shelf.ascending c.args.shelf.now in
    record { value = size-more K t c.args.change.now (with_all (item_order g.V.Ord.cmp) (left_by K c.args.moves.now F) (moved Asked c.args.front.now)) (ascends-there K t c.args.moves.now c.args.front.now F u) c.args.size c.requires.size c.if-joins.ensures; most = omega arith }

pub returns-else-joins : goal.returns-else-joins
returns-else-joins g c =
    let K = (values_by g.V.Ord.cmp g.V.Value.blank g.V.Value.reads) in
    let t = g.met.V.Value.total in
    let F = g.S.Shelf.items c.args.shelf.now in
    let u = g.met.S.Shelf.ascending c.args.shelf.now in
    record { value = size_same K t c.args.change.now (with_all (item_order g.V.Ord.cmp) (left_by K c.args.moves.now F) (moved Asked c.args.front.now)) (ascends-there K t c.args.moves.now c.args.front.now F u) c.args.size c.requires.size c.if-joins.ensures; most = omega arith }
