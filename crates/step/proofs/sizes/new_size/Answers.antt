use Rattle.std.proofs.Common.{◌≡◌, ◌-◌, length, take, refl, ap, ◌∙◌, arith}
use Rattle.std.proofs.lemmas.List.{take_all}
use Rattle.items.specs.Items.{item_order}
use Rattle.rules.specs.Kinds.{values_by}
use Rattle.rules.specs.Step.{moved, with_all}
use Rattle.rules.specs.declared.moves.Cause.TheVariants.{Asked}
use Rattle.step.specs.Sets.{in_by}
use Rattle.step.proofs.SetSizes.{left_by, with-next}
use Rattle.step.proofs.SetSteps.{new-set-is}
use Rattle.step.proofs.sizes.new_size.Goals as goal

pub loop-i-preserved : goal.loop-i-preserved
loop-i-preserved g c =
    let K = (values_by g.V.Ord.cmp g.V.Value.blank g.V.Value.reads) in
    let t = g.met.V.Value.total in
    let F = g.S.Shelf.items c.args.shelf.now in
    let u = g.met.S.Shelf.ascending c.args.shelf.now in
    let z : c.loop-i.i - 0 ≡ c.loop-i.i = omega arith in (
      c.size_after-size.ensures.value ∙ ap (λ k. length (in_by g.V.Ord.cmp c.index-moves-i.result (with_all (item_order g.V.Ord.cmp) (left_by K c.args.moves.now F) (moved Asked (take k c.args.moves.now))))) z
          ∙ ap length (with-next K t c.args.moves.now c.loop-i.i c.index-moves-i.result c.loop-i-test.true c.index-moves-i.is (left_by K c.args.moves.now F)),
      omega (arith, c.size_after-size.ensures.most, c.loop-i.invariant.1),
    )

pub returns : goal.returns
returns g c =
    let K = (values_by g.V.Ord.cmp g.V.Value.blank g.V.Value.reads) in
    let t = g.met.V.Value.total in
    let F = g.S.Shelf.items c.args.shelf.now in
    let u = g.met.S.Shelf.ascending c.args.shelf.now in
    c.loop-i.invariant.0 ∙ ap (λ l. length (with_all (item_order g.V.Ord.cmp) (left_by K c.args.moves.now F) (moved Asked l))) (take_all c.loop-i.i c.args.moves.now c.loop-i-test.false) ∙ ap length (new-set-is K c.args.moves.now F (left_by K c.args.moves.now F) refl)
