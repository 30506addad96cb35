use Rattle.std.proofs.Common.{◌≡◌, ◌-◌, length, take, sym, ap, ◌∙◌, arith}
use Rattle.rules.specs.Kinds.{values_by}
use Rattle.step.specs.Sets.{out_by}
use Rattle.step.proofs.SetSizes.{left-next, left_by}
use Rattle.step.proofs.SetSteps.{out-end}
use Rattle.step.proofs.sizes.left_size.Goals as goal

pub loop-i-init : goal.loop-i-init
loop-i-init g c = c.count-left.ensures ∙ ap length (sym (out-end (values_by g.V.Ord.cmp g.V.Value.blank g.V.Value.reads) (g.S.Shelf.items c.args.shelf.now)))

pub loop-i-preserved : goal.loop-i-preserved
loop-i-preserved g c =
    let K = (values_by g.V.Ord.cmp g.V.Value.blank g.V.Value.reads) in
    let t = g.met.V.Value.total in
    let F = g.S.Shelf.items c.args.shelf.now in
    let u = g.met.S.Shelf.ascending c.args.shelf.now in
    let z : c.loop-i.i - 0 ≡ c.loop-i.i = omega arith in
    c.left_after-left.ensures ∙ ap (λ k. length (out_by g.V.Ord.cmp c.index-moves-i.result (left_by K (take k c.args.moves.now) F))) z
    ∙ ap length (left-next K t c.args.moves.now c.loop-i.i c.index-moves-i.result c.loop-i-test.true c.index-moves-i.is F u)
