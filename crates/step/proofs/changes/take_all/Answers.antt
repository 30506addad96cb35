use Rattle.std.proofs.Common.{not, sym, ◌∙◌}
use Rattle.std.proofs.lemmas.List.{at_drop_all}
use Rattle.items.specs.Ascending.{kept}
use Rattle.rules.specs.Kinds.{values_by}
use Rattle.rules.specs.Step.{taken}
use Rattle.step.proofs.SetSteps.{out-end, out-more}
use Rattle.step.proofs.changes.take_all.Goals as goal

pub loop-change-preserved : goal.loop-change-preserved
loop-change-preserved g c =
    let s = c.take_one.ensures in
    (s.limit ∙ c.loop-change.invariant.0, out-more (values_by g.V.Ord.cmp g.V.Value.blank g.V.Value.reads) g.met.V.Value.total c.args.moves.now c.loop-change.change-index c.change-item.result c.loop-change-test.true c.change-item.is (g.S.Shelf.items c.loop-change.shelf) _ (g.met.S.Shelf.ascending c.loop-change.shelf) c.loop-change.invariant.1 (g.S.Shelf.items c.take_one.new.shelf) s.items)

pub returns : goal.returns
returns g c =
    let K = (values_by g.V.Ord.cmp g.V.Value.blank g.V.Value.reads) in
    let xs = g.S.Shelf.items c.loop-change.shelf in
    let e = at_drop_all (λ l. kept (λ x. not (taken K l x)) xs) c.args.moves.now c.loop-change.change-index c.loop-change-test.false in
    record { limit = c.loop-change.invariant.0; items = sym (out-end K xs) ∙ sym e ∙ c.loop-change.invariant.1 }
