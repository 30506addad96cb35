use Rattle.std.proofs.Common.{[], sym, ap, ◌∙◌, arith}
use Rattle.std.proofs.lemmas.List.{get_or_read}
use Rattle.items.specs.Items.{item_order}
use Rattle.indexed.specs.Index.{item_in, probe}
use Rattle.indexed.proofs.Steps.{walk-on, walk-less, last_on, last-here, last_end}
use Rattle.indexed.proofs.walk.last_before.Goals as goal

pub loop-last-smaller : goal.loop-last-smaller
loop-last-smaller g c = walk-less _ _ _ _ c.loop-last.invariant.0 c.loop-last-test.true

pub loop-last-preserved : goal.loop-last-preserved
loop-last-preserved g c =
    let i = c.loop-last.invariant in
    let p = probe g.V.Ord.cmp g.V.Value.blank c.args.cells.now c.args.item.now in
    let e = get_or_read c.args.cells.now _ _ (omega (arith, i.0.cells_reach)) c.index-cells-cell.is (item_in g.V.Value.blank [] 0) in (
      walk-on _ _ _ _ i.0 c.loop-last-test.true,
      last_on _ _ _ _ i.0 c.loop-last-test.true p
          (ap (λ y. item_order g.V.Ord.cmp y c.args.item.now) (sym e) ∙ sym c.in-Less.ensures) ∙ i.1,
    )

pub returns-in_default : goal.returns-in_default
returns-in_default g c =
    let i = c.loop-last.invariant in
    let p = probe g.V.Ord.cmp g.V.Value.blank c.args.cells.now c.args.item.now in
    let e = get_or_read c.args.cells.now _ _ (omega (arith, i.0.cells_reach)) c.index-cells-cell.is (item_in g.V.Value.blank [] 0) in
    sym (last-here _ _ _ _ i.0 c.loop-last-test.true p
    (λ n. c.in_default.not-Less (c.compare.ensures ∙ ap (λ y. item_order g.V.Ord.cmp y c.args.item.now) e ∙ n))) ∙ i.1

pub returns : goal.returns
returns g c =
    let i = c.loop-last.invariant in
    let p = probe g.V.Ord.cmp g.V.Value.blank c.args.cells.now c.args.item.now in
    sym (last_end _ _ _ _ i.0 p c.loop-last-test.false) ∙ i.1
