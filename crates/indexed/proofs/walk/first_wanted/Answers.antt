use Rattle.std.proofs.Common.{[], Some, sym, ap, ◌∙◌, arith}
use Rattle.std.proofs.lemmas.List.{get_or_read}
use Rattle.items.specs.Items.{wanted}
use Rattle.indexed.specs.Index.{item_in}
use Rattle.indexed.proofs.Steps.{walk-on, walk-less, first_on, first-here, first-end}
use Rattle.indexed.proofs.walk.first_wanted.Goals as goal

pub returns-then-is_wanted : goal.returns-then-is_wanted
returns-then-is_wanted g c =
    let i = c.loop-last.invariant in
    let f = item_in g.V.Value.blank c.args.cells.now in
    let w = wanted g.V.Ord.cmp c.args.name c.args.first c.args.above in
    let e = get_or_read c.args.cells.now _ _ (omega (arith, i.0.cells_reach)) c.index-cells-last.is (item_in g.V.Value.blank [] 0) in
    let d = get_or_read c.args.cells.now _ _ (omega (arith, i.0.cells_reach)) c.index-cells-last-then-is_wanted.is (item_in g.V.Value.blank [] 0) in
    ap Some d ∙ sym (first-here _ _ _ _ i.0 c.loop-last-test.true f w (ap w (sym e) ∙ sym c.if-is_wanted.ensures)) ∙ i.1

pub loop-last-smaller : goal.loop-last-smaller
loop-last-smaller g c = walk-less _ _ _ _ c.loop-last.invariant.0 c.loop-last-test.true

pub loop-last-preserved : goal.loop-last-preserved
loop-last-preserved g c =
    let i = c.loop-last.invariant in
    let f = item_in g.V.Value.blank c.args.cells.now in
    let w = wanted g.V.Ord.cmp c.args.name c.args.first c.args.above in
    let e = get_or_read c.args.cells.now _ _ (omega (arith, i.0.cells_reach)) c.index-cells-last.is (item_in g.V.Value.blank [] 0) in (
      walk-on _ _ _ _ i.0 c.loop-last-test.true,
      first_on _ _ _ _ i.0 c.loop-last-test.true f w (ap w (sym e) ∙ sym c.if-is_wanted.ensures) ∙ i.1,
    )

pub returns : goal.returns
returns g c =
    let i = c.loop-last.invariant in
    let f = item_in g.V.Value.blank c.args.cells.now in
    let w = wanted g.V.Ord.cmp c.args.name c.args.first c.args.above in
    sym (first-end _ _ _ _ i.0 f w c.loop-last-test.false) ∙ i.1
