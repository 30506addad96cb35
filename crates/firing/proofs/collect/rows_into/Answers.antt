use Rattle.std.proofs.Common.{length, ap, arith}
use Rattle.rules.specs.Kinds.{values_by}
use Rattle.std.specs.List.{flat_map}
use Rattle.firing.specs.At.{event_in, sheet_in}
use Rattle.firing.specs.Effects.{row_gives}
use Rattle.buffers.proofs.Fillings.{filling-start, filling-more}
use Rattle.firing.proofs.FiredRows.{few-rows, fired-start, fired-more}
use Rattle.firing.proofs.collect.rows_into.Goals as goal

pub loop-i-init : goal.loop-i-init
loop-i-init g c =
    let f = row_gives (g.E.Effect.of_entry c.args.effect.now c.args.at.now) c.args.item.now in
    filling-start _ _ _ _ (ap (flat_map f) (fired-start (values_by g.V.Ord.cmp g.V.Value.blank g.V.Value.reads) (sheet_in c.args.at.now) (event_in c.args.at.now) c.args.item.now (g.S.Shelf.items c.args.shelf.now)))

pub loop-i-preserved : goal.loop-i-preserved
loop-i-preserved g c =
    let f = row_gives (g.E.Effect.of_entry c.args.effect.now c.args.at.now) c.args.item.now in
    filling-more _ _ _ _ c.loop-i.invariant (fired-more (values_by g.V.Ord.cmp g.V.Value.blank g.V.Value.reads) (sheet_in c.args.at.now) (event_in c.args.at.now) c.args.item.now (g.S.Shelf.items c.args.shelf.now) c.loop-i.i _ c.loop-i-test.true f) c.row_into-after.ensures.out c.row_into-after.ensures.place

pub overflow_cast-i : goal.overflow_cast-i
overflow_cast-i g c =
    let s = c.args.at.now in
    let h = few-rows (sheet_in s).states (sheet_in s).rows (sheet_in s).kinds (length (sheet_in s).constants) s.sound in
    record { fits = omega (arith, h, c.loop-i-test.true) }
