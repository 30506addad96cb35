use Rattle.std.proofs.Common.{arith}
use Rattle.rules.specs.Kinds.{values_by}
use Rattle.step.proofs.SetSteps.{in-room}
use Rattle.step.proofs.changes.ask_all.Goals as goal

pub ask_one-requires : goal.ask_one-requires
ask_one-requires g c =
    record { room = in-room (values_by g.V.Ord.cmp g.V.Value.blank g.V.Value.reads) g.met.V.Value.total c.args.moves.now c.loop-change.change-index c.change-item.result c.loop-change-test.true c.change-item.is (g.S.Shelf.items c.loop-change.shelf) _ (g.met.S.Shelf.ascending c.loop-change.shelf) c.loop-change.invariant.1 (g.S.Shelf.limit c.loop-change.shelf) (omega (arith, c.loop-change.invariant.0, c.requires.room)) }
