use Rattle.std.proofs.Common.{length, ap, ◌∙◌, arith}
use Rattle.rules.specs.Kinds.{values_by}
use Rattle.step.proofs.Whole.{set_after_lem}
use Rattle.step.proofs.events.apply_event.Goals as goal

pub apply-requires : goal.apply-requires
apply-requires g c =
    let e = set_after_lem (values_by g.V.Ord.cmp g.V.Value.blank g.V.Value.reads) c.args.at.now (g.S.Shelf.items c.args.shelf.now) c.args.buffer.now c.args.count c.requires.moves in
    record { room = omega (arith, ap length e, c.requires.room) }

pub returns : goal.returns
returns g c =
    let e = set_after_lem (values_by g.V.Ord.cmp g.V.Value.blank g.V.Value.reads) c.args.at.now (g.S.Shelf.items c.args.shelf.now) c.args.buffer.now c.args.count c.requires.moves in
    record { limit = c.apply.ensures.limit; items = c.apply.ensures.items ∙ e }
