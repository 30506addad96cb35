use Rattle.std.proofs.lemmas.List.{at_drop_more}
use Rattle.std.specs.List.{flat_map}
use Rattle.firing.specs.Effects.{if_there}
use Rattle.buffers.proofs.Fillings.{filling-start, filling-more}
use Rattle.firing.proofs.FiredRows.{joined-present}
use Rattle.firing.proofs.collect.entries_into.Goals as goal

pub loop-entry-init : goal.loop-entry-init
loop-entry-init g c = filling-start _ _ _ _ (joined-present (g.E.Effect.of_entry c.args.effect.now c.args.at.now c.args.item.now c.args.row.now c.args.number) c.args.entries.now)

pub loop-entry-preserved : goal.loop-entry-preserved
loop-entry-preserved g c =
    let f = g.E.Effect.of_entry c.args.effect.now c.args.at.now c.args.item.now c.args.row.now c.args.number in
    filling-more _ _ _ _ c.loop-entry.invariant (at_drop_more (flat_map (if_there f)) c.args.entries.now c.loop-entry.entry-index _ c.loop-entry-test.true) c.entry_into-after.ensures.out c.entry_into-after.ensures.place
