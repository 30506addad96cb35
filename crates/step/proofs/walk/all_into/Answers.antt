use Rattle.std.proofs.Common.{◌≤◌, length, arith}
use Rattle.std.proofs.lemmas.Bool.{leb-true}
use Rattle.firing.specs.At.{sheet_in}
use Rattle.firing.specs.Effects.{item_gives}
use Rattle.buffers.proofs.Fillings.{filling-start, filling-more, filled-all, counted-all}
use Rattle.firing.proofs.FiredRows.{few-states}
use Rattle.rules.specs.Kinds.{values_by}
use Rattle.items.specs.Items.{from_name}
use Rattle.step.proofs.Skips.{quiet-gives, unnamed-quiet}
use Rattle.step.proofs.Walks.{joined-names, joined-none, joined-start}
use Rattle.step.proofs.walk.all_into.Goals as goal

pub loop-name-init : goal.loop-name-init
loop-name-init g c =
    let F = g.S.Shelf.items c.args.shelf.now in
    let K = values_by g.V.Ord.cmp g.V.Value.blank g.V.Value.reads in
    let many = g.E.Effect.of_entry c.args.effect.now c.args.at.now in
    let one = g.E.Effect.of_item c.args.effect.now c.args.at.now in
    filling-start _ _ _ _ (joined-start g.V.Ord.cmp (item_gives many K c.args.at.now F one) F)

pub overflow_cast-name : goal.overflow_cast-name
overflow_cast-name g c =
    let s = c.args.at.now in
    let h = few-states (sheet_in s).states (sheet_in s).rows (sheet_in s).kinds (length (sheet_in s).constants) s.sound in
    record { fits = omega (arith, h, c.loop-name-test.true) }

pub loop-name-preserved : goal.loop-name-preserved
loop-name-preserved g c =
    let F = g.S.Shelf.items c.args.shelf.now in
    let K = values_by g.V.Ord.cmp g.V.Value.blank g.V.Value.reads in
    let many = g.E.Effect.of_entry c.args.effect.now c.args.at.now in
    let one = g.E.Effect.of_item c.args.effect.now c.args.at.now in
    filling-more _ _ _ _ c.loop-name.invariant (joined-names g.V.Ord.cmp (item_gives many K c.args.at.now F one) F c.loop-name.name (g.met.S.Shelf.ascending c.args.shelf.now)) c.name_into-after.ensures.out c.name_into-after.ensures.place

pub returns : goal.returns
returns g c =
    let F = g.S.Shelf.items c.args.shelf.now in
    let K = values_by g.V.Ord.cmp g.V.Value.blank g.V.Value.reads in
    let many = g.E.Effect.of_entry c.args.effect.now c.args.at.now in
    let one = g.E.Effect.of_item c.args.effect.now c.args.at.now in
    let e = joined-none (item_gives many K c.args.at.now F one) (from_name c.loop-name.name)
    (λ x a. let k = leb-true c.loop-name.name x.name a in
    let past : length (sheet_in c.args.at.now).states ≤ x.name = omega (arith, k, c.loop-name-test.false) in
    let q = unnamed-quiet K c.args.at.now F x past in
    quiet-gives K c.args.at.now F x many one q (g.met.E.Effect.quiet c.args.effect.now c.args.at.now x q.stays q.rests)) F in
    record { out = filled-all c.loop-name.invariant e; place = counted-all c.loop-name.invariant e }
