use Rattle.std.proofs.Common.{length, get_or, refl, ap, ◌∙◌, arith}
use Rattle.std.proofs.lemmas.List.{take_all}
use Rattle.sheets.specs.Tables.{unnamed}
use Rattle.rules.specs.Book.{inits_from}
use Rattle.rules.specs.Kinds.{values_by}
use Rattle.opening.specs.Starts.{started_with}
use Rattle.opening.proofs.Inits.{inits-more, inits-room}
use Rattle.opening.proofs.starts.start_items.Goals as goal

pub start_one-requires : goal.start_one-requires
start_one-requires g c =
    let K = values_by g.S.Of.Ord.cmp g.S.Of.Value.blank g.S.Of.Value.reads in
    let ds = c.args.states.now in
    let d = get_or ds c.loop-i.i unnamed in
    let r = inits-room K ds c.loop-i.i d c.loop-i-test.true refl (g.S.Shelf.limit c.loop-i.shelf) (omega (arith, c.requires.room, c.loop-i.invariant.0)) in
    let e = ap (λ xs. length (started_with K c.loop-i.i d xs)) c.loop-i.invariant.1 in
    record { room = omega (arith, r, e) }

pub loop-i-preserved : goal.loop-i-preserved
loop-i-preserved g c =
    let K = values_by g.S.Of.Ord.cmp g.S.Of.Value.blank g.S.Of.Value.reads in
    let ds = c.args.states.now in
    let d = get_or ds c.loop-i.i unnamed in
    let s = c.start_one.ensures in
    (s.limit ∙ c.loop-i.invariant.0, s.items ∙ ap (started_with K c.loop-i.i d) c.loop-i.invariant.1 ∙ inits-more K ds c.loop-i.i d c.loop-i-test.true refl)

pub returns : goal.returns
returns g c =
    let K = values_by g.S.Of.Ord.cmp g.S.Of.Value.blank g.S.Of.Value.reads in
    let ds = c.args.states.now in
    record { limit = c.loop-i.invariant.0; items = c.loop-i.invariant.1 ∙ ap (inits_from K 0) (take_all c.loop-i.i ds c.loop-i-test.false) }
