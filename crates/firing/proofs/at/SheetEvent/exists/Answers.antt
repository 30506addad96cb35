use Rattle.items.proofs.Next.{coming-less}
use Rattle.rules.specs.Kinds.{values_by}
use Rattle.rules.specs.Step.{is_of}
use Rattle.firing.specs.At.{event_in, sheet_in}
use Rattle.firing.proofs.Sought.{sought-start, sought-found, sought-on, sought-none}
use Rattle.firing.proofs.at.SheetEvent.exists.Goals as goal

pub loop-other-init : goal.loop-other-init
loop-other-init g c =
    sought-start (values_by g.V.Ord.cmp g.V.Value.blank g.V.Value.reads) (sheet_in c.args.self.now) (event_in c.args.self.now) c.args.item.now c.args.row.now c.args.pattern c.first_value-first.result c.first_value-first.ensures (g.S.Shelf.items c.args.shelf.now)

pub returns-then-is_of : goal.returns-then-is_of
returns-then-is_of g c =
    let p = is_of (values_by g.V.Ord.cmp g.V.Value.blank g.V.Value.reads) (sheet_in c.args.self.now) (event_in c.args.self.now) c.args.item.now c.args.row.now c.args.pattern in
    let s = c.args.shelf.now in
    sought-found g.met.V.Value.total c.args.pattern.state c.first_value-first.result c.loop-other.above (g.S.Shelf.items s) p c.loop-other.invariant (g.met.S.Shelf.ascending s) c.in-Some.other c.in-Some.ensures c.if-is_of.ensures

pub loop-other-smaller : goal.loop-other-smaller
loop-other-smaller g c =
    let s = c.args.shelf.now in
    coming-less g.met.V.Value.total c.args.pattern.state c.first_value-first.result c.loop-other.above (g.S.Shelf.items s) (g.met.S.Shelf.ascending s) c.in-Some.other c.in-Some.ensures

pub loop-other-preserved : goal.loop-other-preserved
loop-other-preserved g c =
    let p = is_of (values_by g.V.Ord.cmp g.V.Value.blank g.V.Value.reads) (sheet_in c.args.self.now) (event_in c.args.self.now) c.args.item.now c.args.row.now c.args.pattern in
    let s = c.args.shelf.now in
    sought-on g.met.V.Value.total c.args.pattern.state c.first_value-first.result c.loop-other.above (g.S.Shelf.items s) p c.loop-other.invariant (g.met.S.Shelf.ascending s) c.in-Some.other c.in-Some.ensures c.if-is_of.ensures

pub returns : goal.returns
returns g c =
    let p = is_of (values_by g.V.Ord.cmp g.V.Value.blank g.V.Value.reads) (sheet_in c.args.self.now) (event_in c.args.self.now) c.args.item.now c.args.row.now c.args.pattern in
    sought-none g.met.V.Value.total c.args.pattern.state c.first_value-first.result c.loop-other.above (g.S.Shelf.items c.args.shelf.now) p c.loop-other.invariant c.in_default.ensures
