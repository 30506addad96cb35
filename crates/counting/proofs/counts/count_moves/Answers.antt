use Rattle.std.proofs.Common.{ap, ◌∙◌}
use Rattle.rules.specs.Kinds.{values_by}
use Rattle.counting.specs.Counts.{counted}
use Rattle.counting.proofs.Tallying.{tallying-end, tallying-more, tallying-start}
use Rattle.counting.proofs.counts.count_moves.Goals as goal

pub loop-i-init : goal.loop-i-init
loop-i-init g c = tallying-start (values_by g.V.Ord.cmp g.V.Value.blank g.V.Value.reads) c.args.moves.now (g.S.Shelf.items c.args.shelf.now) c.args.tallies.now c.told-tallies

pub loop-i-preserved : goal.loop-i-preserved
loop-i-preserved g c =
    tallying-more (values_by g.V.Ord.cmp g.V.Value.blank g.V.Value.reads) c.args.moves.now (g.S.Shelf.items c.args.shelf.now) c.args.tallies.now
    c.loop-i.tallies c.loop-i.i c.index-moves-i.result c.loop-i-test.true c.index-moves-i.is c.requires.room c.loop-i.invariant c.count_name.new.tallies
    (c.count_name.ensures ∙ ap (counted c.loop-i.tallies c.index-moves-i.result.item.name) c.move_tally-more.ensures)

pub returns : goal.returns
returns g c =
    tallying-end (values_by g.V.Ord.cmp g.V.Value.blank g.V.Value.reads) c.args.moves.now (g.S.Shelf.items c.args.shelf.now) c.args.tallies.now
    g.met.V.Value.total (g.met.S.Shelf.ascending c.args.shelf.now) c.loop-i.tallies c.loop-i.i c.loop-i-test.false c.loop-i.auto.i-end c.loop-i.invariant
