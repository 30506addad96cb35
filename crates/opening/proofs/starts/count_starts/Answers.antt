use Rattle.std.proofs.Common.{get_or, refl}
use Rattle.sheets.specs.Tables.{unnamed}
use Rattle.opening.proofs.Inits.{starting-all, starting-more, starting-none}
use Rattle.opening.proofs.starts.count_starts.Goals as goal

pub loop-i-init : goal.loop-i-init
loop-i-init c = starting-none c.args.states.now c.args.tallies.now c.told-tallies

pub loop-i-preserved : goal.loop-i-preserved
loop-i-preserved c = starting-more c.args.states.now c.args.tallies.now c.loop-i.tallies c.loop-i.i (get_or c.args.states.now c.loop-i.i unnamed) c.loop-i-test.true refl c.requires.room c.loop-i.invariant c.count_one.new.tallies c.count_one.ensures

pub returns : goal.returns
returns c = starting-all c.args.states.now c.args.tallies.now c.loop-i.tallies c.loop-i.i c.loop-i-test.false c.loop-i.auto.i-end c.loop-i.invariant
