use Rattle.sheets.proofs.RowCells.{cell-fails, cell-more, cells-all}
use Rattle.sheets.proofs.names.Names.cells_sound.Goals as goal

pub returns-then-not-place_sound : goal.returns-then-not-place_sound
returns-then-not-place_sound c = cell-fails c.args.self.constants c.args.self.parameters c.args.self.cells.now c.loop-i.i c.loop-i-test.true c.loop-i.invariant c.if-not-place_sound.ensures

pub loop-i-preserved : goal.loop-i-preserved
loop-i-preserved c = cell-more c.args.self.constants c.args.self.parameters c.args.self.cells.now c.loop-i.i c.loop-i-test.true c.loop-i.invariant c.if-not-place_sound.ensures

pub returns : goal.returns
returns c = cells-all c.args.self.constants c.args.self.parameters c.args.self.cells.now c.loop-i.i c.loop-i.invariant c.loop-i-test.false
