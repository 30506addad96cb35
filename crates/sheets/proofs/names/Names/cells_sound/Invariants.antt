use Rattle.std.proofs.Common.{◌≡◌, [], take, drop}
use Rattle.sheets.specs.Sound.{sound_cells}
use Rattle.sheets.specs.Words.{present}
use Rattle.sheets.proofs.names.Names.cells_sound.Given as goal

abbrev pub invariant-loop-i : goal.invariant-loop-i
invariant-loop-i l = sound_cells l.self.constants l.self.parameters [] (present l.self.cells.now) ≡ sound_cells l.self.constants l.self.parameters (present (take l.i l.self.cells.now)) (present (drop l.i l.self.cells.now))
