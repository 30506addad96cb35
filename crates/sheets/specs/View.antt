-- A sheet of the program, as lists; and what a load answers.
use Rattle.std.specs.Prelude.{◌≡◌, Some, None, Ok, Err, vec_items, Option, Result}
use Rattle.refusals.specs.declared.refusal.Refusal.{Refusal}
use Rattle.sheets.specs.declared.fault.LoadError.{LoadError}
use Rattle.sheets.specs.declared.fault.LoadError.TheVariants.{Refused, Memory}
use Rattle.sheets.specs.declared.sheet.Sheet.{Sheet}
use Rattle.sheets.specs.Tables.{SheetModel, sheet_of}

-- the sheet's states, rows, event kinds and constants
abbrev pub view_of : {V : Type 0} → Sheet V → SheetModel V
view_of s = sheet_of (vec_items s.table.states) (vec_items s.table.rows) s.table.kinds s.constants.now

-- a load is accepted, or fails for want of memory, only where nothing is refused; else it answers the refusal
abbrev pub Loads : Result (Unit {0}) LoadError → Option Refusal → Type 0
Loads (Ok u) o = o ≡ None
Loads (Err (Refused f)) o = o ≡ Some f
Loads (Err Memory) o = o ≡ None
