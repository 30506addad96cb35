-- A sheet and an event of the program, as the rules see them.
use Rattle.std.specs.Prelude.{Some, None, Option}
use Rattle.records.specs.declared.event.Event.{Event}
use Rattle.sheets.specs.Tables.{SheetModel, sheet_of}
use Rattle.sheets.specs.declared.tables.Argument.{Argument}
use Rattle.firing.specs.declared.at.SheetEvent.{SheetEvent}

module _ {V : Type 0} (s : SheetEvent V) where
  abbrev pub sheet_in : SheetModel V
  sheet_in = sheet_of s.states.now s.rows.now s.kinds.now s.constants.now

  abbrev pub event_in : Event V
  event_in = s.event.now

-- the value of the first argument, if there is one
abbrev pub first_value : {V : Type 0} → (Argument → Option V) → Option Argument → Option V
first_value value None = None
first_value value (Some a) = value a
