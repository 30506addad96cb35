-- When a row fires, by its parts.
use Rattle.std.proofs.Common.{◌≡◌, Bool, ◌&&◌, eqb, List}
use Rattle.records.specs.declared.event.Event.{Event}
use Rattle.items.specs.declared.item.Item.{Item}
use Rattle.sheets.specs.Tables.{SheetModel}
use Rattle.sheets.specs.Words.{every, present}
use Rattle.sheets.specs.declared.tables.Row.{Row}
use Rattle.rules.specs.Kinds.{ValueKind}
use Rattle.rules.specs.Step.{cell_holds, condition_holds, row_fires}

module _ {V : Type 0} (K : ValueKind V) (s : SheetModel V) (e : Event V) (x : Item V) (row : Row) (F : List (Item V)) where
  pub fires-by : (r : Bool) → r ≡ (eqb row.source x.name && (eqb row.kind e.kind && (every (cell_holds K s e x row) (present row.cells) && every (condition_holds K s e x row F) (present row.conditions)))) → r ≡ row_fires K s e x row F
  unfolding row_fires
  fires-by r h = h
