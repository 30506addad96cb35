-- What an item gives at an event: moves, or findings.
use Rattle.std.specs.Prelude.{ℕ, Bool, true, false, cond, List, [], ◌∷◌, ◌++◌, Some, None, Option}
use Rattle.std.specs.List.{flat_map}
use Rattle.items.specs.declared.item.Item.{Item}
use Rattle.sheets.specs.Words.{present}
use Rattle.sheets.specs.declared.tables.Entry.{Entry}
use Rattle.sheets.specs.declared.tables.Row.{Row}
use Rattle.rules.specs.Kinds.{ValueKind}
use Rattle.rules.specs.Step.{Numbered, fired_rows, row_fires}
use Rattle.firing.specs.At.{event_in, sheet_in}
use Rattle.firing.specs.declared.at.SheetEvent.{SheetEvent}

-- what the value gives, where there is one
abbrev pub if_there : {A X : Type 0} → (A → List X) → Option A → List X
if_there f None = []
if_there f (Some a) = f a

abbrev pub is_filled : {X : Type 0} → List X → Bool
is_filled [] = false
is_filled (x ∷ xs) = true

abbrev pub numbered : ℕ → Row → Numbered
numbered n row = record { number = n; row = row }

-- some fired rows, or none: whether an item leaves or lapses hangs on no more
abbrev pub fired_as : Bool → List Numbered
fired_as false = []
fired_as true = numbered 0 (record { source = 0; kind = 0; cells = []; conditions = []; entries = [] }) ∷ []

module _ {V X : Type 0} (of_entry : Item V → Row → ℕ → Entry → List X) where
  -- what the entries of a row give
  abbrev pub row_gives : Item V → Numbered → List X
  row_gives x r = flat_map (of_entry x r.row r.number) (present r.row.entries)

  module _ (K : ValueKind V) (s : SheetEvent V) (F : List (Item V)) where
    -- only a row that fires gives anything
    abbrev pub row_gives_if : Item V → Numbered → List X
    row_gives_if x r = cond (row_fires K (sheet_in s) (event_in s) x r.row F) (row_gives x r) []

    -- what the item gives itself, by whether a row fires, and then what its fired rows give
    unfoldable pub item_gives : (Item V → Bool → List X) → Item V → List X
    item_gives of_item x = of_item x (is_filled (fired_rows K (sheet_in s) F (event_in s) x)) ++ flat_map (row_gives x) (fired_rows K (sheet_in s) F (event_in s) x)
