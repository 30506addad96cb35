-- Which items of a state an event can touch.
use Rattle.std.specs.Prelude.{◌≡◌, ℕ, ◌<◌, Bool, true, false, cond, not, List, [], ◌∷◌, Some, None, Option, ◌==◌}
use Rattle.std.specs.declared.cmp.Ordering.{Ordering}
use Rattle.std.specs.Option.{unwrap_or}
use Rattle.items.specs.Items.{agrees}
use Rattle.items.specs.declared.item.Item.{Item}
use Rattle.sheets.specs.Tables.{state_of}
use Rattle.sheets.specs.declared.tables.Cell.{Cell}
use Rattle.sheets.specs.declared.tables.Row.{Row}
use Rattle.sheets.specs.declared.tables.Want.{Want}
use Rattle.sheets.specs.declared.tables.Want.TheVariants as want
use Rattle.rules.specs.Kinds.{ValueKind}
use Rattle.rules.specs.Step.{fired_rows}
use Rattle.firing.specs.At.{event_in, sheet_in}
use Rattle.firing.specs.declared.at.SheetEvent.{SheetEvent}
use Rattle.step.specs.declared.scope.Scope.{Scope}
use Rattle.step.specs.declared.scope.Scope.TheVariants.{Every, Only, Nothing}

-- own parameter 1 is wanted
abbrev pub own_first : Want → Bool
own_first want.Any = false
own_first (want.Constant i) = false
own_first (want.Own p) = p == 1
own_first (want.Bind t) = false
own_first (want.Slot t) = false

-- the field of a cell that wants own parameter 1
abbrev pub own_cell : Option Cell → Option ℕ
own_cell None = None
own_cell (Some c) = cond (own_first c.want) (Some c.field) None

-- the field of the first cell that wants own parameter 1, or 0
abbrev pub own_field : List (Option Cell) → ℕ
own_field [] = 0
own_field (c ∷ cs) = unwrap_or (own_cell c) (own_field cs)

-- if the row is of that state and kind, it wants own parameter 1 in the field f
abbrev pub Keys : ℕ → ℕ → ℕ → Row → Type 0
Keys name kind f row = row.source ≡ name → row.kind ≡ kind → (own_field row.cells ≡ f) × (0 < f)

module _ {V : Type 0} where
  -- the item is outside the scope
  abbrev pub skipped : (V → V → Ordering) → Scope V → Item V → Bool
  skipped order Every x = false
  skipped order (Only v) x = not (agrees order (Some v) x.first)
  skipped order Nothing x = true

-- no row fires for the item, and it does not lapse
pub record Quiet {V : Type 0} (K : ValueKind V) (s : SheetEvent V) (F : List (Item V)) (x : Item V) : Type 0 where
  pub still : fired_rows K (sheet_in s) F (event_in s) x ≡ []
  pub stays : (state_of s.states.now x.name).step ≡ false
  pub rests : (state_of s.states.now x.name).next ≡ false
