-- A sheet as lists, and what it says of a state and of an event kind.
use Rattle.std.specs.Prelude.{ℕ, false, List, [], ◌∷◌, Some, None, Option, slice_index_or}
use Rattle.sheets.specs.declared.tables.State.{State}
use Rattle.sheets.specs.declared.tables.Row.{Row}
use Rattle.sheets.specs.declared.tables.EventKind.{EventKind}
use Rattle.sheets.specs.declared.tables.Argument.{Argument}
use Rattle.sheets.specs.declared.tables.Arguments.{Arguments}
use Rattle.sheets.specs.declared.tables.Arguments.TheVariants.{Nothing, One, Two, Three}

-- a sheet: its states, its rows, what it says of each event kind, and its constants
pub record SheetModel (V : Type 0) : Type 0 where
  pub states : List State
  pub rows : List Row
  pub kinds : List EventKind
  pub constants : List V

-- the sheet of these tables
abbrev pub sheet_of : {V : Type 0} → List State → List Row → List EventKind → List V → SheetModel V
sheet_of states rows kinds constants = record { states = states; rows = rows; kinds = kinds; constants = constants }

-- a state that the sheet does not name has no marks and no parameters
abbrev pub unnamed : State
unnamed = record { parameters = 0; init = false; always = false; hot = false; step = false; next = false }

-- the state of that name
abbrev pub state_of : List State → ℕ → State
state_of states n = slice_index_or states n unnamed

-- an event kind that the sheet does not name is not watched and has no key field
abbrev pub unwatched : EventKind
unwatched = record { watched = false; key = 0 }

-- what is said of that event kind
abbrev pub kind_of : List EventKind → ℕ → EventKind
kind_of kinds k = slice_index_or kinds k unwatched

-- the arguments in order
abbrev pub argument_list : Arguments → List Argument
argument_list Nothing = []
argument_list (One a) = a ∷ []
argument_list (Two a b) = a ∷ (b ∷ [])
argument_list (Three a b c) = a ∷ (b ∷ (c ∷ []))

-- the first argument, if there is one
abbrev pub first_argument : Arguments → Option Argument
first_argument Nothing = None
first_argument (One a) = Some a
first_argument (Two a b) = Some a
first_argument (Three a b c) = Some a
