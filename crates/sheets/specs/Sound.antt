-- The rules that every sheet keeps.
use Rattle.std.specs.Prelude.{ℕ, Bool, true, false, not, ◌&&◌, ◌||◌, List, [], ◌∷◌, ◌++◌, length, ◌==◌, nat_eq, nat_le, nat_lt}
use Rattle.sheets.specs.declared.tables.State.{State}
use Rattle.sheets.specs.declared.tables.Row.{Row}
use Rattle.sheets.specs.declared.tables.EventKind.{EventKind}
use Rattle.sheets.specs.declared.tables.Cell.{Cell}
use Rattle.sheets.specs.declared.tables.Pattern.{Pattern}
use Rattle.sheets.specs.declared.tables.Condition.{Condition}
use Rattle.sheets.specs.declared.tables.Want.{Want}
use Rattle.sheets.specs.declared.tables.Want.TheVariants as want
use Rattle.sheets.specs.declared.tables.Argument.{Argument}
use Rattle.sheets.specs.declared.tables.Argument.TheVariants as argument
use Rattle.sheets.specs.declared.tables.Entry.{Entry}
use Rattle.sheets.specs.declared.tables.Entry.TheVariants as entry
use Rattle.sheets.specs.Tables.{argument_list, state_of}
use Rattle.sheets.specs.Words.{every, present, some}

-- numbers from 1 to n
abbrev pub up_to : ℕ → ℕ → Bool
up_to n i = nat_le 1 i && nat_le i n

-- a state has 0 to 3 parameters
abbrev pub sound_state : State → Bool
sound_state d = nat_le d.parameters 3

-- an initial state has none
abbrev pub sound_init : State → Bool
sound_init d = not d.init || d.parameters == 0

-- a key field is 1 to 8, or 0 for none
abbrev pub sound_kind : EventKind → Bool
sound_kind k = nat_le k.key 8

-- a cell that wants this binds the slot t
abbrev pub binds : ℕ → Want → Bool
binds t want.Any = false
binds t (want.Constant i) = false
binds t (want.Own p) = false
binds t (want.Bind u) = t == u
binds t (want.Slot u) = false

-- one of the cells binds the slot t
abbrev pub is_bound : ℕ → List Cell → Bool
is_bound t cells = some (λ (c : Cell). binds t c.want) cells

-- one of the cells is on the field f
abbrev pub is_taken : ℕ → List Cell → Bool
is_taken f cells = some (λ (c : Cell). nat_eq f c.field) cells

-- Rules of rows, where there are n constants and the row's source has p parameters.
module _ (n p : ℕ) where
  -- a constant and a parameter that a cell wants exist; a slot is bound once, and compared only with what an earlier cell bound
  abbrev pub sound_want : List Cell → Want → Bool
  sound_want earlier want.Any = true
  sound_want earlier (want.Constant i) = nat_lt i n
  sound_want earlier (want.Own i) = up_to p i
  sound_want earlier (want.Bind t) = up_to 4 t && not (is_bound t earlier)
  sound_want earlier (want.Slot t) = is_bound t earlier

  -- no field has two cells
  abbrev pub sound_cell : List Cell → Cell → Bool
  sound_cell earlier c = up_to 8 c.field && (not (is_taken c.field earlier) && sound_want earlier c.want)

  -- each cell after those before it
  abbrev pub sound_cells : List Cell → List Cell → Bool
  sound_cells earlier [] = true
  sound_cells earlier (c ∷ cs) = sound_cell earlier c && sound_cells (earlier ++ (c ∷ [])) cs

  -- an argument's constant, parameter or slot exists; `any` stands only where it may
  abbrev pub sound_argument : List Cell → Bool → Argument → Bool
  sound_argument cells may_any (argument.Constant i) = nat_lt i n
  sound_argument cells may_any (argument.Own i) = up_to p i
  sound_argument cells may_any (argument.Slot t) = is_bound t cells
  sound_argument cells may_any argument.Any = may_any

  module _ (states : List State) (cells : List Cell) where
    -- the state exists, and has as many parameters as there are arguments
    abbrev pub sound_pattern : Bool → Pattern → Bool
    sound_pattern may_any x = nat_lt x.state (length states) && (length (argument_list x.arguments) == (state_of states x.state).parameters && every (sound_argument cells may_any) (argument_list x.arguments))

    -- a condition may have any value for an argument
    abbrev pub sound_condition : Condition → Bool
    sound_condition c = sound_pattern true c.pattern

    -- an ask or a strike may not
    abbrev pub sound_entry : Entry → Bool
    sound_entry entry.Ok = true
    sound_entry entry.Error = true
    sound_entry (entry.Ask x) = sound_pattern false x
    sound_entry (entry.Strike x) = sound_pattern false x

-- a row's source exists, its kind is 0 to 63, and its cells, conditions and entries are sound
abbrev pub sound_row : List State → ℕ → Row → Bool
sound_row states n r =
    nat_lt r.source (length states)
    && (nat_le r.kind 63
    && (sound_cells n (state_of states r.source).parameters [] (present r.cells)
    && (every (sound_condition n (state_of states r.source).parameters states (present r.cells)) (present r.conditions)
    && every (sound_entry n (state_of states r.source).parameters states (present r.cells)) (present r.entries))))

-- the tables of a sheet with n constants, loaded or empty
unfoldable pub sound_tables : List State → List Row → List EventKind → ℕ → Bool
sound_tables states rows kinds n =
    nat_le (length states) 32
    && (nat_le (length rows) 256
    && (nat_le n 256
    && (every sound_state states
    && (every sound_kind kinds
    && (every (sound_row states n) rows
    && every sound_init states)))))
