-- Keyed sheets: one value of each event, its key, decides which items the event can touch.
use Rattle.std.specs.Prelude.{ℕ, Bool, true, false, cond, not, ◌&&◌, ◌||◌, List, Some, None, Option, ◌==◌, nat_lt}
use Rattle.sheets.specs.declared.tables.State.{State}
use Rattle.sheets.specs.declared.tables.Row.{Row}
use Rattle.sheets.specs.declared.tables.EventKind.{EventKind}
use Rattle.sheets.specs.declared.tables.Cell.{Cell}
use Rattle.sheets.specs.declared.tables.Pattern.{Pattern}
use Rattle.sheets.specs.declared.tables.Condition.{Condition}
use Rattle.sheets.specs.declared.tables.Want.{Want}
use Rattle.sheets.specs.declared.tables.Want.TheVariants as want
use Rattle.sheets.specs.declared.tables.Argument.{Argument}
use Rattle.sheets.specs.declared.tables.Argument.TheVariants as argument
use Rattle.sheets.specs.declared.tables.Entry.{Entry}
use Rattle.sheets.specs.declared.tables.Entry.TheVariants as entry
use Rattle.sheets.specs.Tables.{first_argument, kind_of, state_of}
use Rattle.sheets.specs.Words.{every, present, some}

-- every state without parameters is initial and always; no state is step or next
abbrev pub keyed_state : State → Bool
keyed_state d = (nat_lt 0 d.parameters || (d.init && d.always)) && (not d.step && not d.next)

-- the argument that stands for the key, where a cell on the key field wants this and the row's source has p parameters: own parameter 1, or a slot that is bound if the source has none
abbrev pub key_argument : ℕ → Want → Option Argument
key_argument p want.Any = None
key_argument p (want.Constant i) = None
key_argument p (want.Own i) = cond (i == 1) (Some (argument.Own 1)) None
key_argument p (want.Bind t) = cond (p == 0) (Some (argument.Slot t)) None
key_argument p (want.Slot t) = None

-- two arguments that can stand for a key are the same
abbrev pub is_argument : Argument → Argument → Bool
is_argument (argument.Constant i) b = false
is_argument (argument.Own i) (argument.Constant j) = false
is_argument (argument.Own i) (argument.Own j) = i == j
is_argument (argument.Own i) (argument.Slot u) = false
is_argument (argument.Own i) argument.Any = false
is_argument (argument.Slot t) (argument.Constant j) = false
is_argument (argument.Slot t) (argument.Own j) = false
is_argument (argument.Slot t) (argument.Slot u) = t == u
is_argument (argument.Slot t) argument.Any = false
is_argument argument.Any b = false

-- the first argument is there and is the key
abbrev pub is_first : Argument → Option Argument → Bool
is_first a None = false
is_first a (Some b) = is_argument a b

module _ (states : List State) where
  -- a pattern names a state with parameters, and its first argument is the key
  abbrev pub keyed_pattern : Argument → Pattern → Bool
  keyed_pattern a x = nat_lt 0 (state_of states x.state).parameters && is_first a (first_argument x.arguments)

  -- a condition names items of the key
  abbrev pub keyed_condition : Argument → Condition → Bool
  keyed_condition a c = keyed_pattern a c.pattern

  -- an ask or a strike names items of the key
  abbrev pub keyed_entry : Argument → Entry → Bool
  keyed_entry a entry.Ok = true
  keyed_entry a entry.Error = true
  keyed_entry a (entry.Ask x) = keyed_pattern a x
  keyed_entry a (entry.Strike x) = keyed_pattern a x

  -- each condition, ask and strike of a row has the key as its first argument
  abbrev pub keyed_parts : Row → Option Argument → Bool
  keyed_parts r None = false
  keyed_parts r (Some a) = every (keyed_condition a) (present r.conditions) && every (keyed_entry a) (present r.entries)

  -- a cell on the field f by which the row has its key
  abbrev pub keyed_cell : Row → ℕ → Cell → Bool
  keyed_cell r f c = c.field == f && keyed_parts r (key_argument (state_of states r.source).parameters c.want)

  -- the row's kind has a key field, and one of the row's cells is on it
  abbrev pub keyed_row : List EventKind → Row → Bool
  keyed_row kinds r = nat_lt 0 (kind_of kinds r.kind).key && some (keyed_cell r (kind_of kinds r.kind).key) (present r.cells)

-- a sheet whose states and rows are all so
abbrev pub keyed_tables : List State → List Row → List EventKind → Bool
keyed_tables states rows kinds = every keyed_state states && every (keyed_row states kinds) rows
