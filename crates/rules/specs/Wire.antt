-- The wire sheet on numbers, and four tiny sheets that tell likely mistakes apart.
use Rattle.std.specs.Prelude.{ℕ, zero, suc, true, false, List, [], ◌∷◌, replicate, Some, None, Option}
use Rattle.values.specs.NumberForm.{number_is, number_order, number_reads}
use Rattle.values.specs.declared.number.Number.{Number}
use Rattle.records.specs.Fields.{event_of}
use Rattle.records.specs.declared.event.Event.{Event}
use Rattle.items.specs.declared.item.Item.{Item}
use Rattle.sheets.specs.Tables.{SheetModel, sheet_of, unwatched}
use Rattle.sheets.specs.declared.tables.Argument.{Argument}
use Rattle.sheets.specs.declared.tables.Argument.TheVariants as argument
use Rattle.sheets.specs.declared.tables.Arguments.TheVariants.{Nothing, One, Two}
use Rattle.sheets.specs.declared.tables.Cell.{Cell}
use Rattle.sheets.specs.declared.tables.Condition.{Condition}
use Rattle.sheets.specs.declared.tables.Entry.{Entry}
use Rattle.sheets.specs.declared.tables.Entry.TheVariants as entry
use Rattle.sheets.specs.declared.tables.EventKind.{EventKind}
use Rattle.sheets.specs.declared.tables.Pattern.{Pattern}
use Rattle.sheets.specs.declared.tables.Row.{Row}
use Rattle.sheets.specs.declared.tables.State.{State}
use Rattle.sheets.specs.declared.tables.Want.{Want}
use Rattle.sheets.specs.declared.tables.Want.TheVariants as want
use Rattle.rules.specs.Kinds.{ValueKind, values_by}

-- numbers as a kind of value
abbrev pub numbers : ValueKind Number
numbers = values_by number_order (number_is 0) number_reads

-- n places, filled from the front
abbrev pub in_places : {X : Type 0} → ℕ → List X → List (Option X)
in_places zero xs = []
in_places (suc n) [] = None ∷ in_places n []
in_places (suc n) (x ∷ xs) = Some x ∷ in_places n xs

-- a row from a state at an event kind
abbrev pub row_on : ℕ → ℕ → List Cell → List Condition → List Entry → Row
row_on n k cells conditions entries = record {
  source = n;
  kind = k;
  cells = in_places 4 cells;
  conditions = in_places 2 conditions;
  entries = in_places 4 entries;
}

-- a cell on a field
abbrev pub cell_on : ℕ → Want → Cell
cell_on f w = record { field = f; want = w }

-- patterns with none, one or two arguments

-- a state without arguments
abbrev pub of0 : ℕ → Pattern
of0 n = record { state = n; arguments = Nothing }

-- a state with one argument
abbrev pub of1 : ℕ → Argument → Pattern
of1 n a = record { state = n; arguments = One a }

-- a state with two arguments
abbrev pub of2 : ℕ → Argument → Argument → Pattern
of2 n a b = record { state = n; arguments = Two a b }

-- no item of the pattern is open
abbrev pub absent : Pattern → Condition
absent p = record { negated = true; pattern = p }

-- a watched event kind with a key field, or 0 for none
abbrev pub watched_by : ℕ → EventKind
watched_by f = record { watched = true; key = f }

-- an event with its first two fields
abbrev pub event_on : ℕ → Option ℕ → Option ℕ → Event Number
event_on k a b = event_of k (number a ∷ (number b ∷ []))
  where
    number : Option ℕ → Option Number
    number None = None
    number (Some n) = Some (number_is n)

-- an item with its first two values
abbrev pub item_on : ℕ → ℕ → ℕ → Item Number
item_on n a b = record { name = n; first = number_is a; second = number_is b; third = number_is 0 }

-- The wire sheet: states 0 Watch, 1 Waiting(w, a) and 2 Done(w); events 1 sent(w, a), 2 confirmed(w) and 3 returned(w).

-- its states

-- stands from the opening on
abbrev pub watch_state : State
watch_state = record { parameters = 0; init = true; always = true; hot = false; step = false; next = false }

-- sent and not confirmed yet
abbrev pub waiting_state : State
waiting_state = record { parameters = 2; init = false; always = false; hot = true; step = false; next = false }

-- confirmed
abbrev pub done_state : State
done_state = record { parameters = 1; init = false; always = false; hot = false; step = false; next = false }

-- what is sent is waited for
abbrev pub sent_row : Row
sent_row =
    row_on 0 1
    (cell_on 1 (want.Bind 1) ∷ (cell_on 2 (want.Bind 2) ∷ []))
    []
    (entry.Ask (of2 1 (argument.Slot 1) (argument.Slot 2)) ∷ [])

-- what is confirmed, and is neither waited for nor done, is an error
abbrev pub stray_row : Row
stray_row =
    row_on 0 2
    (cell_on 1 (want.Bind 1) ∷ [])
    (absent (of2 1 (argument.Slot 1) argument.Any) ∷ (absent (of1 2 (argument.Slot 1)) ∷ []))
    (entry.Error ∷ [])

-- what is waited for and confirmed is done
abbrev pub confirmed_row : Row
confirmed_row = row_on 1 2 (cell_on 1 (want.Own 1) ∷ []) [] (entry.Ask (of1 2 (argument.Own 1)) ∷ [])

-- what is waited for and returned is an error
abbrev pub returned_row : Row
returned_row = row_on 1 3 (cell_on 1 (want.Own 1) ∷ []) [] (entry.Error ∷ [])

-- what is done and confirmed once more is an error
abbrev pub done_row : Row
done_row = row_on 2 2 (cell_on 1 (want.Own 1) ∷ []) [] (entry.Error ∷ [])

-- three watched kinds among 64
abbrev pub wire_kinds : List EventKind
wire_kinds = unwatched ∷ (watched_by 1 ∷ (watched_by 1 ∷ (watched_by 1 ∷ replicate 60 unwatched)))

-- the whole sheet
abbrev pub wire : SheetModel Number
wire =
    sheet_of
    (watch_state ∷ (waiting_state ∷ (done_state ∷ [])))
    (sent_row ∷ (stray_row ∷ (confirmed_row ∷ (returned_row ∷ (done_row ∷ [])))))
    wire_kinds
    []

-- its events and items

-- a wire is sent
abbrev pub sent : ℕ → ℕ → Event Number
sent w a = event_on 1 (Some w) (Some a)

-- a wire is confirmed
abbrev pub confirmed : ℕ → Event Number
confirmed w = event_on 2 (Some w) None

-- the item of state Watch
abbrev pub Watch : Item Number
Watch = item_on 0 0 0

-- an item of state Waiting
abbrev pub Waiting : ℕ → ℕ → Item Number
Waiting w a = item_on 1 w a

-- an item of state Done
abbrev pub Done : ℕ → Item Number
Done w = item_on 2 w 0

-- Tiny sheets: rows from state 0 at event 1, which is watched alone.

-- an init state, another state, and a next state that is init and always

-- an init state that leaves when it fires
abbrev pub plain_state : State
plain_state = record { parameters = 0; init = true; always = false; hot = false; step = false; next = false }

-- a state that is not init
abbrev pub other_state : State
other_state = record { parameters = 0; init = false; always = false; hot = false; step = false; next = false }

-- an init state that lapses, and whose lapse is a finding
abbrev pub next_state : State
next_state = record { parameters = 0; init = true; always = true; hot = false; step = false; next = true }

-- a tiny sheet
abbrev pub tiny : List State → List Row → SheetModel Number
tiny states rows = sheet_of states rows (unwatched ∷ (watched_by 0 ∷ replicate 62 unwatched)) []

-- an event without fields
abbrev pub tick : ℕ → Event Number
tick k = event_on k None None

-- asks for state 1, and in a second row is at fault where state 1 is absent
abbrev pub set_before : SheetModel Number
set_before =
    tiny (watch_state ∷ (other_state ∷ []))
    (row_on 0 1 [] [] (entry.Ask (of0 1) ∷ []) ∷ (row_on 0 1 [] (absent (of0 1) ∷ []) (entry.Error ∷ []) ∷ []))

-- leaves, asks for itself and strikes itself
abbrev pub asked_stays : SheetModel Number
asked_stays = tiny (plain_state ∷ []) (row_on 0 1 [] [] (entry.Ask (of0 0) ∷ (entry.Strike (of0 0) ∷ [])) ∷ [])

-- leaves and asks for state 1
abbrev pub new_set_only : SheetModel Number
new_set_only = tiny (plain_state ∷ (other_state ∷ [])) (row_on 0 1 [] [] (entry.Ask (of0 1) ∷ []) ∷ [])

-- lapses where no row fires
abbrev pub next_lapses : SheetModel Number
next_lapses = tiny (next_state ∷ []) []
