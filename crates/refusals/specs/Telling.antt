-- How each refusal is told: its number, its layer and its place.
use Rattle.std.specs.Prelude.{ℕ, ◌+◌, List, ◌++◌, Ok, Err, codes, Result, Some, None, Option}
use Rattle.std.specs.Fmt.{decimal}
use Rattle.refusals.specs.declared.refusal.Layer.{Layer}
use Rattle.refusals.specs.declared.refusal.Layer.TheVariants.{Sheet, Record, Book, Shelf}
use Rattle.refusals.specs.declared.refusal.Table.{Table}
use Rattle.refusals.specs.declared.refusal.Table.TheVariants.{States, Rows, Constants}
use Rattle.refusals.specs.declared.refusal.Broken.{Broken}
use Rattle.refusals.specs.declared.refusal.Broken.TheVariants.{State, Kind, Row}
use Rattle.refusals.specs.declared.refusal.Refusal.{Refusal}
use Rattle.refusals.specs.declared.refusal.Refusal.TheVariants.{TableTooLong, RuleBroken, InitialStates, Malformed, WrongPhase, TooManyEvents, TooManyMoves, TooManyFindings, ShelfFull, ShelfNotEmpty, UnknownName, BufferTooShort}

-- what is told of a refusal
pub record Told : Type 0 where
  pub number : ℕ
  pub layer : Layer
  pub place : ℕ

-- the word for each layer
abbrev pub layer_text : Layer → List ℕ
layer_text Sheet = codes "sheet"
layer_text Record = codes "record"
layer_text Book = codes "book"
layer_text Shelf = codes "shelf"

-- the word for each table
abbrev pub table_text : Table → List ℕ
table_text States = codes "states"
table_text Rows = codes "rows"
table_text Constants = codes "constants"

-- the words for what breaks a rule of sheets
abbrev pub broken_text : Broken → List ℕ
broken_text (State n) = codes "state " ++ decimal n
broken_text (Kind n) = codes "event kind " ++ decimal n
broken_text (Row n) = codes "row " ++ decimal n

-- the sentence for each refusal
abbrev pub refusal_text : Refusal → List ℕ
refusal_text (TableTooLong t) = codes "there are too many " ++ table_text t
refusal_text (RuleBroken b) = broken_text b ++ codes " breaks a rule of sheets"
refusal_text InitialStates = codes "no state is initial, or an initial state has parameters"
refusal_text (Malformed p) = codes "not a record, at byte " ++ decimal p
refusal_text WrongPhase = codes "the book is not in the phase for this call"
refusal_text (TooManyEvents p) = codes "the book has accepted 1,000,000 events already"
refusal_text (TooManyMoves p) = codes "more moves than the buffer has places"
refusal_text (TooManyFindings p) = codes "more findings than the buffer has places"
refusal_text (ShelfFull p) = codes "more items than the shelf's limit"
refusal_text ShelfNotEmpty = codes "the shelf holds an item already"
refusal_text UnknownName = codes "no state has a name over 31"
refusal_text (BufferTooShort n) = codes "the buffer is too short: " ++ (decimal n ++ codes " bytes are needed")

-- a number, a layer and a place
abbrev pub telling : ℕ → Layer → ℕ → Told
telling n l p = record { number = n; layer = l; place = p }

-- the tables of a sheet, from 1
abbrev pub table_place : Table → ℕ
table_place States = 1
table_place Rows = 2
table_place Constants = 3

-- a state's number and 1,000, a kind's and 2,000, or a row's
abbrev pub broken_place : Broken → ℕ
broken_place (State n) = 1000 + n
broken_place (Kind n) = 2000 + n
broken_place (Row n) = n

-- the number, the layer and the place of every refusal
abbrev pub told_of : Refusal → Told
told_of (TableTooLong t) = telling 1 Sheet (table_place t)
told_of (RuleBroken b) = telling 2 Sheet (broken_place b)
told_of InitialStates = telling 3 Sheet 0
told_of (Malformed p) = telling 4 Record p
told_of WrongPhase = telling 5 Book 0
told_of (TooManyEvents p) = telling 6 Book p
told_of (TooManyMoves p) = telling 7 Book p
told_of (TooManyFindings p) = telling 8 Book p
told_of (ShelfFull p) = telling 9 Shelf p
told_of ShelfNotEmpty = telling 10 Shelf 0
told_of UnknownName = telling 11 Book 0
told_of (BufferTooShort n) = telling 12 Record n

-- an answer, with its refusal as it is told
abbrev pub told : {A : Type 0} → Result A Refusal → Result A Told
told (Ok x) = Ok x
told (Err e) = Err (told_of e)

-- a refusal as an answer: where there is none, the answer is yes
abbrev pub answer_of : Option Refusal → Result (Unit {0}) Refusal
answer_of None = Ok tt
answer_of (Some r) = Err r
