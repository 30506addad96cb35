-- What the words of a line are for.
use Rattle.std.specs.Prelude.{ℕ, Bool, cond, ◌&&◌, List, [], ◌∷◌, map, length, Ok, Err, codes, Result, ◌==◌, nat_lt, slice_index}
use Rattle.std.specs.Borrow.{Bor}
use Rattle.std.specs.Str.{bytes_eq}
use Rattle.scripts.specs.declared.line.Line.{Line}
use Rattle.scripts.specs.declared.line.Line.TheVariants.{Remark, Sheet, Command}
use Rattle.scripts.specs.declared.line.ValueKind.{ValueKind}
use Rattle.scripts.specs.declared.line.ValueKind.TheVariants.{Numbers, References}
use Rattle.scripts.specs.declared.misfit.Misfit.{Misfit}
use Rattle.scripts.specs.declared.misfit.Misfit.TheVariants.{MissingWord, NotAKindOfValue, TooManyWords}

-- the name of a kind of value
abbrev pub kind_name : ValueKind → List ℕ
kind_name Numbers = codes "numbers"
kind_name References = codes "references"

-- the kind of value that a word names
abbrev pub kind_in : List ℕ → Result ValueKind Misfit
kind_in word = cond (bytes_eq word (kind_name Numbers)) (Ok Numbers) (cond (bytes_eq word (kind_name References)) (Ok References) (Err NotAKindOfValue))

-- a word that begins with `#`, of code 35
abbrev pub is_remark : List ℕ → Bool
is_remark word = nat_lt 0 (length word) && slice_index word 0 == 35

-- the word that begins a session
abbrev pub is_sheet : List ℕ → Bool
is_sheet word = bytes_eq word (codes "sheet")

-- a new session of a kind
abbrev pub session_of : Result ValueKind Misfit → Result Line Misfit
session_of (Ok kind) = Ok (Sheet kind)
session_of (Err e) = Err e

-- the words behind `sheet`: one, the kind's name
abbrev pub sheet_of : List (List ℕ) → Result Line Misfit
sheet_of [] = Err MissingWord
sheet_of (word ∷ []) = session_of (kind_in word)
sheet_of (word ∷ (more ∷ rest)) = Err TooManyWords

-- by its first word: a remark, `sheet`, or any other command
abbrev pub headed_by : List ℕ → List (List ℕ) → Result Line Misfit
headed_by word rest = cond (is_remark word) (Ok Remark) (cond (is_sheet word) (sheet_of rest) (Ok Command))

-- a line without words says nothing
abbrev pub line_of : List (List ℕ) → Result Line Misfit
line_of [] = Ok Remark
line_of (word ∷ rest) = headed_by word rest

-- the text of each word
abbrev pub texts : List (Bor (List ℕ)) → List (List ℕ)
texts words = map (λ w. w.now) words
