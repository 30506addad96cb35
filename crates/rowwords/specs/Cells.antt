-- The words of a cell: the field's number, then what is wanted of it.
use Rattle.std.specs.Prelude.{ℕ, cond, List, [], ◌∷◌, Ok, Err, codes, Result}
use Rattle.std.specs.Str.{bytes_eq}
use Rattle.sheets.specs.declared.tables.Cell.{Cell}
use Rattle.sheets.specs.declared.tables.Want.{Want}
use Rattle.sheets.specs.declared.tables.Want.TheVariants as want
use Rattle.scripts.specs.declared.misfit.Misfit.{Misfit}
use Rattle.scripts.specs.declared.misfit.Misfit.TheVariants.{MissingWord, NotACell}
use Rattle.wordcounts.specs.Counts.{no_words, only_byte, only_word}
use Rattle.scripts.specs.Decimals.{byte_in, number_in}

-- any value
abbrev pub any_in : Result (Unit {0}) Misfit → Result Want Misfit
any_in (Ok u) = Ok want.Any
any_in (Err e) = Err e

-- a number as what is wanted
abbrev pub as_want : (ℕ → Want) → Result ℕ Misfit → Result Want Misfit
as_want f (Ok n) = Ok (f n)
as_want f (Err e) = Err e

-- `any` alone, or one of four words with a number
abbrev pub want_in : List ℕ → List (List ℕ) → Result Want Misfit
want_in word rest =
    cond (bytes_eq word (codes "any")) (any_in (no_words rest))
    (cond (bytes_eq word (codes "constant")) (as_want want.Constant (only_byte (only_word rest)))
    (cond (bytes_eq word (codes "own")) (as_want want.Own (only_byte (only_word rest)))
    (cond (bytes_eq word (codes "bind")) (as_want want.Bind (only_byte (only_word rest)))
    (cond (bytes_eq word (codes "slot")) (as_want want.Slot (only_byte (only_word rest))) (Err NotACell)))))

-- a field with what is wanted of it
abbrev pub cell_of : Result ℕ Misfit → Result Want Misfit → Result Cell Misfit
cell_of (Ok n) (Ok w) = Ok (record { field = n; want = w })
cell_of (Ok n) (Err e) = Err e
cell_of (Err e) w = Err e

-- a field, and then what is wanted of it
abbrev pub cell_in : List (List ℕ) → Result Cell Misfit
cell_in [] = Err MissingWord
cell_in (field ∷ []) = Err MissingWord
cell_in (field ∷ (word ∷ rest)) = cell_of (byte_in (number_in field)) (want_in word rest)
