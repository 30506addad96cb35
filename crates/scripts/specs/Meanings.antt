-- What a word means as a value.
use Rattle.std.specs.Prelude.{◌≡◌, ℕ, Bool, cond, ◌⊎◌, List, [], ◌∷◌, Some, None, Ok, Err, Option, Result}
use Rattle.std.specs.Option.{ok_or}
use Rattle.std.specs.Str.{bytes_eq}
use Rattle.values.specs.declared.number.Number.{Number}
use Rattle.values.specs.declared.reference.Reference.{Reference}
use Rattle.values.specs.NumberForm.{number_is}
use Rattle.values.specs.ReferenceForm.{reference_is, reference_of}
use Rattle.scripts.specs.declared.misfit.Misfit.{Misfit}
use Rattle.scripts.specs.declared.misfit.Misfit.TheVariants.{NoMemory, NotAReference, NotHexadecimal}
use Rattle.scripts.specs.Decimals.{number_in}
use Rattle.scripts.specs.Hexadecimals.{bytes_of}

-- the answer is as said, unless there was no memory to find it
abbrev pub OrNoMemory : {T : Type 0} → Result T Misfit → Result T Misfit → Type 0
OrNoMemory r said = (r ≡ Err NoMemory) ⊎ (r ≡ said)

-- what was read, as a value
abbrev pub as_number : Result ℕ Misfit → Result Number Misfit
as_number (Ok n) = Ok (number_is n)
as_number (Err e) = Err e

-- a number is its decimal digits
abbrev pub number_meant : List ℕ → Result Number Misfit
number_meant word = as_number (number_in word)

-- the reference of some bytes
abbrev pub as_reference : List ℕ → Result Reference Misfit
as_reference bytes = ok_or (reference_of bytes) NotAReference

-- where the word is hexadecimal
abbrev pub reference_in : Option (List ℕ) → Result Reference Misfit
reference_in (Some bytes) = as_reference bytes
reference_in None = Err NotHexadecimal

-- a hyphen alone, of code 45
abbrev pub is_filler : List ℕ → Bool
is_filler word = bytes_eq word (45 ∷ [])

-- a reference is the hexadecimal of its bytes
abbrev pub reference_meant : List ℕ → Result Reference Misfit
reference_meant word = cond (is_filler word) (Ok (reference_is 0 0)) (reference_in (bytes_of word))
