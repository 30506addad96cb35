-- How many words there are behind a command.
use Rattle.std.specs.Prelude.{ℕ, List, [], ◌∷◌, Ok, Err, Result}
use Rattle.scripts.specs.declared.misfit.Misfit.{Misfit}
use Rattle.scripts.specs.declared.misfit.Misfit.TheVariants.{MissingWord, TooManyWords}
use Rattle.scripts.specs.Decimals.{byte_in, number_in}

-- there is no word
abbrev pub no_words : List (List ℕ) → Result (Unit {0}) Misfit
no_words [] = Ok tt
no_words (word ∷ rest) = Err TooManyWords

-- the one word that there is
abbrev pub only_word : List (List ℕ) → Result (List ℕ) Misfit
only_word [] = Err MissingWord
only_word (word ∷ []) = Ok word
only_word (word ∷ (more ∷ rest)) = Err TooManyWords

-- the byte that it writes
abbrev pub only_byte : Result (List ℕ) Misfit → Result ℕ Misfit
only_byte (Ok word) = byte_in (number_in word)
only_byte (Err e) = Err e

-- two bytes
abbrev pub pair_of : Result ℕ Misfit → Result ℕ Misfit → Result (ℕ × ℕ) Misfit
pair_of (Ok a) (Ok b) = Ok (a, b)
pair_of (Ok a) (Err e) = Err e
pair_of (Err e) b = Err e

-- the bytes that the two words write
abbrev pub two_bytes : List (List ℕ) → Result (ℕ × ℕ) Misfit
two_bytes [] = Err MissingWord
two_bytes (first ∷ []) = Err MissingWord
two_bytes (first ∷ (second ∷ [])) = pair_of (byte_in (number_in first)) (byte_in (number_in second))
two_bytes (first ∷ (second ∷ (more ∷ rest))) = Err TooManyWords
