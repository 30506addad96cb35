-- The words of a state: the number of its parameters, then its marks.
use Rattle.std.specs.Prelude.{ℕ, Bool, cond, ◌||◌, List, [], ◌∷◌, Ok, Err, codes, Result}
use Rattle.std.specs.Str.{bytes_eq}
use Rattle.sheets.specs.declared.tables.State.{State}
use Rattle.std.specs.List.{list_all, list_any}
use Rattle.scripts.specs.Decimals.{byte_in, number_in}
use Rattle.scripts.specs.declared.misfit.Misfit.{Misfit}
use Rattle.scripts.specs.declared.misfit.Misfit.TheVariants.{MissingWord, NotAMark}

-- a word is one of some words
abbrev pub is_among : List ℕ → List (List ℕ) → Bool
is_among word words = list_any (bytes_eq word) words

-- one of the five marks
abbrev pub is_mark : List ℕ → Bool
is_mark word = bytes_eq word (codes "init") || (bytes_eq word (codes "always") || (bytes_eq word (codes "hot") || (bytes_eq word (codes "step") || bytes_eq word (codes "next"))))

-- a state has the marks that its words name, where each is a mark
abbrev pub marked : ℕ → List (List ℕ) → Result State Misfit
marked n words = cond (list_all is_mark words) (Ok (record { parameters = n; init = is_among (codes "init") words; always = is_among (codes "always") words; hot = is_among (codes "hot") words; step = is_among (codes "step") words; next = is_among (codes "next") words })) (Err NotAMark)

-- so many parameters, and then the marks
abbrev pub state_in : Result ℕ Misfit → List (List ℕ) → Result State Misfit
state_in (Ok n) words = marked n words
state_in (Err e) words = Err e

-- the state that the words behind `state` say
abbrev pub state_words : List (List ℕ) → Result State Misfit
state_words [] = Err MissingWord
state_words (word ∷ rest) = state_in (byte_in (number_in word)) rest
