-- The words of a pattern: the state's number, then the arguments.
use Rattle.std.specs.Prelude.{ℕ, cond, List, [], ◌∷◌, drop, Ok, Err, codes, Result, ◌==◌, slice_index}
use Rattle.std.specs.Str.{bytes_eq}
use Rattle.sheets.specs.declared.tables.Argument.{Argument}
use Rattle.sheets.specs.declared.tables.Argument.TheVariants as argument
use Rattle.sheets.specs.declared.tables.Arguments.{Arguments}
use Rattle.sheets.specs.declared.tables.Arguments.TheVariants.{Nothing, One, Two, Three}
use Rattle.sheets.specs.declared.tables.Pattern.{Pattern}
use Rattle.scripts.specs.declared.misfit.Misfit.{Misfit}
use Rattle.scripts.specs.declared.misfit.Misfit.TheVariants.{MissingWord, NotAnArgument, TooManyArguments}
use Rattle.scripts.specs.Decimals.{byte_in, number_in}

-- a number as an argument
abbrev pub as_argument : (ℕ → Argument) → Result ℕ Misfit → Result Argument Misfit
as_argument f (Ok n) = Ok (f n)
as_argument f (Err e) = Err e

-- a letter and the number behind it: `c` a constant, `p` an own parameter, `s` a slot
abbrev pub lettered : ℕ → Result ℕ Misfit → Result Argument Misfit
lettered letter n = cond (letter == 99) (as_argument argument.Constant n) (cond (letter == 112) (as_argument argument.Own n) (cond (letter == 115) (as_argument argument.Slot n) (Err NotAnArgument)))

-- the argument that a word says
abbrev pub argument_in : List ℕ → Result Argument Misfit
argument_in word = cond (bytes_eq word (codes "any")) (Ok argument.Any) (lettered (slice_index word 0) (byte_in (number_in (drop 1 word))))

-- one argument
abbrev pub one_of : Result Argument Misfit → Result Arguments Misfit
one_of (Ok a) = Ok (One a)
one_of (Err e) = Err e

-- two arguments
abbrev pub two_of : Result Argument Misfit → Result Argument Misfit → Result Arguments Misfit
two_of (Ok a) (Ok b) = Ok (Two a b)
two_of (Ok a) (Err e) = Err e
two_of (Err e) b = Err e

-- three arguments
abbrev pub three_of : Result Argument Misfit → Result Argument Misfit → Result Argument Misfit → Result Arguments Misfit
three_of (Ok a) (Ok b) (Ok c) = Ok (Three a b c)
three_of (Ok a) (Ok b) (Err e) = Err e
three_of (Ok a) (Err e) c = Err e
three_of (Err e) b c = Err e

-- none to three arguments
abbrev pub arguments_in : List (List ℕ) → Result Arguments Misfit
arguments_in [] = Ok Nothing
arguments_in (a ∷ []) = one_of (argument_in a)
arguments_in (a ∷ (b ∷ [])) = two_of (argument_in a) (argument_in b)
arguments_in (a ∷ (b ∷ (c ∷ []))) = three_of (argument_in a) (argument_in b) (argument_in c)
arguments_in (a ∷ (b ∷ (c ∷ (d ∷ more)))) = Err TooManyArguments

-- a state with arguments
abbrev pub pattern_of : Result ℕ Misfit → Result Arguments Misfit → Result Pattern Misfit
pattern_of (Ok n) (Ok as') = Ok (record { state = n; arguments = as' })
pattern_of (Ok n) (Err e) = Err e
pattern_of (Err e) as' = Err e

-- a state, and then its arguments
abbrev pub pattern_in : List (List ℕ) → Result Pattern Misfit
pattern_in [] = Err MissingWord
pattern_in (word ∷ rest) = pattern_of (byte_in (number_in word)) (arguments_in rest)
