-- The commands of one word.
use Rattle.std.specs.Prelude.{ℕ, Bool, false, cond, ◌||◌, List, [], ◌∷◌, Ok, Err, codes, Result}
use Rattle.std.specs.Str.{bytes_eq}
use Rattle.scripts.specs.declared.misfit.Misfit.{Misfit}
use Rattle.scripts.specs.declared.misfit.Misfit.TheVariants.{NotACommand}
use Rattle.wordcounts.specs.Counts.{no_words}
use Rattle.tablelines.specs.declared.tableline.TableLine.TheVariants.{Clear}
use Rattle.commands.specs.declared.command.Command.{Command}
use Rattle.commands.specs.declared.command.Command.TheVariants.{Table, Load, Keyed}

-- a command that takes no words
abbrev pub is_plain : List ℕ → Bool
is_plain word = bytes_eq word (codes "load") || (bytes_eq word (codes "keyed") || bytes_eq word (codes "clear"))

-- a line that begins with one
abbrev pub is_plain_line : List (List ℕ) → Bool
is_plain_line [] = false
is_plain_line (word ∷ rest) = is_plain word

module _ {V : Type 0} where
  -- the command of one word
  abbrev pub plain_of : List ℕ → Command V
  plain_of word = cond (bytes_eq word (codes "load")) Load (cond (bytes_eq word (codes "keyed")) Keyed (Table Clear))

  -- a command, where no words stand behind it
  abbrev pub bare_in : Command V → Result (Unit {0}) Misfit → Result (Command V) Misfit
  bare_in c (Ok u) = Ok c
  bare_in c (Err e) = Err e

  -- the command of a line that begins with one
  abbrev pub plain_line : List (List ℕ) → Result (Command V) Misfit
  plain_line [] = Err NotACommand
  plain_line (word ∷ rest) = bare_in (plain_of word) (no_words rest)
