-- The words of a line about the latest row.
use Rattle.std.specs.Prelude.{ℕ, Bool, true, false, cond, List, Ok, Err, codes, Result}
use Rattle.std.specs.Str.{bytes_eq}
use Rattle.sheets.specs.declared.tables.Cell.{Cell}
use Rattle.sheets.specs.declared.tables.Pattern.{Pattern}
use Rattle.sheets.specs.declared.tables.Entry.{Entry}
use Rattle.sheets.specs.declared.tables.Entry.TheVariants as entry
use Rattle.scripts.specs.declared.misfit.Misfit.{Misfit}
use Rattle.scripts.specs.declared.misfit.Misfit.TheVariants.{NotACommand}
use Rattle.tablelines.specs.declared.tableline.RowLine.{RowLine}
use Rattle.tablelines.specs.declared.tableline.RowLine.TheVariants as line
use Rattle.rowwords.specs.Cells.{cell_in}
use Rattle.wordcounts.specs.Counts.{no_words}
use Rattle.rowwords.specs.Patterns.{pattern_in}

-- a line with a cell
abbrev pub cell_line : Result Cell Misfit → Result RowLine Misfit
cell_line (Ok c) = Ok (line.Cell c)
cell_line (Err e) = Err e

-- a line with a condition, negated or not
abbrev pub condition_in : Bool → Result Pattern Misfit → Result RowLine Misfit
condition_in n (Ok x) = Ok (line.Condition (record { negated = n; pattern = x }))
condition_in n (Err e) = Err e

-- a line with an entry that takes no words
abbrev pub bare_in : Entry → Result (Unit {0}) Misfit → Result RowLine Misfit
bare_in y (Ok u) = Ok (line.Entry y)
bare_in y (Err e) = Err e

-- a line with an ask
abbrev pub ask_in : Result Pattern Misfit → Result RowLine Misfit
ask_in (Ok x) = Ok (line.Entry (entry.Ask x))
ask_in (Err e) = Err e

-- a line with a strike
abbrev pub strike_in : Result Pattern Misfit → Result RowLine Misfit
strike_in (Ok x) = Ok (line.Entry (entry.Strike x))
strike_in (Err e) = Err e

-- by the line's first word
abbrev pub row_line_in : List ℕ → List (List ℕ) → Result RowLine Misfit
row_line_in word rest =
    cond (bytes_eq word (codes "cell")) (cell_line (cell_in rest))
    (cond (bytes_eq word (codes "if")) (condition_in false (pattern_in rest))
    (cond (bytes_eq word (codes "unless")) (condition_in true (pattern_in rest))
    (cond (bytes_eq word (codes "ok")) (bare_in entry.Ok (no_words rest))
    (cond (bytes_eq word (codes "error")) (bare_in entry.Error (no_words rest))
    (cond (bytes_eq word (codes "ask")) (ask_in (pattern_in rest))
    (cond (bytes_eq word (codes "strike")) (strike_in (pattern_in rest)) (Err NotACommand)))))))
