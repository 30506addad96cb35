-- The words of a line that builds tables.
use Rattle.std.specs.Prelude.{ℕ, cond, List, Ok, Err, codes, Result}
use Rattle.std.specs.Str.{bytes_eq}
use Rattle.sheets.specs.declared.tables.State.{State}
use Rattle.scripts.specs.declared.misfit.Misfit.{Misfit}
use Rattle.wordcounts.specs.Counts.{only_byte, only_word, two_bytes}
use Rattle.rowwords.specs.RowLines.{row_line_in}
use Rattle.tablewords.specs.States.{state_words}
use Rattle.tablelines.specs.declared.tableline.RowLine.{RowLine}
use Rattle.tablelines.specs.declared.tableline.TableLine.{TableLine}
use Rattle.tablelines.specs.declared.tableline.TableLine.TheVariants as line

module _ {V : Type 0} where
  -- a line with a state
  abbrev pub state_line : Result State Misfit → Result (TableLine V) Misfit
  state_line (Ok d) = Ok (line.State d)
  state_line (Err e) = Err e

  -- a line that watches a kind
  abbrev pub watch_line : Result ℕ Misfit → Result (TableLine V) Misfit
  watch_line (Ok k) = Ok (line.Watch k)
  watch_line (Err e) = Err e

  -- a kind and a field
  abbrev pub key_line : Result (ℕ × ℕ) Misfit → Result (TableLine V) Misfit
  key_line (Ok p) = Ok (line.Key p.0 p.1)
  key_line (Err e) = Err e

  -- a source and a kind
  abbrev pub row_line : Result (ℕ × ℕ) Misfit → Result (TableLine V) Misfit
  row_line (Ok p) = Ok (line.Row p.0 p.1)
  row_line (Err e) = Err e

  -- a line about the latest row
  abbrev pub in_row : Result RowLine Misfit → Result (TableLine V) Misfit
  in_row (Ok x) = Ok (line.InRow x)
  in_row (Err e) = Err e

  -- a line without values, by its first word and those behind it
  abbrev pub plain_line : List ℕ → List (List ℕ) → Result (TableLine V) Misfit
  plain_line word rest =
      cond (bytes_eq word (codes "state")) (state_line (state_words rest))
      (cond (bytes_eq word (codes "watch")) (watch_line (only_byte (only_word rest)))
      (cond (bytes_eq word (codes "key")) (key_line (two_bytes rest))
      (cond (bytes_eq word (codes "row")) (row_line (two_bytes rest)) (in_row (row_line_in word rest)))))
