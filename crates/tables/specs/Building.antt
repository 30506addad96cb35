-- What the lines that build tables make of them.
use Rattle.std.specs.Prelude.{ℕ, ◌-◌, true, cond, not, List, length, replicate, is_some, Some, None, Ok, Err, Option, Result, ◌==◌, nat_lt, slice_index_or, slice_set}
use Rattle.std.specs.List.{position_or_len}
use Rattle.sheets.specs.declared.tables.EventKind.{EventKind}
use Rattle.sheets.specs.declared.tables.Row.{Row}
use Rattle.sheets.specs.Tables.{kind_of}
use Rattle.scripts.specs.declared.misfit.Misfit.{Misfit}
use Rattle.scripts.specs.declared.misfit.Misfit.TheVariants.{NoRow, NoSuchKind, RowFull}
use Rattle.tablelines.specs.declared.tableline.RowLine.{RowLine}
use Rattle.tablelines.specs.declared.tableline.RowLine.TheVariants as part

module _ {X : Type 0} where
  -- the number of the first free place
  abbrev pub first_free : List (Option X) → ℕ
  first_free = position_or_len (λ o. not (is_some o))

  -- whether there is one
  abbrev pub fits : List (Option X) → Result (Unit {0}) Misfit
  fits places = cond (nat_lt (first_free places) (length places)) (Ok tt) (Err RowFull)

  -- an item at the first free place
  abbrev pub placed : List (Option X) → X → List (Option X)
  placed places x = slice_set places (first_free places) (Some x)

-- event kinds are numbered from 0 to 63
abbrev pub kind_fits : ℕ → Result (Unit {0}) Misfit
kind_fits k = cond (nat_lt 63 k) (Err NoSuchKind) (Ok tt)

-- the kind k watched
abbrev pub watched_too : List EventKind → ℕ → List EventKind
watched_too kinds k = slice_set kinds k (record { watched = true; key = (kind_of kinds k).key })

-- the kind k with the key field f
abbrev pub keyed_by : List EventKind → ℕ → ℕ → List EventKind
keyed_by kinds k f = slice_set kinds k (record { watched = (kind_of kinds k).watched; key = f })

-- a row with nothing but its source and its kind
abbrev pub bare_row : ℕ → ℕ → Row
bare_row source kind = record { source = source; kind = kind; cells = replicate 4 None; conditions = replicate 2 None; entries = replicate 4 None }

-- where the part finds a free place
abbrev pub if_fits : Result (Unit {0}) Misfit → Row → Result Row Misfit
if_fits (Ok u) row = Ok row
if_fits (Err e) row = Err e

-- a row with one more part
abbrev pub row_with : Row → RowLine → Result Row Misfit
row_with row (part.Cell c) = if_fits (fits row.cells) (record { source = row.source; kind = row.kind; cells = placed row.cells c; conditions = row.conditions; entries = row.entries })
row_with row (part.Condition c) = if_fits (fits row.conditions) (record { source = row.source; kind = row.kind; cells = row.cells; conditions = placed row.conditions c; entries = row.entries })
row_with row (part.Entry e) = if_fits (fits row.entries) (record { source = row.source; kind = row.kind; cells = row.cells; conditions = row.conditions; entries = placed row.entries e })

-- the rows with another latest row
abbrev pub with_last : List Row → Result Row Misfit → Result (List Row) Misfit
with_last rows (Ok row) = Ok (slice_set rows (length rows - 1) row)
with_last rows (Err e) = Err e

-- one more part of the latest row
abbrev pub rows_with : List Row → RowLine → Result (List Row) Misfit
rows_with rows p = cond (length rows == 0) (Err NoRow) (with_last rows (row_with (slice_index_or rows (length rows - 1) (bare_row 0 0)) p))
