-- The tables that a script builds, as lists.
use Rattle.std.specs.Prelude.{List, [], ◌∷◌, ◌++◌, replicate, Ok, Err, vec_items, Result}
use Rattle.sheets.specs.declared.tables.Row.{Row}
use Rattle.sheets.specs.declared.tables.EventKind.{EventKind}
use Rattle.sheets.specs.Tables.{SheetModel, sheet_of, unwatched}
use Rattle.scripts.specs.declared.misfit.Misfit.{Misfit}
use Rattle.tablelines.specs.declared.tableline.TableLine.{TableLine}
use Rattle.tablelines.specs.declared.tableline.TableLine.TheVariants as line
use Rattle.tables.specs.declared.tables.Tables.{Tables}
use Rattle.tables.specs.Building.{bare_row, keyed_by, kind_fits, rows_with, watched_too}

module _ {V : Type 0} where
  -- the tables as those of a sheet
  abbrev pub tables_of : Tables V → SheetModel V
  tables_of t = sheet_of (vec_items t.states) (vec_items t.rows) t.kinds (vec_items t.constants)

  -- empty tables
  abbrev pub no_tables : SheetModel V
  no_tables = sheet_of [] [] (replicate 64 unwatched) []

  -- tables with other kinds, where the kind exists
  abbrev pub with_kinds : SheetModel V → Result (Unit {0}) Misfit → List EventKind → Result (SheetModel V) Misfit
  with_kinds m (Ok u) kinds = Ok (sheet_of m.states m.rows kinds m.constants)
  with_kinds m (Err e) kinds = Err e

  -- tables with other rows
  abbrev pub with_rows : SheetModel V → Result (List Row) Misfit → Result (SheetModel V) Misfit
  with_rows m (Ok rows) = Ok (sheet_of m.states rows m.kinds m.constants)
  with_rows m (Err e) = Err e

  -- what a line makes of the tables
  abbrev pub changed : SheetModel V → TableLine V → Result (SheetModel V) Misfit
  changed m line.Clear = Ok no_tables
  changed m (line.State d) = Ok (sheet_of (m.states ++ (d ∷ [])) m.rows m.kinds m.constants)
  changed m (line.Constant v) = Ok (sheet_of m.states m.rows m.kinds (m.constants ++ (v ∷ [])))
  changed m (line.Watch k) = with_kinds m (kind_fits k) (watched_too m.kinds k)
  changed m (line.Key k f) = with_kinds m (kind_fits k) (keyed_by m.kinds k f)
  changed m (line.Row s k) = Ok (sheet_of m.states (m.rows ++ (bare_row s k ∷ [])) m.kinds m.constants)
  changed m (line.InRow p) = with_rows m (rows_with m.rows p)
