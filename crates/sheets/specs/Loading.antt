-- The first refusal of a load, in the order of judging.
use Rattle.std.specs.Prelude.{ℕ, cond, ◌&&◌, List, length, Some, None, Ok, Err, Option, Result, nat_lt}
use Rattle.refusals.specs.declared.refusal.Refusal.{Refusal}
use Rattle.refusals.specs.declared.refusal.Refusal.TheVariants.{TableTooLong, RuleBroken, InitialStates}
use Rattle.refusals.specs.declared.refusal.Table.TheVariants.{States, Rows, Constants}
use Rattle.refusals.specs.declared.refusal.Broken.{Broken}
use Rattle.refusals.specs.declared.refusal.Broken.TheVariants as broken
use Rattle.sheets.specs.declared.tables.State.{State}
use Rattle.sheets.specs.Sound.{sound_init, sound_kind, sound_row, sound_state}
use Rattle.sheets.specs.declared.tables.Row.{Row}
use Rattle.sheets.specs.declared.tables.EventKind.{EventKind}
use Rattle.sheets.specs.Words.{every, first_failing, some}

-- the first table that is too long: over 32 states, 256 rows or 256 constants
abbrev pub too_long : ℕ → ℕ → ℕ → Option Refusal
too_long states rows constants =
    cond (nat_lt 32 states) (Some (TableTooLong States)) (cond (nat_lt 256 rows) (Some (TableTooLong Rows)) (cond (nat_lt 256 constants) (Some (TableTooLong Constants)) None))

-- the rule that is broken by what has that number
abbrev pub broken_at : (ℕ → Broken) → Option ℕ → Option Refusal
broken_at b None = None
broken_at b (Some n) = Some (RuleBroken (b n))

-- no state is initial, or one that is has parameters
abbrev pub initials : List State → Option Refusal
initials states = cond (some (λ (d : State). d.init) states && every sound_init states) None (Some InitialStates)

-- a first refusal, or else a later one
abbrev pub or_else : Option Refusal → Option Refusal → Option Refusal
or_else None later = later
or_else (Some f) later = Some f

-- Tables with n constants.
module _ (states : List State) (rows : List Row) (kinds : List EventKind) (n : ℕ) where
  -- the first rule that is broken: of states, of kinds and of rows, each by number
  abbrev pub broken_rule : Option Refusal
  broken_rule =
      or_else (broken_at broken.State (first_failing sound_state states))
      (or_else (broken_at broken.Kind (first_failing sound_kind kinds)) (broken_at broken.Row (first_failing (sound_row states n) rows)))

  -- why they are not loaded, if they are not: a table too long, a broken rule, the initial states
  abbrev pub load_refusal : Option Refusal
  load_refusal = or_else (too_long (length states) (length rows) n) (or_else broken_rule (initials states))
