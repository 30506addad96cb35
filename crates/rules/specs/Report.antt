-- How each finding is told: its kind and its row.
use Rattle.std.specs.Prelude.{ℕ}
use Rattle.rules.specs.declared.fault.Fault.{Fault}
use Rattle.rules.specs.declared.fault.Fault.TheVariants.{Error, LapsedNext, HotAtClose}

-- what is told of a finding
pub record Report : Type 0 where
  pub kind : ℕ
  pub row : ℕ

-- a report of a kind and a row
abbrev pub reporting : ℕ → ℕ → Report
reporting k r = record { kind = k; row = r }

-- an error entry with its row, a lapsed next item, a hot item at the close
abbrev pub report_of : Fault → Report
report_of (Error row) = reporting 1 row
report_of LapsedNext = reporting 2 0
report_of HotAtClose = reporting 3 0
