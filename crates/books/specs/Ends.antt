-- What an end finds.
use Rattle.std.specs.Prelude.{ℕ, List}
use Rattle.items.specs.declared.item.Item.{Item}
use Rattle.sheets.specs.Tables.{state_of}
use Rattle.sheets.specs.declared.tables.State.{State}
use Rattle.listing.specs.Listed.{listed_of}
use Rattle.rules.specs.declared.fault.Fault.TheVariants.{HotAtClose}
use Rattle.rules.specs.declared.finding.Finding.{Finding}

-- the items of hot states as findings, where so many events are accepted
abbrev pub hot_by : {V : Type 0} → List State → ℕ → List (Item V) → List (Finding V)
hot_by states n F = listed_of (λ k. (state_of states k).hot) (λ x. record { event = n; fault = HotAtClose; item = x }) F
