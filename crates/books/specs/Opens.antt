-- The book after it was opened.
use Rattle.std.specs.Prelude.{◌≡◌, ℕ, ◌+◌, ◌<◌, List}
use Rattle.sheets.specs.declared.tables.State.{State}
use Rattle.rules.specs.Book.{BookModel, inits_from}
use Rattle.rules.specs.Kinds.{ValueKind}
use Rattle.rules.specs.Step.{Count}
use Rattle.rules.specs.declared.phase.Phase.TheVariants as phase
use Rattle.opening.specs.Starts.{starts_from}

-- a book that was opened: it has the init items, which are counted
pub record Opened {V : Type 0} (K : ValueKind V) (states : List State) (b b' : BookModel V) : Type 0 where
  pub phase : b'.phase ≡ phase.Open
  pub accepted : b'.accepted ≡ b.accepted
  pub items : b'.items ≡ inits_from K 0 states
  pub limit : b'.limit ≡ b.limit
  pub counts : (c : Count) (n : ℕ) → n < 32 → b'.counts c n ≡ b.counts c n + starts_from c n 0 states
