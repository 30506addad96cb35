-- A batch while its records are put one after the other.
use Rattle.std.specs.Prelude.{ℕ, ◌≤◌, List, take, drop, Result}
use Rattle.std.specs.Result.{result_err}
use Rattle.refusals.specs.declared.refusal.Refusal.{Refusal}
use Rattle.sheets.specs.Tables.{SheetModel}
use Rattle.rules.specs.Book.{BookModel, EventOutcome, batch_from, batched, so_far}
use Rattle.rules.specs.Kinds.{ValueKind}
use Rattle.rules.specs.Records.{Records}
use Rattle.rules.specs.declared.answers.Batched.{Batched}
use Rattle.rules.specs.declared.finding.Finding.{Finding}
use Rattle.rules.specs.declared.moves.Move.{Move}
use Rattle.books.specs.Puts.{Came}

-- so much of a batch is done: no more events than the book has accepted, no more findings than there is room for
pub record BatchRight (accepted room : ℕ) (d : Batched) : Type 0 where
  pub few : d.accepted ≤ accepted
  pub within : d.findings ≤ room

-- two outcomes with the same answer and buffers, and books that are alike
abbrev pub SameAs : {V R : Type 0} → EventOutcome V R → EventOutcome V R → Type 0
SameAs o o' = Came o' o.back o.pad o.roll o.book

module _ {V : Type 0} (K : ValueKind V) (s : SheetModel V) where
  -- what a batch comes to, of which so much is done and some records are to come
  abbrev pub left_by : BookModel V → List (Move V) → List (Finding V) → Batched → Records V → EventOutcome V Batched
  left_by b pad roll d rs = so_far d.accepted d.findings (take d.findings roll) (batch_from K s b pad (drop d.findings roll) rs)

-- what a batch of which so much is done has come to, at its end or at a refusal
abbrev pub ended_by : {V : Type 0} → Result (Unit {0}) Refusal → BookModel V → List (Move V) → List (Finding V) → Batched → EventOutcome V Batched
ended_by r b pad roll d = record { back = batched d.accepted d.findings (result_err r); pad = pad; roll = roll; book = b }
