-- What a put owes, whose record stands at a place.
use Rattle.std.specs.Prelude.{◌≡◌, ℕ, List, Result}
use Rattle.refusals.specs.declared.refusal.Refusal.{Refusal}
use Rattle.records.specs.declared.event.Event.{Event}
use Rattle.sheets.specs.Tables.{SheetModel}
use Rattle.rules.specs.Book.{Alike, BookModel, EventOutcome, accepted_put, filled_pad, late_refusal, refused_put, unless}
use Rattle.rules.specs.Kinds.{ValueKind}
use Rattle.rules.specs.declared.answers.Accepted.{Accepted}
use Rattle.rules.specs.declared.finding.Finding.{Finding}
use Rattle.rules.specs.declared.moves.Move.{Move}

-- what came back, the pad and the roll, and the book afterwards are those of an outcome
pub record Came {V : Type 0} {R : Type 0} (o : EventOutcome V R) (r : R) (pad' : List (Move V)) (roll' : List (Finding V)) (b : BookModel V) : Type 0 where
  pub back : r ≡ o.back
  pub pad : pad' ≡ o.pad
  pub roll : roll' ≡ o.roll
  pub book : Alike b o.book

module _ {V : Type 0} (K : ValueKind V) (s : SheetModel V) where
  -- a put that is not refused before its moves are listed
  abbrev pub late_at : ℕ → BookModel V → Event V → List (Move V) → List (Finding V) → EventOutcome V (Result Accepted Refusal)
  late_at place b e pad roll =
      unless (late_refusal K s place b e pad roll) (refused_put (filled_pad K s b e pad) roll b) (accepted_put K s b e pad roll)
