-- One whole day of a book, as a use of it.
use Rattle.std.specs.Prelude.{ℕ, List, [], ◌∷◌, Result}
use Rattle.refusals.specs.declared.refusal.Refusal.{Refusal}
use Rattle.items.specs.declared.item.Item.{Item}
use Rattle.sheets.specs.Tables.{SheetModel}
use Rattle.rules.specs.Book.{Batching, BookModel, Ending, Opening, Turn}
use Rattle.rules.specs.Kinds.{ValueKind}
use Rattle.rules.specs.Law.{Accounted, Balanced, Exact, HasOpened, Point, Use}
use Rattle.rules.specs.declared.answers.Batched.{Batched}
use Rattle.rules.specs.declared.finding.Finding.{Finding}
use Rattle.rules.specs.declared.moves.Move.{Move}

-- open, batch and end as they were made and came back, the latest first
abbrev pub day_turns : {V : Type 0} (bytes : List ℕ) (pad pad' : List (Move V)) (roll roll' last last' : List (Finding V))
    → Result (Unit {0}) Refusal → Batched → Result ℕ Refusal → List (Turn V)
day_turns bytes pad pad' roll roll' last last' opened batched ended = Ending last last' ended ∷ (Batching bytes pad pad' roll roll' batched ∷ (Opening opened ∷ []))

module _ {V : Type 0} (K : ValueKind V) (s : SheetModel V) {B : Type 0} (view : B → BookModel V) where
  -- a use of a book at its end
  abbrev pub point_of : (F : List (Item V)) (limit : ℕ) (h : List (Turn V)) (b : B) → Use K s view F limit h b → Point K s view
  point_of F limit h b u = record { before = F; limit = limit; history = h; book = b; used = u }

  -- the calls are a use of the book, and what the law says of a use is true of it
  pub record DayLaw (F : List (Item V)) (limit : ℕ) (h : List (Turn V)) (b : B) : Type 0 where
    pub used : Use K s view F limit h b
    pub exact : Exact K s (point_of F limit h b used)
    pub accounted : HasOpened K s (point_of F limit h b used) → Accounted K s (point_of F limit h b used)
    pub balanced : HasOpened K s (point_of F limit h b used) → Balanced K s (point_of F limit h b used)
