-- What is shown of an answer, and how a new buffer's places are marked.
use Rattle.std.specs.Prelude.{◌≢◌, ℕ, Bool, true, false, List, [], ◌∷◌, codes}
use Rattle.items.specs.declared.item.Item.{Item}
use Rattle.rules.specs.declared.fault.Fault.TheVariants.{HotAtClose}
use Rattle.rules.specs.declared.finding.Finding.{Finding}
use Rattle.rules.specs.declared.moves.Cause.TheVariants.{Fired}
use Rattle.rules.specs.declared.moves.Move.{Move}
use Rattle.rules.specs.declared.tallies.Counts.{Counts}

-- the name of the items in a new buffer; no state has it
abbrev pub untouched_name : ℕ
untouched_name = 255

-- the item in every place of a new buffer, where `blank` is the filler
abbrev pub untouched_item : {V : Type 0} → V → Item V
untouched_item blank = record { name = untouched_name; first = blank; second = blank; third = blank }

-- the move in every place of a new buffer
abbrev pub untouched_move : {V : Type 0} → V → Move V
untouched_move blank = record { cause = Fired; item = untouched_item blank }

-- the finding in every place of a new buffer
abbrev pub untouched_finding : {V : Type 0} → V → Finding V
untouched_finding blank = record { event = 0; fault = HotAtClose; item = untouched_item blank }

-- a place for a move that a call has written
abbrev pub IsWritten : {V : Type 0} → Move V → Type 0
IsWritten m = m.item.name ≢ untouched_name

-- whether a sheet is keyed, in a word
abbrev pub keyed_text : Bool → List ℕ
keyed_text true = codes "yes"
keyed_text false = codes "no"

-- whether two books agree, in a word
abbrev pub compared_text : Bool → List ℕ
compared_text true = codes "agree"
compared_text false = codes "differ"

-- the seven counts of a name, in the order in which they are shown
abbrev pub shown_counts : Counts → List ℕ
shown_counts c = c.kept.started ∷ (c.kept.asked ∷ (c.kept.repeats ∷ (c.kept.fired ∷ (c.kept.lapsed ∷ (c.kept.struck ∷ (c.open ∷ []))))))
