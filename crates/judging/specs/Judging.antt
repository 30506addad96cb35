-- Why the calls of a book are refused, by what they count.
use Rattle.std.specs.Prelude.{◌≡◌, ℕ, ◌≤◌, not, None, Option, nat_le, nat_lt}
use Rattle.refusals.specs.declared.refusal.Refusal.{Refusal}
use Rattle.refusals.specs.declared.refusal.Refusal.TheVariants.{Malformed, WrongPhase, TooManyEvents, TooManyMoves, TooManyFindings, ShelfFull, ShelfNotEmpty}
use Rattle.records.specs.Record.{kind_fits}
use Rattle.rules.specs.Book.{refused_if}
use Rattle.rules.specs.Phases.{is_blank, is_open}
use Rattle.rules.specs.declared.phase.Phase.{Phase}
use Rattle.rules.specs.declared.phase.Phase.TheVariants as phase

-- the book is not blank, its shelf holds an item, or there are more init items than its limit
abbrev pub open_by : Phase → (held limit inits : ℕ) → Option Refusal
open_by p held limit inits =
    refused_if (not (is_blank p)) WrongPhase (
    refused_if (nat_lt 0 held) ShelfNotEmpty (
    refused_if (nat_lt limit inits) (ShelfFull 0)
    None))

-- none of these
pub record MayOpen (p : Phase) (held limit inits : ℕ) : Type 0 where
  pub blank : p ≡ phase.Blank
  pub empty : held ≡ 0
  pub room : inits ≤ limit

-- a book in that phase with so many accepted events takes no event of that kind
abbrev pub early_by : (place : ℕ) → Phase → (kind accepted : ℕ) → Option Refusal
early_by place p kind n =
    refused_if (not (is_open p)) WrongPhase (
    refused_if (not (kind_fits kind)) (Malformed place) (
    refused_if (nat_le 1000000 n) (TooManyEvents place)
    None))

-- so many moves do not fit the pad, or so many findings the roll, or so many items the shelf
abbrev pub late_by : (place pad moves roll findings limit size : ℕ) → Option Refusal
late_by place pad moves roll findings limit size =
    refused_if (nat_lt pad moves) (TooManyMoves place) (
    refused_if (nat_lt roll findings) (TooManyFindings place) (
    refused_if (nat_lt limit size) (ShelfFull place)
    None))

-- the moves fit the pad, the findings the roll, and the items the shelf
pub record AllFit (pad moves roll findings limit size : ℕ) : Type 0 where
  pub moved : moves ≤ pad
  pub found : findings ≤ roll
  pub held : size ≤ limit

-- the book is not open, or so many findings do not fit the roll
abbrev pub end_by : Phase → (roll findings : ℕ) → Option Refusal
end_by p roll findings =
    refused_if (not (is_open p)) WrongPhase (
    refused_if (nat_lt roll findings) (TooManyFindings 0)
    None)

-- neither of these
pub record MayEnd (p : Phase) (roll findings : ℕ) : Type 0 where
  pub «open» : p ≡ phase.Open
  pub fits : findings ≤ roll
