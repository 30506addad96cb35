-- What an answer says of the refusal behind it.
use Rattle.std.proofs.Common.{◌≡◌, ℕ, Some, None, Ok, Err, Option, refl, ap, sym, arith}
use Rattle.refusals.specs.Telling.{answer_of}
use Rattle.refusals.specs.declared.refusal.Refusal.{Refusal}

-- there is none
pub answered_yes : (o : Option Refusal) → Ok tt ≡ answer_of o → None ≡ o
answered_yes None h = refl
answered_yes (Some r) h = let z : ◌≡◌ {A = ℕ} 0 1 = cc in absurd (omega arith)

-- it is that one
pub answered_no : (o : Option Refusal) (r : Refusal) → Err r ≡ answer_of o → Some r ≡ o
answered_no None r h = let z : ◌≡◌ {A = ℕ} 0 1 = cc in absurd (omega arith)
answered_no (Some f) r h = cc
