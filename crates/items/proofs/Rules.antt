-- What is known once `add` has answered.
use Rattle.std.proofs.Common.{◌≡◌, ℕ, ◌<◌, Bool, true, false, cond, ltb, refl, ⊎_elim, arith, ltb-true}
use Rattle.std.proofs.lemmas.Bool.{cases_Bool}
use Rattle.items.specs.Items.{add_rule}
use Rattle.items.specs.declared.added.Added.TheVariants.{Put, Full}

room : (n l : ℕ) → cond (ltb n l) Put Full ≡ Put → n < l
room n l =
    ⊎_elim
    (λ (e : ltb n l ≡ true). λ _. ltb-true n l e)
    (λ (e : ltb n l ≡ false). rw e (λ p. let z : ◌≡◌ {A = ℕ} 0 1 = cc in absurd (omega arith)))
    (cases_Bool (ltb n l))

-- an item that is put in was not held, and there was room
pub put-since : (h : Bool) (n l : ℕ) → add_rule h n l ≡ Put → (h ≡ false) × (n < l)
put-since true n l p = let z : ◌≡◌ {A = ℕ} 0 1 = cc in absurd (omega arith)
put-since false n l p = (refl, room n l p)
