-- What is kept of a list, and what holds of each element once one is put in or taken out.
use Rattle.std.proofs.Common.{◌≡◌, Bool, true, false, cond, List, [], ◌∷◌, ◌++◌, Ordering, refl, ap, ⊎_elim}
use Rattle.std.proofs.lemmas.Bool.{cases_Bool}
use Rattle.std.specs.List.{AllByRecursion}
use Rattle.items.specs.Ascending.{kept, placed, without}
use Rattle.items.proofs.Orders.{by_answer}

module _ {X : Type 0} (p : X → Bool) where
  pub kept_append : (xs ys : List X) → kept p (xs ++ ys) ≡ kept p xs ++ kept p ys
  kept_append [] ys = refl
  kept_append (x ∷ xs) ys =
      let r = kept_append xs ys in
      ⊎_elim (λ (e : p x ≡ true). rw e (ap (λ l. x ∷ l) r)) (λ (e : p x ≡ false). rw e r) (cases_Bool (p x))

  pub kept-all : ((x : X) → p x ≡ true) → (xs : List X) → kept p xs ≡ xs
  kept-all h [] = refl
  kept-all h (x ∷ xs) = rw (h x) (ap (λ l. x ∷ l) (kept-all h xs))

pub kept_same : {X : Type 0} (p q : X → Bool) → ((x : X) → p x ≡ q x) → (xs : List X) → kept p xs ≡ kept q xs
kept_same p q e [] = refl
kept_same p q e (x ∷ xs) = rw (e x) (ap (λ l. cond (q x) (x ∷ l) l) (kept_same p q e xs))

module _ {X : Type 0} (order : X → X → Ordering) (P : X → Type 0) where
  pub all_placed : (x : X) (xs : List X) → P x → AllByRecursion P xs → AllByRecursion P (placed order x xs)
  all_placed x [] p h = (p, tt)
  all_placed x (y ∷ ys) p h = by_answer (order x y) (λ e. rw e (p, h)) (λ e. rw e h) (λ e. rw e (h.0, all_placed x ys p h.1))

  pub all_without : (x : X) (xs : List X) → AllByRecursion P xs → AllByRecursion P (without order x xs)
  all_without x [] h = tt
  all_without x (y ∷ ys) h = by_answer (order x y) (λ e. rw e h) (λ e. rw e h.1) (λ e. rw e (h.0, all_without x ys h.1))
