-- What is found first in an ascending list is the least, and the meaning of sets.
use Rattle.std.proofs.Common.{◌≡◌, ℕ, Bool, true, false, ◌&&◌, List, [], ◌∷◌, Some, None, Ordering, Less, Equal, sym, refl, ap, ◌∙◌, ⊎_elim, arith}
use Rattle.std.proofs.lemmas.Bool.{cases_Bool, and_parts, both_ways}
use Rattle.std.specs.Ordering.{is_ne}
use Rattle.values.specs.Order.{TotalOrder}
use Rattle.items.specs.Ascending.{first_of, ascends, heads, held, without}
use Rattle.items.specs.Sets.{SetMeaning}
use Rattle.items.proofs.Orders.{by_answer}
use Rattle.items.proofs.Ascending.{held-above, ascends-placed, ascends-without, held-placed, without_gone, without-stays}

pub first_passes : {X : Type 0} (w : X → Bool) (y : X) (xs : List X) → first_of w xs ≡ Some y → w y ≡ true
first_passes w y [] = λ e. cc
first_passes w y (x ∷ xs) =
    ⊎_elim (λ (h : w x ≡ true). rw h (λ e. let g : x ≡ y = cc in ap w (sym g) ∙ h)) (λ (h : w x ≡ false). rw h (first_passes w y xs)) (cases_Bool (w x))

module _ {X : Type 0} {order : X → X → Ordering} (t : TotalOrder order) where
  pub first-held : (w : X → Bool) (y : X) (xs : List X) → first_of w xs ≡ Some y → held order y xs ≡ true
  first-held w y [] = λ e. cc
  first-held w y (x ∷ xs) =
      ⊎_elim
      (λ (h : w x ≡ true). rw h (λ e. let g : x ≡ y = cc in let r : order y x ≡ Equal = ap (order y) g ∙ t.reflexive y in simp r))
      (λ (h : w x ≡ false). rw h (λ e. let r = first-held w y xs e in by_answer (order y x) (λ f. simp (f, r)) (λ f. simp f) (λ f. simp (f, r))))
      (cases_Bool (w x))

  pub first-nothing : (w : X → Bool) (z : X) (xs : List X) → first_of w xs ≡ None → held order z xs ≡ true → w z ≡ false
  first-nothing w z [] = λ e h. cc
  first-nothing w z (x ∷ xs) =
      ⊎_elim
      (λ (h : w x ≡ true). rw h (λ e k. let o : ◌≡◌ {A = ℕ} 0 1 = cc in absurd (omega arith)))
      (λ (h : w x ≡ false). rw h (λ e. by_answer (order z x)
      (λ f. rw f (first-nothing w z xs e))
      (λ f. rw f (λ k. ap w (t.same z x f) ∙ h))
      (λ f. rw f (first-nothing w z xs e))))
      (cases_Bool (w x))

  pub first-no-less : (w : X → Bool) (y z : X) (xs : List X) → ascends order xs ≡ true → first_of w xs ≡ Some y → held order z xs ≡ true → w z ≡ true → order z y ≡ Less → ⊥
  first-no-less w y z [] a = λ e h k l. both_ways false refl h
  first-no-less w y z (x ∷ xs) a =
      let b = and_parts _ _ a in
      ⊎_elim
      (λ (h : w x ≡ true). rw h (λ e k m l.
      let g : x ≡ y = cc in
      let r : order z x ≡ Less = ap (order z) g ∙ l in
      let n : heads order z (x ∷ xs) ≡ true = rw r in
      both_ways (held order z (x ∷ xs)) (held-above t z (x ∷ xs) n a) k))
      (λ (h : w x ≡ false). rw h (λ e. by_answer (order z x)
      (λ f. rw f (first-no-less w y z xs b.1 e))
      (λ f. rw f (λ k m l. both_ways (w x) h (ap w (sym (t.same z x f)) ∙ m)))
      (λ f. rw f (first-no-less w y z xs b.1 e))))
      (cases_Bool (w x))

  held-without : (x z : X) (xs : List X) → ascends order xs ≡ true → held order z (without order x xs) ≡ (is_ne (order z x) && held order z xs)
  held-without x z xs a =
      by_answer (order z x)
      (λ f. rw f (without-stays t z x xs (λ e. let o : ◌≡◌ {A = ℕ} 0 1 = cc in omega arith)))
      (λ f. rw f (ap (λ y. held order y (without order x xs)) (t.same z x f) ∙ without_gone t x xs a))
      (λ f. rw f (without-stays t z x xs (λ e. let o : ◌≡◌ {A = ℕ} 0 1 = cc in omega arith)))

  pub set-meaning : SetMeaning order
  set-meaning = record {
    put_in = λ x z xs. held-placed t z x xs;
    taken_out = held-without;
    put_ascends = ascends-placed t;
    out_ascends = ascends-without t;
    is_held = first-held;
    passes = first_passes;
    least = first-no-less;
    nothing = first-nothing;
  }
