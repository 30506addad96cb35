-- Sets as ascending lists over any total order.
use Rattle.std.proofs.Common.{◌≡◌, ◌+◌, Bool, true, false, cond, ◌&&◌, ◌||◌, List, [], ◌∷◌, Ordering, Less, Equal, Greater, sym, refl, ap, ◌∙◌, inl, inr, arith}
use Rattle.std.specs.Ordering.{is_eq}
use Rattle.std.specs.List.{AllByRecursion}
use Rattle.std.proofs.lemmas.Bool.{true≢false, false≢true, and_from}
use Rattle.std.proofs.ByRecursion.{All-weaker}
use Rattle.values.specs.Order.{TotalOrder}
use Rattle.items.specs.Ascending.{ascends, held, kept, placed}
use Rattle.items.proofs.Ascending.{held-placed}
use Rattle.items.proofs.Kept.{all_placed}
use Rattle.rules.specs.Step.{with_all}
use Rattle.rules.proofs.Lists.{In, all-kept, counting}

-- two elements that the order tells equal
abbrev pub same : {X : Type 0} → (X → X → Ordering) → X → X → Bool
same order x y = is_eq (order x y)

-- each element is less than all that follow
abbrev pub Rising : {X : Type 0} → (X → X → Ordering) → List X → Type 0
Rising order [] = Unit {0}
Rising order (x ∷ xs) = AllByRecursion (λ y. order x y ≡ Less) xs × Rising order xs

pub rising-ascends : {X : Type 0} (order : X → X → Ordering) (xs : List X) → Rising order xs → ascends order xs ≡ true
rising-ascends order [] r = refl
rising-ascends order (x ∷ []) r = refl
rising-ascends order (x ∷ (y ∷ ys)) r = and_from _ _ (rw r.0.0) (rising-ascends order (y ∷ ys) r.1)

pub or_swap : (a b c : Bool) → (a || (b || c)) ≡ (b || (a || c))
or_swap true true c = refl
or_swap true false c = refl
or_swap false true c = refl
or_swap false false c = refl

or_assoc : (a b c : Bool) → ((a || b) || c) ≡ (a || (b || c))
or_assoc true b c = refl
or_assoc false b c = refl

and-false : (a : Bool) → (a && false) ≡ false
and-false true = refl
and-false false = refl

or-true : (a : Bool) → (a || true) ≡ true
or-true true = refl
or-true false = refl

module _ {X : Type 0} {order : X → X → Ordering} (T : TotalOrder order) where
  pub same-eq : (x y : X) → same order x y ≡ true → x ≡ y
  same-eq x y h = go (order x y) refl
    where
      go : (o : Ordering) → order x y ≡ o → x ≡ y
      go Less e = absurd (false≢true (rw e at h))
      go Equal e = T.same x y e
      go Greater e = absurd (false≢true (rw e at h))

  pub same_refl : (x : X) → same order x x ≡ true
  same_refl x = rw (T.reflexive x)

  pub flip : (x y : X) → order x y ≡ Greater → order y x ≡ Less
  flip x y e = T.swaps x y ∙ rw e

  pub all-less : (x y : X) (ys : List X) → order x y ≡ Less → AllByRecursion (λ z. order y z ≡ Less) ys → AllByRecursion (λ z. order x z ≡ Less) ys
  all-less x y ys l h = All-weaker (λ z. order y z ≡ Less) (λ z. order x z ≡ Less) (λ z k. T.carries x y z l k) ys h

  pub held-less : (x : X) (ys : List X) → AllByRecursion (λ z. order x z ≡ Less) ys → held order x ys ≡ false
  held-less x [] h = refl
  held-less x (y ∷ ys) h = rw h.0 (held-less x ys h.1)

  pub ascending-placed : (x : X) (ys : List X) → Rising order ys → Rising order (placed order x ys)
  ascending-placed x [] a = (tt, tt)
  ascending-placed x (y ∷ ys) a = go (order x y) refl (ascending-placed x ys a.1)
    where
      go : (o : Ordering) → order x y ≡ o → Rising order (placed order x ys) → Rising order (placed order x (y ∷ ys))
      go Less e ih = rw e ((e, all-less x y ys e a.0), a)
      go Equal e ih = rw e a
      go Greater e ih = rw e (all_placed order (λ z. order y z ≡ Less) x ys (flip x y e) a.0, ih)

  pub ascending-together : (F xs : List X) → Rising order F → Rising order (with_all order F xs)
  ascending-together F [] a = a
  ascending-together F (x ∷ xs) a = ascending-together (placed order x F) xs (ascending-placed x F a)

  pub all-together : (P : X → Type 0) (F xs : List X) → AllByRecursion P F → AllByRecursion P xs → AllByRecursion P (with_all order F xs)
  all-together P F [] f h = f
  all-together P F (x ∷ xs) f h = all-together P (placed order x F) xs (all_placed order P x F h.0 f) h.1

  pub ascending-kept : (p : X → Bool) (F : List X) → Rising order F → Rising order (kept p F)
  ascending-kept p [] a = tt
  ascending-kept p (x ∷ xs) a = go (p x) refl (ascending-kept p xs a.1)
    where
      go : (b : Bool) → p x ≡ b → Rising order (kept p xs) → Rising order (kept p (x ∷ xs))
      go true e ih = rw e (all-kept p (λ z. order x z ≡ Less) xs a.0, ih)
      go false e ih = rw e ih

  -- x stands before all of them
  pub placed_first : (x : X) (ys : List X) → AllByRecursion (λ z. order x z ≡ Less) ys → placed order x ys ≡ x ∷ ys
  placed_first x [] h = refl
  placed_first x (y ∷ ys) h = rw h.0

  pub kept-placed : (p : X → Bool) (x : X) (ys : List X) → Rising order ys
      → kept p (placed order x ys) ≡ cond (p x) (placed order x (kept p ys)) (kept p ys)
  kept-placed p x [] a = go (p x) refl
    where
      go : (b : Bool) → p x ≡ b → kept p (x ∷ []) ≡ cond (p x) (placed order x []) []
      go true e = rw e
      go false e = rw e
  kept-placed p x (y ∷ ys) a = go (order x y) (p x) (p y) refl refl refl (kept-placed p x ys a.1)
    where
      go : (o : Ordering) (b c : Bool) → order x y ≡ o → p x ≡ b → p y ≡ c
          → kept p (placed order x ys) ≡ cond (p x) (placed order x (kept p ys)) (kept p ys)
          → kept p (placed order x (y ∷ ys)) ≡ cond (p x) (placed order x (kept p (y ∷ ys))) (kept p (y ∷ ys))
      go Less true true e f g ih = rw (e, f, g) (rw e)
      go Less true false e f g ih =
          rw (e, f, g) (sym (placed_first x (kept p ys) (all-kept p (λ z. order x z ≡ Less) ys (all-less x y ys e a.0))))
      go Less false c e f g ih = rw (e, f)
      go Equal true true e f g ih = rw (e, f, g) (rw e)
      go Equal true false e f g ih = absurd (true≢false (sym f ∙ ap p (T.same x y e) ∙ g))
      go Equal false c e f g ih = rw (e, f)
      go Greater true true e f g ih = rw (e, f, g) (rw (e, ih, f))
      go Greater true false e f g ih = rw (e, g) (ih ∙ rw f)
      go Greater false true e f g ih = rw (e, f, g) (ap (λ r. y ∷ r) (ih ∙ rw f))
      go Greater false false e f g ih = rw (e, f, g) (ih ∙ rw f)

  pub kept-together : (p : X → Bool) (F xs : List X) → Rising order F → kept p (with_all order F xs) ≡ with_all order (kept p F) (kept p xs)
  kept-together p F [] a = refl
  kept-together p F (x ∷ xs) a = kept-together p (placed order x F) xs (ascending-placed x F a) ∙ go (p x) refl
    where
      go : (b : Bool) → p x ≡ b → with_all order (kept p (placed order x F)) (kept p xs) ≡ with_all order (kept p F) (kept p (x ∷ xs))
      go true e = rw (kept-placed p x F a, e)
      go false e = rw (kept-placed p x F a, e)

  pub held-together : (z : X) (F xs : List X) → held order z (with_all order F xs) ≡ (held order z xs || held order z F)
  held-together z F [] = refl
  held-together z F (x ∷ xs) =
      held-together z (placed order x F) xs
      ∙ (rw (held-placed T z x F)
      (or_swap (held order z xs) (same order z x) (held order z F) ∙ sym (or_assoc (same order z x) (held order z xs) (held order z F))))

  pub held_kept : (p : X → Bool) (z : X) (F : List X) → held order z (kept p F) ≡ (p z && held order z F)
  held_kept p z [] = sym (and-false (p z))
  held_kept p z (y ∷ ys) = go (p y) (same order z y) refl refl (held_kept p z ys)
    where
      go : (b c : Bool) → p y ≡ b → same order z y ≡ c → held order z (kept p ys) ≡ (p z && held order z ys)
          → held order z (kept p (y ∷ ys)) ≡ (p z && held order z (y ∷ ys))
      go true true e f ih = rw (e, f) (rw (same-eq z y f, e))
      go true false e f ih = rw (e, f) ih
      go false true e f ih = rw (e, f) (ih ∙ rw (same-eq z y f, e))
      go false false e f ih = rw (e, f) ih

  pub held_in : (x : X) (F : List X) → In x F → held order x F ≡ true
  held_in x [] h = absurd h
  held_in x (y ∷ ys) (inl e) = rw (e, same_refl x)
  held_in x (y ∷ ys) (inr h) = rw (held_in x ys h) (or-true (same order x y))

  -- sets with the same members are equal
  pub equal-sets : (xs ys : List X) → Rising order xs → Rising order ys → ((z : X) → held order z xs ≡ held order z ys) → xs ≡ ys
  equal-sets [] [] a b h = refl
  equal-sets [] (y ∷ ys) a b h = absurd (false≢true (h y ∙ rw (same_refl y)))
  equal-sets (x ∷ xs) [] a b h = absurd (false≢true (sym (h x) ∙ rw (same_refl x)))
  equal-sets (x ∷ xs) (y ∷ ys) a b h = go (order x y) refl (equal-sets xs ys a.1 b.1)
    where
      tails : x ≡ y → (z : X) → held order z xs ≡ held order z ys
      tails e z = at (same order z x) refl
        where
          at : (c : Bool) → same order z x ≡ c → held order z xs ≡ held order z ys
          at true f = rw (same-eq z x f) (held-less x xs a.0 ∙ sym (rw e (held-less y ys b.0)))
          at false f = let k = h z in let g : same order z y ≡ false = rw (← e) f in rw (f, g) at k

      go : (o : Ordering) → order x y ≡ o → (((z : X) → held order z xs ≡ held order z ys) → xs ≡ ys) → x ∷ xs ≡ y ∷ ys
      go Less e ih = absurd (true≢false (sym (rw (same_refl x)) ∙ h x ∙ held-less x (y ∷ ys) (e, all-less x y ys e b.0)))
      go Equal e ih = rw (T.same x y e) (ap (λ r. y ∷ r) (ih (tails (T.same x y e))))
      go Greater e ih =
          absurd (true≢false (sym (rw (same_refl y)) ∙ sym (h y) ∙ held-less y (x ∷ xs) (flip x y e, all-less y x xs (flip x y e) a.0)))

  pub count-placed : (p : X → Bool) (x : X) (ys : List X) → Rising order ys
      → counting p (placed order x ys) + cond (held order x ys) (cond (p x) 1 0) 0 ≡ cond (p x) 1 0 + counting p ys
  count-placed p x [] a = omega arith
  count-placed p x (y ∷ ys) a = go (order x y) refl (count-placed p x ys a.1)
    where
      go : (o : Ordering) → order x y ≡ o
          → counting p (placed order x ys) + cond (held order x ys) (cond (p x) 1 0) 0 ≡ cond (p x) 1 0 + counting p ys
          → counting p (placed order x (y ∷ ys)) + cond (held order x (y ∷ ys)) (cond (p x) 1 0) 0 ≡ cond (p x) 1 0 + counting p (y ∷ ys)
      go Less e ih = rw e (rw (held-less x ys (all-less x y ys e a.0)) (omega arith))
      go Equal e ih = rw e (rw (T.same x y e) (omega arith))
      go Greater e ih = rw e (omega arith)
