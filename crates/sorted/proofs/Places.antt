-- What a search looks for goes up with the order, and meets exactly the wanted items.
use Rattle.std.proofs.Common.{◌≡◌, ℕ, ◌≤◌, ◌&&◌, eqb, Some, None, Option, Ordering, Less, Equal, Greater, refl, arith}
use Rattle.std.proofs.lemmas.Bool.Decides.{nat_tests}
use Rattle.std.specs.Ordering.{is_eq, ordering_then, ordering_index as rank}
use Rattle.values.specs.Order.{TotalOrder, by_number}
use Rattle.items.specs.Items.{item_order, agrees, is_above, wanted}
use Rattle.items.specs.declared.item.Item.{Item}
use Rattle.items.proofs.Orders.{by_answer, number-total, item-total}
use Rattle.items.proofs.Ascending.{Steady, probe-item}
use Rattle.sorted.specs.Place.{first_place, above_place, range_place, place_of}
use Rattle.sorted.specs.declared.mark.Mark.{Mark}
use Rattle.sorted.specs.declared.mark.Mark.TheVariants.{At, Among}

rank_most : (o : Ordering) → rank o ≤ 2
rank_most Less = omega arith
rank_most Equal = omega arith
rank_most Greater = omega arith

then-rank : (a b o p : Ordering) → rank a ≤ rank b → (a ≡ Equal → b ≡ Equal → rank o ≤ rank p) → rank (ordering_then a o) ≤ rank (ordering_then b p)
then-rank Less b o p h k = omega arith
then-rank Equal Less o p h k = absurd (omega arith)
then-rank Equal Equal o p h k = k refl refl
then-rank Equal Greater o p h k = rank_most o
then-rank Greater Less o p h k = absurd (omega arith)
then-rank Greater Equal o p h k = absurd (omega arith)
then-rank Greater Greater o p h k = omega arith

not-past : (o p : Ordering) → ordering_then o p ≡ Less → o ≡ Greater → ⊥
not-past o p e f = let h = rw f at e in let z : ◌≡◌ {A = ℕ} 0 1 = cc in omega arith

next-less : (o p : Ordering) → ordering_then o p ≡ Less → o ≡ Equal → p ≡ Less
next-less o p e f = rw f at e

and-eq : (a b : Ordering) → is_eq (ordering_then a b) ≡ (is_eq a && is_eq b)
and-eq Less b = refl
and-eq Equal b = refl
and-eq Greater b = refl

eq_number : (m n : ℕ) → is_eq (by_number m n) ≡ eqb m n
eq_number m n = grind (arith, nat_tests)

-- a comparison with f goes up
rank_up : {X : Type 0} {order : X → X → Ordering} (t : TotalOrder order) (x y f : X) → (order x y ≡ Greater → ⊥) → rank (order x f) ≤ rank (order y f)
rank_up {order = order} t x y f n =
    by_answer (order x y)
    (λ e. by_answer (order y f)
    (λ g. let h = t.carries x y f e g in simp (g, h) (omega arith))
    (λ g. let k = t.same y f g in let h = rw k at e in simp (g, h) (omega arith))
    (λ g. rw g (rank_most _)))
    (λ e. let k = t.same x y e in simp k (omega arith))
    (λ e. absurd (n e))

steady-from-rank : {X : Type 0} {order : X → X → Ordering} (t : TotalOrder order) (p : X → Ordering) → ((x y : X) → order x y ≡ Less → rank (p x) ≤ rank (p y)) → Steady t p
steady-from-rank t p r = record {
  down = λ x y e f. by_answer (p x) (λ g. g) (λ g. let h = simp (f, g) at (r x y e) in absurd (omega arith)) (λ g. let h = simp (f, g) at (r x y e) in absurd (omega arith));
  up = λ x y e f. by_answer (p y) (λ g. let h = simp (f, g) at (r x y e) in absurd (omega arith)) (λ g. let h = simp (f, g) at (r x y e) in absurd (omega arith)) (λ g. g);
}

module _ {V : Type 0} {order : V → V → Ordering} (t : TotalOrder order) where
  above-up : (a : Option (Item V)) (x y : Item V) → item_order order x y ≡ Less → rank (above_place order a x) ≤ rank (above_place order a y)
  above-up None x y e = omega arith
  above-up (Some z) x y e =
      by_answer (item_order order z x)
      (λ f. let g = (item-total t).carries z x y f e in simp (f, g) (omega arith))
      (λ f. simp f (omega arith))
      (λ f. simp f (omega arith))

  first-up : (f : Option V) (x y : V) → (order x y ≡ Greater → ⊥) → rank (first_place order f x) ≤ rank (first_place order f y)
  first-up None x y n = omega arith
  first-up (Some f) x y n = rank_up t x y f n

  range-up : (n : ℕ) (f : Option V) (a : Option (Item V)) (x y : Item V) → item_order order x y ≡ Less → rank (range_place order n f a x) ≤ rank (range_place order n f a y)
  range-up n f a x y e =
      then-rank (by_number x.name n) (by_number y.name n) _ _ (rank_up number-total x.name y.name n (not-past _ _ e))
      (λ i j. then-rank (first_place order f x.first) (first_place order f y.first) _ _
      (first-up f x.first y.first
      (let m : x.name ≡ n = number-total.same _ _ i in let k : y.name ≡ n = number-total.same _ _ j in
      let s : by_number x.name y.name ≡ Equal = rw (m, k) (number-total.reflexive n) in
      not-past _ _ (next-less _ _ e s)))
      (λ _ _. above-up a x y e))

  pub steady : (m : Mark V) → Steady (item-total t) (place_of order m)
  steady (At x) = probe-item (item-total t) x
  steady (Among n f a) = steady-from-rank (item-total t) (range_place order n f a) (range-up n f a)

  first-agrees : (f : Option V) (v : V) → is_eq (first_place order f v) ≡ agrees order f v
  first-agrees None v = refl
  first-agrees (Some f) v = refl

  above-is : (a : Option (Item V)) (y : Item V) → is_eq (above_place order a y) ≡ is_above order a y
  above-is None y = refl
  above-is (Some x) y = by_answer (item_order order x y) (λ f. rw f) (λ f. rw f) (λ f. rw f)

  pub meets-wanted : (n : ℕ) (f : Option V) (a : Option (Item V)) (y : Item V) → is_eq (place_of order (Among n f a) y) ≡ wanted order n f a y
  meets-wanted n f a y = simp (and-eq, eq_number, first-agrees, above-is)
