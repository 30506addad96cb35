-- The order of items is total where that of the values is.
use Rattle.std.proofs.Common.{◌≡◌, ℕ, Ordering, Less, Equal, Greater, refl, arith}
use Rattle.std.proofs.lemmas.Bool.Decides.{nat_tests}
use Rattle.std.specs.Ordering.{ordering_reverse, ordering_then}
use Rattle.values.specs.Order.{TotalOrder, by_number}
use Rattle.items.specs.Items.{item_order}
use Rattle.items.specs.declared.item.Item.{Item}

-- three cases, with the equation
pub by_answer : {P : Type 0} (o : Ordering) → (o ≡ Less → P) → (o ≡ Equal → P) → (o ≡ Greater → P) → P
by_answer Less a b c = a refl
by_answer Equal a b c = b refl
by_answer Greater a b c = c refl

pub number-total : TotalOrder by_number
number-total = record {
  same = λ x y e. grind (arith, nat_tests);
  reflexive = λ x. grind (arith, nat_tests);
  swaps = λ x y. grind (arith, nat_tests);
  carries = λ x y z a b. grind (arith, nat_tests);
}

pub then_equal : (o p : Ordering) → ordering_then o p ≡ Equal → (o ≡ Equal) × (p ≡ Equal)
then_equal Less p e = (e, cc)
then_equal Equal p e = (refl, e)
then_equal Greater p e = (e, cc)

pub then-swaps : (o p : Ordering) → ordering_then (ordering_reverse o) (ordering_reverse p) ≡ ordering_reverse (ordering_then o p)
then-swaps Less p = refl
then-swaps Equal p = refl
then-swaps Greater p = refl

-- less carries over a middle value, where it does in what breaks a tie
module _ {X : Type 0} {order : X → X → Ordering} (t : TotalOrder order) where
  pub then-carries : (x y z : X) (o p q : Ordering) → (o ≡ Less → p ≡ Less → q ≡ Less) → ordering_then (order x y) o ≡ Less → ordering_then (order y z) p ≡ Less → ordering_then (order x z) q ≡ Less
  then-carries x y z o p q rest a b =
      by_answer (order x y)
      (λ xy. by_answer (order y z)
      (λ yz. rw (t.carries x y z xy yz))
      (λ yz. let e = t.same y z yz in rw (← e, xy))
      (λ yz. let h = rw yz at b in cc))
      (λ xy. let e = t.same x y xy in let h = rw xy at a in by_answer (order y z)
      (λ yz. rw (e, yz))
      (λ yz. let k = rw yz at b in rw (e, yz) (rest h k))
      (λ yz. let h = rw yz at b in cc))
      (λ xy. let h = rw xy at a in cc)

module _ {V : Type 0} {order : V → V → Ordering} (t : TotalOrder order) where
  abbrev made : ℕ → V → V → V → Item V
  made n f s h = record { name = n; first = f; second = s; third = h }

  pub item-total : TotalOrder (item_order order)
  item-total = record {
    same = λ x y e.
        let a = then_equal (by_number x.name y.name) _ e in
        let b = then_equal (order x.first y.first) _ a.1 in
        let c = then_equal (order x.second y.second) _ b.1 in
        let n : x.name ≡ y.name = number-total.same _ _ a.0 in
        let f : x.first ≡ y.first = t.same _ _ b.0 in
        let s : x.second ≡ y.second = t.same _ _ c.0 in
        let h : x.third ≡ y.third = t.same _ _ c.1 in
        let r : made x.name x.first x.second x.third ≡ made y.name y.first y.second y.third = cc in r;
    reflexive = λ x. simp (number-total.reflexive x.name, t.reflexive);
    swaps = λ x y. simp (number-total.swaps x.name y.name, t.swaps x.first y.first, t.swaps x.second y.second, t.swaps x.third y.third, then-swaps);
    carries = λ x y z.
        then-carries number-total x.name y.name z.name _ _ _
        (then-carries t x.first y.first z.first _ _ _
        (then-carries t x.second y.second z.second _ _ _
        (t.carries x.third y.third z.third)));
  }
