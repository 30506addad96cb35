-- An ascending list that holds each element of another one, and as many, is that list.
use Rattle.std.proofs.Common.{◌≡◌, ◌≤◌, Bool, true, false, ◌&&◌, ◌||◌, eqb, List, [], ◌∷◌, length, Ordering, refl, subst, arith}
use Rattle.std.proofs.lemmas.Bool.{and_parts, and_from, both_ways, eqb-true, eq-eqb}
use Rattle.std.specs.Ordering.{is_eq}
use Rattle.values.specs.Order.{TotalOrder}
use Rattle.items.specs.Ascending.{ascends, heads, held}
use Rattle.items.proofs.Orders.{by_answer}
use Rattle.items.proofs.Ascending.{ascends-tail, heads-down, held-above, is-less, less-greater, greater-less}
use Rattle.listing.specs.Listed.{all_held}

module _ {X : Type 0} {order : X → X → Ordering} (t : TotalOrder order) where
  -- what is above an element is held without it
  above-held : (y : X) (xs ys : List X) → heads order y xs ≡ true → ascends order xs ≡ true → all_held order xs (y ∷ ys) ≡ true → all_held order xs ys ≡ true
  above-held y [] ys h a e = refl
  above-held y (x ∷ xs) ys h a e =
      let l = is-less _ h in
      let b = and_parts _ _ a in
      let p = and_parts (held order x (y ∷ ys)) (all_held order xs (y ∷ ys)) e in
      let q : held order x ys ≡ true = rw (less-greater t y x l) at p.0 in
      and_from _ _ q (above-held y xs ys (heads-down t y x xs l b.0) b.1 p.1)

  held_more : (y : X) (xs ys : List X) → all_held order xs ys ≡ true → all_held order xs (y ∷ ys) ≡ true
  held_more y [] ys e = refl
  held_more y (x ∷ xs) ys e =
      let p = and_parts (held order x ys) (all_held order xs ys) e in
      and_from _ _ (or-after (is_eq (order x y)) (held order x ys) p.0) (held_more y xs ys p.1)
    where
      or-after : (a b : Bool) → b ≡ true → (a || b) ≡ true
      or-after true b h = refl
      or-after false b h = h

  held-itself : (xs : List X) → all_held order xs xs ≡ true
  held-itself [] = refl
  held-itself (x ∷ xs) = and_from (held order x (x ∷ xs)) _ (rw (t.reflexive x)) (held_more x xs xs (held-itself xs))

  pub same-held : (xs ys : List X) → ascends order xs ≡ true → ascends order ys ≡ true → all_held order xs ys ≡ true → (length xs ≤ length ys) × (length xs ≡ length ys → xs ≡ ys)
  same-held [] [] a b e = (omega arith, λ l. refl)
  same-held [] (y ∷ ys) a b e = (omega arith, λ l. absurd (omega arith))
  same-held (x ∷ xs) [] a b e = absurd (both_ways false refl e)
  same-held (x ∷ xs) (y ∷ ys) a b e =
      by_answer (order x y)
      (λ f. let h : heads order x (y ∷ ys) ≡ true = rw f in absurd (both_ways (held order x (y ∷ ys)) (held-above t x (y ∷ ys) h b) (and_parts _ _ e).0))
      (λ f. let g : x ≡ y = t.same x y f in
      let c = and_parts _ _ a in
      let r = same-held xs ys c.1 (ascends-tail t y ys b) (above-held y xs ys (rw (← g) c.0) c.1 (and_parts _ _ e).1) in
      (omega (arith, r.0), λ l. let q = r.1 (omega arith) in cc))
      (λ f. let h : heads order y (x ∷ xs) ≡ true = rw (greater-less t x y f) in
      let r = same-held (x ∷ xs) ys a (ascends-tail t y ys b) (above-held y (x ∷ xs) ys h a e) in
      (omega (arith, r.0), λ l. absurd (omega (arith, r.0))))

  -- as many and all held: the same; and no others are
  pub same-by-count : (xs ys : List X) → ascends order xs ≡ true → ascends order ys ≡ true → (eqb (length xs) (length ys) && all_held order xs ys) ≡ true → xs ≡ ys
  same-by-count xs ys a b e =
      let p = and_parts (eqb (length xs) (length ys)) (all_held order xs ys) e in
      (same-held xs ys a b p.1).1 (eqb-true (length xs) (length ys) p.0)

  pub count-of-same : (xs ys : List X) → xs ≡ ys → (eqb (length xs) (length ys) && all_held order xs ys) ≡ true
  count-of-same xs ys e = subst (λ zs. (eqb (length xs) (length zs) && all_held order xs zs) ≡ true) e (and_from _ _ (eq-eqb (length xs) (length xs) refl) (held-itself xs))
