-- What `next` answers, call after call.
use Rattle.std.proofs.Common.{◌≡◌, ℕ, ◌<◌, ◌≤◌, Bool, true, false, eqb, List, [], ◌∷◌, length, Some, None, Option, Ordering, Less, sym, refl, ap, ◌∙◌, subst, ⊎_elim, arith}
use Rattle.std.proofs.lemmas.Bool.{cases_Bool, and_parts, and_from, and_right}
use Rattle.std.specs.Ordering.{is_lt}
use Rattle.values.specs.Order.{TotalOrder}
use Rattle.items.specs.Ascending.{first_of, kept, ascends}
use Rattle.items.specs.Items.{item_order, agrees, is_above, wanted, next_of}
use Rattle.items.specs.declared.item.Item.{Item}
use Rattle.items.proofs.Orders.{item-total}
use Rattle.items.proofs.Ascending.{is-less, less-greater, ascends-tail, heads-down}

pub length-kept : {X : Type 0} (w : X → Bool) (xs : List X) → length (kept w xs) ≤ length xs
length-kept w [] = omega arith
length-kept w (x ∷ xs) =
    let r = length-kept w xs in
    ⊎_elim (λ (e : w x ≡ true). rw e (omega arith)) (λ (e : w x ≡ false). rw e (omega arith)) (cases_Bool (w x))

pub kept-none : {X : Type 0} (w : X → Bool) (xs : List X) → first_of w xs ≡ None → kept w xs ≡ []
kept-none w [] = λ e. refl
kept-none w (x ∷ xs) = ⊎_elim (λ (h : w x ≡ true). rw h (λ e. cc)) (λ (h : w x ≡ false). rw h (kept-none w xs)) (cases_Bool (w x))

module _ {V : Type 0} {order : V → V → Ordering} (t : TotalOrder order) where
  first_above : (w : Item V → Bool) (x : Item V) (xs : List (Item V)) → ascends (item_order order) (x ∷ xs) ≡ true → (y : Item V) → first_of w xs ≡ Some y → item_order order x y ≡ Less
  first_above w x [] a y = λ e. cc
  first_above w x (z ∷ zs) a y =
      let b = and_parts _ _ a in
      let l = is-less _ b.0 in
      ⊎_elim
      (λ (h : w z ≡ true). rw h (λ e. let g : z ≡ y = cc in rw (← g) l))
      (λ (h : w z ≡ false). rw h (first_above w x zs (and_from _ _ (heads-down (item-total t) x z zs l (and_parts _ _ b.1).0) (and_parts _ _ b.1).1) y))
      (cases_Bool (w z))

  not-above : (n : ℕ) (f : Option V) (y z : Item V) → is_lt (item_order order y z) ≡ false → wanted order n f (Some y) z ≡ false
  not-above n f y z e = and_right (eqb z.name n) _ (and_right (agrees order f z.first) _ e)

  still-above : (a : Option (Item V)) (y z : Item V) → is_above order a y ≡ true → item_order order y z ≡ Less → is_above order a z ≡ is_above order (Some y) z
  still-above None y z h e = rw e
  still-above (Some x) y z h e = simp (e, (item-total t).carries x y z (is-less _ h) e)

  above_same : (n : ℕ) (f : Option V) (a : Option (Item V)) (y : Item V) (xs : List (Item V)) → ascends (item_order order) (y ∷ xs) ≡ true → is_above order a y ≡ true → kept (wanted order n f a) xs ≡ kept (wanted order n f (Some y)) xs
  above_same n f a y [] u h = refl
  above_same n f a y (z ∷ zs) u h =
      let b = and_parts _ _ u in
      let l = is-less _ b.0 in
      let e = still-above a y z h l in
      let r = above_same n f a y zs (and_from _ _ (heads-down (item-total t) y z zs l (and_parts _ _ b.1).0) (and_parts _ _ b.1).1) h in
      simp (e, r)

  -- the items still to come, after one that `next` answered
  pub rest_more : (n : ℕ) (f : Option V) (a : Option (Item V)) (xs : List (Item V)) → ascends (item_order order) xs ≡ true → (y : Item V) → next_of order n f a xs ≡ Some y
      → kept (wanted order n f a) xs ≡ y ∷ kept (wanted order n f (Some y)) xs
  rest_more n f a [] u y = λ e. cc
  rest_more n f a (x ∷ xs) u y =
      ⊎_elim
      (λ (h : wanted order n f a x ≡ true). rw h (λ e.
      let g : x ≡ y = cc in
      let i = (and_parts (agrees order f x.first) _ (and_parts (eqb x.name n) _ h).1).1 in
      let o : is_lt (item_order order x x) ≡ false = rw ((item-total t).reflexive x) in
      let k : kept (wanted order n f (Some x)) (x ∷ xs) ≡ kept (wanted order n f (Some x)) xs = simp (not-above n f x x o) in
      subst (λ z. x ∷ kept (wanted order n f a) xs ≡ z ∷ kept (wanted order n f (Some z)) (x ∷ xs)) g (ap (λ l. x ∷ l) (above_same n f a x xs u i ∙ sym k))))
      (λ (h : wanted order n f a x ≡ false). rw h (λ e.
      let l = first_above (wanted order n f a) x xs u y e in
      let o : is_lt (item_order order y x) ≡ false = rw (less-greater (item-total t) x y l) in
      let k : kept (wanted order n f (Some y)) (x ∷ xs) ≡ kept (wanted order n f (Some y)) xs = simp (not-above n f y x o) in
      rest_more n f a xs (ascends-tail (item-total t) x xs u) y e ∙ ap (λ l. y ∷ l) (sym k)))
      (cases_Bool (wanted order n f a x))

  -- there are fewer of them each time
  pub coming-less : (n : ℕ) (f : Option V) (a : Option (Item V)) (xs : List (Item V)) → ascends (item_order order) xs ≡ true → (y : Item V) → Some y ≡ next_of order n f a xs
      → length (kept (wanted order n f (Some y)) xs) < length (kept (wanted order n f a) xs)
  coming-less n f a xs u y e = let k = ap length (rest_more n f a xs u y (sym e)) in omega arith
