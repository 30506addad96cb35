-- Moves made one after the other on an ascending list.
use Rattle.std.proofs.Common.{◌≡◌, ℕ, ◌+◌, ◌<◌, ◌≤◌, Bool, true, false, cond, not, ◌&&◌, ◌||◌, List, [], ◌∷◌, length, get_or, drop, Ordering, sym, refl, ap, ◌∙◌, ⊎_elim, arith}
use Rattle.std.proofs.lemmas.List.{drop_more}
use Rattle.std.proofs.lemmas.Bool.{and_parts, cases_Bool, false≢true, lt-ltb}
use Rattle.std.specs.Ordering.{is_eq}
use Rattle.values.specs.Order.{TotalOrder}
use Rattle.items.specs.Ascending.{ascends, heads, held, kept, placed, without}
use Rattle.items.specs.Items.{add_answer, after_add, item_order}
use Rattle.items.specs.declared.item.Item.{Item}
use Rattle.items.proofs.Ascending.{ascends-placed, equal-equal, greater-less, heads-down, held-above, is-less, length-placed, less-greater}
use Rattle.items.proofs.Kept.{kept-all, kept_same}
use Rattle.items.proofs.Orders.{by_answer, item-total}
use Rattle.rules.specs.Kinds.{ValueKind}
use Rattle.rules.specs.Step.{moved, moved_by, new_set, taken, with_all}
use Rattle.rules.specs.declared.moves.Cause.{Cause}
use Rattle.rules.specs.declared.moves.Cause.TheVariants.{Fired, Lapsed, Asked, Struck}
use Rattle.rules.specs.declared.moves.Move.{Move}
use Rattle.step.specs.Sets.{in_by, out_by, takes_out}

module _ {X : Type 0} where
  pub kept-kept : (p q : X → Bool) (xs : List X) → kept p (kept q xs) ≡ kept (λ x. q x && p x) xs
  kept-kept p q [] = refl
  kept-kept p q (x ∷ xs) =
      let r = kept-kept p q xs in
      ⊎_elim (λ (e : q x ≡ true). rw e (ap (λ l. cond (p x) (x ∷ l) l) r)) (λ (e : q x ≡ false). rw e r) (cases_Bool (q x))

module _ {X : Type 0} {order : X → X → Ordering} (t : TotalOrder order) where
  kept_above : (a : X) (xs : List X) → heads order a xs ≡ true → ascends order xs ≡ true → kept (λ y. not (is_eq (order y a))) xs ≡ xs
  kept_above a [] h u = refl
  kept_above a (y ∷ ys) h u =
      let e = is-less _ h in
      let b = and_parts _ _ u in
      rw (less-greater t a y e) (ap (λ l. y ∷ l) (kept_above a ys (heads-down t a y ys e b.0) b.1))

  -- taking out keeps all others
  pub without-kept : (a : X) (xs : List X) → ascends order xs ≡ true → without order a xs ≡ kept (λ y. not (is_eq (order y a))) xs
  without-kept a [] u = refl
  without-kept a (y ∷ ys) u =
      let b = and_parts _ _ u in
      by_answer (order a y)
      (λ e. rw (e, less-greater t a y e) (ap (λ l. y ∷ l) (sym (kept_above a ys (heads-down t a y ys e b.0) b.1))))
      (λ e. rw (e, equal-equal t a y e) (sym (kept_above a ys (rw (t.same a y e) b.0) b.1)))
      (λ e. rw (e, greater-less t a y e) (ap (λ l. y ∷ l) (without-kept a ys b.1)))

  -- putting in what is held changes nothing
  pub placed-held : (a : X) (xs : List X) → ascends order xs ≡ true → held order a xs ≡ true → placed order a xs ≡ xs
  placed-held a [] u h = absurd (false≢true h)
  placed-held a (y ∷ ys) u h =
      let b = and_parts _ _ u in
      by_answer (order a y)
      (λ e. let f : heads order a (y ∷ ys) ≡ true = rw e in absurd (false≢true (sym (held-above t a (y ∷ ys) f u) ∙ h)))
      (λ e. rw e)
      (λ e. let k = simp e at h in rw e (ap (λ l. y ∷ l) (placed-held a ys b.1 k)))

  pub length-placed-le : (a : X) (xs : List X) → ascends order xs ≡ true → length xs ≤ length (placed order a xs)
  length-placed-le a xs u =
      ⊎_elim
      (λ (h : held order a xs ≡ true). rw (placed-held a xs u h) (omega arith))
      (λ (h : held order a xs ≡ false). let l = length-placed t a xs h in omega arith)
      (cases_Bool (held order a xs))

module _ {V : Type 0} {order : V → V → Ordering} (t : TotalOrder order) where
  -- where there is room, an item that is added is put in
  pub added-placed : (x : Item V) (limit : ℕ) (xs : List (Item V)) → ascends (item_order order) xs ≡ true → length (placed (item_order order) x xs) ≤ limit → after_add order (add_answer order limit x xs) x xs ≡ placed (item_order order) x xs
  added-placed x limit xs u room =
      ⊎_elim
      (λ (h : held (item_order order) x xs ≡ true). rw h (sym (placed-held (item-total t) x xs u h)))
      (λ (h : held (item_order order) x xs ≡ false).
      let l = length-placed (item-total t) x xs h in
      let k = lt-ltb (length xs) limit (omega arith) in
      rw (h, k))
      (cases_Bool (held (item_order order) x xs))

  pub all-within : (xs asks : List (Item V)) → ascends (item_order order) xs ≡ true → length xs ≤ length (with_all (item_order order) xs asks)
  all-within xs [] u = omega arith
  all-within xs (a ∷ asks) u =
      let l = length-placed-le (item-total t) a xs u in
      let m = all-within (placed (item_order order) a xs) asks (ascends-placed (item-total t) a xs u) in
      omega arith

swap-first : (i f l s : Bool) → ((i || f) || (l || s)) ≡ (i || (f || (l || s)))
swap-first true f l s = refl
swap-first false f l s = refl

swap-second : (i f l s : Bool) → (f || ((i || l) || s)) ≡ (i || (f || (l || s)))
swap-second true true l s = refl
swap-second true false l s = refl
swap-second false f l s = refl

swap-third : (i f l s : Bool) → (f || (l || (i || s))) ≡ (i || (f || (l || s)))
swap-third true true l s = refl
swap-third true false true s = refl
swap-third true false false s = refl
swap-third false f l s = refl

module _ {V : Type 0} (K : ValueKind V) where
  -- one move more that may take the item out
  pub taken_more : (m : Move V) (ms : List (Move V)) (x : Item V) → taken K (m ∷ ms) x ≡ ((takes_out m.cause && is_eq (item_order K.order x m.item)) || taken K ms x)
  unfolding taken
  taken_more m ms x = by m.cause refl
    where
      by : (c : Cause) → m.cause ≡ c → (moved_by K Fired (m ∷ ms) x || (moved_by K Lapsed (m ∷ ms) x || moved_by K Struck (m ∷ ms) x)) ≡ ((takes_out m.cause && is_eq (item_order K.order x m.item)) || (moved_by K Fired ms x || (moved_by K Lapsed ms x || moved_by K Struck ms x)))
      by Fired e = rw e (swap-first (is_eq (item_order K.order x m.item)) (moved_by K Fired ms x) (moved_by K Lapsed ms x) (moved_by K Struck ms x))
      by Lapsed e = rw e (swap-second (is_eq (item_order K.order x m.item)) (moved_by K Fired ms x) (moved_by K Lapsed ms x) (moved_by K Struck ms x))
      by Asked e = rw e refl
      by Struck e = rw e (swap-third (is_eq (item_order K.order x m.item)) (moved_by K Fired ms x) (moved_by K Lapsed ms x) (moved_by K Struck ms x))

  not-either : (i b : Bool) → not (i || b) ≡ (not i && not b)
  not-either true b = refl
  not-either false b = refl

  module _ (t : TotalOrder K.order) (m : Move V) (ms : List (Move V)) (xs : List (Item V)) where
    -- what is left after all moves, where the first is made
    pub out_step : ascends (item_order K.order) xs ≡ true → kept (λ x. not (taken K (m ∷ ms) x)) xs ≡ kept (λ x. not (taken K ms x)) (out_by K.order m xs)
    out_step u =
        ⊎_elim
        (λ (o : takes_out m.cause ≡ true).
        kept_same (λ x. not (taken K (m ∷ ms) x)) (λ x. not (is_eq (item_order K.order x m.item)) && not (taken K ms x)) (λ x. ap not (taken_more m ms x ∙ ap (λ b. (b && is_eq (item_order K.order x m.item)) || taken K ms x) o) ∙ not-either (is_eq (item_order K.order x m.item)) (taken K ms x)) xs
        ∙ sym (kept-kept (λ x. not (taken K ms x)) (λ x. not (is_eq (item_order K.order x m.item))) xs)
        ∙ ap (kept (λ x. not (taken K ms x))) (sym (without-kept (item-total t) m.item xs u) ∙ ap (λ b. cond b (without (item_order K.order) m.item xs) xs) (sym o)))
        (λ (o : takes_out m.cause ≡ false).
        kept_same (λ x. not (taken K (m ∷ ms) x)) (λ x. not (taken K ms x)) (λ x. ap not (taken_more m ms x ∙ ap (λ b. (b && is_eq (item_order K.order x m.item)) || taken K ms x) o)) xs
        ∙ ap (kept (λ x. not (taken K ms x))) (ap (λ b. cond b (without (item_order K.order) m.item xs) xs) (sym o)))
        (cases_Bool (takes_out m.cause))

  pub out-end : (xs : List (Item V)) → kept (λ x. not (taken K [] x)) xs ≡ xs
  unfolding taken
  out-end xs = kept-all (λ x. true) (λ x. refl) xs

  -- the set with all that is asked for, where the first ask is made
  pub in_step : (m : Move V) (ms : List (Move V)) (xs : List (Item V)) → with_all (item_order K.order) xs (moved Asked (m ∷ ms)) ≡ with_all (item_order K.order) (in_by K.order m xs) (moved Asked ms)
  in_step m ms xs = by m.cause refl
    where
      by : (c : Cause) → m.cause ≡ c → with_all (item_order K.order) xs (moved Asked (m ∷ ms)) ≡ with_all (item_order K.order) (in_by K.order m xs) (moved Asked ms)
      by Fired e = rw e refl
      by Lapsed e = rw e refl
      by Asked e = rw e refl
      by Struck e = rw e refl

  -- A loop over moves: i are made, and m is next.
  module _ (t : TotalOrder K.order) (ms : List (Move V)) (i : ℕ) (m : Move V) (h : i < length ms) (is : m ≡ get_or ms i m) (xs all : List (Item V)) (u : ascends (item_order K.order) xs ≡ true) where
    split : drop i ms ≡ m ∷ drop (i + 1) ms
    split = drop_more ms i m h ∙ ap (λ y. y ∷ drop (i + 1) ms) (sym is)

    pub out-more : kept (λ x. not (taken K (drop i ms) x)) xs ≡ all → (after : List (Item V)) → after ≡ out_by K.order m xs → kept (λ x. not (taken K (drop (i + 1) ms) x)) after ≡ all
    out-more e after f = ap (kept (λ x. not (taken K (drop (i + 1) ms) x))) f ∙ sym (out_step t m (drop (i + 1) ms) xs u) ∙ ap (λ l. kept (λ x. not (taken K l x)) xs) (sym split) ∙ e

    module _ (e : with_all (item_order K.order) xs (moved Asked (drop i ms)) ≡ all) where
      made : with_all (item_order K.order) (in_by K.order m xs) (moved Asked (drop (i + 1) ms)) ≡ all
      made = sym (in_step m (drop (i + 1) ms) xs) ∙ ap (λ l. with_all (item_order K.order) xs (moved Asked l)) (sym split) ∙ e

      pub in-more : (after : List (Item V)) → after ≡ in_by K.order m xs → with_all (item_order K.order) after (moved Asked (drop (i + 1) ms)) ≡ all
      in-more after f = ap (λ l. with_all (item_order K.order) l (moved Asked (drop (i + 1) ms))) f ∙ made

      ascends-in : ascends (item_order K.order) (in_by K.order m xs) ≡ true
      ascends-in =
          ⊎_elim
          (λ (o : takes_out m.cause ≡ true). rw o u)
          (λ (o : takes_out m.cause ≡ false). rw o (ascends-placed (item-total t) m.item xs u))
          (cases_Bool (takes_out m.cause))

      -- each set on the way is no longer than the last
      pub in-room : (limit : ℕ) → length all ≤ limit → length (in_by K.order m xs) ≤ limit
      in-room limit l = let a = all-within t (in_by K.order m xs) (moved Asked (drop (i + 1) ms)) ascends-in in omega (arith, a, l, ap length made)

  -- the new set is what is left, with all that is asked for
  pub new-set-is : (ms : List (Move V)) (F left : List (Item V)) → left ≡ kept (λ x. not (taken K ms x)) F → with_all (item_order K.order) left (moved Asked ms) ≡ new_set K ms F
  unfolding new_set
  new-set-is ms F left e = ap (λ l. with_all (item_order K.order) l (moved Asked ms)) e
