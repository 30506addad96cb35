-- From moves to a shelf: what leaves is removed one by one, what is asked for is added one by one, and the new set stands.
use Rattle.std.proofs.Common.{◌≡◌, ℕ, ◌<◌, ◌≤◌, Bool, true, false, cond, not, ◌&&◌, ◌||◌, List, [], ◌∷◌, ◌++◌, map, length, Ordering, Less, sym, refl, ap, ◌∙◌, ap₂, append-nil, arith}
use mathlib.Core.List.{map-append}
use Rattle.std.specs.List.{AllByRecursion}
use Rattle.std.proofs.lemmas.Bool.{and_parts, lt-ltb}
use Rattle.std.proofs.ByRecursion.{All-weaker}
use Rattle.values.specs.Order.{TotalOrder}
use Rattle.items.specs.Ascending.{ascends, heads, held, kept, placed, without}
use Rattle.items.specs.Items.{add_answer, after_add, item_order}
use Rattle.items.specs.declared.item.Item.{Item}
use Rattle.items.proofs.Kept.{kept_append}
use Rattle.items.proofs.Ascending.{heads-down, is-less, length-placed, less-greater, equal-equal, greater-less}
use Rattle.items.proofs.Orders.{by_answer, item-total}
use Rattle.rules.specs.Kinds.{ValueKind}
use Rattle.rules.specs.Step.{caused_by, moved, moved_by, taken, with_all}
use Rattle.rules.specs.declared.moves.Cause.{Cause}
use Rattle.rules.specs.declared.moves.Cause.TheVariants.{Fired, Lapsed, Asked, Struck}
use Rattle.rules.specs.declared.moves.Move.{Move}
use Rattle.rules.proofs.Lists.{all-each, kept-alike}
use Rattle.rules.proofs.Sets.{Rising, same}

and-true : (b : Bool) → b ≡ (b && true)
and-true true = refl
and-true false = refl

module _ {X : Type 0} {order : X → X → Ordering} (T : TotalOrder order) where
  all_above : (x : X) (xs : List X) → heads order x xs ≡ true → ascends order xs ≡ true → AllByRecursion (λ y. order x y ≡ Less) xs
  all_above x [] h a = tt
  all_above x (y ∷ ys) h a =
      let l = is-less _ h in
      let b = and_parts _ _ a in
      (l, all_above x ys (heads-down T x y ys l b.0) b.1)

  -- an ascending list rises
  pub ascends-rising : (xs : List X) → ascends order xs ≡ true → Rising order xs
  ascends-rising [] a = tt
  ascends-rising (x ∷ xs) a = let b = and_parts _ _ a in (all_above x xs b.0 b.1, ascends-rising xs b.1)

  unlike : (p : X → Bool) (x : X) (ys : List X) → AllByRecursion (λ z. order x z ≡ Less) ys → kept p ys ≡ kept (λ z. p z && not (same order z x)) ys
  unlike p x ys h =
      kept-alike p (λ z. p z && not (same order z x)) ys
      (All-weaker (λ z. order x z ≡ Less) (λ z. p z ≡ (p z && not (same order z x))) (λ z l. rw (less-greater T x z l) (and-true (p z))) ys h)

  -- taking one more out of what is kept
  pub kept-without : (p : X → Bool) (x : X) (F : List X) → Rising order F
      → without order x (kept p F) ≡ kept (λ z. p z && not (same order z x)) F
  kept-without p x [] r = refl
  kept-without p x (y ∷ ys) r = go (p y) refl (kept-without p x ys r.1)
    where
      go : (b : Bool) → p y ≡ b → without order x (kept p ys) ≡ kept (λ z. p z && not (same order z x)) ys
          → without order x (kept p (y ∷ ys)) ≡ kept (λ z. p z && not (same order z x)) (y ∷ ys)
      go false e ih = rw e ih
      go true e ih =
          by_answer (order x y)
          (λ f.
          let g = less-greater T x y f in
          let l = All-weaker (λ z. order y z ≡ Less) (λ z. order x z ≡ Less) (λ z k. T.carries x y z f k) ys r.0 in
          rw (e, f, g) (ap (λ t. y ∷ t) (unlike p x ys l)))
          (λ f.
          let g = equal-equal T x y f in
          let l = All-weaker (λ z. order y z ≡ Less) (λ z. order x z ≡ Less) (λ z k. ap (λ w. order w z) (T.same x y f) ∙ k) ys r.0 in
          rw (e, f, g) (unlike p x ys l))
          (λ f. let g = greater-less T x y f in rw (e, f, g) (ap (λ t. y ∷ t) ih))

  -- what is there already is put in without a change
  pub placed-held : (x : X) (xs : List X) → held order x xs ≡ true → Rising order xs → placed order x xs ≡ xs
  placed-held x [] h r = let z : ◌≡◌ {A = Bool} false true = h in cc
  placed-held x (y ∷ ys) h r =
      by_answer (order x y)
      (λ f.
      let z = rw (f, held_none x ys (All-weaker (λ w. order y w ≡ Less) (λ w. order x w ≡ Less) (λ w k. T.carries x y w f k) ys r.0)) at h in
      cc)
      (λ f. rw f)
      (λ f. let z = rw f at h in rw f (ap (λ t. y ∷ t) (placed-held x ys z r.1)))
    where
      held_none : (v : X) (vs : List X) → AllByRecursion (λ w. order v w ≡ Less) vs → held order v vs ≡ false
      held_none v [] k = refl
      held_none v (w ∷ ws) k = rw k.0 (held_none v ws k.1)

  pub placed-longer : (x : X) (xs : List X) → length xs ≤ length (placed order x xs)
  placed-longer x [] = omega arith
  placed-longer x (y ∷ ys) =
      let ih = placed-longer x ys in
      by_answer (order x y) (λ f. rw f (omega arith)) (λ f. rw f (omega arith)) (λ f. rw f (omega arith))

  -- all that a list puts in: the last one last, and never fewer
  pub with-more : (xs more : List X) (a : X) → with_all order xs (more ++ a ∷ []) ≡ placed order a (with_all order xs more)
  with-more xs [] a = refl
  with-more xs (b ∷ more) a = with-more (placed order b xs) more a

  pub with-longer : (xs more : List X) → length xs ≤ length (with_all order xs more)
  with-longer xs [] = omega arith
  with-longer xs (b ∷ more) =
      let p = placed-longer b xs in
      let ih = with-longer (placed order b xs) more in
      omega arith

  pub with_append : (xs more later : List X) → with_all order xs (more ++ later) ≡ with_all order (with_all order xs more) later
  with_append xs [] later = refl
  with_append xs (b ∷ more) later = with_append (placed order b xs) more later

-- one more move at the end
module _ {V : Type 0} where
  pub moved_more : (c : Cause) (ms : List (Move V)) (m : Move V)
      → moved c (ms ++ m ∷ []) ≡ moved c ms ++ cond (caused_by c m) (m.item ∷ []) []
  moved_more c ms m =
      ap (map (λ (n : Move V). n.item)) (kept_append (caused_by c) ms (m ∷ []))
      ∙ (map-append (λ (n : Move V). n.item) (kept (caused_by c) ms) (kept (caused_by c) (m ∷ []))
      ∙ ap (λ r. moved c ms ++ r) (last (caused_by c m) refl))
    where
      last : (b : Bool) → caused_by c m ≡ b
          → map (λ (n : Move V). n.item) (kept (caused_by c) (m ∷ [])) ≡ cond (caused_by c m) (m.item ∷ []) []
      last true e = rw e
      last false e = rw e

-- a move by which its item is taken
abbrev pub takes : Cause → Bool
takes Fired = true
takes Lapsed = true
takes Asked = false
takes Struck = true

module _ {V : Type 0} (K : ValueKind V) (T : TotalOrder K.order) where
  held_more : (x : Item V) (xs : List (Item V)) (y : Item V)
      → held (item_order K.order) x (xs ++ y ∷ []) ≡ (held (item_order K.order) x xs || same (item_order K.order) x y)
  held_more x [] y = or-false (same (item_order K.order) x y)
    where
      or-false : (b : Bool) → (b || false) ≡ b
      or-false true = refl
      or-false false = refl
  held_more x (z ∷ xs) y = by (same (item_order K.order) x z) (held_more x xs y)
    where
      by : (b : Bool) → held (item_order K.order) x (xs ++ y ∷ []) ≡ (held (item_order K.order) x xs || same (item_order K.order) x y)
          → (b || held (item_order K.order) x (xs ++ y ∷ [])) ≡ ((b || held (item_order K.order) x xs) || same (item_order K.order) x y)
      by true e = refl
      by false e = e

  moved-by-more : (c : Cause) (ms : List (Move V)) (m : Move V) (x : Item V)
      → moved_by K c (ms ++ m ∷ []) x ≡ (moved_by K c ms x || (caused_by c m && same (item_order K.order) x m.item))
  moved-by-more c ms m x = ap (held (item_order K.order) x) (moved_more c ms m) ∙ go (caused_by c m)
    where
      or-none : (b : Bool) → b ≡ (b || false)
      or-none true = refl
      or-none false = refl

      go : (b : Bool)
          → held (item_order K.order) x (moved c ms ++ cond b (m.item ∷ []) []) ≡ (moved_by K c ms x || (b && same (item_order K.order) x m.item))
      go true = held_more x (moved c ms) m.item
      go false = ap (held (item_order K.order) x) (append-nil (moved c ms)) ∙ or-none (moved_by K c ms x)

  -- an item is taken by the moves so far, or by the last one
  pub taken_more : (ms : List (Move V)) (m : Move V) (x : Item V)
      → taken K (ms ++ m ∷ []) x ≡ (taken K ms x || (takes m.cause && same (item_order K.order) x m.item))
  unfolding taken
  taken_more ms m x =
      ap₂ ◌||◌ (moved-by-more Fired ms m x) (ap₂ ◌||◌ (moved-by-more Lapsed ms m x) (moved-by-more Struck ms m x))
      ∙ go m.cause (moved_by K Fired ms x) (moved_by K Lapsed ms x) (moved_by K Struck ms x) (same (item_order K.order) x m.item)
    where
      is : Cause → Cause → Bool
      is c d = caused_by {V = V} d (record { cause = c; item = x })

      go : (c : Cause) (f l t e : Bool)
          → ((f || (is c Fired && e)) || ((l || (is c Lapsed && e)) || (t || (is c Struck && e)))) ≡ ((f || (l || t)) || (takes c && e))
      go Fired true l t e = refl
      go Fired false true t true = refl
      go Fired false true t false = refl
      go Fired false false true true = refl
      go Fired false false true false = refl
      go Fired false false false true = refl
      go Fired false false false false = refl
      go Lapsed true l t e = refl
      go Lapsed false true t e = refl
      go Lapsed false false true true = refl
      go Lapsed false false true false = refl
      go Lapsed false false false true = refl
      go Lapsed false false false false = refl
      go Asked true l t e = refl
      go Asked false true t e = refl
      go Asked false false true e = refl
      go Asked false false false true = refl
      go Asked false false false false = refl
      go Struck true l t e = refl
      go Struck false true t e = refl
      go Struck false false true e = refl
      go Struck false false false true = refl
      go Struck false false false false = refl

  -- the shelf after one more move: its item is removed if it is taken
  module _ (ms : List (Move V)) (m : Move V) (F : List (Item V)) (a : ascends (item_order K.order) F ≡ true) where
    pub removed-more : takes m.cause ≡ true
        → without (item_order K.order) m.item (kept (λ x. not (taken K ms x)) F) ≡ kept (λ x. not (taken K (ms ++ m ∷ []) x)) F
    removed-more h =
        kept-without (item-total T) (λ x. not (taken K ms x)) m.item F (ascends-rising (item-total T) F a)
        ∙ kept-alike (λ x. not (taken K ms x) && not (same (item_order K.order) x m.item)) (λ x. not (taken K (ms ++ m ∷ []) x)) F (all-each (λ x. (not (taken K ms x) && not (same (item_order K.order) x m.item)) ≡ not (taken K (ms ++ m ∷ []) x)) (λ x. both (taken K ms x) (same (item_order K.order) x m.item) ∙ sym (ap not (taken_more ms m x ∙ ap (λ b. taken K ms x || (b && same (item_order K.order) x m.item)) h))) F)
      where
        both : (b c : Bool) → (not b && not c) ≡ not (b || c)
        both true c = refl
        both false c = refl

    pub removed-none : takes m.cause ≡ false → kept (λ x. not (taken K ms x)) F ≡ kept (λ x. not (taken K (ms ++ m ∷ []) x)) F
    removed-none h =
        kept-alike (λ x. not (taken K ms x)) (λ x. not (taken K (ms ++ m ∷ []) x)) F
        (all-each
        (λ x. not (taken K ms x) ≡ not (taken K (ms ++ m ∷ []) x))
        (λ x.
        ap not
        (same-either (taken K ms x) ∙ sym (taken_more ms m x ∙ ap (λ b. taken K ms x || (b && same (item_order K.order) x m.item)) h)))
        F)
      where
        same-either : (b : Bool) → b ≡ (b || false)
        same-either true = refl
        same-either false = refl

  -- where there is room for the set with the item, `add` puts it in or finds it there
  pub add-places : (l : ℕ) (x : Item V) (xs : List (Item V)) → ascends (item_order K.order) xs ≡ true
      → length (placed (item_order K.order) x xs) ≤ l
      → after_add K.order (add_answer K.order l x xs) x xs ≡ placed (item_order K.order) x xs
  add-places l x xs a room = go (held (item_order K.order) x xs) refl
    where
      go : (b : Bool) → held (item_order K.order) x xs ≡ b
          → after_add K.order (add_answer K.order l x xs) x xs ≡ placed (item_order K.order) x xs
      go true e = rw e (sym (placed-held (item-total T) x xs e (ascends-rising (item-total T) xs a)))
      go false e =
          let n = length-placed (item-total T) x xs e in
          let lt : length xs < l = omega arith in
          rw (e, lt-ltb (length xs) l lt)
