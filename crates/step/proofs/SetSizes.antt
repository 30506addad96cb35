-- The size of the new set, move by move.
use Rattle.std.proofs.Common.{◌≡◌, ℕ, ◌+◌, ◌-◌, ◌<◌, ◌≤◌, Bool, true, false, cond, not, ◌&&◌, ◌||◌, List, [], ◌∷◌, ◌++◌, length, get_or, take, Ordering, sym, refl, ap, ◌∙◌, ⊎_elim, arith}
use Rattle.std.proofs.lemmas.List.{take_more}
use Rattle.std.proofs.lemmas.Bool.{and_from, and_parts, cases_Bool}
use Rattle.std.specs.Ordering.{is_eq}
use Rattle.values.specs.Order.{TotalOrder}
use Rattle.items.specs.Ascending.{ascends, heads, held, kept, placed}
use Rattle.items.specs.Items.{item_order}
use Rattle.items.specs.declared.item.Item.{Item}
use Rattle.items.proofs.Kept.{kept_same}
use Rattle.items.proofs.Ascending.{ascends-placed, heads-down, held-placed, is-less, length-placed, length_without, without-none}
use Rattle.items.proofs.Orders.{by_answer, item-total}
use Rattle.rules.specs.Kinds.{ValueKind}
use Rattle.rules.specs.Step.{caused_by, moved, moved_by, taken, with_all}
use Rattle.rules.specs.declared.moves.Cause.{Cause}
use Rattle.rules.specs.declared.moves.Cause.TheVariants.{Asked}
use Rattle.rules.specs.declared.moves.Move.{Move}
use Rattle.sheets.specs.Words.{some}
use Rattle.step.specs.Sets.{in_by, is_for, out_by, takes_item, takes_out}
use Rattle.step.proofs.SetSteps.{in_step, kept-kept, out-end, out_step, placed-held, taken_more}

or-either : (a b c : Bool) → (a || (b || c)) ≡ (b || (a || c))
or-either true true c = refl
or-either true false c = refl
or-either false b c = refl

or-group : (a b c : Bool) → ((a || b) || c) ≡ (a || (b || c))
or-group true b c = refl
or-group false b c = refl

never : (b : Bool) → (b && false) ≡ false
never true = refl
never false = refl

not-or : (a b : Bool) → not (a || b) ≡ (not a && not b)
not-or true b = refl
not-or false b = refl

pub moved-some : {V : Type 0} (K : ValueKind V) (c : Cause) (ms : List (Move V)) (x : Item V) → some (is_for K.order c x) ms ≡ moved_by K c ms x
moved-some K c [] x = refl
moved-some K c (m ∷ ms) x =
    let r = moved-some K c ms x in
    ⊎_elim
    (λ (e : caused_by c m ≡ true). rw e (ap (λ b. is_eq (item_order K.order x m.item) || b) r))
    (λ (e : caused_by c m ≡ false). rw e r)
    (cases_Bool (caused_by c m))

module _ {X : Type 0} where
  pub some-append : (p : X → Bool) (xs ys : List X) → some p (xs ++ ys) ≡ (some p xs || some p ys)
  some-append p [] ys = refl
  some-append p (x ∷ xs) ys = ap (λ b. p x || b) (some-append p xs ys) ∙ sym (or-group (p x) (some p xs) (some p ys))

module _ {X : Type 0} {order : X → X → Ordering} (t : TotalOrder order) where
  -- what is held of what is kept
  pub held_kept : (p : X → Bool) (x : X) (xs : List X) → held order x (kept p xs) ≡ (held order x xs && p x)
  held_kept p x [] = refl
  held_kept p x (y ∷ ys) =
      let r = held_kept p x ys in
      by_answer (order x y)
      (λ e. ⊎_elim (λ (q : p y ≡ true). rw (q, e) r) (λ (q : p y ≡ false). rw (q, e) r) (cases_Bool (p y)))
      (λ e.
      let s = t.same x y e in
      let k : p x ≡ p y = ap p s in
      ⊎_elim
      (λ (q : p y ≡ true). rw (q, e) (sym (k ∙ q)))
      (λ (q : p y ≡ false). let n = k ∙ q in rw (q, e, n) (r ∙ rw n (never (held order x ys))))
      (cases_Bool (p y)))
      (λ e. ⊎_elim (λ (q : p y ≡ true). rw (q, e) r) (λ (q : p y ≡ false). rw (q, e) r) (cases_Bool (p y)))

  heads-kept : (p : X → Bool) (a : X) (xs : List X) → heads order a xs ≡ true → ascends order xs ≡ true → heads order a (kept p xs) ≡ true
  heads-kept p a [] h u = refl
  heads-kept p a (y ∷ ys) h u =
      let b = and_parts _ _ u in
      ⊎_elim (λ (q : p y ≡ true). rw q h) (λ (q : p y ≡ false). rw q (heads-kept p a ys (heads-down t a y ys (is-less _ h) b.0) b.1)) (cases_Bool (p y))

  pub ascends-kept : (p : X → Bool) (xs : List X) → ascends order xs ≡ true → ascends order (kept p xs) ≡ true
  ascends-kept p [] u = refl
  ascends-kept p (y ∷ ys) u =
      let b = and_parts _ _ u in
      ⊎_elim (λ (q : p y ≡ true). rw q (and_from _ _ (heads-kept p y ys b.0 b.1) (ascends-kept p ys b.1))) (λ (q : p y ≡ false). rw q (ascends-kept p ys b.1)) (cases_Bool (p y))

  pub held_with : (x : X) (xs asks : List X) → held order x (with_all order xs asks) ≡ (held order x asks || held order x xs)
  held_with x xs [] = refl
  held_with x xs (a ∷ asks) =
      held_with x (placed order a xs) asks
      ∙ ap (λ b. held order x asks || b) (held-placed t x a xs)
      ∙ or-either (held order x asks) (is_eq (order x a)) (held order x xs)
      ∙ sym (or-group (is_eq (order x a)) (held order x asks) (held order x xs))

  pub ascends-with : (xs asks : List X) → ascends order xs ≡ true → ascends order (with_all order xs asks) ≡ true
  ascends-with xs [] u = u
  ascends-with xs (a ∷ asks) u = ascends-with (placed order a xs) asks (ascends-placed t a xs u)

module _ {V : Type 0} (K : ValueKind V) where
  pub taken_none : (x : Item V) → false ≡ taken K [] x
  unfolding taken
  taken_none x = refl

  -- taken out by some move
  pub taken-some : (ms : List (Move V)) (x : Item V) → some (takes_item K.order x) ms ≡ taken K ms x
  taken-some [] x = taken_none x
  taken-some (m ∷ ms) x = ap (λ b. takes_item K.order x m || b) (taken-some ms x) ∙ sym (taken_more K m ms x)

  pub taken-append : (ms ns : List (Move V)) (x : Item V) → taken K (ms ++ ns) x ≡ (taken K ms x || taken K ns x)
  taken-append ms ns x =
      sym (taken-some (ms ++ ns) x) ∙ some-append (takes_item K.order x) ms ns
      ∙ ap (λ b. b || some (takes_item K.order x) ns) (taken-some ms x) ∙ ap (λ b. taken K ms x || b) (taken-some ns x)

  -- what is left of a set
  abbrev pub left_by : List (Move V) → List (Item V) → List (Item V)
  left_by ms F = kept (λ x. not (taken K ms x)) F

  module _ (t : TotalOrder K.order) where
    pub held-left : (ms : List (Move V)) (F : List (Item V)) (x : Item V) → held (item_order K.order) x (left_by ms F) ≡ (held (item_order K.order) x F && not (taken K ms x))
    held-left ms F x = held_kept (item-total t) (λ y. not (taken K ms y)) x F

    pub held-there : (ms front : List (Move V)) (F : List (Item V)) (x : Item V) → held (item_order K.order) x (with_all (item_order K.order) (left_by ms F) (moved Asked front)) ≡ (moved_by K Asked front x || held (item_order K.order) x (left_by ms F))
    held-there ms front F x = held_with (item-total t) x (left_by ms F) (moved Asked front)

    -- one move more at the end
    left-append : (front : List (Move V)) (m : Move V) (F : List (Item V)) → ascends (item_order K.order) F ≡ true → left_by (front ++ m ∷ []) F ≡ out_by K.order m (left_by front F)
    left-append front m F u =
        kept_same (λ x. not (taken K (front ++ m ∷ []) x)) (λ x. not (taken K front x) && not (taken K (m ∷ []) x)) (λ x. ap not (taken-append front (m ∷ []) x) ∙ not-or (taken K front x) (taken K (m ∷ []) x)) F
        ∙ sym (kept-kept (λ x. not (taken K (m ∷ []) x)) (λ x. not (taken K front x)) F)
        ∙ out_step K t m [] (left_by front F) (ascends-kept (item-total t) (λ x. not (taken K front x)) F u)
        ∙ out-end K (out_by K.order m (left_by front F))

    pub length-out : (m : Move V) (xs : List (Item V)) → ascends (item_order K.order) xs ≡ true → length (out_by K.order m xs) ≡ cond (takes_out m.cause && held (item_order K.order) m.item xs) (length xs - 1) (length xs)
    length-out m xs u =
        ⊎_elim
        (λ (o : takes_out m.cause ≡ true). ⊎_elim
        (λ (h : held (item_order K.order) m.item xs ≡ true). let l = length_without (item-total t) m.item xs u h in rw (o, h) (omega arith))
        (λ (h : held (item_order K.order) m.item xs ≡ false). rw (o, h) (ap length (without-none (item-total t) m.item xs h)))
        (cases_Bool (held (item_order K.order) m.item xs)))
        (λ (o : takes_out m.cause ≡ false). rw o refl)
        (cases_Bool (takes_out m.cause))

    pub length-in : (m : Move V) (xs : List (Item V)) → ascends (item_order K.order) xs ≡ true → length (in_by K.order m xs) ≡ cond (not (takes_out m.cause) && not (held (item_order K.order) m.item xs)) (length xs + 1) (length xs)
    length-in m xs u =
        ⊎_elim
        (λ (o : takes_out m.cause ≡ true). rw o refl)
        (λ (o : takes_out m.cause ≡ false). ⊎_elim
        (λ (h : held (item_order K.order) m.item xs ≡ true). rw (o, h) (ap length (placed-held (item-total t) m.item xs u h)))
        (λ (h : held (item_order K.order) m.item xs ≡ false). rw (o, h) (length-placed (item-total t) m.item xs h))
        (cases_Bool (held (item_order K.order) m.item xs)))
        (cases_Bool (takes_out m.cause))

    with_append : (front : List (Move V)) (m : Move V) (xs : List (Item V)) → with_all (item_order K.order) xs (moved Asked (front ++ m ∷ [])) ≡ in_by K.order m (with_all (item_order K.order) xs (moved Asked front))
    with_append [] m xs = in_step K m [] xs
    with_append (f ∷ front) m xs = in_step K f (front ++ m ∷ []) xs ∙ with_append front m (in_by K.order f xs) ∙ ap (in_by K.order m) (sym (in_step K f front xs))

    pub ascends-left : (ms : List (Move V)) (F : List (Item V)) → ascends (item_order K.order) F ≡ true → ascends (item_order K.order) (left_by ms F) ≡ true
    ascends-left ms F u = ascends-kept (item-total t) (λ x. not (taken K ms x)) F u

    pub ascends-there : (ms front : List (Move V)) (F : List (Item V)) → ascends (item_order K.order) F ≡ true → ascends (item_order K.order) (with_all (item_order K.order) (left_by ms F) (moved Asked front)) ≡ true
    ascends-there ms front F u = ascends-with (item-total t) (left_by ms F) (moved Asked front) (ascends-left ms F u)

    -- the set of the shelf, or any other in order
    module _ (m : Move V) (xs : List (Item V)) (u : ascends (item_order K.order) xs ≡ true) (n : ℕ) (is : n ≡ length xs) where
      pub left-some : true ≡ (takes_out m.cause && held (item_order K.order) m.item xs) → 1 ≤ n
      left-some e = let l = length_without (item-total t) m.item xs u (and_parts (takes_out m.cause) _ (sym e)).1 in omega arith

      pub left-fewer : true ≡ (takes_out m.cause && held (item_order K.order) m.item xs) → n - 1 ≡ length (out_by K.order m xs)
      left-fewer e = ap (λ k. k - 1) is ∙ sym (length-out m xs u ∙ ap (λ b. cond b (length xs - 1) (length xs)) (sym e))

      pub left-same : false ≡ (takes_out m.cause && held (item_order K.order) m.item xs) → n ≡ length (out_by K.order m xs)
      left-same e = is ∙ sym (length-out m xs u ∙ ap (λ b. cond b (length xs - 1) (length xs)) (sym e))

      pub size-more : true ≡ (not (takes_out m.cause) && not (held (item_order K.order) m.item xs)) → n + 1 ≡ length (in_by K.order m xs)
      size-more e = ap (λ k. k + 1) is ∙ sym (length-in m xs u ∙ ap (λ b. cond b (length xs + 1) (length xs)) (sym e))

      pub size_same : false ≡ (not (takes_out m.cause) && not (held (item_order K.order) m.item xs)) → n ≡ length (in_by K.order m xs)
      size_same e = is ∙ sym (length-in m xs u ∙ ap (λ b. cond b (length xs + 1) (length xs)) (sym e))

    -- A loop over moves: i are made, and m is next.
    module _ (ms : List (Move V)) (i : ℕ) (m : Move V) (h : i < length ms) (is : m ≡ get_or ms i m) (xs : List (Item V)) where
      split : take (i + 1) ms ≡ take i ms ++ m ∷ []
      split = take_more ms i m h ∙ ap (λ y. take i ms ++ y ∷ []) (sym is)

      pub left-next : ascends (item_order K.order) xs ≡ true → out_by K.order m (left_by (take i ms) xs) ≡ left_by (take (i + 1) ms) xs
      left-next u = sym (ap (λ l. left_by l xs) split ∙ left-append (take i ms) m xs u)

      pub with-next : in_by K.order m (with_all (item_order K.order) xs (moved Asked (take i ms))) ≡ with_all (item_order K.order) xs (moved Asked (take (i + 1) ms))
      with-next = sym (ap (λ l. with_all (item_order K.order) xs (moved Asked l)) split ∙ with_append (take i ms) m xs)
