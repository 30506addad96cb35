-- What is counted move by move is what an event adds.
use Rattle.std.proofs.Common.{◌≡◌, ℕ, ◌+◌, ◌<◌, Bool, true, false, cond, not, ◌&&◌, ◌||◌, List, [], ◌∷◌, ◌++◌, length, get_or, take, drop, Ordering, sym, refl, ap, ◌∙◌, ⊎_elim, zero-add, arith}
use Rattle.std.proofs.lemmas.List.{drop_more, take_more}
use Rattle.std.proofs.lemmas.Bool.{and_left, and_parts, and_right, cases_Bool, false≢true}
use Rattle.std.specs.Ordering.{is_eq, ordering_reverse}
use Rattle.values.specs.Order.{TotalOrder}
use Rattle.items.specs.Ascending.{ascends, held, kept}
use Rattle.items.specs.Items.{item_order, named}
use Rattle.items.specs.declared.item.Item.{Item}
use Rattle.items.proofs.Ascending.{held-above}
use Rattle.items.proofs.Orders.{by_answer, item-total}
use Rattle.rules.specs.Kinds.{ValueKind}
use Rattle.rules.specs.Step.{Asks, FiredOut, LapsedOut, Repeats, Starts, StruckOut, count_added, gone, how_many, moved, moved_by, new_set, repeated, taken, with_all}
use Rattle.rules.specs.declared.moves.Cause.{Cause}
use Rattle.rules.specs.declared.moves.Cause.TheVariants.{Fired, Lapsed, Asked, Struck}
use Rattle.rules.specs.declared.moves.Move.{Move}
use Rattle.sheets.specs.Words.{some}
use Rattle.step.specs.Counts.{count_from, is_counted, is_gone, part_of}
use Rattle.step.specs.Sets.{is_for, takes_out}
use Rattle.step.specs.declared.part.Part.TheVariants.{Ask, Repeat, Out}
use Rattle.step.proofs.SetSizes.{held-left, held-there, left_by, moved-some, some-append, taken-append, taken_none}
use Rattle.step.proofs.SetSteps.{kept-kept, taken_more}

module _ {X : Type 0} where
  count-cons : (p : X → Bool) (x : X) (xs : List X) → how_many p (x ∷ xs) ≡ cond (p x) 1 0 + how_many p xs
  count-cons p x xs = ⊎_elim (λ (e : p x ≡ true). rw e (omega arith)) (λ (e : p x ≡ false). rw e (omega arith)) (cases_Bool (p x))

  -- counted apart, and added up
  count-apart : (b c a : X → Bool) → ((x : X) → cond (b x) 1 0 ≡ cond (c x) 1 0 + cond (a x) 1 0) → (xs : List X) → how_many b xs ≡ how_many c xs + how_many a xs
  count-apart b c a h [] = refl
  count-apart b c a h (x ∷ xs) =
      let r = count-apart b c a h xs in
      let i = count-cons b x xs in
      let j = count-cons c x xs in
      let k = count-cons a x xs in
      omega (arith, r, i, j, k, h x)

  count_none : (p : X → Bool) → ((x : X) → p x ≡ false) → (xs : List X) → how_many p xs ≡ 0
  count_none p h [] = refl
  count_none p h (x ∷ xs) = rw (h x) (count_none p h xs)

  -- A loop that counts: i are judged, and m is next.
  module _ (test : List X → X → Bool) (ms : List X) (i : ℕ) (m : X) (h : i < length ms) (is : m ≡ get_or ms i m) where
    pub count-more : count_from test (take i ms) (drop i ms) ≡ cond (test (take i ms) m) 1 0 + count_from test (take (i + 1) ms) (drop (i + 1) ms)
    count-more =
        ap (count_from test (take i ms)) (drop_more ms i m h ∙ ap (λ y. y ∷ drop (i + 1) ms) (sym is))
        ∙ ap (λ l. cond (test (take i ms) m) 1 0 + count_from test l (drop (i + 1) ms)) (sym (take_more ms i m h ∙ ap (λ y. take i ms ++ y ∷ []) (sym is)))

module _ {X : Type 0} {order : X → X → Ordering} (t : TotalOrder order) where
  -- an element is counted once, if it is held
  count-one : (a : X) (q : X → Bool) (xs : List X) → ascends order xs ≡ true → how_many (λ x. is_eq (order x a) && q x) xs ≡ cond (held order a xs && q a) 1 0
  count-one a q [] u = refl
  count-one a q (y ∷ ys) u =
      let b = and_parts _ _ u in
      let r = count-one a q ys b.1 in
      by_answer (order a y)
      (λ e. let f = t.swaps a y ∙ ap ordering_reverse e in rw (e, f) r)
      (λ e.
      let f = t.swaps a y ∙ ap ordering_reverse e in
      let s = t.same a y e in
      let n = held-above t y ys b.0 b.1 in
      let z : how_many (λ x. is_eq (order x a) && q x) ys ≡ 0 = r ∙ ap (λ c. cond (c && q a) 1 0) (ap (λ w. held order w ys) s ∙ n) in
      rw (e, f) (once y (kept (λ x. is_eq (order x a) && q x) ys) (q y) (q a) (ap q (sym s)) z))
      (λ e. let f = t.swaps a y ∙ ap ordering_reverse e in rw (e, f) r)
    where
      once : (y : X) (l : List X) (c d : Bool) → c ≡ d → length l ≡ 0 → length (cond c (y ∷ l) l) ≡ cond d 1 0
      once y l true true h z = omega arith
      once y l true false h z = absurd (false≢true (sym h))
      once y l false true h z = absurd (false≢true h)
      once y l false false h z = z

  -- tests that agree on what is held keep the same
  kept-held : (p q : X → Bool) (xs : List X) → ((x : X) → held order x xs ≡ true → p x ≡ q x) → kept p xs ≡ kept q xs
  kept-held p q [] h = refl
  kept-held p q (y ∷ ys) h =
      let r = kept-held p q ys (λ x k. h x (rw k (or-true (is_eq (order x y))))) in
      let e = h y (rw (t.reflexive y)) in
      rw e (ap (λ l. cond (q y) (y ∷ l) l) r)
    where
      or-true : (b : Bool) → (b || true) ≡ true
      or-true true = refl
      or-true false = refl

moved-cons : {V : Type 0} (m : Move V) (ms : List (Move V)) → moved Asked (m ∷ ms) ≡ cond (takes_out m.cause) (moved Asked ms) (m.item ∷ moved Asked ms)
moved-cons m ms = by m.cause refl
  where
    by : (c : Cause) → m.cause ≡ c → moved Asked (m ∷ ms) ≡ cond (takes_out m.cause) (moved Asked ms) (m.item ∷ moved Asked ms)
    by Fired e = rw e refl
    by Lapsed e = rw e refl
    by Asked e = rw e refl
    by Struck e = rw e refl

or-false : (a b : Bool) → (a || b) ≡ ((a || false) || b)
or-false true b = refl
or-false false b = refl

or_turn : (i a b : Bool) → (i || (a || b)) ≡ ((a || (i || false)) || b)
or_turn true true b = refl
or_turn true false b = refl
or_turn false true b = refl
or_turn false false b = refl

and-group : (a b c : Bool) → ((a && b) && c) ≡ (a && (b && c))
and-group true b c = refl
and-group false b c = refl

-- an item is first taken out by a move, or by one behind it, and not by both
apart : (o i f t r : Bool) → ◌≡◌ {A = ℕ} (cond (not f && (((o && i) || t) && r)) 1 0) (cond (o && (i && (not f && r))) 1 0 + cond (not (f || ((o && i) || false)) && (t && r)) 1 0)
apart true true true t r = refl
apart true true false t true = refl
apart true true false t false = refl
apart true false true t r = refl
apart true false false true true = refl
apart true false false true false = refl
apart true false false false r = refl
apart false i true t r = refl
apart false i false true true = refl
apart false i false true false = refl
apart false i false false r = refl

-- of the items that a set had, those are gone that were taken out and not asked for
gone-when : (h a t p f : Bool) → h ≡ true → false ≡ f → (not (a || (h && not t)) && p) ≡ (not f && (t && (not a && p)))
gone-when true true true p false e g = refl
gone-when true true false p false e g = refl
gone-when true false true p false e g = refl
gone-when true false false p false e g = refl
gone-when h a t p true e g = absurd (false≢true g)
gone-when false a t p false e g = absurd (false≢true e)

module _ {V : Type 0} (K : ValueKind V) (n : ℕ) where
  asks-step : (o : Bool) (x : Item V) (xs : List (Item V)) (r : ℕ) → r ≡ how_many (named n) xs → cond (not o && named n x) 1 0 + r ≡ how_many (named n) (cond o xs (x ∷ xs))
  asks-step true x xs r e = zero-add r ∙ e
  asks-step false x xs r e = ap (λ k. cond (named n x) 1 0 + k) e ∙ sym (count-cons (named n) x xs)

  -- asks of the name
  pub count-asks : (all : List (Move V)) (F : List (Item V)) (front ms : List (Move V)) → count_from (is_counted K all F n Ask) front ms ≡ how_many (named n) (moved Asked ms)
  count-asks all F front [] = refl
  count-asks all F front (m ∷ ms) = asks-step (takes_out m.cause) m.item (moved Asked ms) _ (count-asks all F (front ++ m ∷ []) ms) ∙ ap (how_many (named n)) (sym (moved-cons m ms))

  asked-append : (front : List (Move V)) (m : Move V) (x : Item V) → moved_by K Asked (front ++ m ∷ []) x ≡ (moved_by K Asked front x || held (item_order K.order) x (cond (takes_out m.cause) [] (m.item ∷ [])))
  asked-append front m x =
      sym (moved-some K Asked (front ++ m ∷ []) x) ∙ some-append (is_for K.order Asked x) front (m ∷ [])
      ∙ ap (λ b. b || some (is_for K.order Asked x) (m ∷ [])) (moved-some K Asked front x) ∙ ap (λ b. moved_by K Asked front x || b) (moved-some K Asked (m ∷ []) x ∙ ap (held (item_order K.order) x) (moved-cons m []))

  -- what was seen: what the set had, and what moves in front asked for
  abbrev Seen : List (Item V) → List (Move V) → List (Item V) → Type 0
  Seen F front seen = (x : Item V) → held (item_order K.order) x seen ≡ (moved_by K Asked front x || held (item_order K.order) x F)

  seen_step : (o : Bool) (y x : Item V) (seen : List (Item V)) (a h : Bool) → held (item_order K.order) x seen ≡ (a || h) → held (item_order K.order) x (cond o seen (y ∷ seen)) ≡ ((a || held (item_order K.order) x (cond o [] (y ∷ []))) || h)
  seen_step true y x seen a h e = e ∙ or-false a h
  seen_step false y x seen a h e = ap (λ b. is_eq (item_order K.order x y) || b) e ∙ or_turn (is_eq (item_order K.order x y)) a h

  first_counted : (b : Bool) (x : Item V) (l : List (Item V)) → how_many (named n) (cond b (x ∷ []) [] ++ l) ≡ cond (named n x && b) 1 0 + how_many (named n) l
  first_counted true x l = count-cons (named n) x l ∙ ap (λ c. cond c 1 0 + how_many (named n) l) (sym (with-true (named n x)))
    where
      with-true : (b : Bool) → (b && true) ≡ b
      with-true true = refl
      with-true false = refl
  first_counted false x l = sym (ap (λ c. cond c 1 0 + how_many (named n) l) (with-false (named n x)) ∙ zero-add (how_many (named n) l))
    where
      with-false : (b : Bool) → (b && false) ≡ false
      with-false true = refl
      with-false false = refl

  repeats-step : (o : Bool) (x : Item V) (seen xs : List (Item V)) (r : ℕ) (h : Bool) → held (item_order K.order) x seen ≡ h → r ≡ how_many (named n) (repeated K (cond o seen (x ∷ seen)) xs) → cond (not o && (named n x && h)) 1 0 + r ≡ how_many (named n) (repeated K seen (cond o xs (x ∷ xs)))
  repeats-step true x seen xs r h i e = zero-add r ∙ e
  repeats-step false x seen xs r h i e = ap (λ k. cond (named n x && h) 1 0 + k) e ∙ ap (λ b. cond (named n x && b) 1 0 + how_many (named n) (repeated K (x ∷ seen) xs)) (sym i) ∙ sym (first_counted (held (item_order K.order) x seen) x (repeated K (x ∷ seen) xs))

  -- asks of the name whose item was seen
  count-seen : (all : List (Move V)) (F : List (Item V)) (front ms : List (Move V)) (seen : List (Item V)) → Seen F front seen → count_from (is_counted K all F n Repeat) front ms ≡ how_many (named n) (repeated K seen (moved Asked ms))
  count-seen all F front [] seen s = refl
  count-seen all F front (m ∷ ms) seen s =
      repeats-step (takes_out m.cause) m.item seen (moved Asked ms) _ _ (s m.item)
      (count-seen all F (front ++ m ∷ []) ms (cond (takes_out m.cause) seen (m.item ∷ seen))
      (λ x. seen_step (takes_out m.cause) m.item x seen (moved_by K Asked front x) (held (item_order K.order) x F) (s x) ∙ ap (λ b. b || held (item_order K.order) x F) (sym (asked-append front m x))))
      ∙ ap (λ l. how_many (named n) (repeated K seen l)) (sym (moved-cons m ms))

  pub count-repeats : (all : List (Move V)) (F : List (Item V)) → count_from (is_counted K all F n Repeat) [] all ≡ how_many (named n) (repeated K F (moved Asked all))
  count-repeats all F = count-seen all F [] all F (λ x. refl)

module _ {V : Type 0} (K : ValueKind V) (t : TotalOrder K.order) (all : List (Move V)) (F : List (Item V)) (u : ascends (item_order K.order) F ≡ true) (p : Item V → Bool) where
  -- not asked for, and counted
  abbrev counts : Item V → Bool
  counts x = not (moved_by K Asked all x) && p x

  count-if : (o : Bool) (a : Item V) (q : Item V → Bool) → how_many (λ x. o && (is_eq (item_order K.order x a) && q x)) F ≡ cond (o && (held (item_order K.order) a F && q a)) 1 0
  count-if true a q = count-one (item-total t) a q F u
  count-if false a q = count_none (λ x. false) (λ x. refl) F

  count-out : (front ms : List (Move V)) → count_from (is_gone K all F p) front ms ≡ how_many (λ x. not (taken K front x) && (taken K ms x && counts x)) F
  count-out front [] = sym (count_none (λ x. not (taken K front x) && (taken K [] x && counts x)) (λ x. and_right (not (taken K front x)) _ (and_left (taken K [] x) _ (sym (taken_none K x)))) F)
  count-out front (m ∷ ms) =
      let o = takes_out m.cause in
      let q : Item V → Bool = λ x. not (taken K front x) && counts x in
      let d = count-apart (λ x. not (taken K front x) && (taken K (m ∷ ms) x && counts x)) (λ x. o && (is_eq (item_order K.order x m.item) && q x)) (λ x. not (taken K (front ++ m ∷ []) x) && (taken K ms x && counts x))
      (λ x. ap (λ b. cond (not (taken K front x) && (b && counts x)) 1 0) (taken_more K m ms x)
      ∙ apart o (is_eq (item_order K.order x m.item)) (taken K front x) (taken K ms x) (counts x)
      ∙ ap (λ b. cond (o && (is_eq (item_order K.order x m.item) && q x)) 1 0 + cond (not b && (taken K ms x && counts x)) 1 0)
      (sym (taken-append K front (m ∷ []) x ∙ ap (λ b. taken K front x || b) (taken_more K m [] x ∙ ap (λ b. (o && is_eq (item_order K.order x m.item)) || b) (sym (taken_none K x)))))) F in
      let e = count-if o m.item q in
      let g = ap (λ b. cond (o && b) 1 0) (ap (λ b. b && counts m.item) (held-left K t front F m.item) ∙ and-group (held (item_order K.order) m.item F) (not (taken K front m.item)) (counts m.item)) in
      ap (λ k. k + count_from (is_gone K all F p) (front ++ m ∷ []) ms) (g ∙ sym e) ∙ ap (λ k. how_many (λ x. o && (is_eq (item_order K.order x m.item) && q x)) F + k) (count-out (front ++ m ∷ []) ms) ∙ sym d

  gone-is : kept p (gone K all F) ≡ kept (λ x. not (taken K [] x) && (taken K all x && counts x)) F
  unfolding gone new_set
  gone-is =
      kept-kept p (λ x. not (held (item_order K.order) x (with_all (item_order K.order) (left_by K all F) (moved Asked all)))) F
      ∙ kept-held (item-total t) (λ x. not (held (item_order K.order) x (with_all (item_order K.order) (left_by K all F) (moved Asked all))) && p x) (λ x. not (taken K [] x) && (taken K all x && counts x)) F
      (λ x h. ap (λ b. not b && p x) (held-there K t all all F x ∙ ap (λ b. moved_by K Asked all x || b) (held-left K t all F x)) ∙ gone-when (held (item_order K.order) x F) (moved_by K Asked all x) (taken K all x) (p x) (taken K [] x) h (taken_none K x))

  pub count-gone : count_from (is_gone K all F p) [] all ≡ how_many p (gone K all F)
  count-gone = count-out [] all ∙ ap length (sym gone-is)

-- what is counted under each part is what is added
module _ {V : Type 0} (K : ValueKind V) (t : TotalOrder K.order) (n : ℕ) (all : List (Move V)) (F : List (Item V)) (u : ascends (item_order K.order) F ≡ true) where
  pub added-starts : 0 ≡ count_added K Starts n all F
  unfolding count_added
  added-starts = refl

  pub added-asks : count_from (is_counted K all F n Ask) [] all ≡ count_added K Asks n all F
  unfolding count_added
  added-asks = count-asks K n all F [] all

  pub added-repeats : count_from (is_counted K all F n Repeat) [] all ≡ count_added K Repeats n all F
  unfolding count_added
  added-repeats = count-repeats K n all F

  pub added-fired : count_from (is_counted K all F n (Out Fired)) [] all ≡ count_added K FiredOut n all F
  unfolding count_added
  added-fired = count-gone K t all F u (λ x. named n x && part_of K Fired all x)

  pub added-lapsed : count_from (is_counted K all F n (Out Lapsed)) [] all ≡ count_added K LapsedOut n all F
  unfolding count_added
  added-lapsed = count-gone K t all F u (λ x. named n x && part_of K Lapsed all x)

  pub added-struck : count_from (is_counted K all F n (Out Struck)) [] all ≡ count_added K StruckOut n all F
  unfolding count_added
  added-struck = count-gone K t all F u (λ x. named n x && part_of K Struck all x)
