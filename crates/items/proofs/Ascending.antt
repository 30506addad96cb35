-- What holds of ascending lists, over any total order.
use Rattle.std.proofs.Common.{◌≡◌, ℕ, zero, suc, ◌+◌, ◌<◌, ◌≤◌, Bool, true, false, ◌||◌, List, [], ◌∷◌, length, get_or, is_some, None, Ordering, Less, Equal, Greater, sym, refl, ap, ◌∙◌, arith}
use Rattle.std.proofs.lemmas.Bool.{and_parts, and_from, false≢true}
use Rattle.std.specs.List.{insert, remove, slice_get}
use Rattle.std.specs.Ordering.{ordering_reverse, is_eq, is_lt}
use Rattle.values.specs.Order.{TotalOrder}
use Rattle.items.specs.Ascending.{first_of, leading, met, heads, ascends, held, placed, without}
use Rattle.items.proofs.Orders.{by_answer}

pub is-less : (o : Ordering) → is_lt o ≡ true → o ≡ Less
is-less Less e = refl
is-less Equal e = cc
is-less Greater e = cc

pub is-equal : (o : Ordering) → is_eq o ≡ true → o ≡ Equal
is-equal Less e = cc
is-equal Equal e = refl
is-equal Greater e = cc

pub not_equal : (o : Ordering) → (o ≡ Equal → ⊥) → is_eq o ≡ false
not_equal Less n = refl
not_equal Equal n = absurd (n refl)
not_equal Greater n = refl

or-twice : (a b : Bool) → (a || (a || b)) ≡ (a || b)
or-twice true b = refl
or-twice false b = refl

or_swap : (a b c : Bool) → (a || (b || c)) ≡ (b || (a || c))
or_swap true true c = refl
or_swap true false c = refl
or_swap false b c = refl

-- At an element that the probe does not put before, the count of leading ones stops. No order is needed.
pub leading-below : {X : Type 0} (p : X → Ordering) (xs : List X) (k : ℕ) (d : X) → k < length xs → (p (get_or xs k d) ≡ Less → ⊥) → leading p xs ≤ k
leading-below p [] k d h n = omega arith
leading-below p (x ∷ xs) zero d h n = by_answer (p x) (λ e. absurd (n e)) (λ e. rw e (omega arith)) (λ e. rw e (omega arith))
leading-below p (x ∷ xs) (suc k) d h n =
    by_answer (p x) (λ e. let r = leading-below p xs k d (omega arith) n in rw e (omega arith)) (λ e. rw e (omega arith)) (λ e. rw e (omega arith))

-- the leading ones stand before
pub leading-less : {X : Type 0} (p : X → Ordering) (xs : List X) (k : ℕ) (d : X) → k < leading p xs → p (get_or xs k d) ≡ Less
leading-less p [] k d h = absurd (omega arith)
leading-less p (x ∷ xs) zero d h = by_answer (p x) (λ e. e) (λ e. let i = rw e at h in absurd (omega arith)) (λ e. let i = rw e at h in absurd (omega arith))
leading-less p (x ∷ xs) (suc k) d h =
    by_answer (p x) (λ e. let i = rw e at h in leading-less p xs k d (omega arith)) (λ e. let i = rw e at h in absurd (omega arith)) (λ e. let i = rw e at h in absurd (omega arith))

pub leading-within : {X : Type 0} (p : X → Ordering) (xs : List X) → leading p xs ≤ length xs
leading-within p [] = omega arith
leading-within p (x ∷ xs) = let r = leading-within p xs in by_answer (p x) (λ e. rw e (omega arith)) (λ e. rw e (omega arith)) (λ e. rw e (omega arith))

-- tests that agree have the same first
pub first-same : {X : Type 0} (f g : X → Bool) (xs : List X) → ((x : X) → f x ≡ g x) → first_of f xs ≡ first_of g xs
first-same f g [] e = refl
first-same f g (x ∷ xs) e = simp (e x, first-same f g xs e)

module _ {X : Type 0} {order : X → X → Ordering} (t : TotalOrder order) where
  -- less the one way is greater the other way
  pub less-greater : (x y : X) → order x y ≡ Less → order y x ≡ Greater
  less-greater x y e = t.swaps x y ∙ ap ordering_reverse e

  pub greater-less : (x y : X) → order x y ≡ Greater → order y x ≡ Less
  greater-less x y e = t.swaps x y ∙ ap ordering_reverse e

  pub equal-equal : (x y : X) → order x y ≡ Equal → order y x ≡ Equal
  equal-equal x y e = t.swaps x y ∙ ap ordering_reverse e

  pub ascends-tail : (x : X) (xs : List X) → ascends order (x ∷ xs) ≡ true → ascends order xs ≡ true
  ascends-tail x xs a = (and_parts _ _ a).1

  -- what is less than the first element is less than each, and is not held
  pub heads-down : (x y : X) (ys : List X) → order x y ≡ Less → heads order y ys ≡ true → heads order x ys ≡ true
  heads-down x y [] e h = refl
  heads-down x y (z ∷ zs) e h = rw (t.carries x y z e (is-less _ h))

  pub held-above : (x : X) (xs : List X) → heads order x xs ≡ true → ascends order xs ≡ true → held order x xs ≡ false
  held-above x [] h a = refl
  held-above x (y ∷ ys) h a =
      let e = is-less _ h in
      let b = and_parts _ _ a in
      rw e (held-above x ys (heads-down x y ys e b.0) b.1)

  -- a probe that goes up with the order
  pub record Steady (p : X → Ordering) : Type 0 where
    pub down : (x y : X) → order x y ≡ Less → p y ≡ Less → p x ≡ Less
    pub up : (x y : X) → order x y ≡ Less → p x ≡ Greater → p y ≡ Greater

  pub probe-item : (x : X) → Steady (λ y. order y x)
  probe-item x = record {
    down = λ y z e f. t.carries y z x e f;
    up = λ y z e f. less-greater x z (t.carries x y z (greater-less y x f) e);
  }

  -- an element further on is greater than the first
  pub first-least : (x : X) (xs : List X) (k : ℕ) (d : X) → ascends order (x ∷ xs) ≡ true → k < length xs → order x (get_or xs k d) ≡ Less
  first-least x [] k d a h = absurd (omega arith)
  first-least x (y ∷ ys) zero d a h = is-less _ (and_parts _ _ a).0
  first-least x (y ∷ ys) (suc k) d a h =
      let b = and_parts _ _ a in
      t.carries x y (get_or ys k d) (is-less _ b.0) (first-least y ys k d b.1 (omega arith))

  module _ {p : X → Ordering} (s : Steady p) where
    -- at an element that the probe puts before, all up to it lead
    pub leading-above : (xs : List X) (k : ℕ) (d : X) → ascends order xs ≡ true → k < length xs → p (get_or xs k d) ≡ Less → k < leading p xs
    leading-above [] k d a h e = omega arith
    leading-above (x ∷ xs) zero d a h e = rw e (omega arith)
    leading-above (x ∷ xs) (suc k) d a h e =
        let r = leading-above xs k d (ascends-tail x xs a) (omega arith) e in
        let f = s.down x (get_or xs k d) (first-least x xs k d a (omega arith)) e in
        rw f (omega arith)

    pub none-past : (x : X) (xs : List X) → ascends order (x ∷ xs) ≡ true → p x ≡ Greater → first_of (λ y. is_eq (p y)) xs ≡ None
    none-past x [] a e = refl
    none-past x (y ∷ ys) a e =
        let b = and_parts _ _ a in
        let f = s.up x y (is-less _ b.0) e in
        rw f (none-past y ys b.1 f)

    -- what the probe meets first stands right after the leading ones, or nowhere
    pub first-at : (xs : List X) → ascends order xs ≡ true → first_of (λ y. is_eq (p y)) xs ≡ met p (slice_get xs (leading p xs))
    first-at [] a = refl
    first-at (x ∷ xs) a =
        by_answer (p x)
        (λ f. rw f (first-at xs (ascends-tail x xs a)))
        (λ f. simp f)
        (λ f. simp (f, none-past x xs a f))

  -- an element is held where a probe for it meets one
  pub held_first : (x : X) (xs : List X) → held order x xs ≡ is_some (first_of (λ y. is_eq (order y x)) xs)
  held_first x [] = refl
  held_first x (y ∷ ys) =
      by_answer (order y x)
      (λ f. let g = less-greater y x f in rw (f, g) (held_first x ys))
      (λ f. let g = equal-equal y x f in simp (f, g))
      (λ f. let g = greater-less y x f in rw (f, g) (held_first x ys))

  -- putting in, by place
  pub placed_at : (x : X) (xs : List X) → held order x xs ≡ false → placed order x xs ≡ insert xs (leading (λ y. order y x) xs) x
  placed_at x [] n = refl
  placed_at x (y ∷ ys) n =
      by_answer (order y x)
      (λ f. let g = less-greater y x f in let m = simp g at n in rw (f, g) (ap (λ l. y ∷ l) (placed_at x ys m)))
      (λ f. let g = equal-equal y x f in let m = simp g at n in cc)
      (λ f. let g = greater-less y x f in simp (f, g))

  -- taking out, by place
  pub without_at : (x : X) (xs : List X) → ascends order xs ≡ true → held order x xs ≡ true → without order x xs ≡ remove xs (leading (λ y. order y x) xs)
  without_at x [] a n = cc
  without_at x (y ∷ ys) a n =
      by_answer (order y x)
      (λ f. let g = less-greater y x f in let m = simp g at n in rw (f, g) (ap (λ l. y ∷ l) (without_at x ys (ascends-tail y ys a) m)))
      (λ f. let g = equal-equal y x f in simp (f, g))
      (λ f. let g = greater-less y x f in let h : heads order x (y ∷ ys) ≡ true = rw g in let z = held-above x (y ∷ ys) h a in cc)

  pub leading-held : (x : X) (xs : List X) → held order x xs ≡ true → ascends order xs ≡ true → leading (λ y. order y x) xs < length xs
  leading-held x [] n a = absurd (false≢true n)
  leading-held x (y ∷ ys) n a =
      by_answer (order y x)
      (λ f. let g = less-greater y x f in let m = simp g at n in let r = leading-held x ys m (ascends-tail y ys a) in rw f (omega arith))
      (λ f. rw f (omega arith))
      (λ f. rw f (omega arith))

  pub without-none : (x : X) (xs : List X) → held order x xs ≡ false → without order x xs ≡ xs
  without-none x [] n = refl
  without-none x (y ∷ ys) n =
      by_answer (order x y)
      (λ f. rw f)
      (λ f. let m = simp f at n in cc)
      (λ f. let m = simp f at n in rw f (ap (λ l. y ∷ l) (without-none x ys m)))

  -- both keep the list ascending
  heads-placed : (z x : X) (xs : List X) → order z x ≡ Less → heads order z xs ≡ true → heads order z (placed order x xs) ≡ true
  heads-placed z x [] e h = rw e
  heads-placed z x (y ∷ ys) e h = by_answer (order x y) (λ f. simp (f, e)) (λ f. rw f h) (λ f. rw f h)

  pub ascends-placed : (x : X) (xs : List X) → ascends order xs ≡ true → ascends order (placed order x xs) ≡ true
  ascends-placed x [] a = refl
  ascends-placed x (y ∷ ys) a =
      let b = and_parts _ _ a in
      by_answer (order x y)
      (λ f. rw f (and_from (is_lt (order x y)) _ (rw f) a))
      (λ f. rw f a)
      (λ f. rw f (and_from _ _ (heads-placed y x ys (greater-less x y f) b.0) (ascends-placed x ys b.1)))

  heads-without : (z x : X) (xs : List X) → heads order z xs ≡ true → ascends order xs ≡ true → heads order z (without order x xs) ≡ true
  heads-without z x [] h a = refl
  heads-without z x (y ∷ ys) h a = by_answer (order x y) (λ f. rw f h) (λ f. rw f (heads-down z y ys (is-less _ h) (and_parts _ _ a).0)) (λ f. rw f h)

  pub ascends-without : (x : X) (xs : List X) → ascends order xs ≡ true → ascends order (without order x xs) ≡ true
  ascends-without x [] a = refl
  ascends-without x (y ∷ ys) a =
      let b = and_parts _ _ a in
      by_answer (order x y)
      (λ f. rw f a)
      (λ f. rw f b.1)
      (λ f. rw f (and_from _ _ (heads-without y x ys b.0 b.1) (ascends-without x ys b.1)))

  pub length-placed : (x : X) (xs : List X) → held order x xs ≡ false → length (placed order x xs) ≡ length xs + 1
  length-placed x [] n = refl
  length-placed x (y ∷ ys) n =
      by_answer (order x y)
      (λ f. rw f (omega arith))
      (λ f. let m = simp f at n in cc)
      (λ f. let m = simp f at n in let r = length-placed x ys m in rw f (omega arith))

  pub length_without : (x : X) (xs : List X) → ascends order xs ≡ true → held order x xs ≡ true → length (without order x xs) + 1 ≡ length xs
  length_without x [] a n = cc
  length_without x (y ∷ ys) a n =
      by_answer (order x y)
      (λ f. let z = held-above x (y ∷ ys) (rw f) a in cc)
      (λ f. rw f (omega arith))
      (λ f. let m = simp f at n in let r = length_without x ys (ascends-tail y ys a) m in rw f (omega arith))

  -- what is held afterwards
  pub held-placed : (z x : X) (xs : List X) → held order z (placed order x xs) ≡ (is_eq (order z x) || held order z xs)
  held-placed z x [] = refl
  held-placed z x (y ∷ ys) =
      by_answer (order x y)
      (λ f. rw f)
      (λ f. let e = t.same x y f in rw f (rw e (sym (or-twice (is_eq (order z y)) (held order z ys)))))
      (λ f. rw f (ap (λ b. is_eq (order z y) || b) (held-placed z x ys) ∙ or_swap (is_eq (order z y)) (is_eq (order z x)) (held order z ys)))

  pub without_gone : (x : X) (xs : List X) → ascends order xs ≡ true → held order x (without order x xs) ≡ false
  without_gone x [] a = refl
  without_gone x (y ∷ ys) a =
      by_answer (order x y)
      (λ f. let h : heads order x (y ∷ ys) ≡ true = rw f in rw f (held-above x (y ∷ ys) h a))
      (λ f. let b = and_parts _ _ a in rw f (held-above x ys (rw (t.same x y f) b.0) b.1))
      (λ f. simp (f, without_gone x ys (ascends-tail y ys a)))

  pub without-stays : (z x : X) (xs : List X) → (order z x ≡ Equal → ⊥) → held order z (without order x xs) ≡ held order z xs
  without-stays z x [] n = refl
  without-stays z x (y ∷ ys) n =
      by_answer (order x y)
      (λ f. rw f)
      (λ f. let e = t.same x y f in by_answer (order z y) (λ g. simp (f, g)) (λ g. absurd (n (rw e g))) (λ g. simp (f, g)))
      (λ f. rw f (ap (λ b. is_eq (order z y) || b) (without-stays z x ys n)))
