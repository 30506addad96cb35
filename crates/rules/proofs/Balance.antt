-- What comes in with one event, and over a run, is open or went out for one reason.
use Rattle.std.proofs.Common.{◌≡◌, ℕ, ◌+◌, Bool, true, false, cond, not, ◌&&◌, ◌||◌, List, [], ◌∷◌, ◌++◌, length, sym, refl, ap, ◌∙◌, arith}
use Rattle.std.specs.List.{AllByRecursion}
use Rattle.std.proofs.lemmas.Bool.{false≢true}
use Rattle.values.specs.Order.{TotalOrder}
use Rattle.records.specs.declared.event.Event.{Event}
use Rattle.items.specs.Ascending.{kept, placed}
use Rattle.items.specs.Items.{item_order, named}
use Rattle.items.specs.declared.item.Item.{Item}
use Rattle.items.proofs.Ascending.{held-placed}
use Rattle.items.proofs.Orders.{item-total}
use Rattle.sheets.specs.Tables.{SheetModel}
use Rattle.rules.specs.Kinds.{ValueKind}
use Rattle.rules.specs.Law.{settled, count_over}
use Rattle.rules.specs.Step.{in_set, Asks, Repeats, FiredOut, LapsedOut, StruckOut, how_many, with_all, moved, moved_by, gone_by, taken, new_set, gone, repeated, count_added, moves_at, set_after}
use Rattle.rules.specs.declared.moves.Cause.TheVariants.{Fired, Lapsed, Asked, Struck}
use Rattle.rules.specs.declared.moves.Move.{Move}
use Rattle.rules.proofs.Effect.{IsSet, ascending-new, gone-taken}
use Rattle.rules.proofs.Lists.{counting, count-is, all-from-in, kept-none, kept-swap}
use Rattle.rules.proofs.Runs.{ascending-after}
use Rattle.rules.proofs.Sets.{same, same-eq, held_in, held_kept, kept-together, ascending-kept, ascending-placed, count-placed, equal-sets, or_swap}

module _ {X : Type 0} where
  count-split : (p q : X → Bool) (xs : List X) → counting p xs ≡ counting p (kept q xs) + counting p (kept (λ x. not (q x)) xs)
  count-split p q [] = refl
  count-split p q (x ∷ xs) = go (q x) refl (count-split p q xs)
    where
      go : (b : Bool) → q x ≡ b → counting p xs ≡ counting p (kept q xs) + counting p (kept (λ y. not (q y)) xs)
          → counting p (x ∷ xs) ≡ counting p (kept q (x ∷ xs)) + counting p (kept (λ y. not (q y)) (x ∷ xs))
      go true e ih = rw e (omega arith)
      go false e ih = rw e (omega arith)

  -- each counts under the first cause that applies
  count-causes : (p f l t : X → Bool) (xs : List X) → AllByRecursion (λ x. (f x || (l x || t x)) ≡ true) xs
      → counting p xs
      ≡ counting (λ x. p x && f x) xs + counting (λ x. p x && (not (f x) && l x)) xs + counting (λ x. p x && (not (f x) && (not (l x) && t x))) xs
  count-causes p f l t [] h = refl
  count-causes p f l t (x ∷ xs) h = go (p x) (f x) (l x) (t x) h.0 (count-causes p f l t xs h.1)
    where
      A : ℕ
      A = counting (λ y. p y && f y) xs

      B : ℕ
      B = counting (λ y. p y && (not (f y) && l y)) xs

      C : ℕ
      C = counting (λ y. p y && (not (f y) && (not (l y) && t y))) xs

      go : (a b c d : Bool) → (b || (c || d)) ≡ true → counting p xs ≡ A + B + C
          → cond a 1 0 + counting p xs
          ≡ (cond (a && b) 1 0 + A) + (cond (a && (not b && c)) 1 0 + B) + (cond (a && (not b && (not c && d))) 1 0 + C)
      go true true c d e ih = omega arith
      go true false true d e ih = omega arith
      go true false false true e ih = omega arith
      go true false false false e ih = absurd (false≢true e)
      go false b c d e ih = omega arith

count-all : {X : Type 0} (xs : List X) → counting (λ x. true) xs ≡ length xs
count-all [] = refl
count-all (x ∷ xs) = let ih = count-all xs in omega arith

and-swap : (a b : Bool) → (a && b) ≡ (b && a)
and-swap true true = refl
and-swap true false = refl
and-swap false true = refl
and-swap false false = refl

module _ {V : Type 0} (K : ValueKind V) (T : TotalOrder K.order) where
  cmp : TotalOrder (item_order K.order)
  cmp = item-total T

  -- asks that are no repeats come in
  abbrev Fresh : (p : Item V → Bool) (F S seen as' : List (Item V)) → Type 0
  Fresh p F S seen as' =
      counting p
      (with_all (item_order K.order) S (kept (λ x. not (in_set K x F)) as'))
      + counting p (repeated K seen as') ≡ counting p as' + counting p S

  abbrev Seen : (F S seen : List (Item V)) → Type 0
  Seen F S seen = (b : Item V) → in_set K b seen ≡ (in_set K b F || in_set K b S)

  count-append : (p : Item V → Bool) (xs ys : List (Item V)) → counting p (xs ++ ys) ≡ counting p xs + counting p ys
  count-append p [] ys = omega arith
  count-append p (x ∷ xs) ys = let ih = count-append p xs ys in omega arith

  fresh : (p : Item V → Bool) (F S seen as' : List (Item V)) → IsSet K S → Seen F S seen → Fresh p F S seen as'
  fresh p F S seen [] a h = omega arith
  fresh p F S seen (x ∷ more) a h = go (in_set K x F) refl (λ S'. fresh p F S' (x ∷ seen) more)
    where
      go : (b : Bool) → in_set K x F ≡ b → ((S' : List (Item V)) → IsSet K S' → Seen F S' (x ∷ seen) → Fresh p F S' (x ∷ seen) more)
          → Fresh p F S seen (x ∷ more)
      go true e ih =
          let u : in_set K x seen ≡ true = h x ∙ rw e in
          let i = ih S a (λ b. ap (λ t. same (item_order K.order) b x || t) (h b) ∙ known b) in
          rw (e, u) (omega arith)
        where
          known : (b : Item V) → (same (item_order K.order) b x || (in_set K b F || in_set K b S)) ≡ (in_set K b F || in_set K b S)
          known b = at (same (item_order K.order) b x) refl
            where
              at : (c : Bool) → same (item_order K.order) b x ≡ c
                  → (same (item_order K.order) b x || (in_set K b F || in_set K b S)) ≡ (in_set K b F || in_set K b S)
              at true d = rw d (rw (same-eq cmp b x d) (rw e))
              at false d = rw d
      go false e ih =
          let u : in_set K x seen ≡ in_set K x S = h x ∙ rw e in
          let i = ih (placed (item_order K.order) x S) (ascending-placed cmp x S a) (λ b. ap (λ t. same (item_order K.order) b x || t) (h b) ∙ (or_swap (same (item_order K.order) b x) (in_set K b F) (in_set K b S) ∙ ap (λ t. in_set K b F || t) (sym (held-placed cmp b x S)))) in
          let k = count-placed cmp p x S a in
          rw (e, u) (last (in_set K x S) k i)
        where
          last : (c : Bool) → counting p (placed (item_order K.order) x S) + cond c (cond (p x) 1 0) 0 ≡ cond (p x) 1 0 + counting p S
              → Fresh p F (placed (item_order K.order) x S) (x ∷ seen) more
              → counting p (with_all (item_order K.order) (placed (item_order K.order) x S) (kept (λ y. not (in_set K y F)) more)) + counting p (cond c (x ∷ []) [] ++ repeated K (x ∷ seen) more)
              ≡ (cond (p x) 1 0 + counting p more) + counting p S
          last true k i = omega arith
          last false k i = omega arith

  -- One event.
  module _ (ms : List (Move V)) (F : List (Item V)) (a : IsSet K F) where
    N : List (Item V)
    N = new_set K ms F

    both_ways : kept (λ x. in_set K x N) F ≡ kept (λ x. in_set K x F) N
    unfolding N
    both_ways =
        equal-sets cmp (kept (λ x. in_set K x N) F) (kept (λ x. in_set K x F) N)
        (ascending-kept cmp (λ x. in_set K x N) F a)
        (ascending-kept cmp (λ x. in_set K x F) N (ascending-new K T ms F a))
        (λ z. held_kept cmp (λ x. in_set K x N) z F ∙ (and-swap (in_set K z N) (in_set K z F) ∙ sym (held_kept cmp (λ x. in_set K x F) z N)))

    came-in : kept (λ x. not (in_set K x F)) N ≡ with_all (item_order K.order) [] (kept (λ x. not (in_set K x F)) (moved Asked ms))
    unfolding N new_set
    came-in =
        kept-together cmp out (kept stays F) (moved Asked ms) (ascending-kept cmp stays F a)
        ∙ ap
        (λ G. with_all (item_order K.order) G (kept out (moved Asked ms)))
        (kept-swap out stays F ∙ ap (kept stays) (kept-none out F (all-from-in (λ x. out x ≡ false) F (λ x i. rw (held_in cmp x F i)))))
      where
        out : Item V → Bool
        out x = not (in_set K x F)

        stays : Item V → Bool
        stays x = not (taken K ms x)

    -- of those that pass a test: what is asked for and what was there is repeated, gone or there now
    came-and-went : (p : Item V → Bool)
        → counting p (moved Asked ms) + counting p F
        ≡ counting p (repeated K F (moved Asked ms)) + counting p (gone K ms F) + counting p (new_set K ms F)
    unfolding gone N
    came-and-went p =
        let out = count-split p (λ x. in_set K x N) F in
        let inn = count-split p (λ x. in_set K x F) N in
        let stayed = ap (counting p) both_ways in
        let new = ap (counting p) came-in in
        let repeats = fresh p F [] F (moved Asked ms) tt (λ b. sym (or-false (in_set K b F))) in
        omega arith
      where
        or-false : (b : Bool) → (b || false) ≡ b
        or-false true = refl
        or-false false = refl

    -- the size of the new set
    pub new-size : length (moved Asked ms) + length F
        ≡ length (repeated K F (moved Asked ms)) + length (gone K ms F) + length (new_set K ms F)
    new-size =
        let c1 = count-all (moved Asked ms) in
        let c2 = count-all F in
        let c3 = count-all (repeated K F (moved Asked ms)) in
        let c4 = count-all (gone K ms F) in
        let c5 = count-all (new_set K ms F) in
        let all = came-and-went (λ x. true) in
        omega arith

    -- and what it adds to each count of a name
    pub balanced-event : (n : ℕ) → count_added K Asks n ms F + how_many (named n) F
        ≡ count_added K Repeats n ms F + count_added K FiredOut n ms F + count_added K LapsedOut n ms F + count_added K StruckOut n ms F
        + how_many (named n) (new_set K ms F)
    unfolding count_added taken
    balanced-event n =
        let all = came-and-went (named n) in
        let causes = count-causes (named n) (moved_by K Fired ms) (moved_by K Lapsed ms) (moved_by K Struck ms) (gone K ms F) (gone-taken K T ms F) in
        let c1 = count-is (named n) (moved Asked ms) in
        let c2 = count-is (named n) F in
        let c3 = count-is (named n) (repeated K F (moved Asked ms)) in
        let c4 = count-is (λ x. named n x && gone_by K Fired ms x) (gone K ms F) in
        let c5 = count-is (λ x. named n x && gone_by K Lapsed ms x) (gone K ms F) in
        let c6 = count-is (λ x. named n x && gone_by K Struck ms x) (gone K ms F) in
        let c7 = count-is (named n) (new_set K ms F) in
        omega arith

  -- A run.
  module _ (s : SheetModel V) (n : ℕ) where
    pub balanced-run : (F : List (Item V)) (es : List (Event V)) → IsSet K F
        → count_over K s Asks n F es + how_many (named n) F
        ≡ count_over K s Repeats n F es + count_over K s FiredOut n F es + count_over K s LapsedOut n F es + count_over K s StruckOut n F es
        + how_many (named n) (settled K s F es)
    unfolding set_after
    balanced-run F [] a = omega arith
    balanced-run F (e ∷ es) a =
        let now = balanced-event (moves_at K s F e) F a n in
        let later = balanced-run (set_after K s F e) es (ascending-after K T s F e a) in
        omega arith
