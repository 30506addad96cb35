-- The new set and the counts of one event, seen from one key.
use Rattle.std.proofs.Common.{◌≡◌, ℕ, Bool, true, false, cond, not, ◌&&◌, ◌||◌, ltb, List, [], ◌∷◌, ◌++◌, Some, None, Option, Ordering, sym, refl, ap, ◌∙◌, subst, ap₂, ⊎_elim}
use Rattle.std.specs.List.{AllByRecursion}
use Rattle.std.proofs.lemmas.Bool.{true≢false, false≢true, and_parts, or_cases, or_parts, or_right, not-true}
use Rattle.std.proofs.ByRecursion.{All-weaker}
use Rattle.values.specs.Order.{TotalOrder}
use Rattle.records.specs.declared.event.Event.{Event}
use Rattle.items.specs.Ascending.{held, kept}
use Rattle.items.specs.Items.{item_order, named}
use Rattle.items.specs.declared.item.Item.{Item}
use Rattle.items.proofs.Orders.{item-total}
use Rattle.sheets.specs.Tables.{SheetModel, state_of}
use Rattle.rules.specs.Keys.{key_of, of_key, has_key}
use Rattle.rules.specs.Kinds.{ValueKind}
use Rattle.rules.specs.Law.{SoundSheet, KeyedSheet}
use Rattle.rules.specs.Step.{Count, in_set, Starts, Asks, Repeats, FiredOut, LapsedOut, StruckOut, how_many, with_all, caused_by, moved, moved_by, gone_by, taken, new_set, gone, repeated, count_added, moves_at, set_after}
use Rattle.rules.specs.declared.moves.Cause.{Cause}
use Rattle.rules.specs.declared.moves.Cause.TheVariants.{Fired, Lapsed, Asked, Struck}
use Rattle.rules.specs.declared.moves.Move.{Move}
use Rattle.rules.proofs.Lists.{all-each, all-from-in, kept-alike, kept-all, kept-none, kept-swap, kept-passing, kept-when}
use Rattle.rules.proofs.Sets.{Rising, same, same-eq, held_in, held_kept, held-together, kept-together, ascending-kept, ascending-together}
use Rattle.rules.proofs.Slice.{relevant, OfKey, keyless-moves, slice-moves, slice-key}

-- what holds of all that is moved holds of what is moved for a cause
moved_all : {V : Type 0} (P : Item V → Type 0) (c : Cause) (ms : List (Move V)) → AllByRecursion (λ (m : Move V). P m.item) ms → AllByRecursion P (moved c ms)
moved_all P c [] h = tt
moved_all P c (m ∷ ms) h = go (caused_by c m) refl (moved_all P c ms h.1)
  where
    go : (b : Bool) → caused_by c m ≡ b → AllByRecursion P (moved c ms) → AllByRecursion P (moved c (m ∷ ms))
    go true e ih = rw e (h.0, ih)
    go false e ih = rw e ih

held_all : {X : Type 0} {order : X → X → Ordering} → TotalOrder order → (P : X → Type 0) (x : X) (xs : List X) → AllByRecursion P xs
    → held order x xs ≡ true → P x
held_all T P x [] h e = absurd (false≢true e)
held_all {order = order} T P x (y ∷ ys) h e =
    ⊎_elim
    (λ f. subst P (sym (same-eq T x y f)) h.0)
    (λ f. held_all T P x ys h.1 f)
    (or_cases (same order x y) (held order x ys) e)

-- items in order, each once
abbrev pub IsSet : {V : Type 0} → ValueKind V → List (Item V) → Type 0
IsSet K F = Rising (item_order K.order) F

module _ {V : Type 0} (K : ValueKind V) (T : TotalOrder K.order) where
  cmp : TotalOrder (item_order K.order)
  cmp = item-total T

  pub ascending-new : (ms : List (Move V)) (F : List (Item V)) → IsSet K F → IsSet K (new_set K ms F)
  unfolding new_set
  ascending-new ms F a =
      ascending-together cmp (kept (λ x. not (taken K ms x)) F) (moved Asked ms) (ascending-kept cmp (λ x. not (taken K ms x)) F a)

  -- no moves
  pub new-nothing : (F : List (Item V)) → new_set K [] F ≡ F
  unfolding new_set taken
  new-nothing F = kept-all (λ x. true) F (all-each (λ x. true ≡ true) (λ x. refl) F)

  gone-nothing : (F : List (Item V)) → gone K [] F ≡ []
  unfolding gone
  gone-nothing F =
      rw (new-nothing F)
      (kept-none (λ x. not (in_set K x F)) F (all-from-in (λ x. not (in_set K x F) ≡ false) F (λ x i. rw (held_in cmp x F i))))

  pub counted-nothing : (c : Count) (n : ℕ) (F : List (Item V)) → count_added K c n [] F ≡ 0
  unfolding count_added
  counted-nothing Starts n F = refl
  counted-nothing Asks n F = refl
  counted-nothing Repeats n F = refl
  counted-nothing FiredOut n F = rw (gone-nothing F)
  counted-nothing LapsedOut n F = rw (gone-nothing F)
  counted-nothing StruckOut n F = rw (gone-nothing F)

  -- what is missing was taken out
  pub missing-taken : (ms : List (Move V)) (F : List (Item V)) (x : Item V) → in_set K x F ≡ true → in_set K x (new_set K ms F) ≡ false
      → taken K ms x ≡ true
  unfolding new_set
  missing-taken ms F x i n = go (taken K ms x) refl
    where
      out : in_set K x (kept (λ y. not (taken K ms y)) F) ≡ false
      out =
          (or_parts (in_set K x (moved Asked ms))
          (in_set K x (kept (λ y. not (taken K ms y)) F))
          (sym (held-together cmp x (kept (λ y. not (taken K ms y)) F) (moved Asked ms)) ∙ n)
          ).1

      go : (b : Bool) → taken K ms x ≡ b → taken K ms x ≡ true
      go true e = e
      go false e = absurd (true≢false (sym (held_kept cmp (λ y. not (taken K ms y)) x F ∙ rw (e, i)) ∙ out))

  pub gone-taken : (ms : List (Move V)) (F : List (Item V)) → AllByRecursion (λ x. taken K ms x ≡ true) (gone K ms F)
  unfolding gone
  gone-taken ms F =
      kept-when (λ x. not (in_set K x (new_set K ms F))) (λ x. taken K ms x ≡ true) F
      (all-from-in
      (λ x. not (in_set K x (new_set K ms F)) ≡ true → taken K ms x ≡ true)
      F
      (λ x i h. missing-taken ms F x (held_in cmp x F i) (not-true (in_set K x (new_set K ms F)) h)))

  -- what is asked again, from sets that agree on what is asked
  repeated-alike : (P : Item V → Type 0) (F G as' : List (Item V)) → ((a : Item V) → P a → in_set K a F ≡ in_set K a G) → AllByRecursion P as'
      → repeated K F as' ≡ repeated K G as'
  repeated-alike P F G [] h p = refl
  repeated-alike P F G (a ∷ more) h p =
      rw (h a p.0)
      (ap
      (λ r. cond (in_set K a G) (a ∷ []) [] ++ r)
      (repeated-alike P (a ∷ F) (a ∷ G) more (λ b q. ap (λ r. same (item_order K.order) b a || r) (h b q)) p.1))

  module _ (s : SheetModel V) where
    -- an event of a key reads the item
    unfoldable pub read_by : V → Item V → Bool
    read_by = relevant K T s

    subjects : (k : V) (c : Cause) (ms : List (Move V)) → AllByRecursion (OfKey K T s k) ms → AllByRecursion (λ x. of_key K s k x ≡ true) (moved c ms)
    subjects k c ms h = moved_all (λ x. of_key K s k x ≡ true) c ms h

    key-read : (k : V) (x : Item V) → of_key K s k x ≡ true → read_by k x ≡ true
    unfolding read_by
    key-read k x h =
        or_right
        (not (ltb 0 (state_of s.states x.name).parameters))
        (same K.order x.first k)
        (and_parts (ltb 0 (state_of s.states x.name).parameters) (same K.order x.first k) h).1

    -- another key's items are not read
    key-unread : (k j : V) (x : Item V) → same K.order j k ≡ false → of_key K s j x ≡ true → read_by k x ≡ false
    unfolding read_by
    key-unread k j x n h =
        let p = and_parts (ltb 0 (state_of s.states x.name).parameters) (same K.order x.first j) h in
        rw p.0 (rw (same-eq T x.first j p.1) n)

    taken-key : (k : V) (ms : List (Move V)) → AllByRecursion (OfKey K T s k) ms → (x : Item V) → taken K ms x ≡ true → of_key K s k x ≡ true
    unfolding taken
    taken-key k ms h x e =
        ⊎_elim (own Fired)
        (λ f. ⊎_elim (own Lapsed) (own Struck) (or_cases (moved_by K Lapsed ms x) (moved_by K Struck ms x) f))
        (or_cases (moved_by K Fired ms x) (moved_by K Lapsed ms x || moved_by K Struck ms x) e)
      where
        own : (c : Cause) → moved_by K c ms x ≡ true → of_key K s k x ≡ true
        own c g = held_all cmp (λ y. of_key K s k y ≡ true) x (moved c ms) (subjects k c ms h) g

    module _ (ms : List (Move V)) (F : List (Item V)) (a : IsSet K F) where
      kept_new : (k : V)
          → kept (read_by k) (new_set K ms F)
          ≡ with_all (item_order K.order) (kept (λ x. not (taken K ms x)) (kept (read_by k) F)) (kept (read_by k) (moved Asked ms))
      unfolding new_set
      kept_new k =
          kept-together cmp (read_by k) (kept (λ x. not (taken K ms x)) F) (moved Asked ms)
          (ascending-kept cmp (λ x. not (taken K ms x)) F a)
          ∙ ap (λ G. with_all (item_order K.order) G (kept (read_by k) (moved Asked ms))) (kept-swap (read_by k) (λ x. not (taken K ms x)) F)

      -- moves of key k, seen from k
      new-own : (k : V) → AllByRecursion (OfKey K T s k) ms → kept (read_by k) (new_set K ms F) ≡ new_set K ms (kept (read_by k) F)
      unfolding new_set
      new-own k h =
          kept_new k
          ∙ ap
          (with_all (item_order K.order) (kept (λ x. not (taken K ms x)) (kept (read_by k) F)))
          (kept-all (read_by k) (moved Asked ms)
          (All-weaker (λ x. of_key K s k x ≡ true) (λ x. read_by k x ≡ true) (key-read k) (moved Asked ms) (subjects k Asked ms h)))

      -- and from another key
      new-other : (k j : V) → same K.order j k ≡ false → AllByRecursion (OfKey K T s j) ms → kept (read_by k) (new_set K ms F) ≡ kept (read_by k) F
      new-other k j n h =
          kept_new k
          ∙ ap₂ (with_all (item_order K.order))
          (kept-all (λ x. not (taken K ms x)) (kept (read_by k) F)
          (All-weaker (λ x. read_by k x ≡ true) (λ x. not (taken K ms x) ≡ true) stays (kept (read_by k) F) (kept-passing (read_by k) F)))
          (kept-none (read_by k) (moved Asked ms)
          (All-weaker (λ x. of_key K s j x ≡ true) (λ x. read_by k x ≡ false) (λ x. key-unread k j x n) (moved Asked ms)
          (subjects j Asked ms h)))
        where
          stays : (x : Item V) → read_by k x ≡ true → not (taken K ms x) ≡ true
          stays x r = at (taken K ms x) refl
            where
              at : (b : Bool) → taken K ms x ≡ b → not (taken K ms x) ≡ true
              at true e = absurd (true≢false (sym r ∙ key-unread k j x n (taken-key j ms h x e)))
              at false e = rw e

      gone-own : (k : V) → AllByRecursion (OfKey K T s k) ms → gone K ms F ≡ gone K ms (kept (read_by k) F)
      unfolding gone
      gone-own k h =
          sym (kept-all (read_by k) (kept out F) reads)
          ∙ (kept-swap (read_by k) out F
          ∙ kept-alike out
          (λ x. not (in_set K x (new_set K ms (kept (read_by k) F))))
          (kept (read_by k) F)
          (All-weaker (λ x. read_by k x ≡ true)
          (λ x. out x ≡ not (in_set K x (new_set K ms (kept (read_by k) F))))
          same_out (kept (read_by k) F) (kept-passing (read_by k) F)))
        where
          out : Item V → Bool
          out x = not (in_set K x (new_set K ms F))

          reads : AllByRecursion (λ x. read_by k x ≡ true) (kept out F)
          reads =
              All-weaker (λ x. taken K ms x ≡ true) (λ x. read_by k x ≡ true)
              (λ x e. key-read k x (taken-key k ms h x e))
              (kept out F) (gone-taken ms F)

          same_out : (x : Item V) → read_by k x ≡ true → out x ≡ not (in_set K x (new_set K ms (kept (read_by k) F)))
          same_out x r = ap not (sym (ap (in_set K x) (sym (new-own k h)) ∙ (held_kept cmp (read_by k) x (new_set K ms F) ∙ rw r)))

      -- every count of moves of key k, seen from k
      counted-own : (k : V) → AllByRecursion (OfKey K T s k) ms → (c : Count) (n : ℕ) → count_added K c n ms F ≡ count_added K c n ms (kept (read_by k) F)
      unfolding count_added
      counted-own k h Starts n = refl
      counted-own k h Asks n = refl
      counted-own k h Repeats n =
          ap (how_many (named n))
          (repeated-alike (λ x. read_by k x ≡ true) F (kept (read_by k) F) (moved Asked ms)
          (λ x r. sym (held_kept cmp (read_by k) x F ∙ rw r))
          (All-weaker (λ x. of_key K s k x ≡ true) (λ x. read_by k x ≡ true) (key-read k) (moved Asked ms) (subjects k Asked ms h)))
      counted-own k h FiredOut n = ap (how_many (λ x. named n x && gone_by K Fired ms x)) (gone-own k h)
      counted-own k h LapsedOut n = ap (how_many (λ x. named n x && gone_by K Lapsed ms x)) (gone-own k h)
      counted-own k h StruckOut n =
          ap
          (how_many (λ x. named n x && gone_by K Struck ms x))
          (gone-own k h)

    -- One event under a keyed sheet.
    module _ (sound : SoundSheet s) (keyed : KeyedSheet s) (F : List (Item V)) (a : IsSet K F) (e : Event V) where
      pub after-own : (k : V) → key_of s e ≡ Some k → kept (read_by k) (set_after K s F e) ≡ set_after K s (kept (read_by k) F) e
      unfolding set_after read_by
      after-own k h =
          new-own (moves_at K s F e) F a k (slice-key K T s sound keyed e k h F)
          ∙ ap (λ ms. new_set K ms (kept (read_by k) F)) (slice-moves K T s sound keyed e k h F)

      pub after-other : (k : V) → has_key K s k e ≡ false → kept (read_by k) (set_after K s F e) ≡ kept (read_by k) F
      unfolding set_after
      after-other k h = go (key_of s e) refl
        where
          go : (o : Option V) → key_of s e ≡ o → kept (read_by k) (new_set K (moves_at K s F e) F) ≡ kept (read_by k) F
          go None f = ap (kept (read_by k)) (ap (λ ms. new_set K ms F) (keyless-moves K T s sound keyed e f F) ∙ new-nothing F)
          go (Some j) f = new-other (moves_at K s F e) F a k j (rw f at h) (slice-key K T s sound keyed e j f F)

      pub counts-own : (k : V) → key_of s e ≡ Some k → (c : Count) (n : ℕ)
          → count_added K c n (moves_at K s F e) F ≡ count_added K c n (moves_at K s (kept (read_by k) F) e) (kept (read_by k) F)
      unfolding read_by
      counts-own k h c n =
          counted-own (moves_at K s F e) F a k (slice-key K T s sound keyed e k h F) c n
          ∙ ap (λ ms. count_added K c n ms (kept (read_by k) F)) (slice-moves K T s sound keyed e k h F)

      pub counts-keyless : key_of s e ≡ None → (c : Count) (n : ℕ) → count_added K c n (moves_at K s F e) F ≡ 0
      counts-keyless h c n = ap (λ ms. count_added K c n ms F) (keyless-moves K T s sound keyed e h F) ∙ counted-nothing c n F
