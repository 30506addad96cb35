-- Whole runs under a keyed sheet: what a key has depends on its own events alone.
use Rattle.std.proofs.Common.{◌≡◌, ℕ, suc, ◌+◌, ◌<◌, ◌≤◌, Bool, true, false, cond, not, eqb, ltb, List, [], ◌∷◌, ◌++◌, map, get_or, Some, None, Option, Less, sym, refl, ap, ◌∙◌, subst, ap₂, arith}
use mathlib.Core.List.{map-append}
use Rattle.std.specs.List.{AllByRecursion}
use Rattle.std.proofs.lemmas.Bool.{false≢true, lt-ltb, and_parts, or_right, eq-eqb, ne_eqb}
use Rattle.std.proofs.ByRecursion.{All-weaker, All-append}
use Rattle.values.specs.Order.{TotalOrder}
use Rattle.records.specs.declared.event.Event.{Event}
use Rattle.items.specs.Ascending.{kept}
use Rattle.items.specs.Items.{item_order}
use Rattle.items.specs.declared.item.Item.{Item}
use Rattle.items.proofs.Kept.{kept_append}
use Rattle.items.proofs.Orders.{item-total}
use Rattle.sheets.specs.Tables.{SheetModel, state_of, unnamed}
use Rattle.sheets.specs.Words.{some}
use Rattle.sheets.specs.declared.tables.State.{State}
use Rattle.rules.specs.Book.{findings_at, inits_from, init_items}
use Rattle.rules.specs.Keys.{key_of, of_key, has_key}
use Rattle.rules.specs.Kinds.{ValueKind}
use Rattle.rules.specs.Law.{SoundSheet, KeyedSheet, aside, settled, ruled_findings, key_numbers}
use Rattle.rules.specs.Step.{in_set, Found, numbered_as, moves_at, faults_at, set_after}
use Rattle.rules.specs.declared.finding.Finding.{Finding}
use Rattle.rules.proofs.Effect.{IsSet, read_by, ascending-new, after-own, after-other}
use Rattle.rules.proofs.Lists.{kept-all, kept-none, kept-alike, kept-within}
use Rattle.rules.proofs.Sets.{same, same-eq, same_refl, held_kept, equal-sets}
use Rattle.rules.proofs.Slice.{slice-faults}

module _ {V : Type 0} where
  pub aside-numbered : (n : ℕ) (fs : List (Found V)) → map aside (map (numbered_as n) fs) ≡ fs
  aside-numbered n [] = refl
  aside-numbered n (f ∷ fs) = ap (λ r. f ∷ r) (aside-numbered n fs)

module _ {V : Type 0} (K : ValueKind V) (T : TotalOrder K.order) (s : SheetModel V) where
  pub ascending-after : (F : List (Item V)) (e : Event V) → IsSet K F → IsSet K (set_after K s F e)
  unfolding set_after
  ascending-after F e a = ascending-new K T (moves_at K s F e) F a

  pub ascending-settled : (F : List (Item V)) (es : List (Event V)) → IsSet K F → IsSet K (settled K s F es)
  ascending-settled F [] a = a
  ascending-settled F (e ∷ es) a = ascending-settled (set_after K s F e) es (ascending-after F e a)

  pub key-of : (k : V) (e : Event V) → has_key K s k e ≡ true → key_of s e ≡ Some k
  key-of k e h = go (key_of s e) refl
    where
      go : (o : Option V) → key_of s e ≡ o → key_of s e ≡ Some k
      go None f = absurd (false≢true (rw f at h))
      go (Some j) f = f ∙ ap Some (same-eq T j k (rw f at h))

  -- the findings of a key's events, and of all events, without their numbers
  key_found : V → List (Item V) → List (Event V) → List (Found V)
  key_found k F [] = []
  key_found k F (e ∷ es) = cond (has_key K s k e) (faults_at K s F e) [] ++ key_found k (set_after K s F e) es

  all_found : List (Item V) → List (Event V) → List (Found V)
  all_found F [] = []
  all_found F (e ∷ es) = faults_at K s F e ++ all_found (set_after K s F e) es

  -- a key's findings are those with the numbers of its events
  later-numbers : (k : V) (n : ℕ) (es : List (Event V)) → AllByRecursion (λ m. n < m) (key_numbers K s k n es)
  later-numbers k n [] = tt
  later-numbers k n (e ∷ es) =
      go (has_key K s k e) refl
      (All-weaker (λ m. n + 1 < m) (λ m. n < m) (λ m h. omega arith) (key_numbers K s k (n + 1) es) (later-numbers k (n + 1) es))
    where
      go : (b : Bool) → has_key K s k e ≡ b → AllByRecursion (λ m. n < m) (key_numbers K s k (n + 1) es) → AllByRecursion (λ m. n < m) (key_numbers K s k n (e ∷ es))
      go true f ih = rw f (omega arith, ih)
      go false f ih = rw f ih

  numbered-all : (n : ℕ) (fs : List (Found V)) → AllByRecursion (λ (f : Finding V). f.event ≡ n) (map (numbered_as n) fs)
  numbered-all n [] = tt
  numbered-all n (f ∷ fs) = (refl, numbered-all n fs)

  later-findings : (n : ℕ) (F : List (Item V)) (es : List (Event V)) → AllByRecursion (λ (f : Finding V). n < f.event) (ruled_findings K s n F es)
  unfolding findings_at
  later-findings n F [] = tt
  later-findings n F (e ∷ es) =
      All-append (λ (f : Finding V). n < f.event)
      (map (numbered_as (n + 1)) (faults_at K s F e))
      (ruled_findings K s (n + 1) (set_after K s F e) es)
      (All-weaker (λ (f : Finding V). f.event ≡ n + 1) (λ (f : Finding V). n < f.event) (λ f h. omega arith)
      (map (numbered_as (n + 1)) (faults_at K s F e))
      (numbered-all (n + 1) (faults_at K s F e)))
      (All-weaker (λ (f : Finding V). n + 1 < f.event) (λ (f : Finding V). n < f.event) (λ f h. omega arith)
      (ruled_findings K s (n + 1) (set_after K s F e) es)
      (later-findings (n + 1) (set_after K s F e) es))

  none_below : (m : ℕ) (ns : List ℕ) → AllByRecursion (λ i. m < i) ns → some (eqb m) ns ≡ false
  none_below m [] h = refl
  none_below m (i ∷ ns) h = rw (ne_eqb m i (λ e. omega (arith, h.0))) (none_below m ns h.1)

  found-written : (k : V) (n : ℕ) (F : List (Item V)) (es : List (Event V))
      → map aside (kept (λ (f : Finding V). some (eqb f.event) (key_numbers K s k n es)) (ruled_findings K s n F es)) ≡ key_found k F es
  unfolding key_found findings_at
  found-written k n F [] = refl
  found-written k n F (e ∷ es) =
      ap (map aside) (kept_append p now rest)
      ∙ (map-append aside (kept p now) (kept p rest)
      ∙ ap₂ ◌++◌ (here (has_key K s k e) refl)
      (ap (map aside)
      (kept-alike p
      (λ (f : Finding V). some (eqb f.event) (key_numbers K s k (n + 1) es))
      rest
      (All-weaker (λ (f : Finding V). n + 1 < f.event)
      (λ (f : Finding V). p f ≡ some (eqb f.event) (key_numbers K s k (n + 1) es))
      (λ f h. past f h (has_key K s k e) refl) rest
      (later-findings (n + 1) (set_after K s F e) es)))
      ∙ found-written k (n + 1) (set_after K s F e) es))
    where
      p : Finding V → Bool
      p f = some (eqb f.event) (key_numbers K s k n (e ∷ es))

      now : List (Finding V)
      now = map (numbered_as (n + 1)) (faults_at K s F e)

      rest : List (Finding V)
      rest = ruled_findings K s (n + 1) (set_after K s F e) es

      past : (f : Finding V) → n + 1 < f.event → (b : Bool) → has_key K s k e ≡ b
          → some (eqb f.event) (key_numbers K s k n (e ∷ es)) ≡ some (eqb f.event) (key_numbers K s k (n + 1) es)
      past f h true g = rw g (rw (ne_eqb f.event (n + 1) (λ i. omega arith)))
      past f h false g = rw g

      here : (b : Bool) → has_key K s k e ≡ b → map aside (kept p now) ≡ cond (has_key K s k e) (faults_at K s F e) []
      here true g =
          rw g
          (ap (map aside)
          (kept-all p now
          (All-weaker (λ (f : Finding V). f.event ≡ n + 1) (λ (f : Finding V). p f ≡ true)
          (λ f h. rw g (rw (eq-eqb f.event (n + 1) h)))
          now
          (numbered-all (n + 1) (faults_at K s F e))))
          ∙ aside-numbered (n + 1) (faults_at K s F e))
      here false g =
          rw g
          (ap (map aside)
          (kept-none p now
          (All-weaker (λ (f : Finding V). f.event ≡ n + 1) (λ (f : Finding V). p f ≡ false)
          (λ f h.
          rw g
          (subst
          (λ m. some (eqb m) (key_numbers K s k (n + 1) es) ≡ false)
          (sym h)
          (none_below (n + 1) (key_numbers K s k (n + 1) es) (later-numbers k (n + 1) es))))
          now
          (numbered-all (n + 1) (faults_at K s F e)))))

  -- the init items stand in order, and have no parameters in a sound sheet
  named-from : (n : ℕ) (ds : List State) → AllByRecursion (λ (x : Item V). n ≤ x.name) (inits_from K n ds)
  named-from n [] = tt
  named-from n (d ∷ ds) =
      go d.init refl
      (All-weaker (λ (x : Item V). n + 1 ≤ x.name) (λ (x : Item V). n ≤ x.name) (λ x h. omega arith) (inits_from K (n + 1) ds)
      (named-from (n + 1) ds))
    where
      go : (b : Bool) → d.init ≡ b → AllByRecursion (λ (x : Item V). n ≤ x.name) (inits_from K (n + 1) ds)
          → AllByRecursion (λ (x : Item V). n ≤ x.name) (inits_from K n (d ∷ ds))
      go true e ih = rw e (omega arith, ih)
      go false e ih = rw e ih

  ascending-from : (n : ℕ) (ds : List State) → IsSet K (inits_from K n ds)
  ascending-from n [] = tt
  ascending-from n (d ∷ ds) = go d.init refl (ascending-from (n + 1) ds)
    where
      go : (b : Bool) → d.init ≡ b → IsSet K (inits_from K (n + 1) ds) → IsSet K (inits_from K n (d ∷ ds))
      go true e ih =
          rw e (
            All-weaker (λ (x : Item V). n + 1 ≤ x.name)
                (λ x. item_order K.order (record { name = n; first = K.blank; second = K.blank; third = K.blank }) x ≡ Less)
                (λ x h. rw (lt-ltb n x.name (omega arith)))
                (inits_from K (n + 1) ds) (named-from (n + 1) ds),
            ih,
          )
      go false e ih = rw e ih

  pub ascending-inits : IsSet K (init_items K s)
  ascending-inits = ascending-from 0 s.states

  plain-from : (n : ℕ) (ds : List State) → ((i : ℕ) → get_or ds i unnamed ≡ state_of s.states (n + i))
      → AllByRecursion (λ (d : State). d.init ≡ true → d.parameters ≡ 0) ds
      → AllByRecursion (λ (x : Item V). (state_of s.states x.name).parameters ≡ 0) (inits_from K n ds)
  plain-from n [] g h = tt
  plain-from n (d ∷ ds) g h = go d.init refl (plain-from (n + 1) ds (λ i. g (suc i) ∙ ap (state_of s.states) (omega arith)) h.1)
    where
      here : d ≡ state_of s.states n
      here = g 0 ∙ ap (state_of s.states) (omega arith)

      go : (b : Bool) → d.init ≡ b → AllByRecursion (λ (x : Item V). (state_of s.states x.name).parameters ≡ 0) (inits_from K (n + 1) ds)
          → AllByRecursion (λ (x : Item V). (state_of s.states x.name).parameters ≡ 0) (inits_from K n (d ∷ ds))
      go true e ih = rw e (sym (ap (λ (c : State). c.parameters) here) ∙ h.0 e, ih)
      go false e ih = rw e ih

  module _ (sound : SoundSheet s) (keyed : KeyedSheet s) where
    settled-slice : (k : V) (F : List (Item V)) (es : List (Event V)) → IsSet K F
        → kept (read_by K T s k) (settled K s F es) ≡ settled K s (kept (read_by K T s k) F) (kept (has_key K s k) es)
    settled-slice k F [] a = refl
    settled-slice k F (e ∷ es) a = settled-slice k (set_after K s F e) es (ascending-after F e a) ∙ go (has_key K s k e) refl
      where
        go : (b : Bool) → has_key K s k e ≡ b
            → settled K s (kept (read_by K T s k) (set_after K s F e)) (kept (has_key K s k) es)
            ≡ settled K s (kept (read_by K T s k) F) (kept (has_key K s k) (e ∷ es))
        go true f = rw f (ap (λ G. settled K s G (kept (has_key K s k) es)) (after-own K T s sound keyed F a e k (key-of k e f)))
        go false f = rw f (ap (λ G. settled K s G (kept (has_key K s k) es)) (after-other K T s sound keyed F a e k f))

    found-slice : (k : V) (F : List (Item V)) (es : List (Event V)) → IsSet K F
        → key_found k F es ≡ all_found (kept (read_by K T s k) F) (kept (has_key K s k) es)
    unfolding key_found all_found read_by
    found-slice k F [] a = refl
    found-slice k F (e ∷ es) a = go (has_key K s k e) refl (found-slice k (set_after K s F e) es (ascending-after F e a))
      where
        go : (b : Bool) → has_key K s k e ≡ b
            → key_found k (set_after K s F e) es ≡ all_found (kept (read_by K T s k) (set_after K s F e)) (kept (has_key K s k) es)
            → key_found k F (e ∷ es) ≡ all_found (kept (read_by K T s k) F) (kept (has_key K s k) (e ∷ es))
        go true f ih =
            rw f
            (ap₂ ◌++◌
            (slice-faults K T s sound keyed e k (key-of k e f) F)
            (ih ∙ ap (λ G. all_found G (kept (has_key K s k) es)) (after-own K T s sound keyed F a e k (key-of k e f))))
        go false f ih = rw f (ih ∙ ap (λ G. all_found G (kept (has_key K s k) es)) (after-other K T s sound keyed F a e k f))

    -- Two runs from the init items.
    module _ (es es' : List (Event V)) where
      abbrev pub start : List (Item V)
      start = init_items K s

      slices : (k : V) → kept (has_key K s k) es ≡ kept (has_key K s k) es'
          → kept (read_by K T s k) (settled K s start es) ≡ kept (read_by K T s k) (settled K s start es')
      slices k h =
          settled-slice k start es ascending-inits
          ∙ (ap (settled K s (kept (read_by K T s k) start)) h ∙ sym (settled-slice k start es' ascending-inits))

      pub same-items : (k : V) → kept (has_key K s k) es ≡ kept (has_key K s k) es'
          → kept (of_key K s k) (settled K s start es) ≡ kept (of_key K s k) (settled K s start es')
      unfolding read_by
      same-items k h = within es ∙ (ap (kept (of_key K s k)) (slices k h) ∙ sym (within es'))
        where
          reads : (x : Item V) → of_key K s k x ≡ true → read_by K T s k x ≡ true
          reads x e =
              or_right
              (not (ltb 0 (state_of s.states x.name).parameters))
              (same K.order x.first k)
              (and_parts (ltb 0 (state_of s.states x.name).parameters) (same K.order x.first k) e).1

          within : (us : List (Event V))
              → kept (of_key K s k) (settled K s start us) ≡ kept (of_key K s k) (kept (read_by K T s k) (settled K s start us))
          within us = kept-within (of_key K s k) (read_by K T s k) (settled K s start us) reads

      pub same-found : (k : V) → kept (has_key K s k) es ≡ kept (has_key K s k) es'
          → map aside (kept (λ (f : Finding V). some (eqb f.event) (key_numbers K s k 0 es)) (ruled_findings K s 0 start es))
          ≡ map aside (kept (λ (f : Finding V). some (eqb f.event) (key_numbers K s k 0 es')) (ruled_findings K s 0 start es'))
      same-found k h =
          found-written k 0 start es
          ∙ (found-slice k start es ascending-inits
          ∙ (ap (all_found (kept (read_by K T s k) start)) h ∙ (sym (found-slice k start es' ascending-inits) ∙ sym (found-written k 0 start es'))))

      -- a set is decided by what each key reads of it
      pub same_set : ((k : V) → kept (has_key K s k) es ≡ kept (has_key K s k) es') → settled K s start es ≡ settled K s start es'
      unfolding read_by
      same_set h =
          equal-sets (item-total T) (settled K s start es) (settled K s start es')
          (ascending-settled start es ascending-inits)
          (ascending-settled start es' ascending-inits)
          members
        where
          reads : (x : Item V) → read_by K T s x.first x ≡ true
          reads x =
              or_right
              (not (ltb 0 (state_of s.states x.name).parameters))
              (same K.order x.first x.first) (same_refl T x.first)

          seen : (x : Item V) (F : List (Item V)) → in_set K x (kept (read_by K T s x.first) F) ≡ in_set K x F
          seen x F = held_kept (item-total T) (read_by K T s x.first) x F ∙ rw (reads x)

          members : (x : Item V) → in_set K x (settled K s start es) ≡ in_set K x (settled K s start es')
          members x =
              sym (seen x (settled K s start es)) ∙ (ap (in_set K x) (slices x.first (h x.first)) ∙ seen x (settled K s start es'))
