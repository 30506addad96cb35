-- The law stands.
use Rattle.std.proofs.Common.{◌≡◌, ℕ, ◌+◌, ◌<◌, Bool, true, false, cond, not, ◌&&◌, ◌||◌, eqb, List, [], ◌∷◌, ◌++◌, map, length, sym, refl, ap, ◌∙◌, subst, ap₂, ⊎_elim, arith}
use Rattle.std.proofs.lemmas.Bool.{false≢true, and_parts, or_cases, or_left, or_right}
use Rattle.std.specs.Ordering.{is_eq}
use Rattle.values.specs.Order.{TotalOrder}
use Rattle.records.specs.declared.event.Event.{Event}
use Rattle.items.specs.Ascending.{kept}
use Rattle.items.specs.Items.{item_order, named}
use Rattle.items.specs.declared.item.Item.{Item}
use Rattle.items.proofs.Orders.{item-total}
use Rattle.sheets.specs.Tables.{SheetModel}
use Rattle.sheets.specs.Words.{some}
use Rattle.rules.specs.Book.{BookModel, Alike, Turn, call_of, init_items, is_hot, started_by, closings, made_book}
use Rattle.rules.specs.Keys.{of_key}
use Rattle.rules.specs.Kinds.{ValueKind}
use Rattle.rules.specs.Law.{SoundSheet, KeyedSheet, aside, is_opened, is_ended, accepted_events, put_findings, end_findings, findings_written, calls_of, Use, made, called, settled, ruled_findings, key_numbers, count_over, key_items, key_findings, key_closing, ruled_book, Answered, ruled_written, asked_over, Membership, Point, HasOpened, SameCalls, SameCourse, SameEvents, Exact, SameKey, SameBook, Balanced, Accounted, Law}
use Rattle.rules.specs.Step.{Count, in_set, Starts, Asks, Repeats, FiredOut, LapsedOut, StruckOut, Found, how_many, moved, moved_by, taken, new_set, count_added, moves_at, set_after}
use Rattle.rules.specs.declared.fault.Fault.TheVariants.{HotAtClose}
use Rattle.rules.specs.declared.finding.Finding.{Finding}
use Rattle.rules.specs.declared.moves.Cause.TheVariants.{Asked}
use Rattle.rules.specs.declared.moves.Move.{Move}
use Rattle.rules.proofs.Balance.{balanced-run}
use Rattle.rules.proofs.Exact.{Running, Standing, in_order, standing, reply, replied, as-replied, reply-alike}
use Rattle.rules.proofs.Runs.{ascending-settled, ascending-inits, same-items, same-found, same_set}
use Rattle.rules.proofs.Sets.{held_kept, held-together, rising-ascends}
use Rattle.rules.proofs.Totals.{same-totals}

-- an item stands after an event if it is asked for, or was there and is not taken out
and-swap : (a b : Bool) → (a && b) ≡ (b && a)
and-swap true true = refl
and-swap true false = refl
and-swap false true = refl
and-swap false false = refl

held-append : {V : Type 0} (K : ValueKind V) (x : Item V) (xs ys : List (Item V)) → in_set K x (xs ++ ys) ≡ (in_set K x xs || in_set K x ys)
held-append K x [] ys = refl
held-append K x (y ∷ xs) ys = by (is_eq (item_order K.order x y)) (held-append K x xs ys)
  where
    by : (b : Bool) → in_set K x (xs ++ ys) ≡ (in_set K x xs || in_set K x ys)
        → (b || in_set K x (xs ++ ys)) ≡ ((b || in_set K x xs) || in_set K x ys)
    by true e = refl
    by false e = e

module _ {V : Type 0} (K : ValueKind V) (T : TotalOrder K.order) (s : SheetModel V) where
  member : (F : List (Item V)) (e : Event V) (x : Item V) → Membership K s F e x
  unfolding set_after new_set taken
  member F e x =
      held-together (item-total T) x _ (moved Asked ms)
      ∙ ap (λ b. moved_by K Asked ms x || b) (held_kept (item-total T) (λ y. not (taken K ms y)) x F ∙ and-swap (not (taken K ms x)) (in_set K x F))
    where
      ms : List (Move V)
      ms = moves_at K s F e

  -- what stands after some events stood before them or was asked for
  came-run : (G : List (Item V)) (es : List (Event V)) (x : Item V) → in_set K x (settled K s G es) ≡ true
      → (in_set K x G || in_set K x (asked_over K s G es)) ≡ true
  came-run G [] x h = or_left _ false h
  came-run G (e ∷ es) x h = ⊎_elim at_once later (or_cases (in_set K x (set_after K s G e)) _ (came-run (set_after K s G e) es x h))
    where
      now : List (Item V)
      now = moved Asked (moves_at K s G e)

      rest : List (Item V)
      rest = asked_over K s (set_after K s G e) es

      among : (in_set K x now || in_set K x rest) ≡ true → (in_set K x G || in_set K x (now ++ rest)) ≡ true
      among f = or_right (in_set K x G) _ (held-append K x now rest ∙ f)

      later : in_set K x rest ≡ true → (in_set K x G || in_set K x (now ++ rest)) ≡ true
      later f = among (or_right (in_set K x now) _ f)

      at_once : in_set K x (set_after K s G e) ≡ true → (in_set K x G || in_set K x (now ++ rest)) ≡ true
      at_once f =
          ⊎_elim
          (λ g. among (or_left (in_set K x now) (in_set K x rest) g))
          (λ g. or_left (in_set K x G) (in_set K x (now ++ rest)) (and_parts (in_set K x G) _ g).0)
          (or_cases (in_set K x now) _ (sym (member G e x) ∙ f))

module _ {V : Type 0} (K : ValueKind V) (T : TotalOrder K.order) (s : SheetModel V) {B : Type 0} (view : B → BookModel V) where
  abbrev begin : List (Item V)
  begin = init_items K s

  -- one use
  module _ (p : Point K s view) where
    abbrev F : List (Item V)
    F = p.before

    abbrev limit : ℕ
    limit = p.limit

    abbrev h : List (Turn V)
    h = p.history

    abbrev b : BookModel V
    b = view p.book

    running : is_opened h ≡ true → Running K s limit (is_ended h) (accepted_events K h) (put_findings h) (end_findings h) b
    running e =
        subst
        (λ o. Standing K s F limit o (is_ended h) (accepted_events K h) (put_findings h) (end_findings h) b)
        e
        (standing K s F limit view h p.book p.used)

    unopened : is_opened h ≡ false
        → (is_ended h ≡ false) × (accepted_events K h ≡ []) × (put_findings h ≡ []) × (end_findings h ≡ []) × Alike b (made_book F limit)
    unopened e =
        subst
        (λ o. Standing K s F limit o (is_ended h) (accepted_events K h) (put_findings h) (end_findings h) b)
        e
        (standing K s F limit view h p.book p.used)

    alike : Alike b (ruled_book K s F limit h)
    alike = go (is_opened h) refl
      where
        go : (o : Bool) → is_opened h ≡ o → Alike b (ruled_book K s F limit h)
        go true e =
            let r = running e in
            record {
              phase = rw e r.phase;
              accepted = r.accepted;
              items = rw e r.items;
              limit = r.limit;
              counts = λ c n l. rw e (r.counts c n l);
            }
        go false e =
            let r = unopened e in
            record {
              phase = rw (e, r.0) r.4.phase;
              accepted = rw r.1 r.4.accepted;
              items = rw e r.4.items;
              limit = r.4.limit;
              counts = λ c n l. rw e (r.4.counts c n l);
            }

    writes : findings_written h ≡ ruled_written K s F limit h
    writes = in_order K s F limit view h p.book p.used ∙ rw (sym alike.items) (go (is_opened h) refl)
      where
        go : (o : Bool) → is_opened h ≡ o
            → put_findings h ++ end_findings h
            ≡ ruled_findings K s 0 begin (accepted_events K h) ++ cond (is_ended h) (closings s (length (accepted_events K h)) b.items) []
        go true e = let r = running e in ap₂ ◌++◌ r.findings r.closing
        go false e = let r = unopened e in rw (r.0, r.1, r.2, r.3) refl

    no-starts : (n : ℕ) (G : List (Item V)) (es : List (Event V)) → count_over K s Starts n G es ≡ 0
    unfolding count_added
    no-starts n G [] = refl
    no-starts n G (e ∷ es) = let ih = no-starts n (set_after K s G e) es in omega arith

    balanced : is_opened h ≡ true → Balanced K s p
    balanced e n l =
        let r = running e in
        let run = balanced-run K T s n begin (accepted_events K h) (ascending-inits K T s) in
        let c1 = r.counts Starts n l in
        let c2 = r.counts Asks n l in
        let c3 = r.counts Repeats n l in
        let c4 = r.counts FiredOut n l in
        let c5 = r.counts LapsedOut n l in
        let c6 = r.counts StruckOut n l in
        let z = no-starts n begin (accepted_events K h) in
        let k = ap (how_many (named n)) r.items in
        omega arith

    accounted : is_opened h ≡ true → Accounted K s p
    accounted e =
        let r = running e in
        record {
          once =
              rw r.items
              (rising-ascends (item_order K.order) (settled K s begin (accepted_events K h))
              (ascending-settled K T s begin (accepted_events K h) (ascending-inits K T s)));
          came = λ x i. came-run K T s begin (accepted_events K h) x (rw r.items at i);
          members = λ es d later f x. member K T s (settled K s begin es) d x;
        }

  answered : (F : List (Item V)) (limit : ℕ) (h : List (Turn V)) (b : B) → Use K s view F limit h b → Answered K s F limit h
  answered F limit h b (made a) = tt
  answered F limit h b (called {h = g} {b = d} u t e) = (
    as-replied K s (ruled_book K s F limit g) t
        (replied K s (view d) t e.replied
        ∙ reply-alike K s (view d) (ruled_book K s F limit g)
        (alike (record { before = F; limit = limit; history = g; book = d; used = u }))
        (call_of t)),
    answered F limit g d u,
  )

  exact : (p : Point K s view) → Exact K s p
  exact p = record { book = alike p; answers = answered p.before p.limit p.history p.book p.used; writes = writes p }

module _ {V : Type 0} (K : ValueKind V) (T : TotalOrder K.order) (s : SheetModel V) where
  -- closing findings of a key, from its open items
  closing-key : (k : V) (n : ℕ) (G : List (Item V))
      → map aside (kept (λ (f : Finding V). of_key K s k f.item) (closings s n G))
      ≡ map (λ (x : Item V). record { fault = HotAtClose; item = x }) (kept (is_hot s) (kept (of_key K s k) G))
  unfolding closings
  closing-key k n [] = refl
  closing-key k n (x ∷ G) = go (of_key K s k x) (is_hot s x) refl refl (closing-key k n G)
    where
      go : (a c : Bool) → of_key K s k x ≡ a → is_hot s x ≡ c
          → map aside (kept (λ (f : Finding V). of_key K s k f.item) (closings s n G))
          ≡ map (λ (y : Item V). record { fault = HotAtClose; item = y }) (kept (is_hot s) (kept (of_key K s k) G))
          → map aside (kept (λ (f : Finding V). of_key K s k f.item) (closings s n (x ∷ G)))
          ≡ map (λ (y : Item V). record { fault = HotAtClose; item = y }) (kept (is_hot s) (kept (of_key K s k) (x ∷ G)))
      go true true e f ih = rw (e, f) (rw e (ap (λ r. record { fault = HotAtClose; item = x } ∷ r) ih))
      go true false e f ih = rw (e, f) ih
      go false true e f ih = rw (e, f) (rw e ih)
      go false false e f ih = rw (e, f) ih

  -- two uses under a keyed sheet
  module _ {B B' : Type 0} (view : B → BookModel V) (view' : B' → BookModel V) (sound : SoundSheet s) (keyed : KeyedSheet s)
      (p : Point K s view) (q : Point K s view') (o : HasOpened K s p) (o' : HasOpened K s q) where
    abbrev hp : List (Turn V)
    hp = p.history

    abbrev bp : BookModel V
    bp = view p.book

    abbrev hq : List (Turn V)
    hq = q.history

    abbrev bq : BookModel V
    bq = view' q.book

    r : Running K s p.limit (is_ended hp) (accepted_events K hp) (put_findings hp) (end_findings hp) bp
    r = running K T s view p o

    r' : Running K s q.limit (is_ended hq) (accepted_events K hq) (put_findings hq) (end_findings hq) bq
    r' = running K T s view' q o'

    keys : (k : V) → SameEvents K s p q k → SameKey K s p q k
    keys k e = record { items = items; findings = findings; closings = ends }
      where
        items : key_items K s k bp ≡ key_items K s k bq
        items =
            ap (kept (of_key K s k)) r.items
            ∙ (same-items K T s sound keyed (accepted_events K hp) (accepted_events K hq) k e ∙ sym (ap (kept (of_key K s k)) r'.items))

        found : List (Event V) → List (Finding V) → List (Found V)
        found es fs = map aside (kept (λ (f : Finding V). some (eqb f.event) (key_numbers K s k 0 es)) fs)

        findings : map aside (key_findings K s k hp) ≡ map aside (key_findings K s k hq)
        findings =
            ap (found (accepted_events K hp)) r.findings
            ∙ (same-found K T s sound keyed (accepted_events K hp) (accepted_events K hq) k e
            ∙ sym (ap (found (accepted_events K hq)) r'.findings))

        at-end : (n : ℕ) (G : List (Item V)) (cl : List (Finding V)) (en : Bool) → en ≡ true → cl ≡ cond en (closings s n G) []
            → map aside (kept (λ (f : Finding V). of_key K s k f.item) cl)
            ≡ map (λ (x : Item V). record { fault = HotAtClose; item = x }) (kept (is_hot s) (kept (of_key K s k) G))
        at-end n G cl true d f = rw f (closing-key k n G)
        at-end n G cl false d f = absurd (false≢true d)

        ends : is_ended hp ≡ true → is_ended hq ≡ true → map aside (key_closing K s k hp) ≡ map aside (key_closing K s k hq)
        ends d d' =
            at-end (length (accepted_events K hp)) bp.items (end_findings hp) (is_ended hp) d r.closing
            ∙ (ap
            (λ G. map (λ (x : Item V). record { fault = HotAtClose; item = x }) (kept (is_hot s) G))
            items
            ∙ sym (at-end (length (accepted_events K hq)) bq.items (end_findings hq) (is_ended hq) d' r'.closing))

    mixing : ((k : V) → SameEvents K s p q k) → SameBook K s p q
    mixing e =
        record {
          items = items;
          counts =
              λ n l.
              λ i.
              record {
                kept = record {
                  started = each Starts n l i;
                  asked = each Asks n l i;
                  repeats = each Repeats n l i;
                  fired = each FiredOut n l i;
                  lapsed = each LapsedOut n l i;
                  struck = each StruckOut n l i;
                };
                «open» = how_many (named n) (items i);
              };
        }
      where
        items : bp.items ≡ bq.items
        items = r.items ∙ (same_set K T s sound keyed (accepted_events K hp) (accepted_events K hq) e ∙ sym r'.items)

        each : (c : Count) (n : ℕ) → n < 32 → bp.counts c n ≡ bq.counts c n
        each c n l =
            r.counts c n l
            ∙ (ap (λ m. started_by K s c n + m) (same-totals K T s c n sound keyed (accepted_events K hp) (accepted_events K hq) e)
            ∙ sym (r'.counts c n l))

module _ {V : Type 0} (K : ValueKind V) (s : SheetModel V) (F : List (Item V)) (limit : ℕ) where
  -- the same calls on the same first set and limit have the same history
  same-history : (h h' : List (Turn V)) → Answered K s F limit h → Answered K s F limit h' → calls_of h ≡ calls_of h' → h ≡ h'
  same-history [] [] a a' e = refl
  same-history [] (t ∷ h) a a' e = let z : ◌≡◌ {A = ℕ} 0 1 = cc in absurd (omega arith)
  same-history (t ∷ h) [] a a' e = let z : ◌≡◌ {A = ℕ} 0 1 = cc in absurd (omega arith)
  same-history (t ∷ h) (t' ∷ h') a a' e =
      let c : call_of t ≡ call_of t' = cc in
      let d : calls_of h ≡ calls_of h' = cc in
      let ih : h ≡ h' = same-history h h' a.1 a'.1 d in
      ap₂ ◌∷◌
      (replied K s (ruled_book K s F limit h) t a.0
      ∙ (ap₂ (λ g k. reply K s (ruled_book K s F limit g) k) ih c ∙ sym (replied K s (ruled_book K s F limit h') t' a'.0)))
      ih

module _ {V : Type 0} (K : ValueKind V) (T : TotalOrder K.order) (s : SheetModel V) {B B' : Type 0} (view : B → BookModel V)
    (view' : B' → BookModel V) where
  determined : (p : Point K s view) (q : Point K s view') → SameCalls K s p q → SameCourse K s p q
  determined p q c =
      record {
        history = same;
        book =
            record {
              phase = a.phase ∙ (ap (λ (x : BookModel V). x.phase) books ∙ sym a'.phase);
              accepted = a.accepted ∙ (ap (λ (x : BookModel V). x.accepted) books ∙ sym a'.accepted);
              items = a.items ∙ (ap (λ (x : BookModel V). x.items) books ∙ sym a'.items);
              limit = a.limit ∙ (ap (λ (x : BookModel V). x.limit) books ∙ sym a'.limit);
              counts = λ k n l. a.counts k n l ∙ (ap (λ (x : BookModel V). x.counts k n) books ∙ sym (a'.counts k n l));
            };
      }
    where
      a : Alike (view p.book) (ruled_book K s p.before p.limit p.history)
      a = (exact K T s view p).book

      a' : Alike (view' q.book) (ruled_book K s q.before q.limit q.history)
      a' = (exact K T s view' q).book

      answers : Answered K s q.before q.limit p.history
      answers =
          subst
          (λ l. Answered K s q.before l p.history)
          c.limit
          (subst (λ F. Answered K s F p.limit p.history) c.before (exact K T s view p).answers)

      same : p.history ≡ q.history
      same = same-history K s q.before q.limit p.history q.history answers (exact K T s view' q).answers c.calls

      books : ruled_book K s p.before p.limit p.history ≡ ruled_book K s q.before q.limit q.history
      books = λ i. ruled_book K s (c.before i) (c.limit i) (same i)

module _ {V : Type 0} (K : ValueKind V) (T : TotalOrder K.order) {B B' : Type 0} (view : B → BookModel V) (view' : B' → BookModel V) where
  pub law : Law K view view'
  law = record {
    exact = λ s. exact K T s view;
    determined = λ s. determined K T s view view';
    keys = λ s. keys K T s view view';
    mixed = λ s. mixing K T s view view';
    balanced = λ s. balanced K T s view;
    accounted = λ s. accounted K T s view;
  }
