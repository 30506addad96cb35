-- At every point of a use the book is what the rules give from its history.
use Rattle.std.proofs.Common.{◌≡◌, ℕ, suc, ◌+◌, ◌<◌, Bool, true, false, cond, not, ◌||◌, ltb, ◌⊎◌, List, [], ◌∷◌, ◌++◌, length, take, drop, is_ok, Some, None, Ok, Err, Option, Result, sym, refl, ap, ◌∙◌, subst, ap₂, inl, inr, append_assoc, append-nil, one-add, arith, length-append}
use Rattle.std.proofs.lemmas.Bool.{false≢true, not-false, ltb-false}
use Rattle.refusals.specs.declared.refusal.Refusal.{Refusal}
use Rattle.refusals.specs.declared.refusal.Refusal.TheVariants.{WrongPhase}
use Rattle.records.specs.declared.event.Event.{Event}
use Rattle.items.specs.Items.{named}
use Rattle.items.specs.declared.item.Item.{Item}
use Rattle.sheets.specs.Tables.{SheetModel}
use Rattle.values.specs.Form.{filled}
use Rattle.rules.specs.Book.{BookModel, Alike, Turn, Opening, Putting, Batching, Ending, Listing, Tallying, Call, ToOpen, ToPut, ToBatch, ToEnd, ToList, ToTally, call_of, OpenOutcome, EventOutcome, EndOutcome, listed_in, unless, on_result, refused_put, made_book, init_items, started_by, open_refusal, opened_book, open_outcome, findings_at, took, early_refusal, late_refusal, accepted_put, filled_pad, put_outcome, stopped, one_more, batch_from, batch_outcome, closings, end_refusal, ended_book, end_outcome, tally_back, Replied, book_after}
use Rattle.rules.specs.Phases.{is_blank, is_open}
use Rattle.rules.specs.Kinds.{ValueKind}
use Rattle.rules.specs.Law.{on_ok, opens, ends, accepts, put_wrote, end_wrote, is_opened, is_ended, accepted_events, put_findings, end_findings, findings_written, Use, made, called, settled, ruled_findings, count_over}
use Rattle.rules.specs.Records.{Records, done, stop, one, events_in, records_at}
use Rattle.rules.specs.Step.{Count, Starts, Asks, Repeats, FiredOut, LapsedOut, StruckOut, how_many, count_added, moves_at, set_after}
use Rattle.rules.specs.declared.answers.Accepted.{Accepted}
use Rattle.rules.specs.declared.answers.Batched.{Batched}
use Rattle.rules.specs.declared.finding.Finding.{Finding}
use Rattle.rules.specs.declared.moves.Move.{Move}
use Rattle.rules.specs.declared.phase.Phase.TheVariants as phase

-- where nothing is refused the first test fails
unfired : (t : Bool) (r : Refusal) (o : Option Refusal) → cond t (Some r) o ≡ None → t ≡ false
unfired true r o h = let z : ◌≡◌ {A = ℕ} 0 1 = cc in absurd (omega arith)
unfired false r o h = refl

-- the front that was filled
pub take-front : {X : Type 0} (xs ys : List X) (n : ℕ) → take (length xs + n) (xs ++ ys) ≡ xs ++ take n ys
take-front [] ys n = let e : 0 + n ≡ n = omega arith in ap (λ m. take m ys) e
take-front (x ∷ xs) ys n =
    let e : length (x ∷ xs) + n ≡ suc (length xs + n) = omega arith in
    ap (λ m. take m (x ∷ (xs ++ ys))) e ∙ ap (λ r. x ∷ r) (take-front xs ys n)

take_exact : {X : Type 0} (us vs : List X) → take (length us) (us ++ vs) ≡ us
take_exact [] vs = refl
take_exact (u ∷ us) vs = ap (λ r. u ∷ r) (take_exact us vs)

pub take-filled : {X : Type 0} (xs ys : List X) → take (length xs) (filled xs ys) ≡ xs
take-filled xs ys = take_exact xs (drop (length xs) ys)

module _ {V : Type 0} (K : ValueKind V) (s : SheetModel V) where
  -- one more event at the end of a run

  settled-more : (F : List (Item V)) (es : List (Event V)) (e : Event V) → settled K s F (es ++ e ∷ []) ≡ set_after K s (settled K s F es) e
  settled-more F [] e = refl
  settled-more F (d ∷ es) e = settled-more (set_after K s F d) es e

  findings-more : (n : ℕ) (F : List (Item V)) (es : List (Event V)) (e : Event V)
      → ruled_findings K s n F (es ++ e ∷ []) ≡ ruled_findings K s n F es ++ findings_at K s (n + length es + 1) (settled K s F es) e
  findings-more n F [] e = append-nil (findings_at K s (n + 1) F e) ∙ ap (λ m. findings_at K s m F e) (omega arith)
  findings-more n F (d ∷ es) e =
      ap (λ r. findings_at K s (n + 1) F d ++ r)
      (findings-more (n + 1) (set_after K s F d) es e
      ∙ ap (λ m. ruled_findings K s (n + 1) (set_after K s F d) es ++ findings_at K s m (settled K s (set_after K s F d) es) e) (omega arith))
      ∙ sym
      (append_assoc (findings_at K s (n + 1) F d)
      (ruled_findings K s (n + 1) (set_after K s F d) es)
      (findings_at K s (n + length (d ∷ es) + 1) (settled K s (set_after K s F d) es) e))

  total-more : (c : Count) (n : ℕ) (F : List (Item V)) (es : List (Event V)) (e : Event V)
      → count_over K s c n F (es ++ e ∷ []) ≡ count_over K s c n F es + count_added K c n (moves_at K s (settled K s F es) e) (settled K s F es)
  total-more c n F [] e = omega arith
  total-more c n F (d ∷ es) e = let ih = total-more c n (set_after K s F d) es e in omega arith

  -- a book that was opened
  pub record Running (most : ℕ) (ended : Bool) (es : List (Event V)) (fs cl : List (Finding V)) (b : BookModel V) : Type 0 where
    pub limit : b.limit ≡ most
    pub phase : b.phase ≡ cond ended phase.Ended phase.Open
    pub accepted : b.accepted ≡ length es
    pub findings : fs ≡ ruled_findings K s 0 (init_items K s) es
    pub items : b.items ≡ settled K s (init_items K s) es
    pub counts : (c : Count) (n : ℕ) → n < 32 → b.counts c n ≡ started_by K s c n + count_over K s c n (init_items K s) es
    pub closing : cl ≡ cond ended (closings s (length es) b.items) []

  taking : (limit : ℕ) (es : List (Event V)) (fs cl : List (Finding V)) (b : BookModel V) (e : Event V) → Running limit false es fs cl b
      → Running limit false (es ++ e ∷ []) (fs ++ findings_at K s (b.accepted + 1) b.items e) cl (took K s e b)
  unfolding took
  taking limit es fs cl b e r = record {
    limit = r.limit;
    phase = r.phase;
    accepted = omega (arith, length-append es (e ∷ []), r.accepted);
    findings =
        ap₂ ◌++◌ r.findings (ap₂ (λ m G. findings_at K s m G e) (omega (arith, r.accepted)) r.items) ∙ sym (findings-more 0 F es e);
    items = ap (λ G. set_after K s G e) r.items ∙ sym (settled-more F es e);
    counts = λ c n l. omega (arith, r.counts c n l, ap (λ G. count_added K c n (moves_at K s G e) G) r.items, total-more c n F es e);
    closing = r.closing;
  }
    where
      F : List (Item V)
      F = init_items K s

  -- a batch
  batching : (limit : ℕ) (es : List (Event V)) (fs cl : List (Finding V)) (b : BookModel V) (pad : List (Move V)) (roll : List (Finding V)) (rs : Records V)
      → Running limit false es fs cl b
      → let o = batch_from K s b pad roll rs in
      Running limit false (es ++ take o.back.accepted (events_in rs)) (fs ++ take o.back.findings o.roll) cl o.book
  unfolding accepted_put
  batching limit es fs cl b pad roll done r = rw (append-nil es, append-nil fs) r
  batching limit es fs cl b pad roll (stop q) r = rw (append-nil es, append-nil fs) r
  batching limit es fs cl b pad roll (one place e more) r =
      go (early_refusal place b e) (late_refusal K s place b e pad roll)
      (batching limit (es ++ e ∷ []) (fs ++ new) cl (took K s e b) (filled (moves_at K s b.items e) pad) (drop (length new) (filled new roll))
      more (taking limit es fs cl b e r))
    where
      new : List (Finding V)
      new = findings_at K s (b.accepted + 1) b.items e

      rest : EventOutcome V Batched
      rest = batch_from K s (took K s e b) (filled (moves_at K s b.items e) pad) (drop (length new) (filled new roll)) more

      es' : (es ++ e ∷ []) ++ take rest.back.accepted (events_in more) ≡ es ++ take (1 + rest.back.accepted) (e ∷ events_in more)
      es' =
          append_assoc es (e ∷ []) (take rest.back.accepted (events_in more))
          ∙ ap (λ m. es ++ take m (e ∷ events_in more)) (sym (one-add rest.back.accepted))

      fs' : (fs ++ new) ++ take rest.back.findings rest.roll
          ≡ fs ++ take (length new + rest.back.findings) (take (length new) (filled new roll) ++ rest.roll)
      fs' =
          append_assoc fs new (take rest.back.findings rest.roll)
          ∙ (ap (λ xs. fs ++ xs) (sym (take-front new rest.roll rest.back.findings))
          ∙ ap (λ xs. fs ++ take (length new + rest.back.findings) (xs ++ rest.roll)) (sym (take-filled new roll)))

      put : Option Refusal → Option Refusal → EventOutcome V (Result Accepted Refusal)
      put o p = unless o (refused_put pad roll b) (unless p (refused_put (filled_pad K s b e pad) roll b) (accepted_put K s b e pad roll))

      out : Option Refusal → Option Refusal → EventOutcome V Batched
      out o p =
          on_result (put o p).back
          (λ a. one_more a (put o p).roll (batch_from K s (put o p).book (put o p).pad (drop a.findings (put o p).roll) more))
          (λ x. stopped (Some x) (put o p).pad (put o p).roll (put o p).book)

      go : (o p : Option Refusal)
          → Running limit false ((es ++ e ∷ []) ++ take rest.back.accepted (events_in more)) ((fs ++ new) ++ take rest.back.findings rest.roll) cl rest.book
          → Running limit false (es ++ take (out o p).back.accepted (e ∷ events_in more)) (fs ++ take (out o p).back.findings (out o p).roll) cl (out o p).book
      go None None later =
          subst
          (λ xs.
          Running limit false xs
          (fs ++ take (length new + rest.back.findings) (take (length new) (filled new roll) ++ rest.roll))
          cl rest.book)
          es'
          (subst (λ xs. Running limit false ((es ++ e ∷ []) ++ take rest.back.accepted (events_in more)) xs cl rest.book) fs' later)
      go None (Some x) later = rw (append-nil es, append-nil fs) r
      go (Some x) p later = rw (append-nil es, append-nil fs) r

  -- what a call makes at a book
  abbrev pub reply : BookModel V → Call V → Turn V
  reply b ToOpen = Opening (open_outcome K s b).back
  reply b (ToPut e pad roll) =
      Putting e pad (put_outcome K s b e pad roll).pad roll (put_outcome K s b e pad roll).roll (put_outcome K s b e pad roll).back
  reply b (ToBatch bytes pad roll) =
      Batching bytes pad (batch_outcome K s b bytes pad roll).pad roll
      (batch_outcome K s b bytes pad roll).roll
      (batch_outcome K s b bytes pad roll).back
  reply b (ToEnd roll) = Ending roll (end_outcome s b roll).roll (end_outcome s b roll).back
  reply b (ToList room) = Listing room (listed_in room b) (length b.items)
  reply b (ToTally name) = Tallying name (tally_back b name)

  pub replied : (b : BookModel V) (t : Turn V) → Replied K s b t → t ≡ reply b (call_of t)
  replied b (Opening back) h = ap Opening h
  replied b (Putting e pad pad' roll roll' back) h = λ i. Putting e pad (h.1 i) roll (h.2 i) (h.0 i)
  replied b (Batching bytes pad pad' roll roll' back) h = λ i. Batching bytes pad (h.1 i) roll (h.2 i) (h.0 i)
  replied b (Ending roll roll' back) h = λ i. Ending roll (h.1 i) (h.0 i)
  replied b (Listing room room' back) h = λ i. Listing room (h.1 i) (h.0 i)
  replied b (Tallying name back) h = ap (Tallying name) h

  pub as-replied : (b : BookModel V) (t : Turn V) → t ≡ reply b (call_of t) → Replied K s b t
  as-replied b (Opening back) h = cc
  as-replied b (Putting e pad pad' roll roll' back) h = (cc, cc, cc)
  as-replied b (Batching bytes pad pad' roll roll' back) h = (cc, cc, cc)
  as-replied b (Ending roll roll' back) h = (cc, cc)
  as-replied b (Listing room room' back) h = (cc, cc)
  as-replied b (Tallying name back) h = cc

  module _ (F : List (Item V)) (limit : ℕ) where
    -- where a book stands, by whether it was opened
    abbrev pub Standing : (opened ended : Bool) → List (Event V) → (fs cl : List (Finding V)) → BookModel V → Type 0
    Standing false ended es fs cl b = (ended ≡ false) × (es ≡ []) × (fs ≡ []) × (cl ≡ []) × Alike b (made_book F limit)
    Standing true ended es fs cl b = Running limit ended es fs cl b

    module _ (o en : Bool) (es : List (Event V)) (fs cl : List (Finding V)) (b : BookModel V) where
      -- after one call
      abbrev After : Turn V → Type 0
      After t = Standing (opens t || o) (ends t || en) (es ++ accepts K t) (fs ++ put_wrote t) (cl ++ end_wrote t) (book_after K s b t)

      idle : Standing o en es fs cl b → Standing o en (es ++ []) (fs ++ []) (cl ++ []) b
      idle h = rw (append-nil es, append-nil fs, append-nil cl) h

    opening : (o en : Bool) (es : List (Event V)) (fs cl : List (Finding V)) (b : BookModel V) → Standing o en es fs cl b
        → is_blank b.phase ≡ true → Running limit en (es ++ []) (fs ++ []) (cl ++ []) (opened_book K s b)
    unfolding opened_book
    opening false en es fs cl b h i =
        rw
        (append-nil es, append-nil fs, append-nil cl, h.0, h.1, h.2, h.3)
        (record {
          limit = h.4.limit;
          phase = refl;
          accepted = h.4.accepted;
          findings = refl;
          items = refl;
          counts = λ c n l. omega (arith, h.4.counts c n l);
          closing = refl;
        })
    opening true false es fs cl b h i = absurd (false≢true (rw h.phase at i))
    opening true true es fs cl b h i = absurd (false≢true (rw h.phase at i))

    putting : (o en : Bool) (es : List (Event V)) (fs cl : List (Finding V)) (b : BookModel V) (e : Event V) (roll : List (Finding V))
        → Standing o en es fs cl b → is_open b.phase ≡ true
        → let new = findings_at K s (b.accepted + 1) b.items e in
        Standing o en (es ++ e ∷ []) (fs ++ take (length new) (filled new roll)) (cl ++ []) (took K s e b)
    putting false en es fs cl b e roll h i = absurd (false≢true (rw h.4.phase at i))
    putting true false es fs cl b e roll h i =
        rw (append-nil cl, take-filled (findings_at K s (b.accepted + 1) b.items e) roll) (taking limit es fs cl b e h)
    putting true true es fs cl b e roll h i = absurd (false≢true (rw h.phase at i))

    all-putting : (o en : Bool) (es : List (Event V)) (fs cl : List (Finding V)) (b : BookModel V) (pad : List (Move V)) (roll : List (Finding V)) (rs : Records V)
        → Standing o en es fs cl b → is_open b.phase ≡ true
        → let u = batch_from K s b pad roll rs in
        Standing o en (es ++ take u.back.accepted (events_in rs)) (fs ++ take u.back.findings u.roll) (cl ++ []) u.book
    all-putting false en es fs cl b pad roll rs h i = absurd (false≢true (rw h.4.phase at i))
    all-putting true false es fs cl b pad roll rs h i = rw (append-nil cl) (batching limit es fs cl b pad roll rs h)
    all-putting true true es fs cl b pad roll rs h i = absurd (false≢true (rw h.phase at i))

    ending : (o en : Bool) (es : List (Event V)) (fs cl : List (Finding V)) (b : BookModel V) (roll : List (Finding V))
        → Standing o en es fs cl b → is_open b.phase ≡ true
        → let new = closings s b.accepted b.items in
        Standing o true (es ++ []) (fs ++ []) (cl ++ take (length new) (filled new roll)) (ended_book b)
    unfolding ended_book
    ending false en es fs cl b roll h i = absurd (false≢true (rw h.4.phase at i))
    ending true false es fs cl b roll h i =
        rw
        (append-nil es, append-nil fs, take-filled (closings s b.accepted b.items) roll)
        (record {
          limit = h.limit;
          phase = refl;
          accepted = h.accepted;
          findings = h.findings;
          items = h.items;
          counts = h.counts;
          closing = ap₂ (λ x y. x ++ closings s y b.items) h.closing h.accepted;
        })
    ending true true es fs cl b roll h i = absurd (false≢true (rw h.phase at i))

    put-open : (b : BookModel V) (e : Event V) → early_refusal 0 b e ≡ None → is_open b.phase ≡ true
    unfolding early_refusal
    put-open b e f = not-false (is_open b.phase) (unfired (not (is_open b.phase)) _ _ f)

    end-open : (b : BookModel V) (roll : List (Finding V)) → end_refusal s b roll ≡ None → is_open b.phase ≡ true
    unfolding end_refusal
    end-open b roll f = not-false (is_open b.phase) (unfired (not (is_open b.phase)) _ _ f)

    open-blank : (b : BookModel V) → open_refusal K s b ≡ None → is_blank b.phase ≡ true
    unfolding open_refusal
    open-blank b f = not-false (is_blank b.phase) (unfired (not (is_blank b.phase)) _ _ f)

    turn : (o en : Bool) (es : List (Event V)) (fs cl : List (Finding V)) (b : BookModel V) → Standing o en es fs cl b → (c : Call V)
        → After o en es fs cl b (reply b c)
    unfolding accepted_put
    turn o en es fs cl b h ToOpen = go (open_refusal K s b) refl
      where
        out : Option Refusal → OpenOutcome V
        out r = unless r (λ x. record { back = Err x; book = b }) (record { back = Ok tt; book = opened_book K s b })

        go : (r : Option Refusal) → open_refusal K s b ≡ r
            → Standing (is_ok (out r).back || o) en (es ++ []) (fs ++ []) (cl ++ []) (out r).book
        go None f = opening o en es fs cl b h (open-blank b f)
        go (Some r) f = idle o en es fs cl b h
    turn o en es fs cl b h (ToPut e pad roll) = go (early_refusal 0 b e) (late_refusal K s 0 b e pad roll) refl
      where
        out : Option Refusal → Option Refusal → EventOutcome V (Result Accepted Refusal)
        out x y = unless x (refused_put pad roll b) (unless y (refused_put (filled_pad K s b e pad) roll b) (accepted_put K s b e pad roll))

        go : (x y : Option Refusal) → early_refusal 0 b e ≡ x
            → Standing o en (es ++ on_ok (out x y).back (λ a. e ∷ [])) (fs ++ on_ok (out x y).back (λ a. take a.findings (out x y).roll)) (cl ++ []) (out x y).book
        go None None f = putting o en es fs cl b e roll h (put-open b e f)
        go None (Some r) f = idle o en es fs cl b h
        go (Some r) y f = idle o en es fs cl b h
    turn o en es fs cl b h (ToBatch bytes pad roll) = go (is_open b.phase) refl
      where
        out : Bool → EventOutcome V Batched
        out r = cond r (batch_from K s b pad roll (records_at K.reads bytes 0)) (stopped (Some WrongPhase) pad roll b)

        go : (r : Bool) → is_open b.phase ≡ r
            → Standing o en (es ++ take (out r).back.accepted (events_in (records_at K.reads bytes 0))) (fs ++ take (out r).back.findings (out r).roll) (cl ++ []) (out r).book
        go true f = all-putting o en es fs cl b pad roll (records_at K.reads bytes 0) h f
        go false f = idle o en es fs cl b h
    turn o en es fs cl b h (ToEnd roll) = go (end_refusal s b roll) refl
      where
        new : List (Finding V)
        new = closings s b.accepted b.items

        out : Option Refusal → EndOutcome V
        out r =
            unless r
            (λ x. record { back = Err x; roll = roll; book = b })
            (record { back = Ok (length new); roll = filled new roll; book = ended_book b })

        go : (r : Option Refusal) → end_refusal s b roll ≡ r
            → Standing o (is_ok (out r).back || en) (es ++ []) (fs ++ []) (cl ++ on_ok (out r).back (λ n. take n (out r).roll)) (out r).book
        go None f = ending o en es fs cl b roll h (end-open b roll f)
        go (Some r) f = idle o en es fs cl b h
    turn o en es fs cl b h (ToList room) = idle o en es fs cl b h
    turn o en es fs cl b h (ToTally n) = idle o en es fs cl b h

    -- a book that looks the same stands the same
    looks : (o en : Bool) (es : List (Event V)) (fs cl : List (Finding V)) (b b' : BookModel V) → Alike b' b → Standing o en es fs cl b
        → Standing o en es fs cl b'
    looks false en es fs cl b b' a h = (
      h.0,
      h.1,
      h.2,
      h.3,
      record {
        phase = a.phase ∙ h.4.phase;
        accepted = a.accepted ∙ h.4.accepted;
        items = a.items ∙ h.4.items;
        limit = a.limit ∙ h.4.limit;
        counts = λ c n l. a.counts c n l ∙ h.4.counts c n l;
      },
    )
    looks true en es fs cl b b' a h =
        record {
          limit = a.limit ∙ h.limit;
          phase = a.phase ∙ h.phase;
          accepted = a.accepted ∙ h.accepted;
          findings = h.findings;
          items = a.items ∙ h.items;
          counts = λ c n l. a.counts c n l ∙ h.counts c n l;
          closing = rw a.items h.closing;
        }

    pub standing : {B : Type 0} (view : B → BookModel V) (h : List (Turn V)) (b : B) → Use K s view F limit h b
        → Standing (is_opened h) (is_ended h) (accepted_events K h) (put_findings h) (end_findings h) (view b)
    standing view h b (made a) = (refl, refl, refl, refl, a)
    standing view h b (called {h = g} {b = d} u t e) =
        looks (opens t || is_opened g) (ends t || is_ended g) (accepted_events K g ++ accepts K t) (put_findings g ++ put_wrote t)
        (end_findings g ++ end_wrote t) (book_after K s (view d) t) (view b) e.book
        (subst
        (After (is_opened g) (is_ended g) (accepted_events K g) (put_findings g) (end_findings g) (view d))
        (sym (replied (view d) t e.replied))
        (turn (is_opened g) (is_ended g) (accepted_events K g) (put_findings g) (end_findings g) (view d) (standing view g d u) (call_of t)))

  -- Once end was accepted no put writes a finding, so the findings written are those of the puts and then those of end.

  shut-put : (b : BookModel V) (e : Event V) (pad : List (Move V)) (roll : List (Finding V)) → b.phase ≡ phase.Ended
      → (put_outcome K s b e pad roll).back ≡ Err WrongPhase
  unfolding early_refusal
  shut-put b e pad roll h = rw h

  shut-batch : (b : BookModel V) (bytes : List ℕ) (pad : List (Move V)) (roll : List (Finding V)) → b.phase ≡ phase.Ended
      → (batch_outcome K s b bytes pad roll).back.findings ≡ 0
  shut-batch b bytes pad roll h = rw h

  shut : (b : BookModel V) (t : Turn V) → Replied K s b t → b.phase ≡ phase.Ended → put_wrote t ≡ []
  shut b (Opening back) r h = refl
  shut b (Putting e pad pad' roll roll' back) r h =
      ap (λ x. on_ok x (λ (a : Accepted). take a.findings roll')) (r.0 ∙ shut-put b e pad roll h)
  shut b (Batching bytes pad pad' roll roll' back) r h =
      ap (λ n. take n roll') (ap (λ (x : Batched). x.findings) r.0 ∙ shut-batch b bytes pad roll h)
  shut b (Ending roll roll' back) r h = refl
  shut b (Listing room room' back) r h = refl
  shut b (Tallying name back) r h = refl

  module _ {X : Type 0} where
    swap-empty : (a b c d : List X) → (b ≡ []) ⊎ (c ≡ []) → (a ++ b) ++ (c ++ d) ≡ (a ++ c) ++ (b ++ d)
    swap-empty a b c d (inl e) = rw (e, append-nil a) (sym (append_assoc a c d))
    swap-empty a b c d (inr e) = rw (e, append-nil a) (append_assoc a b d)

  module _ (F : List (Item V)) (limit : ℕ) where
    -- nothing was written at the close yet, or no put writes any more
    either : (o en : Bool) (es : List (Event V)) (fs cl : List (Finding V)) (b : BookModel V) (t : Turn V)
        → Standing F limit o en es fs cl b → Replied K s b t → (cl ≡ []) ⊎ (put_wrote t ≡ [])
    either false en es fs cl b t h r = inl h.3
    either true false es fs cl b t h r = inl h.closing
    either true true es fs cl b t h r = inr (shut b t r h.phase)

    pub in_order : {B : Type 0} (view : B → BookModel V) (h : List (Turn V)) (b : B) → Use K s view F limit h b
        → findings_written h ≡ put_findings h ++ end_findings h
    in_order view h b (made a) = refl
    in_order view h b (called {h = g} {b = d} u t e) =
        ap (λ xs. xs ++ (put_wrote t ++ end_wrote t)) (in_order view g d u)
        ∙ swap-empty (put_findings g) (end_findings g) (put_wrote t) (end_wrote t) (either (is_opened g) (is_ended g) (accepted_events K g) (put_findings g) (end_findings g) (view d) t (standing F limit view g d u) e.replied)

  -- What comes back does not depend on counts of names that are not counted.

  abbrev recount : (Count → ℕ → ℕ) → BookModel V → BookModel V
  recount c b = record { phase = b.phase; accepted = b.accepted; counts = c; items = b.items; limit = b.limit }

  took-recount : (c : Count → ℕ → ℕ) (b : BookModel V) (e : Event V)
      → took K s e (recount c b) ≡ recount (took K s e (recount c b)).counts (took K s e b)
  unfolding took
  took-recount c b e = refl

  -- a batch's outcome without its book
  abbrev shown : EventOutcome V Batched → EventOutcome V Batched
  shown o = record { back = o.back; pad = o.pad; roll = o.roll; book = made_book [] 0 }

  -- a put by its refusals, if any
  abbrev put_by : BookModel V → Event V → List (Move V) → List (Finding V) → Option Refusal → Option Refusal
      → EventOutcome V (Result Accepted Refusal)
  put_by b e pad roll o p =
      unless o (refused_put pad roll b) (unless p (refused_put (filled_pad K s b e pad) roll b) (accepted_put K s b e pad roll))

  batch-recount : (c : Count → ℕ → ℕ) (b : BookModel V) (pad : List (Move V)) (roll : List (Finding V)) (rs : Records V)
      → shown (batch_from K s (recount c b) pad roll rs) ≡ shown (batch_from K s b pad roll rs)
  unfolding early_refusal late_refusal filled_pad accepted_put
  batch-recount c b pad roll done = refl
  batch-recount c b pad roll (stop q) = refl
  batch-recount c b pad roll (one place e more) =
      go (early_refusal place b e) (late_refusal K s place b e pad roll)
      (batch-recount (took K s e (recount c b)).counts (took K s e b) (filled ms pad) rest more)
    where
      ms : List (Move V)
      ms = moves_at K s b.items e

      new : List (Finding V)
      new = findings_at K s (b.accepted + 1) b.items e

      rest : List (Finding V)
      rest = drop (length new) (filled new roll)

      out : BookModel V → Option Refusal → Option Refusal → EventOutcome V Batched
      out d o p =
          on_result (put_by d e pad roll o p).back
          (λ a.
          one_more a (put_by d e pad roll o p).roll
          (batch_from K s (put_by d e pad roll o p).book (put_by d e pad roll o p).pad
          (drop a.findings (put_by d e pad roll o p).roll)
          more))
          (λ x. stopped (Some x) (put_by d e pad roll o p).pad (put_by d e pad roll o p).roll (put_by d e pad roll o p).book)

      go : (o p : Option Refusal)
          → shown (batch_from K s (recount (took K s e (recount c b)).counts (took K s e b)) (filled ms pad) rest more)
          ≡ shown (batch_from K s (took K s e b) (filled ms pad) rest more)
          → shown (out (recount c b) o p) ≡ shown (out b o p)
      go None None ih =
          ap
          (one_more (record { moves = length ms; findings = length new }) (filled new roll))
          (ap (λ d. shown (batch_from K s d (filled ms pad) rest more)) (took-recount c b e) ∙ ih)
      go None (Some r) ih = refl
      go (Some r) p ih = refl

  reply-recount : (c : Count → ℕ → ℕ) (b : BookModel V) → ((k : Count) (n : ℕ) → n < 32 → c k n ≡ b.counts k n) → (t : Call V)
      → reply (recount c b) t ≡ reply b t
  unfolding open_refusal early_refusal late_refusal filled_pad accepted_put end_refusal
  reply-recount c b h ToOpen = go (open_refusal K s b)
    where
      out : BookModel V → Option Refusal → OpenOutcome V
      out d r = unless r (λ x. record { back = Err x; book = d }) (record { back = Ok tt; book = opened_book K s d })

      turned : BookModel V → Option Refusal → Turn V
      turned d r = Opening (out d r).back

      go : (r : Option Refusal) → turned (recount c b) r ≡ turned b r
      go None = refl
      go (Some r) = refl
  reply-recount c b h (ToPut e pad roll) = go (early_refusal 0 b e) (late_refusal K s 0 b e pad roll)
    where
      out : BookModel V → Option Refusal → Option Refusal → Turn V
      out d o p = Putting e pad (put_by d e pad roll o p).pad roll (put_by d e pad roll o p).roll (put_by d e pad roll o p).back

      go : (o p : Option Refusal) → out (recount c b) o p ≡ out b o p
      go None None = refl
      go None (Some r) = refl
      go (Some r) p = refl
  reply-recount c b h (ToBatch bytes pad roll) = go (is_open b.phase) refl
    where
      go : (o : Bool) → is_open b.phase ≡ o → reply (recount c b) (ToBatch bytes pad roll) ≡ reply b (ToBatch bytes pad roll)
      go true f =
          rw f
          (ap
          (λ (o : EventOutcome V Batched). Batching bytes pad o.pad roll o.roll o.back)
          (batch-recount c b pad roll (records_at K.reads bytes 0)))
      go false f = rw f
  reply-recount c b h (ToEnd roll) = go (end_refusal s b roll)
    where
      new : List (Finding V)
      new = closings s b.accepted b.items

      out : BookModel V → Option Refusal → EndOutcome V
      out d r =
          unless r
          (λ x. record { back = Err x; roll = roll; book = d })
          (record { back = Ok (length new); roll = filled new roll; book = ended_book d })

      go : (r : Option Refusal)
          → Ending roll (out (recount c b) r).roll (out (recount c b) r).back ≡ Ending roll (out b r).roll (out b r).back
      go None = refl
      go (Some r) = refl
  reply-recount c b h (ToList room) = refl
  reply-recount c b h (ToTally n) = go (ltb 31 n) refl
    where
      go : (o : Bool) → ltb 31 n ≡ o → reply (recount c b) (ToTally n) ≡ reply b (ToTally n)
      go true f = rw f
      go false f =
          let l : n < 32 = omega (arith, ltb-false 31 n f) in
          rw f
          (λ i.
          Tallying n
          (Ok
          (record {
            kept = record {
              started = h Starts n l i;
              asked = h Asks n l i;
              repeats = h Repeats n l i;
              fired = h FiredOut n l i;
              lapsed = h LapsedOut n l i;
              struck = h StruckOut n l i;
            };
            «open» = how_many (named n) b.items;
          })))

  pub reply-alike : (b b' : BookModel V) → Alike b b' → (t : Call V) → reply b t ≡ reply b' t
  reply-alike b b' a t = ap (λ d. reply d t) counts-apart ∙ reply-recount b.counts b' a.counts t
    where
      counts-apart : b ≡ recount b.counts b'
      counts-apart =
          λ i. record { phase = a.phase i; accepted = a.accepted i; counts = b.counts; items = a.items i; limit = a.limit i }
