-- Reading and writing undo one another: from what is known of one record to what the reader and the writer answer.
use Rattle.std.proofs.Common.{◌≡◌, ℕ, ◌+◌, ◌-◌, ◌<◌, ◌≤◌, Bool, true, false, ltb, List, ◌++◌, length, take, drop, Some, None, Ok, Err, Option, Result, sym, refl, ap, ◌∙◌, subst, ⊎_elim, arith, length-append, length-drop, length-take}
use Rattle.std.proofs.lemmas.List.{drop_at, take_at}
use Rattle.std.proofs.lemmas.Bool.{cases_Bool, cond-false, cond-true, le-ltb, lt-ltb}
use Rattle.refusals.specs.Telling.{Told}
use Rattle.values.specs.Form.{Bytes, Reading, WrittenForm, filled}
use Rattle.records.specs.declared.event.Event.{Event}
use Rattle.records.specs.Reader.{next_at, stepped}
use Rattle.records.specs.Record.{event_bytes, record_at}
use Rattle.records.specs.RoundTrip.{RoundTrip, leaves, reading}
use Rattle.records.specs.Writer.{Write, too_short, writes}
use Rattle.records.proofs.Backs.{record-back}
use Rattle.records.proofs.Covers.{record-read}
use Rattle.records.proofs.Filling.{has-bytes}

-- a write that answers n had bytes, n of them, and room for them
record Wrote (o : Option (List ℕ)) (lent : List ℕ) (n : ℕ) : Type 0 where
  bytes : List ℕ
  was : o ≡ Some bytes
  long : n ≡ length bytes
  left : (writes o lent).buffer ≡ filled bytes lent

wrote : (o : Option (List ℕ)) (lent : List ℕ) (n : ℕ) → (writes o lent).answer ≡ Ok n → Wrote o lent n
wrote None lent n h = let z : ◌≡◌ {A = ℕ} 0 1 = cc in absurd (omega arith)
wrote (Some w) lent n h = by-room (ltb (length lent) (length w)) refl
  where
    short : Write
    short = record { answer = Err (too_short (length w)); buffer = lent }

    full : Write
    full = record { answer = Ok (length w); buffer = filled w lent }

    by-room : (b : Bool) → ltb (length lent) (length w) ≡ b → Wrote (Some w) lent n
    by-room true e = let k : Err (too_short (length w)) ≡ Ok n = sym (ap (λ x. x.answer) (cond-true _ short full e)) ∙ h in let z : ◌≡◌ {A = ℕ} 0 1 = cc in absurd (omega arith)
    by-room false e =
        let k : ◌≡◌ {A = Result ℕ Told} (Ok (length w)) (Ok n) = sym (ap (λ x. x.answer) (cond-false _ short full e)) ∙ h in
        let m : length w ≡ n = cc in
        record { bytes = w; was = refl; long = sym m; left = ap (λ x. x.buffer) (cond-false _ short full e) }

module _ {V : Type 0} {written : V → Option (List ℕ)} {reads : List ℕ → Reading V} (form : WrittenForm written reads) where
  -- where a record stands, the reader answers it
  reads-record : (s : List ℕ) (p : ℕ) (e : Event V) (q : ℕ) → p < length s → record_at reads s p ≡ Ok (e, q) → next_at reads s p ≡ reading e q
  reads-record s p e q h r = cond-true (ltb p (length s)) _ _ (lt-ltb p _ h) ∙ ap (stepped reads p) r

  -- and what the reader answers stands there
  stepped-event : (p : ℕ) (r : Reading (Event V)) (e : Event V) (q : ℕ) → stepped reads p r ≡ reading e q → r ≡ Ok (e, q)
  stepped-event p (Err k) e q h = let a = ap (λ t. t.answer) h in let z : ◌≡◌ {A = ℕ} 0 1 = cc in absurd (omega arith)
  stepped-event p (Ok x) e q h =
      let a : ◌≡◌ {A = Result (Option (Event V)) Told} (Ok (Some x.0)) (Ok (Some e)) = ap (λ t. t.answer) h in
      let k : x.0 ≡ e = cc in
      ap (λ y. Ok (y, x.1)) k ∙ ap (λ n. Ok (e, n)) (ap (λ t. t.place) h)

  was-record : (s : List ℕ) (p : ℕ) (e : Event V) (q : ℕ) → next_at reads s p ≡ reading e q → record_at reads s p ≡ Ok (e, q)
  was-record s p e q h =
      ⊎_elim
      (λ (b : ltb p (length s) ≡ true). stepped-event p (record_at reads s p) e q (sym (cond-true (ltb p (length s)) _ _ b) ∙ h))
      (λ (b : ltb p (length s) ≡ false). let k = ap (λ t. t.answer) (sym (cond-false (ltb p (length s)) (stepped reads p (record_at reads s p)) _ b) ∙ h) in let z : ◌≡◌ {A = ℕ} 0 1 = cc in absurd (omega arith))
      (cases_Bool (ltb p (length s)))

  back : (e : Event V) (lent front rest : List ℕ) (n : ℕ) → (leaves written reads e lent).answer ≡ Ok n → Bytes (front ++ (take n (leaves written reads e lent).buffer ++ rest)) → next_at reads (front ++ (take n (leaves written reads e lent).buffer ++ rest)) (length front) ≡ reading e (length front + n)
  back e lent front rest n h small =
      let k = wrote (event_bytes written e) lent n h in
      let w = k.bytes in
      let part : take n (leaves written reads e lent).buffer ≡ w = ap (take n) k.left ∙ take_at w (drop (length w) lent) n (sym k.long) in
      let P : List ℕ → Type 0 = λ l. Bytes (front ++ (l ++ rest)) → next_at reads (front ++ (l ++ rest)) (length front) ≡ reading e (length front + n) in
      subst P (sym part) (at w k.was k.long) small
    where
      at : (w : List ℕ) → event_bytes written e ≡ Some w → n ≡ length w → Bytes (front ++ (w ++ rest)) → next_at reads (front ++ (w ++ rest)) (length front) ≡ reading e (length front + n)
      at w was long small =
          let s = front ++ (w ++ rest) in
          let room : length front < length s = omega (arith, length-append front (w ++ rest), length-append w rest, (has-bytes written e w was).two) in
          reads-record s (length front) e (length front + n) room
          (record-back form e w s rest (length front) small was (drop_at front (w ++ rest) (length front) refl) ∙ ap (λ m. Ok (e, length front + m)) (sym long))

  again : (s lent : List ℕ) (p : ℕ) (e : Event V) (q : ℕ) → Bytes s → next_at reads s p ≡ reading e q → q - p ≤ length lent → leaves written reads e lent ≡ record { answer = Ok (q - p); buffer = filled (take (q - p) (drop p s)) lent }
  again s lent p e q small h room =
      let r = record-read form s p e q small (was-record s p e q h) in
      let w = take (q - p) (drop p s) in
      let long : length w ≡ q - p = omega (arith, length-take (q - p) (drop p s), length-drop p s, r.room, r.up) in
      ap (λ o. writes o lent) r.bytes
      ∙ cond-false (ltb (length lent) (length w)) _ _ (le-ltb _ _ (omega arith))
      ∙ ap (λ n. record { answer = Ok n; buffer = filled w lent }) long

  pub round_trip : RoundTrip written reads
  round_trip = record {
    back = back;
    onward = λ s p e q small h. let r = record-read form s p e q small (was-record s p e q h) in (r.up, r.room);
    again = again;
  }
