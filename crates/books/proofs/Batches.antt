-- A batch, record by record.
use Rattle.std.proofs.Common.{◌≡◌, ℕ, zero, suc, ◌+◌, ◌-◌, ◌<◌, ◌≤◌, Bool, true, false, cond, ltb, List, [], ◌∷◌, ◌++◌, length, take, drop, IfOk, Some, None, Ok, Err, Option, Result, sym, refl, ap, ◌∙◌, subst, arith}
use borrow.Rule.Slice.PartMut.{put_mid}
use Rattle.std.proofs.lemmas.List.{append-nil, drop_all, drop_at, drop-drop, length-drop, length-take-le, take-append-drop}
use Rattle.std.proofs.lemmas.Bool.{ltb-false, ltb-true}
use Rattle.refusals.specs.Telling.{told_of}
use Rattle.refusals.specs.declared.refusal.Refusal.{Refusal}
use Rattle.refusals.specs.declared.refusal.Refusal.TheVariants.{Malformed, WrongPhase, TooManyMoves, TooManyFindings, ShelfFull}
use Rattle.values.specs.Form.{Reading}
use Rattle.records.specs.Reader.{Step, malformed, next_at, stepped}
use Rattle.records.specs.Record.{record_at}
use Rattle.records.specs.declared.event.Event.{Event}
use Rattle.sheets.specs.Tables.{SheetModel}
use Rattle.rules.specs.Book.{Alike, Batching, BookModel, EventOutcome, Served, accepted_put, batch_from, batched, early_refusal, filled_pad, findings_at, late_refusal, on_result, one_more, put_at, refused_if, refused_put, so_far, stopped, took, unless}
use Rattle.rules.specs.Kinds.{ValueKind}
use Rattle.rules.specs.Phases.{allowed, is_open}
use Rattle.rules.specs.Records.{Records, done, one, read_on, records_at, stop}
use Rattle.rules.specs.Step.{Count, count_added, moves_at, set_after}
use Rattle.rules.specs.declared.answers.Accepted.{Accepted}
use Rattle.rules.specs.declared.answers.Batched.{Batched}
use Rattle.rules.specs.declared.finding.Finding.{Finding}
use Rattle.rules.specs.declared.moves.Move.{Move}
use Rattle.rules.specs.declared.phase.Phase.{Phase}
use Rattle.rules.specs.declared.phase.Phase.TheVariants as phase
use Rattle.rules.specs.declared.phase.PhaseCall.TheVariants as call
use Rattle.rules.proofs.Likeness.{alike-on, alike_self}
use Rattle.rules.proofs.Onward.{From, from-record, records-next, so_far_more, told-malformed}
use Rattle.books.specs.Batches.{SameAs, ended_by, left_by}
use Rattle.books.specs.Puts.{Came}

plus : {X : Type 0} (m n : ℕ) (xs : List X) → take m xs ++ take n (drop m xs) ≡ take (m + n) xs
plus zero n xs = ap (λ k. take k xs) (omega arith)
plus (suc m) n [] = none n ∙ sym (none (suc m + n))
  where
    none : {Y : Type 0} (k : ℕ) → take {A = Y} k [] ≡ []
    none zero = refl
    none (suc k) = refl
plus (suc m) n (x ∷ xs) =
    let e : suc m + n ≡ suc (m + n) = omega arith in
    ap (λ l. x ∷ l) (plus m n xs) ∙ ap (λ k. take k (x ∷ xs)) (sym e)

-- a list whose rest from a place on was written anew
pub written-rest : {X : Type 0} (a : ℕ) (xs ys : List X) → a ≤ length xs → drop a (put_mid a (length xs - a) xs ys) ≡ ys
written-rest a xs ys h =
    drop_at (take a xs) (ys ++ drop (length xs - a) (drop a xs)) a (length-take-le a xs h)
    ∙ ap (λ l. ys ++ l) (drop_all (length xs - a) (drop a xs) (simp length-drop (omega arith)))
    ∙ append-nil ys

module _ {V : Type 0} where
  pub same-on : {R : Type 0} (o p q : EventOutcome V R) → SameAs o p → SameAs p q → SameAs o q
  same-on o p q h k = record { back = h.back ∙ k.back; pad = h.pad ∙ k.pad; roll = h.roll ∙ k.roll; book = alike-on o.book p.book q.book h.book k.book }

  same_more : (a : Accepted) (roll : List (Finding V)) (o p : EventOutcome V Batched) → SameAs o p → SameAs (one_more a roll o) (one_more a roll p)
  same_more a roll o p h = record {
    back = ap (λ d. batched (1 + d.accepted) (a.findings + d.findings) d.refusal) h.back;
    pad = h.pad;
    roll = ap (λ l. take a.findings roll ++ l) h.roll;
    book = h.book;
  }

  same-far : (n m : ℕ) (front : List (Finding V)) (o p : EventOutcome V Batched) → SameAs o p → SameAs (so_far n m front o) (so_far n m front p)
  same-far n m front o p h = record {
    back = ap (λ d. batched (n + d.accepted) (m + d.findings) d.refusal) h.back;
    pad = h.pad;
    roll = ap (λ l. front ++ l) h.roll;
    book = h.book;
  }

module _ {V : Type 0} (K : ValueKind V) (s : SheetModel V) where
  -- a book with other counts
  abbrev recount : (Count → ℕ → ℕ) → BookModel V → BookModel V
  recount c b = record { phase = b.phase; accepted = b.accepted; counts = c; items = b.items; limit = b.limit }

  -- a put by its refusals, if any
  abbrev put_by : BookModel V → Event V → List (Move V) → List (Finding V) → Option Refusal → Option Refusal → EventOutcome V (Result Accepted Refusal)
  put_by b e pad roll o p = unless o (refused_put pad roll b) (unless p (refused_put (filled_pad K s b e pad) roll b) (accepted_put K s b e pad roll))

  put-recount : (c : Count → ℕ → ℕ) (b : BookModel V) → ((k : Count) (n : ℕ) → n < 32 → c k n ≡ b.counts k n)
      → (place : ℕ) (e : Event V) (pad : List (Move V)) (roll : List (Finding V)) → SameAs (put_at K s place (recount c b) e pad roll) (put_at K s place b e pad roll)
  unfolding early_refusal late_refusal filled_pad accepted_put took
  put-recount c b h place e pad roll = go (early_refusal place b e) (late_refusal K s place b e pad roll)
    where
      same : Alike (recount c b) b
      same = record { phase = refl; accepted = refl; items = refl; limit = refl; counts = h }

      go : (o p : Option Refusal) → SameAs (put_by (recount c b) e pad roll o p) (put_by b e pad roll o p)
      go None None = record {
        back = refl;
        pad = refl;
        roll = refl;
        book = record { phase = refl; accepted = refl; items = refl; limit = refl; counts = λ k n l. ap (λ m. m + count_added K k n (moves_at K s b.items e) b.items) (h k n l) };
      }
      go None (Some r) = record { back = refl; pad = refl; roll = refl; book = same }
      go (Some r) p = record { back = refl; pad = refl; roll = refl; book = same }

  put-alike : (b b' : BookModel V) → Alike b b' → (place : ℕ) (e : Event V) (pad : List (Move V)) (roll : List (Finding V)) → SameAs (put_at K s place b e pad roll) (put_at K s place b' e pad roll)
  put-alike b b' a place e pad roll = subst (λ d. SameAs (put_at K s place d e pad roll) (put_at K s place b' e pad roll)) (sym apart) (put-recount b.counts b' a.counts place e pad roll)
    where
      apart : b ≡ recount b.counts b'
      apart = λ i. record { phase = a.phase i; accepted = a.accepted i; counts = b.counts; items = a.items i; limit = a.limit i }

  -- a batch of one record more, by what its put came to
  abbrev further : EventOutcome V (Result Accepted Refusal) → Records V → EventOutcome V Batched
  further o more =
      on_result o.back
      (λ a. one_more a o.roll (batch_from K s o.book o.pad (drop a.findings o.roll) more))
      (λ r. stopped (Some r) o.pad o.roll o.book)

  abbrev AlikeOver : Records V → Type 0
  AlikeOver rs = (b b' : BookModel V) → Alike b b' → (pad : List (Move V)) (roll : List (Finding V)) → SameAs (batch_from K s b pad roll rs) (batch_from K s b' pad roll rs)

  further_same : (more : Records V) → AlikeOver more → (o p : EventOutcome V (Result Accepted Refusal)) → SameAs o p → SameAs (further o more) (further p more)
  further_same more ih o p h = by o.back refl
    where
      -- the same outcome with the answer, the pad and the roll of the other
      by : (r : Result Accepted Refusal) → o.back ≡ r → SameAs (further o more) (further p more)
      by (Ok a) e =
          let f = sym h.back ∙ e in
          subst (λ x. SameAs (on_result x (λ k. one_more k o.roll (batch_from K s o.book o.pad (drop k.findings o.roll) more)) (λ r. stopped (Some r) o.pad o.roll o.book)) (further p more)) (sym e)
          (subst (λ x. SameAs (one_more a o.roll (batch_from K s o.book o.pad (drop a.findings o.roll) more)) (on_result x (λ k. one_more k p.roll (batch_from K s p.book p.pad (drop k.findings p.roll) more)) (λ r. stopped (Some r) p.pad p.roll p.book))) (sym f)
          (subst (λ l. SameAs (one_more a l (batch_from K s o.book o.pad (drop a.findings l) more)) (one_more a p.roll (batch_from K s p.book p.pad (drop a.findings p.roll) more))) (sym h.roll)
          (subst (λ l. SameAs (one_more a p.roll (batch_from K s o.book l (drop a.findings p.roll) more)) (one_more a p.roll (batch_from K s p.book p.pad (drop a.findings p.roll) more))) (sym h.pad)
          (same_more a p.roll _ _ (ih o.book p.book h.book p.pad (drop a.findings p.roll))))))
      by (Err r) e =
          let f = sym h.back ∙ e in
          subst (λ x. SameAs (on_result x (λ k. one_more k o.roll (batch_from K s o.book o.pad (drop k.findings o.roll) more)) (λ q. stopped (Some q) o.pad o.roll o.book)) (further p more)) (sym e)
          (subst (λ x. SameAs (stopped (Some r) o.pad o.roll o.book) (on_result x (λ k. one_more k p.roll (batch_from K s p.book p.pad (drop k.findings p.roll) more)) (λ q. stopped (Some q) p.pad p.roll p.book))) (sym f)
          (record { back = refl; pad = h.pad; roll = h.roll; book = h.book }))

  batch-alike : (rs : Records V) → AlikeOver rs
  batch-alike done b b' a pad roll = record { back = refl; pad = refl; roll = refl; book = a }
  batch-alike (stop q) b b' a pad roll = record { back = refl; pad = refl; roll = refl; book = a }
  batch-alike (one place e more) b b' a pad roll = further_same more (batch-alike more) (put_at K s place b e pad roll) (put_at K s place b' e pad roll) (put-alike b b' a place e pad roll)

  -- what a put came to
  abbrev came_to : Result Accepted Refusal → List (Move V) → List (Finding V) → BookModel V → EventOutcome V (Result Accepted Refusal)
  came_to r pad roll b = record { back = r; pad = pad; roll = roll; book = b }

  -- an accepted put makes no more findings than the roll has places
  pub accepted-fits : (place : ℕ) (b : BookModel V) (e : Event V) (pad : List (Move V)) (roll : List (Finding V)) (a : Accepted) → (put_at K s place b e pad roll).back ≡ Ok a → a.findings ≤ length roll
  unfolding early_refusal late_refusal accepted_put
  accepted-fits place b e pad roll a h = go (early_refusal place b e) (late_refusal K s place b e pad roll) refl h
    where
      fs : List (Finding V)
      fs = findings_at K s (b.accepted + 1) b.items e

      found_in : Result Accepted Refusal → ℕ
      found_in (Ok x) = x.findings
      found_in (Err r) = 0

      late : (x y z : Bool) → ltb (length roll) (length fs) ≡ y → refused_if x (TooManyMoves place) (refused_if y (TooManyFindings place) (refused_if z (ShelfFull place) None)) ≡ None → length fs ≤ length roll
      late false false z e q = ltb-false (length roll) (length fs) e
      late false true z e q = let n : ◌≡◌ {A = ℕ} 0 1 = cc in absurd (omega arith)
      late true y z e q = let n : ◌≡◌ {A = ℕ} 0 1 = cc in absurd (omega arith)

      go : (o p : Option Refusal) → late_refusal K s place b e pad roll ≡ p → (put_by b e pad roll o p).back ≡ Ok a → a.findings ≤ length roll
      go None None t q =
          let l = late (ltb (length pad) (length (moves_at K s b.items e))) (ltb (length roll) (length fs)) (ltb b.limit (length (set_after K s b.items e))) refl t in
          let f = ap (λ r. found_in r) q in
          omega (arith, l, f)
      go None (Some r) e q = let n : ◌≡◌ {A = ℕ} 0 1 = cc in absurd (omega arith)
      go (Some r) p e q = let n : ◌≡◌ {A = ℕ} 0 1 = cc in absurd (omega arith)

  pub made-fits : (place : ℕ) (b : BookModel V) (e : Event V) (pad : List (Move V)) (roll : List (Finding V)) (from all : ℕ) → from + length roll ≤ all
      → (r : Result Accepted Refusal) → r ≡ (put_at K s place b e pad roll).back → IfOk r (λ a. from + a.findings ≤ all)
  made-fits place b e pad roll from all h (Ok a) k = let l = accepted-fits place b e pad roll a (sym k) in omega arith
  made-fits place b e pad roll from all h (Err f) k = tt

  -- an accepted put is one event more
  pub accepted-one : (place : ℕ) (b : BookModel V) (e : Event V) (pad : List (Move V)) (roll : List (Finding V)) (a : Accepted) (pad' : List (Move V)) (roll' : List (Finding V)) (b' : BookModel V)
      → Came (put_at K s place b e pad roll) (Ok a) pad' roll' b' → b'.accepted ≡ b.accepted + 1
  unfolding accepted_put took
  accepted-one place b e pad roll a pad' roll' b' came = came.book.accepted ∙ go (early_refusal place b e) (late_refusal K s place b e pad roll) (sym came.back)
    where
      go : (o p : Option Refusal) → (put_by b e pad roll o p).back ≡ Ok a → (put_by b e pad roll o p).book.accepted ≡ b.accepted + 1
      go None None q = refl
      go None (Some r) q = let n : ◌≡◌ {A = ℕ} 0 1 = cc in absurd (omega arith)
      go (Some r) p q = let n : ◌≡◌ {A = ℕ} 0 1 = cc in absurd (omega arith)

  -- A batch of which so much is done: one record more is put.
  module _ (b : BookModel V) (pad : List (Move V)) (roll : List (Finding V)) (d : Batched) (place : ℕ) (e : Event V)
      (pad' : List (Move V)) (roll' : List (Finding V)) (b' : BookModel V) (front : take d.findings roll' ≡ take d.findings roll) where
    -- and accepted
    pub left-more : (a : Accepted) → Came (put_at K s place b e pad (drop d.findings roll)) (Ok a) pad' (drop d.findings roll') b'
        → (more : Records V) → SameAs (left_by K s b' pad' roll' (record { accepted = d.accepted + 1; findings = d.findings + a.findings; refusal = d.refusal }) more) (left_by K s b pad roll d (one place e more))
    left-more a came more =
        let X = batch_from K s b' pad' (drop a.findings (drop d.findings roll')) more in
        let h = further_same more (batch-alike more) (came_to (Ok a) pad' (drop d.findings roll') b') (put_at K s place b e pad (drop d.findings roll)) came in
        let k = same-far d.accepted d.findings (take d.findings roll) _ _ h in
        subst (λ o. SameAs o (left_by K s b pad roll d (one place e more)))
        (so_far_more d.accepted d.findings (take d.findings roll) a (drop d.findings roll') X
        ∙ (λ i. so_far (d.accepted + 1) (d.findings + a.findings) (fronts i) (batch_from K s b' pad' (drop-drop a.findings d.findings roll' i) more)))
        k
      where
        fronts : take d.findings roll ++ take a.findings (drop d.findings roll') ≡ take (d.findings + a.findings) roll'
        fronts = ap (λ l. l ++ take a.findings (drop d.findings roll')) (sym front) ∙ plus d.findings a.findings roll'

    -- and refused
    pub left-refused : (r : Refusal) → Came (put_at K s place b e pad (drop d.findings roll)) (Err r) pad' (drop d.findings roll') b'
        → (more : Records V) → SameAs (ended_by (Err r) b' pad' roll' d) (left_by K s b pad roll d (one place e more))
    left-refused r came more =
        let h = further_same more (batch-alike more) (came_to (Err r) pad' (drop d.findings roll') b') (put_at K s place b e pad (drop d.findings roll)) came in
        let k = same-far d.accepted d.findings (take d.findings roll) _ _ h in
        same-on _ _ _ (record { back = none; pad = refl; roll = whole; book = alike_self b' }) k
      where
        none : record { accepted = d.accepted; findings = d.findings; refusal = Some r } ≡ batched (d.accepted + 0) (d.findings + 0) (Some r)
        none = let p : d.accepted ≡ d.accepted + 0 = omega arith in let q : d.findings ≡ d.findings + 0 = omega arith in λ i. batched (p i) (q i) (Some r)

        whole : roll' ≡ take d.findings roll ++ drop d.findings roll'
        whole = sym (ap (λ l. l ++ drop d.findings roll') (sym front) ∙ take-append-drop d.findings roll')

  -- A batch of which so much is done ends.
  module _ (b : BookModel V) (pad : List (Move V)) (roll : List (Finding V)) (d : Batched) where
    whole : roll ≡ take d.findings roll ++ drop d.findings roll
    whole = sym (take-append-drop d.findings roll)

    added_none : (o : Option Refusal) → batched d.accepted d.findings o ≡ batched (d.accepted + 0) (d.findings + 0) o
    added_none o = let p : d.accepted ≡ d.accepted + 0 = omega arith in let q : d.findings ≡ d.findings + 0 = omega arith in λ i. batched (p i) (q i) o

    pub left-done : SameAs (ended_by (Ok tt) b pad roll d) (left_by K s b pad roll d done)
    left-done = record { back = added_none None; pad = refl; roll = whole; book = alike_self b }

    pub left-stopped : (r : Refusal) (q : ℕ) → r ≡ Malformed q → SameAs (ended_by (Err r) b pad roll d) (left_by K s b pad roll d (stop q))
    left-stopped r q e = record { back = ap (λ x. batched d.accepted d.findings (Some x)) e ∙ added_none (Some (Malformed q)); pad = refl; roll = whole; book = alike_self b }

-- What a reader tells of the records from its place on.
module _ {V : Type 0} (reads : List ℕ → Reading V) (bytes : List ℕ) (p : ℕ) where
  -- an event was read
  pub record ReadOne (e : Event V) (p' : ℕ) : Type 0 where
    pub rest : records_at reads bytes p ≡ one p e (records_at reads bytes p')
    pub before : p < length bytes
    pub further : p < p'

  abbrev At : Bool → Reading (Event V) → Step V
  At b r = cond b (stepped reads p r) (record { answer = Ok None; place = p })

  abbrev On : Bool → Reading (Event V) → Records V
  On b r = cond b (read_on reads p r (records_at reads bytes)) done

  pub read_one : (e : Event V) (p' : ℕ) → Ok (Some e) ≡ (next_at reads bytes p).answer → p' ≡ (next_at reads bytes p).place → ReadOne e p'
  read_one e p' h k = go (ltb p (length bytes)) (record_at reads bytes p) refl refl (from-record reads bytes p) h k
    where
      go : (b : Bool) (r : Reading (Event V)) → ltb p (length bytes) ≡ b → record_at reads bytes p ≡ r → From (p + 2) (record_at reads bytes p) → Ok (Some e) ≡ (At b r).answer → p' ≡ (At b r).place → ReadOne e p'
      go true (Ok x) t u f q w =
          let same : e ≡ x.0 = cc in
          let on = subst (From (p + 2)) u f in
          record {
            rest = records-next reads bytes p ∙ ap (λ b. On b (record_at reads bytes p)) t ∙ ap (λ r. On true r) u ∙ (λ i. one p (sym same i) (records_at reads bytes (sym w i)));
            before = ltb-true p (length bytes) t;
            further = omega (arith, on, w);
          }
      go true (Err m) t u f q w = let n : ◌≡◌ {A = ℕ} 0 1 = cc in absurd (omega arith)
      go false r t u f q w = let n : ◌≡◌ {A = ℕ} 0 1 = cc in absurd (omega arith)

  -- the batch has ended
  pub read_none : Ok None ≡ (next_at reads bytes p).answer → records_at reads bytes p ≡ done
  read_none h = go (ltb p (length bytes)) (record_at reads bytes p) refl refl h
    where
      go : (b : Bool) (r : Reading (Event V)) → ltb p (length bytes) ≡ b → record_at reads bytes p ≡ r → Ok None ≡ (At b r).answer → records_at reads bytes p ≡ done
      go true (Ok x) t u q = let n : ◌≡◌ {A = ℕ} 0 1 = cc in absurd (omega arith)
      go true (Err m) t u q = let n : ◌≡◌ {A = ℕ} 0 1 = cc in absurd (omega arith)
      go false r t u q = records-next reads bytes p ∙ ap (λ b. On b (record_at reads bytes p)) t

  -- the bytes are no record
  pub record ReadStop (r : Refusal) : Type 0 where
    pub place : ℕ
    pub rest : records_at reads bytes p ≡ stop place
    pub because : r ≡ Malformed place

  pub read-stop : (f : Refusal) → Err (told_of f) ≡ (next_at reads bytes p).answer → ReadStop f
  read-stop f h = go (ltb p (length bytes)) (record_at reads bytes p) refl refl h
    where
      go : (b : Bool) (r : Reading (Event V)) → ltb p (length bytes) ≡ b → record_at reads bytes p ≡ r → Err (told_of f) ≡ (At b r).answer → ReadStop f
      go true (Ok x) t u q = let n : ◌≡◌ {A = ℕ} 0 1 = cc in absurd (omega arith)
      go true (Err m) t u q =
          let same : told_of f ≡ malformed m = cc in
          record {
            place = m;
            rest = records-next reads bytes p ∙ ap (λ b. On b (record_at reads bytes p)) t ∙ ap (λ r. On true r) u;
            because = told-malformed f m same;
          }
      go false r t u q = let n : ◌≡◌ {A = ℕ} 0 1 = cc in absurd (omega arith)

-- A whole batch.
module _ {V : Type 0} (K : ValueKind V) (s : SheetModel V) (b : BookModel V) (bytes : List ℕ) (pad : List (Move V)) (roll : List (Finding V)) where
  abbrev batch_with : Bool → EventOutcome V Batched
  batch_with o = cond o (batch_from K s b pad roll (records_at K.reads bytes 0)) (stopped (Some WrongPhase) pad roll b)

  allowed-open : (p : Phase) → Ok tt ≡ allowed p call.Take → is_open p ≡ true
  allowed-open phase.Blank h = let n : ◌≡◌ {A = ℕ} 0 1 = cc in absurd (omega arith)
  allowed-open phase.Open h = refl
  allowed-open phase.Ended h = let n : ◌≡◌ {A = ℕ} 0 1 = cc in absurd (omega arith)

  refused-shut : (p : Phase) (r : Refusal) → Err r ≡ allowed p call.Take → (is_open p ≡ false) × (r ≡ WrongPhase)
  refused-shut phase.Blank r h = (refl, cc)
  refused-shut phase.Open r h = let n : ◌≡◌ {A = ℕ} 0 1 = cc in absurd (omega arith)
  refused-shut phase.Ended r h = (refl, cc)

  pub batch-served : Ok tt ≡ allowed b.phase call.Take → (d : Batched) (pad' : List (Move V)) (roll' : List (Finding V)) (b' : BookModel V)
      → Came (batch_from K s b pad roll (records_at K.reads bytes 0)) d pad' roll' b' → Served K s b (Batching bytes pad pad' roll roll' d) b'
  batch-served h d pad' roll' b' came =
      let q = sym (allowed-open b.phase h) in
      record {
        replied = (subst (λ o. d ≡ (batch_with o).back) q came.back, subst (λ o. pad' ≡ (batch_with o).pad) q came.pad, subst (λ o. roll' ≡ (batch_with o).roll) q came.roll);
        book = subst (λ o. Alike b' (batch_with o).book) q came.book;
      }

  pub batch-refused : (r : Refusal) → Err r ≡ allowed b.phase call.Take → Served K s b (Batching bytes pad pad roll roll (batched 0 0 (Some r))) b
  batch-refused r h =
      let t = refused-shut b.phase r h in
      let q = sym t.0 in
      record {
        replied = (subst (λ o. batched 0 0 (Some r) ≡ (batch_with o).back) q (ap (λ x. batched 0 0 (Some x)) t.1), subst (λ o. pad ≡ (batch_with o).pad) q refl, subst (λ o. roll ≡ (batch_with o).roll) q refl);
        book = subst (λ o. Alike b (batch_with o).book) q (alike_self b);
      }
