-- Facts on taking an event.
use Rattle.std.proofs.Common.{◌≡◌, ℕ, ◌+◌, ◌-◌, ◌<◌, ◌≤◌, Bool, true, false, not, ltb, leb, List, ◌++◌, length, get_or, take, drop, Some, None, Ok, Err, Option, Result, sym, refl, ap, ◌∙◌, subst, ⊎_elim, arith}
use Rattle.std.proofs.lemmas.List.{length-map, length-take, take_all}
use Rattle.std.proofs.lemmas.Bool.{cases_Bool, le-ltb, leb-false, lt-ltb, ltb-false, ltb-true}
use Rattle.refusals.specs.declared.refusal.Refusal.{Refusal}
use Rattle.refusals.specs.declared.refusal.Refusal.TheVariants.{Malformed, WrongPhase, TooManyEvents}
use Rattle.records.specs.Record.{kind_fits}
use Rattle.records.specs.declared.event.Event.{Event}
use Rattle.items.specs.declared.item.Item.{Item}
use Rattle.sheets.specs.Tables.{SheetModel}
use Rattle.buffers.specs.Places.{capped, fill, last_place}
use Rattle.buffers.proofs.Fillings.{counted-front, fill-front, length-fill}
use Rattle.listing.proofs.Lists.{filled-reach}
use Rattle.rules.specs.Book.{Alike, BookModel, accepted_put, count_in, early_refusal, filled_pad, findings_at, late_refusal, put_at, refused_if, took}
use Rattle.rules.specs.Kinds.{ValueKind}
use Rattle.rules.specs.Phases.{is_open}
use Rattle.rules.specs.Step.{Count, count_added, faults_at, moves_at, new_set, numbered_as, set_after}
use Rattle.rules.specs.Tallies.{no_tally}
use Rattle.rules.specs.declared.answers.Accepted.{Accepted}
use Rattle.rules.specs.declared.finding.Finding.{Finding}
use Rattle.rules.specs.declared.moves.Move.{Move}
use Rattle.rules.specs.declared.phase.Phase.{Phase}
use Rattle.rules.specs.declared.phase.Phase.TheVariants.{Blank, Open, Ended}
use Rattle.rules.specs.declared.tallies.Tally.{Tally}
use Rattle.rules.proofs.Likeness.{alike_self}
use Rattle.counting.specs.Counts.{CountsAfter, RoomFor}
use Rattle.judging.specs.Judging.{AllFit, early_by, late_by}
use Rattle.books.specs.Puts.{Came, late_at}
use Rattle.books.specs.Bounds.{count_most, longest, start_room}

-- no count is larger than the phase and the accepted events can make it
abbrev pub Most : Phase → ℕ → List Tally → Type 0
Most p a ts = (c : Count) (n : ℕ) → n < 32 → count_in (get_or ts n no_tally) c ≤ count_most p a

start-most : (p : Phase) → start_room p ≤ longest
start-most Blank = omega arith
start-most Open = omega arith
start-most Ended = omega arith

-- there is room for the moves of one more event
pub room-more : (p : Phase) (a : ℕ) (ts : List Tally) → Most p a ts → a < 1000000 → (more : ℕ) → more < longest → RoomFor more ts
room-more p a ts m h more l c n k = let b = m c n k in let s = start-most p in omega arith

module _ {V : Type 0} (K : ValueKind V) (buffer : List (Move V)) (k : ℕ) (F : List (Item V)) (ts ts' : List Tally) (after : CountsAfter K (take (k - 0) buffer) F ts ts') where
  pub most-after : (p : Phase) (a : ℕ) → Most p a ts → k < longest → Most p (a + 1) ts'
  most-after p a m l c n h =
      let e = after.most c n h in
      let b = m c n h in
      let t = length-take (k - 0) buffer in
      omega arith

  pub counts-after : (ms : List (Move V)) → take k buffer ≡ ms → (c : Count) (n : ℕ) → n < 32 → count_in (get_or ts' n no_tally) c ≡ count_in (get_or ts n no_tally) c + count_added K c n ms F
  counts-after ms e c n h =
      let z : k - 0 ≡ k = omega arith in
      after.counts c n h ∙ ap (λ j. count_in (get_or ts n no_tally) c + count_added K c n (take j buffer) F) z ∙ ap (λ l. count_in (get_or ts n no_tally) c + count_added K c n l F) e

-- a number that is counted up to the largest is tested rightly against a smaller one
pub capped-test : (m n : ℕ) → m < last_place → ltb m (capped n) ≡ ltb m n
capped-test m n l =
    ⊎_elim
    (λ (e : ltb m n ≡ true). let h = ltb-true m n e in lt-ltb m (capped n) (omega arith) ∙ sym e)
    (λ (e : ltb m n ≡ false). let h = ltb-false m n e in le-ltb m (capped n) (omega arith) ∙ sym e)
    (cases_Bool (ltb m n))

-- what an accepted put gives back
abbrev answer : ℕ → ℕ → Result Accepted Refusal
answer m n = Ok (record { moves = m; findings = n })

-- An event whose moves were written into a pad, and whose moves and findings were counted.
module _ {V : Type 0} (K : ValueKind V) (s : SheetModel V) (place : ℕ) (b : BookModel V) (e : Event V) (pad : List (Move V)) (roll : List (Finding V)) (pad' : List (Move V)) (k j : ℕ)
    (short : length pad < last_place) (small : length roll < last_place)
    (wrote : pad' ≡ fill pad 0 (moves_at K s b.items e)) (moved : k ≡ capped (length (moves_at K s b.items e))) (found : j ≡ capped (length (faults_at K s b.items e))) where
  abbrev ms : List (Move V)
  ms = moves_at K s b.items e

  abbrev fs : List (Finding V)
  fs = findings_at K s (b.accepted + 1) b.items e

  long : length pad' ≡ length pad
  long = ap length wrote ∙ length-fill pad 0 (moves_at K s b.items e)

  as_many : length fs ≡ length (faults_at K s b.items e)
  unfolding findings_at
  as_many = length-map (faults_at K s b.items e) (numbered_as (b.accepted + 1))

  -- where the moves fit, the pad begins with them
  pub pad-front : k ≤ length pad' → take k pad' ≡ ms
  pad-front h = ap (λ n. take n pad') moved ∙ ap (take (capped (length ms))) wrote ∙ counted-front pad ms short (omega (arith, long))

  -- what is judged is what the rules judge
  pub late_is : late_refusal K s place b e pad roll ≡ late_by place (length pad') k (length roll) j b.limit (length (new_set K (take k pad') b.items))
  unfolding late_refusal set_after
  late_is =
      ⊎_elim
      (λ (t : ltb (length pad) (length ms) ≡ true).
      rw (t, first ∙ t) refl)
      (λ (t : ltb (length pad) (length ms) ≡ false).
      let h = ltb-false (length pad) (length ms) t in
      rw (t, first ∙ t) (rw (second, ap (λ l. new_set K l b.items) (pad-front (omega (arith, long)))) refl))
      (cases_Bool (ltb (length pad) (length ms)))
    where
      first : ltb (length pad') k ≡ ltb (length pad) (length ms)
      first = ap (λ n. ltb n k) long ∙ ap (ltb (length pad)) moved ∙ capped-test (length pad) (length ms) short

      second : ltb (length roll) j ≡ ltb (length roll) (length fs)
      second = ap (ltb (length roll)) found ∙ capped-test (length roll) (length (faults_at K s b.items e)) small ∙ ap (ltb (length roll)) (sym as_many)

  -- it is refused
  pub came_refused : (r : Refusal) → Some r ≡ late_by place (length pad') k (length roll) j b.limit (length (new_set K (take k pad') b.items))
      → Came (late_at K s place b e pad roll) (Err r) pad' roll b
  unfolding filled_pad
  came_refused r h =
      let q = late_is ∙ sym h in
      rw q
      (record {
        back = refl;
        pad = wrote ∙ fill-front pad ms (omega arith) ∙ filled-reach ms pad;
        roll = refl;
        book = alike_self b;
      })

  -- it is taken
  pub came-taken : None ≡ late_by place (length pad') k (length roll) j b.limit (length (new_set K (take k pad') b.items))
      → AllFit (length pad') k (length roll) j b.limit (length (new_set K (take k pad') b.items))
      → (roll' : List (Finding V)) → roll' ≡ fill roll 0 fs → (b' : BookModel V) → Alike b' (took K s e b)
      → Came (late_at K s place b e pad roll) (Ok (record { moves = k; findings = j })) pad' roll' b'
  unfolding accepted_put
  came-taken h fit roll' w b' a =
      let q = late_is ∙ sym h in
      rw q
      (record {
        back = same moves-is findings-is;
        pad = wrote ∙ fill-front pad ms (omega arith) ∙ ap (λ l. l ++ drop (length ms) pad) (take_all (length pad) ms (omega (arith, long, fit.moved, moved)));
        roll = w ∙ fill-front roll fs (omega arith) ∙ ap (λ l. l ++ drop (length fs) roll) (take_all (length roll) fs (omega (arith, fit.found, found, as_many)));
        book = a;
      })
    where
      moves-is : k ≡ length ms
      moves-is = omega (arith, long, fit.moved, moved)

      findings-is : j ≡ length fs
      findings-is = omega (arith, fit.found, found, as_many)

      same : {m n : ℕ} → k ≡ m → j ≡ n → answer k j ≡ answer m n
      same x y = λ i. answer (x i) (y i)

-- an event that is not refused at once is not one too many
pub early-more : (place : ℕ) (p : Phase) (kind n : ℕ) → None ≡ early_by place p kind n → n < 1000000
early-more place p kind n h = go (is_open p) (kind_fits kind) (leb 1000000 n) refl h
  where
    go : (o f m : Bool) → leb 1000000 n ≡ m → None ≡ refused_if (not o) WrongPhase (refused_if (not f) (Malformed place) (refused_if m (TooManyEvents place) None)) → n < 1000000
    go true true false e q = omega (arith, leb-false 1000000 n e)
    go true true true e q = let z : ◌≡◌ {A = ℕ} 0 1 = cc in absurd (omega arith)
    go true false m e q = let z : ◌≡◌ {A = ℕ} 0 1 = cc in absurd (omega arith)
    go false f m e q = let z : ◌≡◌ {A = ℕ} 0 1 = cc in absurd (omega arith)

module _ {V : Type 0} (K : ValueKind V) (s : SheetModel V) (place : ℕ) (b : BookModel V) (e : Event V) (pad : List (Move V)) (roll : List (Finding V)) where
  early-is : early_refusal place b e ≡ early_by place b.phase e.kind b.accepted
  unfolding early_refusal
  early-is = refl

  -- it is refused at once
  pub put_refused : (r : Refusal) → Some r ≡ early_by place b.phase e.kind b.accepted → Came (put_at K s place b e pad roll) (Err r) pad roll b
  put_refused r h = let q = early-is ∙ sym h in rw q (record { back = refl; pad = refl; roll = refl; book = alike_self b })

  -- it is not
  pub put-late : None ≡ early_by place b.phase e.kind b.accepted → (s' : SheetModel V) → s' ≡ s → (e' : Event V) → e' ≡ e
      → (r : Result Accepted Refusal) (pad' : List (Move V)) (roll' : List (Finding V)) (b' : BookModel V) → Came (late_at K s' place b e' pad roll) r pad' roll' b' → Came (put_at K s place b e pad roll) r pad' roll' b'
  put-late h s' same-sheet e' same-event r pad' roll' b' came =
      let q = early-is ∙ sym h in
      rw q (subst (λ t. Came (late_at K t place b e pad roll) r pad' roll' b') same-sheet (subst (λ d. Came (late_at K s' place b d pad roll) r pad' roll' b') same-event came))
