-- The records of a batch, gone through one after another.
use Rattle.std.proofs.Common.{◌≡◌, ℕ, zero, suc, ◌+◌, ◌/◌, ◌%◌, ◌≤◌, Bool, true, false, cond, eqb, ltb, List, [], ◌∷◌, ◌++◌, length, take, drop, None, Ok, Err, Option, sym, refl, ap, append_assoc, arith, ltb-true}
use Rattle.refusals.specs.Telling.{Told, told_of}
use Rattle.refusals.specs.declared.refusal.Refusal.{Refusal}
use Rattle.refusals.specs.declared.refusal.Refusal.TheVariants.{TableTooLong, RuleBroken, InitialStates, Malformed, WrongPhase, TooManyEvents, TooManyMoves, TooManyFindings, ShelfFull, ShelfNotEmpty, UnknownName, BufferTooShort}
use Rattle.values.specs.Form.{Reading}
use Rattle.records.specs.Reader.{malformed}
use Rattle.records.specs.Record.{before, event, field_at, fields_at, follow, found, kind_fits, record_at, record_in}
use Rattle.records.specs.declared.event.Event.{Event}
use Rattle.rules.specs.Book.{EventOutcome, batched, one_more, so_far}
use Rattle.rules.specs.Records.{done, one, read_on, records_at, records_from}
use Rattle.rules.specs.declared.answers.Accepted.{Accepted}
use Rattle.rules.specs.declared.answers.Batched.{Batched}
use Rattle.rules.specs.declared.finding.Finding.{Finding}

-- a refusal that is told as that of bytes that are no record is that refusal
pub told-malformed : (r : Refusal) (q : ℕ) → told_of r ≡ malformed q → r ≡ Malformed q
told-malformed r q h = go r (ap (λ (t : Told). t.number) h) (ap (λ (t : Told). t.place) h)
  where
    go : (x : Refusal) → (told_of x).number ≡ 4 → (told_of x).place ≡ q → x ≡ Malformed q
    go (TableTooLong t) n p = absurd (omega arith)
    go (RuleBroken t) n p = absurd (omega arith)
    go InitialStates n p = absurd (omega arith)
    go (Malformed place) n p = ap Malformed p
    go WrongPhase n p = absurd (omega arith)
    go (TooManyEvents place) n p = absurd (omega arith)
    go (TooManyMoves place) n p = absurd (omega arith)
    go (TooManyFindings place) n p = absurd (omega arith)
    go (ShelfFull place) n p = absurd (omega arith)
    go ShelfNotEmpty n p = absurd (omega arith)
    go UnknownName n p = absurd (omega arith)
    go (BufferTooShort m) n p = absurd (omega arith)

-- what was read ends at p or further on
abbrev pub From : {X : Type 0} → ℕ → Reading X → Type 0
From p (Ok x) = p ≤ x.1
From p (Err q) = Unit {0}

from_less : {X : Type 0} (p q : ℕ) → p ≤ q → (r : Reading X) → From q r → From p r
from_less p q l (Ok x) h = omega arith
from_less p q l (Err m) h = tt

module _ {V : Type 0} (reads : List ℕ → Reading V) where
  from_found : (p : ℕ) (r : Reading V) → From p (found reads p r)
  from_found p (Ok x) = omega arith
  from_found p (Err q) = tt

  from_field : (m : ℕ) (s : List ℕ) (p : ℕ) → From p (field_at reads m s p)
  unfolding field_at
  from_field m s p = go (eqb (m % 2) 0)
    where
      go : (b : Bool) → From p (cond b (Ok (None, p)) (found reads p (reads (drop p s))))
      go true = omega arith
      go false = from_found p (reads (drop p s))

  from-before : (p : ℕ) (fs : List (Option V)) (r : Reading (List (Option V))) → From p r → From p (before reads fs r)
  from-before p fs (Ok x) h = h
  from-before p fs (Err q) h = tt

  from_fields : (k m : ℕ) (s : List ℕ) (p : ℕ) → From p (fields_at reads k m s p)
  unfolding fields_at
  from_fields zero m s p = omega arith
  from_fields (suc k) m s p = go (field_at reads m s p) (from_field m s p) (from_fields k (m / 2) s)
    where
      go : (r : Reading (Option V)) → From p r → ((q : ℕ) → From q (fields_at reads k (m / 2) s q))
          → From p (follow reads r (λ q. fields_at reads k (m / 2) s q))
      go (Ok x) h ih =
          from-before p (x.0 ∷ []) (fields_at reads k (m / 2) s x.1)
          (from_less p x.1 h (fields_at reads k (m / 2) s x.1) (ih x.1))
      go (Err q) h ih = tt

  from-event : (p k : ℕ) (r : Reading (List (Option V))) → From p r → From p (event reads k r)
  from-event p k (Ok x) h = h
  from-event p k (Err q) h = tt

  -- a record has two bytes at least
  pub from-record : (s : List ℕ) (p : ℕ) → From (p + 2) (record_at reads s p)
  unfolding record_at
  from-record s p = at (drop p s)
    where
      at : (bytes : List ℕ) → From (p + 2) (record_in reads s p bytes)
      at [] = tt
      at (kind ∷ []) = go (kind_fits kind)
        where
          go : (b : Bool) → From {X = Event V} (p + 2) (cond b (Err (p + 1)) (Err p))
          go true = tt
          go false = tt
      at (kind ∷ (m ∷ more)) = go (kind_fits kind)
        where
          go : (b : Bool) → From {X = Event V} (p + 2) (cond b (event reads kind (fields_at reads 8 m s (p + 2))) (Err p))
          go true = from-event (p + 2) kind (fields_at reads 8 m s (p + 2)) (from_fields 8 m s (p + 2))
          go false = tt

  -- any number of turns from the number of bytes left on gives the same records
  enough : (n m : ℕ) (s : List ℕ) (p : ℕ) → length s ≤ n + p → length s ≤ m + p → records_from reads n s p ≡ records_from reads m s p
  unfolding records_from
  enough zero zero s p l k = refl
  enough zero (suc m) s p l k = go (ltb p (length s)) refl
    where
      go : (b : Bool) → ltb p (length s) ≡ b → done ≡ cond b (read_on reads p (record_at reads s p) (records_from reads m s)) done
      go true e = absurd (omega (arith, ltb-true p (length s) e))
      go false e = refl
  enough (suc n) zero s p l k = go (ltb p (length s)) refl
    where
      go : (b : Bool) → ltb p (length s) ≡ b → cond b (read_on reads p (record_at reads s p) (records_from reads n s)) done ≡ done
      go true e = absurd (omega (arith, ltb-true p (length s) e))
      go false e = refl
  enough (suc n) (suc m) s p l k = ap (λ r. cond (ltb p (length s)) r done) (go (record_at reads s p) (from-record s p) (enough n m s))
    where
      go : (r : Reading (Event V)) → From (p + 2) r
          → ((q : ℕ) → length s ≤ n + q → length s ≤ m + q → records_from reads n s q ≡ records_from reads m s q)
          → read_on reads p r (records_from reads n s) ≡ read_on reads p r (records_from reads m s)
      go (Ok x) h ih = ap (one p x.0) (ih x.1 (omega arith) (omega arith))
      go (Err q) h ih = refl

  -- the records from a place on: the one that stands there, and then the others
  pub records-next : (s : List ℕ) (p : ℕ)
      → records_at reads s p ≡ cond (ltb p (length s)) (read_on reads p (record_at reads s p) (records_at reads s)) done
  unfolding records_at records_from
  records-next s p = enough (length s) (suc (length s)) s p (omega arith) (omega arith)

-- a batch of which so much is done, and one more event
pub so_far_more : {V : Type 0} (n m : ℕ) (front : List (Finding V)) (a : Accepted) (roll : List (Finding V)) (rest : EventOutcome V Batched)
    → so_far n m front (one_more a roll rest) ≡ so_far (n + 1) (m + a.findings) (front ++ take a.findings roll) rest
so_far_more n m front a roll rest =
    let p : n + (1 + rest.back.accepted) ≡ (n + 1) + rest.back.accepted = omega arith in
    let q : m + (a.findings + rest.back.findings) ≡ (m + a.findings) + rest.back.findings = omega arith in
    let r : front ++ (take a.findings roll ++ rest.roll) ≡ (front ++ take a.findings roll) ++ rest.roll = sym (append_assoc front (take a.findings roll) rest.roll) in
    λ i. record { back = batched (p i) (q i) rest.back.refusal; pad = rest.pad; roll = r i; book = rest.book }

-- before the first one
pub so-far-none : {V : Type 0} (o : EventOutcome V Batched) → so_far 0 0 [] o ≡ o
so-far-none o =
    let p : 0 + o.back.accepted ≡ o.back.accepted = omega arith in
    let q : 0 + o.back.findings ≡ o.back.findings = omega arith in
    λ i. record { back = batched (p i) (q i) o.back.refusal; pad = o.pad; roll = o.roll; book = o.book }
