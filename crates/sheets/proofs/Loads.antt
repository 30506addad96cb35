-- Tables that are not refused are sound.
use Rattle.std.proofs.Common.{◌≡◌, ℕ, ◌+◌, Bool, true, false, cond, not, ltb, leb, List, [], ◌∷◌, ◌&&◌, length, replicate, Some, None, Ok, Option, sym, refl, ap, ◌∙◌, arith}
use Rattle.std.proofs.lemmas.Iterator.Adapters.{position_from-zero}
use Rattle.std.specs.List.{position_from}
use Rattle.std.proofs.lemmas.Bool.{and_from, and_parts, le-leb, ltb-false}
use Rattle.refusals.specs.declared.refusal.Refusal.{Refusal}
use Rattle.refusals.specs.declared.refusal.Refusal.TheVariants.{TableTooLong, InitialStates}
use Rattle.refusals.specs.declared.refusal.Table.TheVariants.{States, Rows, Constants}
use Rattle.refusals.specs.declared.refusal.Broken.{Broken}
use Rattle.refusals.specs.declared.refusal.Broken.TheVariants as broken
use Rattle.sheets.specs.declared.tables.State.{State}
use Rattle.sheets.specs.declared.tables.Row.{Row}
use Rattle.sheets.specs.declared.tables.EventKind.{EventKind}
use Rattle.refusals.proofs.Answered.{answered_yes}
use Rattle.refusals.specs.Telling.{answer_of}
use Rattle.sheets.specs.Loading.{broken_at, broken_rule, initials, load_refusal, or_else, too_long}
use Rattle.sheets.specs.Sound.{sound_init, sound_kind, sound_row, sound_state, sound_tables}
use Rattle.sheets.specs.Keyed.{keyed_tables}
use Rattle.sheets.specs.Tables.{unwatched}
use Rattle.sheets.specs.Words.{every, first_failing, some}

neither : (a b : Option Refusal) → or_else a b ≡ None → (a ≡ None) × (b ≡ None)
neither None b h = (refl, h)
neither (Some f) b h = let z : ◌≡◌ {A = ℕ} 0 1 = cc in absurd (omega arith)

unless : (b : Bool) (f : Refusal) (later : Option Refusal) → cond b (Some f) later ≡ None → (b ≡ false) × (later ≡ None)
unless true f later h = let z : ◌≡◌ {A = ℕ} 0 1 = cc in absurd (omega arith)
unless false f later h = (refl, h)

passed : (b : Bool) (f : Refusal) → cond b None (Some f) ≡ None → b ≡ true
passed true f h = refl
passed false f h = let z : ◌≡◌ {A = ℕ} 0 1 = cc in absurd (omega arith)

none-broken : (b : ℕ → Broken) (o : Option ℕ) → broken_at b o ≡ None → o ≡ None
none-broken b None h = refl
none-broken b (Some n) h = let z : ◌≡◌ {A = ℕ} 0 1 = cc in absurd (omega arith)

none-fails : {X : Type 0} (p : X → Bool) (n : ℕ) (xs : List X) → position_from (λ x. not (p x)) n xs ≡ None → every p xs ≡ true
none-fails p n [] h = refl
none-fails p n (x ∷ xs) h = by (p x) (none-fails p (n + 1) xs) h
  where
    by : (b : Bool) → (position_from (λ x. not (p x)) (n + 1) xs ≡ None → every p xs ≡ true) → cond (not b) (Some n) (position_from (λ x. not (p x)) (n + 1) xs) ≡ None → (b && every p xs) ≡ true
    by true more e = more e
    by false more e = let z : ◌≡◌ {A = ℕ} 0 1 = cc in absurd (omega arith)

all_pass : {X : Type 0} (p : X → Bool) (xs : List X) → first_failing p xs ≡ None → every p xs ≡ true
all_pass p xs h = none-fails p 0 xs (sym (position_from-zero (λ x. not (p x)) xs) ∙ h)

at_most : (m n : ℕ) → ltb m n ≡ false → leb n m ≡ true
at_most m n h = le-leb n m (ltb-false m n h)

module _ (states : List State) (rows : List Row) (kinds : List EventKind) (n : ℕ) where
  pub load-sound : load_refusal states rows kinds n ≡ None → sound_tables states rows kinds n ≡ true
  unfolding sound_tables
  load-sound h =
      let a = neither (too_long (length states) (length rows) n) (or_else (broken_rule states rows kinds n) (initials states)) h in
      let b = neither (broken_rule states rows kinds n) (initials states) a.1 in
      let s = unless (ltb 32 (length states)) (TableTooLong States) _ a.0 in
      let r = unless (ltb 256 (length rows)) (TableTooLong Rows) _ s.1 in
      let c = unless (ltb 256 n) (TableTooLong Constants) None r.1 in
      let d = neither (broken_at broken.State (first_failing sound_state states)) _ b.0 in
      let e = neither (broken_at broken.Kind (first_failing sound_kind kinds)) _ d.1 in
      let i = and_parts (some (λ (d : State). d.init) states) (every sound_init states) (passed _ InitialStates b.1) in
      and_from _ _ (at_most 32 (length states) s.0)
      (and_from _ _ (at_most 256 (length rows) r.0)
      (and_from _ _ (at_most 256 n c.0)
      (and_from _ _ (all_pass sound_state states (none-broken _ _ d.0))
      (and_from _ _ (all_pass sound_kind kinds (none-broken _ _ e.0))
      (and_from _ _ (all_pass (sound_row states n) rows (none-broken _ _ e.1)) i.1)))))

-- copies of tables that are not refused, and of which it was found whether they are keyed
pub copies-sound : (states xs : List State) (rows ys : List Row) (kinds : List EventKind) (n : ℕ) → xs ≡ states → ys ≡ rows → Ok tt ≡ answer_of (load_refusal states rows kinds n) → sound_tables xs ys kinds n ≡ true
copies-sound states xs rows ys kinds n p q h =
    ap (λ l. sound_tables l ys kinds n) p ∙ ap (λ l. sound_tables states l kinds n) q ∙ load-sound states rows kinds n (sym (answered_yes _ h))

pub copies-keyed : (states xs : List State) (rows ys : List Row) (kinds : List EventKind) (b : Bool) → xs ≡ states → ys ≡ rows → b ≡ keyed_tables states rows kinds → b ≡ keyed_tables xs ys kinds
copies-keyed states xs rows ys kinds b p q h =
    h ∙ sym (ap (λ l. keyed_tables l ys kinds) p ∙ ap (λ l. keyed_tables states l kinds) q)

-- the empty sheet
module _ (xs : List State) (ys : List Row) (ks : List EventKind) (p : xs ≡ []) (q : ys ≡ []) (r : ks ≡ replicate 64 unwatched) where
  pub empty-sound : sound_tables xs ys ks 0 ≡ true
  unfolding sound_tables
  empty-sound = ap (λ l. sound_tables l ys ks 0) p ∙ ap (λ l. sound_tables [] l ks 0) q ∙ ap (λ l. sound_tables [] [] l 0) r

  pub empty-keyed : true ≡ keyed_tables xs ys ks
  empty-keyed = sym (ap (λ l. keyed_tables l ys ks) p ∙ ap (λ l. keyed_tables [] l ks) q)
