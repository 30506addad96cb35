-- Facts on ending a book.
use Rattle.std.proofs.Common.{◌≡◌, ℕ, ◌<◌, ◌≤◌, not, ltb, List, ◌++◌, length, drop, Some, None, Ok, Err, Option, sym, refl, ap, ◌∙◌, subst, arith}
use Rattle.std.proofs.lemmas.List.{take_all}
use Rattle.refusals.specs.declared.refusal.Refusal.{Refusal}
use Rattle.refusals.specs.declared.refusal.Refusal.TheVariants.{WrongPhase, TooManyFindings}
use Rattle.sheets.specs.Tables.{SheetModel}
use Rattle.values.specs.Form.{filled}
use Rattle.buffers.specs.Places.{capped, fill, last_place}
use Rattle.buffers.proofs.Fillings.{fill-front}
use Rattle.rules.specs.Book.{Alike, BookModel, EndOutcome, Ending, Served, closings, end_refusal, ended_book, refused_if, unless}
use Rattle.rules.specs.Phases.{is_open}
use Rattle.rules.specs.Kinds.{ValueKind}
use Rattle.rules.specs.declared.finding.Finding.{Finding}
use Rattle.rules.proofs.Likeness.{alike_self}
use Rattle.judging.specs.Judging.{end_by}
use Rattle.books.specs.Ends.{hot_by}
use Rattle.books.proofs.Takes.{capped-test}

module _ {V : Type 0} (K : ValueKind V) (s : SheetModel V) (b : BookModel V) (roll : List (Finding V)) (k : ℕ) (small : length roll < last_place) (counted : k ≡ capped (length (hot_by s.states b.accepted b.items))) where
  abbrev fs : List (Finding V)
  fs = hot_by s.states b.accepted b.items

  -- an end by its refusal, if any
  abbrev end_with : Option Refusal → EndOutcome V
  end_with o = unless o (λ r. record { back = Err r; roll = roll; book = b }) (record { back = Ok (length (closings s b.accepted b.items)); roll = filled (closings s b.accepted b.items) roll; book = ended_book b })

  found : closings s b.accepted b.items ≡ fs
  unfolding closings
  found = refl

  end_is : end_refusal s b roll ≡ end_by b.phase (length roll) k
  unfolding end_refusal
  end_is = ap (end_by b.phase (length roll)) (ap length found) ∙ sym (ap (λ t. refused_if (not (is_open b.phase)) WrongPhase (refused_if t (TooManyFindings 0) None)) (ap (ltb (length roll)) counted ∙ capped-test (length roll) (length fs) small))

  -- it is refused
  pub end_refused : (r : Refusal) → Some r ≡ end_by b.phase (length roll) k → Served K s b (Ending roll roll (Err r)) b
  end_refused r h =
      let q = sym (end_is ∙ sym h) in
      record {
        replied = (subst (λ o. Err r ≡ (end_with o).back) q refl, subst (λ o. roll ≡ (end_with o).roll) q refl);
        book = subst (λ o. Alike b (end_with o).book) q (alike_self b);
      }

  -- it has ended
  pub end-taken : None ≡ end_by b.phase (length roll) k → k ≤ length roll → (roll' : List (Finding V)) → roll' ≡ fill roll 0 fs → (b' : BookModel V) → Alike b' (ended_book b) → Served K s b (Ending roll roll' (Ok k)) b'
  end-taken h fits roll' w b' a =
      let q = sym (end_is ∙ sym h) in
      let n : k ≡ length (closings s b.accepted b.items) = omega (arith, counted, ap length found) in
      record {
        replied = (subst (λ o. Ok k ≡ (end_with o).back) q (ap (λ (m : ℕ). Ok m) n), subst (λ o. roll' ≡ (end_with o).roll) q (w ∙ fill-front roll fs (omega arith) ∙ ap (λ l. l ++ drop (length fs) roll) (take_all (length roll) fs (omega (arith, counted))) ∙ ap (λ l. filled l roll) (sym found)));
        book = subst (λ o. Alike b' (end_with o).book) q a;
      }
