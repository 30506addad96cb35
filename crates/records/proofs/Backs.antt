-- What is written reads back.
use Rattle.std.proofs.Common.{◌≡◌, ℕ, ◌+◌, ◌/◌, ◌%◌, ◌<◌, eqb, List, [], ◌∷◌, ◌++◌, length, drop, Some, None, Ok, Option, sym, refl, ap, ◌∙◌, subst, arith, length-append}
use Rattle.std.proofs.lemmas.List.{append_assoc, drop_at, drop-drop}
use Rattle.std.proofs.lemmas.Bool.{cond-true, cond-false, eq-eqb, ne_eqb}
use Rattle.values.specs.Form.{Bytes, Reading, WrittenForm, bytes_in}
use Rattle.records.proofs.ByteLists.{bytes_drop}
use Rattle.records.specs.Fields.{bit_of, fields_of, map_of}
use Rattle.records.specs.declared.event.Event.{Event}
use Rattle.records.specs.Record.{before, event, event_bytes, field_at, field_bytes, fields_at, fields_bytes, follow, found, joined, kind_fits, record_at, record_in}
use Rattle.records.proofs.Filling.{HasBytes, Parts, has-bytes, parts, some_same}

joined-nil : (o : Option (List ℕ)) → joined (Some []) o ≡ o
joined-nil None = refl
joined-nil (Some b) = refl

bit-small : {V : Type 0} (f : Option V) → bit_of f < 2
bit-small None = omega arith
bit-small (Some x) = omega arith

module _ {V : Type 0} {written : V → Option (List ℕ)} {reads : List ℕ → Reading V} (form : WrittenForm written reads) where
  abbrev others : List (Option V) → List ℕ → ℕ → Reading (List (Option V))
  others fs s q = fields_at reads (length fs) (map_of fs) s q

  field_back : (f : Option V) (m p : ℕ) (s a t : List ℕ) → Bytes s → field_bytes written f ≡ Some a → m % 2 ≡ bit_of f → drop p s ≡ a ++ t → field_at reads m s p ≡ Ok (f, p + length a)
  unfolding field_at
  field_back None m p s a t small h bit d =
      let e : [] ≡ a = some_same h in
      cond-true (eqb (m % 2) 0) _ _ (eq-eqb _ 0 bit) ∙ ap (λ q. Ok (None, q)) (omega (arith, ap length e))
  field_back (Some x) m p s a t small h bit d =
      cond-false (eqb (m % 2) 0) _ _ (ne_eqb _ 0 (λ z. omega arith)) ∙ ap (found reads p) (ap reads d ∙ form.back x a t (subst Bytes d (bytes_drop s p small)) h)

  -- one field more
  step : (f : Option V) (fs : List (Option V)) (s : List ℕ) (p q : ℕ) → field_at reads (map_of (f ∷ fs)) s p ≡ Ok (f, q) → map_of (f ∷ fs) / 2 ≡ map_of fs → others (f ∷ fs) s p ≡ before reads (f ∷ []) (others fs s q)
  unfolding fields_at
  step f fs s p q e half = ap (λ r. follow reads r (λ q. fields_at reads (length fs) (map_of (f ∷ fs) / 2) s q)) e ∙ ap (λ m. before reads (f ∷ []) (fields_at reads (length fs) m s q)) half

  pub fields_back : (fs : List (Option V)) (w s rest : List ℕ) (p : ℕ) → Bytes s → fields_bytes written fs ≡ Some w → drop p s ≡ w ++ rest → others fs s p ≡ Ok (fs, p + length w)
  unfolding fields_at
  fields_back [] w s rest p small h d = let e : [] ≡ w = some_same h in ap (λ q. Ok ([], q)) (omega (arith, ap length e))
  fields_back (f ∷ fs) w s rest p small h d =
      let k : Parts [] w (field_bytes written f) (fields_bytes written fs) = parts [] w (field_bytes written f) (fields_bytes written fs) (joined-nil _ ∙ h) in
      let a = bytes_in (field_bytes written f) in
      let b = bytes_in (fields_bytes written fs) in
      let bit : bit_of f < 2 = bit-small f in
      let here : drop p s ≡ a ++ (b ++ rest) = d ∙ ap (λ l. l ++ rest) (sym k.whole) ∙ append_assoc a b rest in
      let there : drop (p + length a) s ≡ b ++ rest = sym (drop-drop (length a) p s) ∙ ap (drop (length a)) here ∙ drop_at a (b ++ rest) (length a) refl in
      let long : p + length a + length b ≡ p + length w = omega (arith, ap length k.whole, length-append a b) in
      step f fs s p (p + length a) (field_back f (map_of (f ∷ fs)) p s a (b ++ rest) small k.here (omega arith) here) (omega arith)
      ∙ ap (before reads (f ∷ [])) (fields_back fs b s rest (p + length a) small k.there there)
      ∙ ap (λ q. Ok (f ∷ fs, q)) long

  pub record-back : (e : Event V) (w s rest : List ℕ) (p : ℕ) → Bytes s → event_bytes written e ≡ Some w → drop p s ≡ w ++ rest → record_at reads s p ≡ Ok (e, p + length w)
  unfolding record_at
  record-back e w s rest p small h d =
      let k : HasBytes written e w = has-bytes written e w h in
      let head : List ℕ = e.kind ∷ (map_of (fields_of e) ∷ []) in
      let b = bytes_in (fields_bytes written (fields_of e)) in
      let q : Parts [] w (Some head) (fields_bytes written (fields_of e)) = parts [] w (Some head) (fields_bytes written (fields_of e)) (joined-nil _ ∙ k.bytes) in
      let here : drop p s ≡ head ++ (b ++ rest) = d ∙ ap (λ l. l ++ rest) (sym q.whole) in
      let there : drop (p + 2) s ≡ b ++ rest = sym (drop-drop 2 p s) ∙ ap (drop 2) here in
      let long : p + 2 + length b ≡ p + length w = omega (arith, ap length q.whole) in
      ap (record_in reads s p) here
      ∙ cond-true (kind_fits e.kind) _ _ k.kind
      ∙ ap (event reads e.kind) (fields_back (fields_of e) b s rest (p + 2) small q.there there)
      ∙ ap (λ q. Ok (e, q)) long
