-- Reading one field, and fields one after another.
use Rattle.std.proofs.Common.{◌≡◌, ℕ, suc, ◌+◌, ◌-◌, ◌/◌, ◌%◌, ◌<◌, ◌≤◌, true, false, eqb, List, [], ◌∷◌, ◌++◌, length, take, drop, set, None, Ok, Err, Option, sym, refl, ap, ◌∙◌, arith, length-drop}
use Rattle.std.proofs.lemmas.List.{append_assoc, take_more_set, take_rest}
use Rattle.std.proofs.lemmas.Bool.{cond-true, cond-false}
use Rattle.values.specs.Form.{Bytes, Reading, WrittenForm}
use Rattle.records.proofs.ByteLists.{bytes_drop}
use Rattle.records.specs.Fields.{event_of, fields_of}
use Rattle.records.specs.declared.event.Event.{Event}
use Rattle.records.specs.Record.{before, event, field_at, fields_at, follow, found}

module _ {V : Type 0} {written : V → Option (List ℕ)} {reads : List ℕ → Reading V} (form : WrittenForm written reads) where
  module _ (s : List ℕ) (p m : ℕ) where
    pub field-none : eqb (m % 2) 0 ≡ true → Ok (None, p) ≡ field_at reads m s p
    unfolding field_at
    field-none h = sym (cond-true (eqb (m % 2) 0) _ _ h)

    -- the part of the bytes that a field is read from
    abbrev part : List ℕ
    part = take (length s - p) (drop p s)

    pub field-read : eqb (m % 2) 0 ≡ false → (r : Reading V) → r ≡ reads part → found reads p r ≡ field_at reads m s p
    unfolding field_at
    field-read h r e = ap (found reads p) (e ∙ ap reads (take_rest s p)) ∙ sym (cond-false (eqb (m % 2) 0) _ _ h)

    pub end-within : Bytes s → p ≤ length s → (x : V) (n : ℕ) → Ok (x, n) ≡ reads part → p + n ≤ length s
    end-within bytes h x n e = omega (arith, form.within (drop p s) x n (bytes_drop s p bytes) (sym (e ∙ ap reads (take_rest s p))), length-drop p s)

module _ {V : Type 0} (reads : List ℕ → Reading V) where
  before-nil : (r : Reading (List (Option V))) → r ≡ before reads [] r
  before-nil (Ok x) = refl
  before-nil (Err q) = refl

  before-before : (fs gs : List (Option V)) (r : Reading (List (Option V))) → before reads fs (before reads gs r) ≡ before reads (fs ++ gs) r
  before-before fs gs (Ok x) = ap (λ l. Ok (l, x.1)) (sym (append_assoc fs gs x.0))
  before-before fs gs (Err q) = refl

  -- fields of e were read as far as the i-th, from the place `start` on; from `at` on, `left` tells which of the others are there
  pub record Come (s : List ℕ) (kind map start i left at : ℕ) (e : Event V) : Type 0 where
    pub kept : e.kind ≡ kind
    pub room : at ≤ length s
    pub so_far : fields_at reads 8 map s start ≡ before reads (take i (fields_of e)) (fields_at reads (8 - i) left s at)

  module _ (s : List ℕ) (kind map start : ℕ) where
    pub come-none : start ≤ length s → Come s kind map start 0 map start (event_of kind [])
    come-none h = record { kept = refl; room = h; so_far = before-nil _ }

    module _ (i left at : ℕ) (e : Event V) (h : i < 8) (c : Come s kind map start i left at e) where
      abbrev others : ℕ → Reading (List (Option V))
      others q = fields_at reads (8 - (i + 1)) (left / 2) s q

      next : fields_at reads (8 - i) left s at ≡ follow reads (field_at reads left s at) others
      unfolding fields_at
      next = let k : 8 - i ≡ suc (8 - (i + 1)) = omega arith in ap (λ n. fields_at reads n left s at) k

      pub come-stop : (q : ℕ) → Err q ≡ field_at reads left s at → Err q ≡ event reads kind (fields_at reads 8 map s start)
      come-stop q r = sym (ap (event reads kind) (c.so_far ∙ ap (before reads (take i (fields_of e))) (next ∙ ap (λ x. follow reads x others) (sym r))))

      pub come-more : (left' : ℕ) → left' ≡ left / 2 → (f : Option V) (q : ℕ) (e' : Event V) → Ok (f, q) ≡ field_at reads left s at → q ≤ length s → e'.kind ≡ e.kind → fields_of e' ≡ set (fields_of e) i f → Come s kind map start (i + 1) left' q e'
      come-more left' half f q e' r room kept set =
          let more : take (i + 1) (fields_of e') ≡ take i (fields_of e) ++ (f ∷ []) = ap (take (i + 1)) set ∙ take_more_set (fields_of e) i f h in
          record {
            kept = kept ∙ c.kept;
            room = room;
            so_far = c.so_far
                ∙ ap (before reads (take i (fields_of e))) (next ∙ ap (λ x. follow reads x others) (sym r))
                ∙ before-before (take i (fields_of e)) (f ∷ []) _
                ∙ ap (λ l. before reads l (others q)) (sym more)
                ∙ ap (λ m. before reads (take (i + 1) (fields_of e')) (fields_at reads (8 - (i + 1)) m s q)) (sym half);
          }

    pub come-end : (i left at : ℕ) (e : Event V) → i ≡ 8 → Come s kind map start i left at e → Ok (e, at) ≡ event reads kind (fields_at reads 8 map s start)
    unfolding fields_at
    come-end i left at e eight c =
        let all : fields_at reads 8 map s start ≡ before reads (fields_of e) (Ok ([], at)) = c.so_far ∙ ap (λ k. before reads (take k (fields_of e)) (fields_at reads (8 - k) left s at)) eight in
        sym (ap (event reads kind) all ∙ ap (λ k. Ok (event_of k (fields_of e), at)) (sym c.kept))
