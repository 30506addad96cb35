-- Writing one field, and fields one after another.
use Rattle.std.proofs.Common.{◌≡◌, ℕ, ◌+◌, ◌-◌, ◌*◌, ◌^◌, ◌<◌, ◌≤◌, true, false, List, [], ◌∷◌, ◌++◌, length, get_or, take, drop, Bor, map, Some, None, Option, sym, refl, ap, ◌∙◌, arith, length-append, length-drop, length-take}
use Rattle.std.proofs.lemmas.List.{append_assoc, append-nil, drop_all, drop_at, drop-drop, drop_more, get_or-map, length-map, take_at, take_rest}
use Rattle.std.proofs.lemmas.Bool.{cond-true, cond-false}
use Rattle.std.specs.Option.{option_map}
use Rattle.values.specs.Form.{filled}
use Rattle.records.specs.Fields.{fields_of, map_of}
use Rattle.records.specs.declared.event.Event.{Event}
use Rattle.records.specs.Record.{event_bytes, field_bytes, fields_bytes, joined, kind_fits}
use borrow.Rule.Slice.PartMut.{put_mid, post_of}

-- a part from `at` to the end of a buffer, whose front was filled with w
module _ (out w part : List ℕ) (at n : ℕ) (room : at + length w ≤ length out) (long : n ≡ length w) (made : part ≡ filled w (take (length out - at) (drop at out))) where
  abbrev whole : List ℕ
  whole = put_mid at (length out - at) out part

  abbrev rest : List ℕ
  rest = drop (at + n) out

  whole_is : whole ≡ (take at out ++ w) ++ rest
  whole_is =
      let tail : drop (length w) (take (length out - at) (drop at out)) ≡ rest = ap (drop (length w)) (take_rest out at) ∙ drop-drop (length w) at out ∙ ap (λ k. drop (at + k) out) (sym long) in
      let none : post_of at (length out - at) out ≡ [] = drop_all (length out - at) (drop at out) (omega (arith, length-drop at out)) in
      ap (λ l. take at out ++ (part ++ l)) none
      ∙ ap (λ l. take at out ++ l) (append-nil part ∙ made ∙ ap (λ l. w ++ l) tail)
      ∙ sym (append_assoc (take at out) w rest)

  front_long : length (take at out ++ w) ≡ at + n
  front_long = length-append (take at out) w ∙ omega (arith, length-take at out)

  pub put_front : take (at + n) whole ≡ take at out ++ w
  put_front = ap (take (at + n)) whole_is ∙ take_at (take at out ++ w) rest (at + n) front_long

  pub put_rest : drop (at + n) whole ≡ drop (at + n) out
  put_rest = ap (drop (at + n)) whole_is ∙ drop_at (take at out ++ w) rest (at + n) front_long

-- n bytes, and those of a part that follows
abbrev pub sized : ℕ → Option (List ℕ) → Option ℕ
sized n o = option_map (λ w. n + length w) o

some-length : (o : Option (List ℕ)) (k : ℕ) → Some k ≡ option_map length o → (w : List ℕ) × (o ≡ Some w) × (k ≡ length w)
some-length None k h = let z : ◌≡◌ {A = ℕ} 0 1 = cc in absurd (omega arith)
some-length (Some w) k h = (w, refl, cc)

none-length : (o : Option (List ℕ)) → None ≡ option_map length o → o ≡ None
none-length None h = refl
none-length (Some w) h = let z : ◌≡◌ {A = ℕ} 0 1 = cc in absurd (omega arith)

sized-joined : (n : ℕ) (w : List ℕ) (o : Option (List ℕ)) → sized n (joined (Some w) o) ≡ sized (n + length w) o
sized-joined n w None = refl
sized-joined n w (Some b) = ap Some (omega (arith, length-append w b))

length-joined : (w : List ℕ) (o : Option (List ℕ)) → option_map length (joined (Some w) o) ≡ sized (length w) o
length-joined w None = refl
length-joined w (Some b) = ap Some (length-append w b)

-- the i-th of references to fields
pub field-is : {V : Type 0} (refs : List (Bor (Option V))) (fs : List (Option V)) (i : ℕ) (f : Bor (Option V)) → map (λ (g : Bor (Option V)). g.now) refs ≡ fs → i < length fs → (get_or refs i f).now ≡ get_or fs i None
field-is {V} refs fs i f e h =
    let now : Bor (Option V) → Option V = λ g. g.now in
    let below : i < length refs = omega (arith, h, length-map refs now, ap length e) in
    sym (get_or-map now refs i f None below) ∙ ap (λ l. get_or l i None) e

module _ {V : Type 0} (written : V → Option (List ℕ)) where
  -- the fields from the i-th on
  pub next-fields : (fs : List (Option V)) (i : ℕ) → i < length fs → fields_bytes written (drop i fs) ≡ joined (field_bytes written (get_or fs i None)) (fields_bytes written (drop (i + 1) fs))
  next-fields fs i h = ap (fields_bytes written) (drop_more fs i None h)

  -- the sizes of i fields are added
  pub record Sizing (fs : List (Option V)) (i n : ℕ) : Type 0 where
    pub most : n ≤ 2 + (2 ^ 64 - 1) * i
    pub so_far : sized 2 (fields_bytes written fs) ≡ sized n (fields_bytes written (drop i fs))

  module _ (fs : List (Option V)) (i n : ℕ) (h : i < length fs) (c : Sizing fs i n) where
    pub size-more : (k : ℕ) → Some k ≡ option_map length (field_bytes written (get_or fs i None)) → k < 2 ^ 64 → Sizing fs (i + 1) (n + k)
    size-more k e l =
        let w = some-length (field_bytes written (get_or fs i None)) k e in
        let m : ℕ = n + length w.0 in
        record {
          most = omega (arith, c.most);
          so_far = c.so_far ∙ ap (sized n) (next-fields fs i h ∙ ap (λ o. joined o (fields_bytes written (drop (i + 1) fs))) w.1) ∙ sized-joined n w.0 _ ∙ ap (λ k. sized (n + k) (fields_bytes written (drop (i + 1) fs))) (sym w.2);
        }

    pub size-stop : None ≡ option_map length (field_bytes written (get_or fs i None)) → None ≡ sized 2 (fields_bytes written fs)
    size-stop e = sym (c.so_far ∙ ap (sized n) (next-fields fs i h ∙ ap (λ o. joined o (fields_bytes written (drop (i + 1) fs))) (none-length _ e)))

  module _ (e : Event V) where
    pub kind-large : kind_fits e.kind ≡ false → None ≡ option_map length (event_bytes written e)
    unfolding event_bytes
    kind-large h = sym (ap (option_map length) (cond-false (kind_fits e.kind) _ _ h))

    pub kind-small : kind_fits e.kind ≡ true → event_bytes written e ≡ joined (Some (e.kind ∷ (map_of (fields_of e) ∷ []))) (fields_bytes written (fields_of e))
    unfolding event_bytes
    kind-small h = cond-true (kind_fits e.kind) _ _ h

    pub event-sized : kind_fits e.kind ≡ true → (r : Option ℕ) → r ≡ sized 2 (fields_bytes written (fields_of e)) → r ≡ option_map length (event_bytes written e)
    event-sized h r p = p ∙ sym (ap (option_map length) (kind-small h) ∙ length-joined (e.kind ∷ (map_of (fields_of e) ∷ [])) _)

    pub size-end : kind_fits e.kind ≡ true → (i n : ℕ) → i ≡ 8 → Sizing (fields_of e) i n → Some n ≡ option_map length (event_bytes written e)
    size-end h i n eight c =
        let all : sized 2 (fields_bytes written (fields_of e)) ≡ Some (n + 0) = c.so_far ∙ ap (λ k. sized n (fields_bytes written (drop k (fields_of e)))) eight in
        event-sized h (Some n) (ap Some (omega arith) ∙ sym all)
