-- What is read covers the bytes of the event read.
use Rattle.std.proofs.Common.{◌≡◌, ℕ, zero, suc, ◌+◌, ◌-◌, ◌/◌, ◌%◌, ◌^◌, ◌<◌, ◌≤◌, Bool, true, false, cond, eqb, List, [], ◌∷◌, ◌++◌, length, get_or, take, drop, IfOk, Some, None, Ok, Err, Option, Result, sym, refl, ap, ◌∙◌, ⊎_elim, pow-suc, arith, length-drop, take-add}
use Rattle.std.proofs.lemmas.List.{drop_all, drop-drop, drop_more, get_or-drop}
use Rattle.std.proofs.lemmas.Bool.{cases_Bool, cond-false, cond-true, eqb-false, eqb-true}
use Rattle.values.specs.Form.{Bytes, Reading, WrittenForm}
use Rattle.records.specs.Fields.{bit_of, event_of, fields_of, map_of}
use Rattle.records.specs.declared.event.Event.{Event}
use Rattle.records.specs.RoundTrip.{Covers}
use Rattle.records.proofs.ByteLists.{bytes_drop}
use Rattle.records.specs.Record.{before, event, event_bytes, field_at, field_bytes, fields_at, fields_bytes, follow, found, joined, kind_fits, record_at, record_in}

never : {A : Type 0} {x : A} {q : ℕ} → ◌≡◌ {A = Result A ℕ} (Err q) (Ok x) → ⊥
never h = let z : ◌≡◌ {A = ℕ} 0 1 = cc in omega arith

ok-parts : {A : Type 0} {x y : A} {m n : ℕ} → ◌≡◌ {A = Result (A × ℕ) ℕ} (Ok (x, m)) (Ok (y, n)) → (x ≡ y) × (m ≡ n)
ok-parts {A} {x} {y} {m} {n} h = let both : ◌≡◌ {A = A × ℕ} (x, m) (y, n) = cc in (ap (λ z. z.0) both, ap (λ z. z.1) both)

fits-past : {A : Type 0} (b : Bool) (p : ℕ) (r : Result A ℕ) (x : A) → cond b r (Err p) ≡ Ok x → (b ≡ true) × (r ≡ Ok x)
fits-past true p r x h = (refl, h)
fits-past false p r x h = absurd (never h)

-- a part that is read in two
two-parts : (s : List ℕ) (p q r : ℕ) → p ≤ q → q ≤ r → take (q - p) (drop p s) ++ take (r - q) (drop q s) ≡ take (r - p) (drop p s)
two-parts s p q r h k =
    let d : drop (q - p) (drop p s) ≡ drop q s = drop-drop (q - p) p s ∙ ap (λ n. drop n s) (omega arith) in
    ap (λ l. take (q - p) (drop p s) ++ take (r - q) l) (sym d) ∙ sym (take-add (q - p) (r - q) (drop p s)) ∙ ap (λ n. take n (drop p s)) (omega arith)

module _ {V : Type 0} {written : V → Option (List ℕ)} {reads : List ℕ → Reading V} (form : WrittenForm written reads) where
  record Found (p : ℕ) (r : Reading V) (f : Option V) (q : ℕ) : Type 0 where
    value : V
    count : ℕ
    was : r ≡ Ok (value, count)
    field : f ≡ Some value
    end : q ≡ p + count

  found-is : (p : ℕ) (r : Reading V) (f : Option V) (q : ℕ) → found reads p r ≡ Ok (f, q) → Found p r f q
  found-is p (Err k) f q h = absurd (never h)
  found-is p (Ok x) f q h = let e = ok-parts h in record { value = x.0; count = x.1; was = refl; field = sym e.0; end = sym e.1 }

  -- one field
  record FieldRead (m : ℕ) (s : List ℕ) (p : ℕ) (f : Option V) (q : ℕ) : Type 0 where
    bit : bit_of f ≡ m % 2
    up : p ≤ q
    room : q ≤ length s
    bytes : field_bytes written f ≡ Some (take (q - p) (drop p s))

  field-read : (m : ℕ) (s : List ℕ) (p : ℕ) (f : Option V) (q : ℕ) → Bytes s → p ≤ length s → field_at reads m s p ≡ Ok (f, q) → FieldRead m s p f q
  unfolding field_at
  field-read m s p f q small l h =
      ⊎_elim
      (λ (b : eqb (m % 2) 0 ≡ true).
      let e = ok-parts {x = None} {y = f} (sym (cond-true (eqb (m % 2) 0) _ _ b) ∙ h) in
      let none : None ≡ f = e.0 in
      let end : p ≡ q = e.1 in
      let zero : q - p ≡ 0 = omega arith in
      record { bit = ap bit_of (sym none) ∙ sym (eqb-true _ 0 b); up = omega arith; room = omega arith; bytes = ap (field_bytes written) (sym none) ∙ ap (λ n. Some (take n (drop p s))) (sym zero) })
      (λ (b : eqb (m % 2) 0 ≡ false).
      let k : Found p (reads (drop p s)) f q = found-is p (reads (drop p s)) f q (sym (cond-false (eqb (m % 2) 0) _ _ b) ∙ h) in
      let n : q - p ≡ k.count = omega (arith, k.end) in
      let rest : Bytes (drop p s) = bytes_drop s p small in
      let one : m % 2 ≡ 1 = omega (arith, eqb-false _ 0 b) in
      record {
        bit = ap bit_of k.field ∙ sym one;
        up = omega (arith, k.end);
        room = omega (arith, k.end, form.within (drop p s) k.value k.count rest k.was, length-drop p s);
        bytes = ap (field_bytes written) k.field ∙ form.covers (drop p s) k.value k.count rest k.was ∙ ap (λ n. Some (take n (drop p s))) (sym n);
      })
      (cases_Bool (eqb (m % 2) 0))

  record Followed (r : Reading (Option V)) (rest : ℕ → Reading (List (Option V))) (fs : List (Option V)) (q : ℕ) : Type 0 where
    first : Option V
    place : ℕ
    others : List (Option V)
    was : r ≡ Ok (first, place)
    more : rest place ≡ Ok (others, q)
    all : fs ≡ first ∷ others

  before-is : (f : Option V) (r : Reading (List (Option V))) (fs : List (Option V)) (q : ℕ) → before reads (f ∷ []) r ≡ Ok (fs, q) → (gs : List (Option V)) × (r ≡ Ok (gs, q)) × (fs ≡ f ∷ gs)
  before-is f (Err k) fs q h = absurd (never h)
  before-is f (Ok x) fs q h = let e = ok-parts h in (x.0, ap (λ n. Ok (x.0, n)) e.1, sym e.0)

  follow-is : (r : Reading (Option V)) (rest : ℕ → Reading (List (Option V))) (fs : List (Option V)) (q : ℕ) → follow reads r rest ≡ Ok (fs, q) → Followed r rest fs q
  follow-is (Err k) rest fs q h = absurd (never h)
  follow-is (Ok x) rest fs q h =
      let b = before-is x.0 (rest x.1) fs q h in
      record { first = x.0; place = x.1; others = b.0; was = refl; more = b.1; all = b.2 }

  -- k fields
  record FieldsRead (k m : ℕ) (s : List ℕ) (p : ℕ) (fs : List (Option V)) (q : ℕ) : Type 0 where
    up : p ≤ q
    room : q ≤ length s
    long : length fs ≡ k
    map : m < 2 ^ k → map_of fs ≡ m
    bytes : fields_bytes written fs ≡ Some (take (q - p) (drop p s))

  fields_read : (k m : ℕ) (s : List ℕ) (p : ℕ) (fs : List (Option V)) (q : ℕ) → Bytes s → p ≤ length s → fields_at reads k m s p ≡ Ok (fs, q) → FieldsRead k m s p fs q
  unfolding fields_at
  fields_read zero m s p fs q small l h =
      let e = ok-parts {x = []} {y = fs} h in
      let none : [] ≡ fs = e.0 in
      let end : p ≡ q = e.1 in
      let zero : q - p ≡ 0 = omega arith in
      record { up = omega arith; room = omega arith; long = ap length (sym none); map = λ few. ap map_of (sym none) ∙ omega arith; bytes = ap (fields_bytes written) (sym none) ∙ ap (λ n. Some (take n (drop p s))) (sym zero) }
  fields_read (suc k) m s p fs q small l h =
      let rest : ℕ → Reading (List (Option V)) = λ q. fields_at reads k (m / 2) s q in
      let c : Followed (field_at reads m s p) rest fs q = follow-is (field_at reads m s p) rest fs q h in
      let a = field-read m s p c.first c.place small l c.was in
      let b = fields_read k (m / 2) s c.place c.others q small a.room c.more in
      record {
        up = omega (arith, a.up, b.up);
        room = b.room;
        long = ap length c.all ∙ ap suc b.long;
        map = λ few. ap map_of c.all ∙ omega (arith, a.bit, b.map (omega (arith, pow-suc 2 k)));
        bytes = ap (fields_bytes written) c.all ∙ ap (λ o. joined o (fields_bytes written c.others)) a.bytes ∙ ap (joined (Some (take (c.place - p) (drop p s)))) b.bytes ∙ ap Some (two-parts s p c.place q a.up b.up);
      }

  -- eight fields make an event
  eight : (k : ℕ) (fs : List (Option V)) → length fs ≡ 8 → fields_of (event_of k fs) ≡ fs
  eight k fs h =
      let at : (i : ℕ) → i < 8 → drop i fs ≡ get_or fs i None ∷ drop (i + 1) fs = λ i l. drop_more fs i None (omega arith) in
      let end : drop 8 fs ≡ [] = drop_all 8 fs (omega arith) in
      sym (at 0 (omega arith) ∙ ap (λ l. get_or fs 0 None ∷ l) (at 1 (omega arith) ∙ ap (λ l. get_or fs 1 None ∷ l) (at 2 (omega arith) ∙ ap (λ l. get_or fs 2 None ∷ l) (at 3 (omega arith) ∙ ap (λ l. get_or fs 3 None ∷ l) (at 4 (omega arith) ∙ ap (λ l. get_or fs 4 None ∷ l) (at 5 (omega arith) ∙ ap (λ l. get_or fs 5 None ∷ l) (at 6 (omega arith) ∙ ap (λ l. get_or fs 6 None ∷ l) (at 7 (omega arith) ∙ ap (λ l. get_or fs 7 None ∷ l) end))))))))

  record EventRead (kind : ℕ) (r : Reading (List (Option V))) (e : Event V) (q : ℕ) : Type 0 where
    fields : List (Option V)
    was : r ≡ Ok (fields, q)
    value : e ≡ event_of kind fields

  event-is : (kind : ℕ) (r : Reading (List (Option V))) (e : Event V) (q : ℕ) → event reads kind r ≡ Ok (e, q) → EventRead kind r e q
  event-is kind (Err k) e q h = absurd (never h)
  event-is kind (Ok x) e q h = let p = ok-parts h in record { fields = x.0; was = ap (λ n. Ok (x.0, n)) p.1; value = sym p.0 }

  -- one record
  pub record RecordRead (s : List ℕ) (p : ℕ) (e : Event V) (q : ℕ) : Type 0 where
    pub up : p < q
    pub room : q ≤ length s
    pub bytes : event_bytes written e ≡ Some (take (q - p) (drop p s))

  module _ (s : List ℕ) (p : ℕ) (e : Event V) (q : ℕ) (small : Bytes s) where
    record-in : (l : List ℕ) → drop p s ≡ l → record_in reads s p l ≡ Ok (e, q) → RecordRead s p e q
    unfolding event_bytes
    record-in [] d h = absurd (never h)
    record-in (kind ∷ []) d h = absurd (never (fits-past (kind_fits kind) p (Err (p + 1)) (e, q) h).1)
    record-in (kind ∷ (m ∷ more)) d h =
        let k = fits-past (kind_fits kind) p (event reads kind (fields_at reads 8 m s (p + 2))) (e, q) h in
        let v = event-is kind (fields_at reads 8 m s (p + 2)) e q k.1 in
        let room : p + 2 ≤ length s = omega (arith, ap length d, length-drop p s) in
        let f = fields_read 8 m s (p + 2) v.fields q small room v.was in
        let fields : fields_of (event_of kind v.fields) ≡ v.fields = eight kind v.fields f.long in
        let rest : drop (p + 2) s ≡ more = sym (drop-drop 2 p s) ∙ ap (drop 2) d in
        let long : q - p ≡ suc (suc (q - (p + 2))) = omega (arith, f.up) in
        let part : take (q - p) (drop p s) ≡ kind ∷ (m ∷ take (q - (p + 2)) (drop (p + 2) s)) = ap (take (q - p)) d ∙ ap (λ n. take n (kind ∷ (m ∷ more))) long ∙ ap (λ l. kind ∷ (m ∷ take (q - (p + 2)) l)) (sym rest) in
        let byte : m < 256 = omega (arith, small (p + 1), get_or-drop p s 1 0, ap (λ l. get_or l 1 0) d) in
        record {
          up = omega (arith, f.up);
          room = f.room;
          bytes =
              ap (event_bytes written) v.value
              ∙ cond-true (kind_fits kind) _ _ k.0
              ∙ ap (λ fs. joined (Some (kind ∷ (map_of fs ∷ []))) (fields_bytes written fs)) fields
              ∙ ap (λ n. joined (Some (kind ∷ (n ∷ []))) (fields_bytes written v.fields)) (f.map byte)
              ∙ ap (joined (Some (kind ∷ (m ∷ [])))) f.bytes
              ∙ ap Some (sym part);
        }

    pub record-read : record_at reads s p ≡ Ok (e, q) → RecordRead s p e q
    unfolding record_at
    record-read h = record-in (drop p s) refl h

  pub covered : (s : List ℕ) (p : ℕ) → Bytes s → (r : Reading (Event V)) → r ≡ record_at reads s p → IfOk r (λ x. Covers written s p x.0 x.1)
  covered s p small (Ok x) h = let c = record-read s p x.0 x.1 small (sym h) in (c.up, c.room, c.bytes)
  covered s p small (Err q) h = tt
