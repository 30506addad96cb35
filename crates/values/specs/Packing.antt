-- The written form of a reference keeps its laws.
use Rattle.std.specs.Prelude.{◌≡◌, ℕ, zero, suc, ◌+◌, ◌-◌, ◌<◌, ◌≤◌, true, false, cond, ◌&&◌, List, [], ◌∷◌, ◌++◌, length, take, drop, replicate, Some, None, Ok, ◌==◌, nat_eq, nat_le, nat_lt, refl}
use Rattle.std.proofs.Common.{sym, ap, ◌∙◌, ⊎_elim, one-add, arith, length-append, length-take, length-drop}
use Rattle.std.proofs.lemmas.List.{take_at, take_all, take-append-drop, get_or-drop, length-replicate}
use Rattle.std.proofs.lemmas.Bool.{cond-true, cond-false, eq-eqb, eqb-true, cases_Bool, le-leb, leb-true, le-ltb, lt-ltb, ltb-true, ltb-false, and_parts, and_from}
use Rattle.values.specs.declared.reference.Reference.{Reference}
use Rattle.values.specs.Form.{Bytes, WrittenForm}
use Rattle.values.specs.Words.{bytes_of, number_of}
use Rattle.values.specs.ReferenceForm.{announced, formed, until_zero, length_fits, of_row, packed, padded, reference_is, reference_reads, reference_written, row_of, same_words}
use Rattle.values.specs.Choice.{some_since, ok-past, ok-since, ok_same}
use Rattle.values.specs.ReferenceRows.{zero-le}
use Rattle.values.specs.NumberBytes.{bytes_of-number}

-- how many bytes stand before the first zero byte
zero-front : (bs : List ℕ) → until_zero (take (until_zero bs) bs) ≡ until_zero bs
zero-front [] = refl
zero-front (b ∷ bs) = ⊎_elim (λ (e : nat_eq b 0 ≡ true). rw e) (λ (e : nat_eq b 0 ≡ false). rw (e, e, zero-front bs)) (cases_Bool (b == 0))

zero-zeros : (k : ℕ) → until_zero (replicate k 0) ≡ 0
zero-zeros zero = refl
zero-zeros (suc k) = refl

zero-padded : (bs : List ℕ) (k : ℕ) → until_zero bs ≡ length bs → until_zero (bs ++ replicate k 0) ≡ length bs
zero-padded [] k h = zero-zeros k
zero-padded (b ∷ bs) k h =
    ⊎_elim
    (λ (e : nat_eq b 0 ≡ true). let z : ◌≡◌ {A = ℕ} 0 (suc (length bs)) = rw e at h in absurd (omega arith))
    (λ (e : nat_eq b 0 ≡ false). let z : suc (until_zero bs) ≡ suc (length bs) = rw e at h in rw e (ap suc (zero-padded bs k (omega arith))))
    (cases_Bool (b == 0))

-- bytes
bytes_take : (n : ℕ) (bs : List ℕ) → Bytes bs → Bytes (take n bs)
bytes_take zero bs h i = omega arith
bytes_take (suc n) [] h i = h i
bytes_take (suc n) (b ∷ bs) h zero = h 0
bytes_take (suc n) (b ∷ bs) h (suc i) = bytes_take n bs (λ j. h (suc j)) i

bytes-zeros : (k : ℕ) → Bytes (replicate k 0)
bytes-zeros zero i = omega arith
bytes-zeros (suc k) zero = omega arith
bytes-zeros (suc k) (suc i) = bytes-zeros k i

bytes-append : (xs bs : List ℕ) → Bytes xs → Bytes bs → Bytes (xs ++ bs)
bytes-append [] bs h k i = k i
bytes-append (a ∷ xs) bs h k zero = h 0
bytes-append (a ∷ xs) bs h k (suc i) = bytes-append xs bs (λ j. h (suc j)) k i

-- rows
length-row : (x : Reference) → length (row_of x) ≡ 16
unfolding row_of
length-row x = length-append (bytes_of 8 x.high) (bytes_of 8 x.low)

row-of-row : (row : List ℕ) → length row ≡ 16 → Bytes row → row_of (of_row row) ≡ row
unfolding row_of
row-of-row row long small =
    let back : List ℕ = drop 8 row in
    let room : length back ≡ 8 = omega (arith, length-drop 8 row) in
    let all : take 8 back ≡ back = take_all 8 back (omega arith) in
    let bytes : Bytes back = λ i. rw (get_or-drop 8 row i 0) (small (8 + i)) in
    let high : bytes_of 8 (number_of (take 8 row)) ≡ take 8 row = bytes_of-number row small 8 (omega arith) in
    let low : bytes_of 8 (number_of back) ≡ back = ap (λ l. bytes_of 8 (number_of l)) (sym all) ∙ bytes_of-number back bytes 8 (omega arith) ∙ all in
    ap (λ l. l ++ bytes_of 8 (number_of back)) high ∙ ap (λ l. take 8 row ++ l) low ∙ take-append-drop 8 row

words_same : (x y : Reference) → same_words x y ≡ true → x ≡ y
words_same x y h =
    let p = and_parts (x.high == y.high) (x.low == y.low) h in
    ap (λ n. reference_is n x.low) (eqb-true _ _ p.0) ∙ ap (λ n. reference_is y.high n) (eqb-true _ _ p.1)

words-self : (x : Reference) → same_words x x ≡ true
words-self x = and_from _ _ (eq-eqb x.high _ refl) (eq-eqb x.low _ refl)

-- what is known of a reference that has a written form
record Formed (x : Reference) (n : ℕ) (bs : List ℕ) : Type 0 where
  some : 0 < n
  most : n ≤ 16
  long : length bs ≡ n
  whole : until_zero bs ≡ n
  value : packed bs ≡ x

is-formed : (x : Reference) (w : List ℕ) → reference_written x ≡ Some w → Formed x (until_zero (row_of x)) (take (until_zero (row_of x)) (row_of x)) × (until_zero (row_of x) ∷ take (until_zero (row_of x)) (row_of x) ≡ w)
is-formed x w h =
    let row = row_of x in
    let n = until_zero row in
    let p = some_since (nat_lt 0 n && same_words (packed (take n row)) x) _ w h in
    let q = and_parts (nat_lt 0 n) (same_words (packed (take n row)) x) p.0 in
    (record { some = ltb-true 0 n q.0; most = omega (arith, zero-le row, length-row x); long = omega (arith, length-take n row, zero-le row); whole = zero-front row; value = words_same _ x q.1 }, p.1)

formed-reads : (x : Reference) (n : ℕ) (bs rest : List ℕ) → Formed x n bs → reference_reads (n ∷ (bs ++ rest)) ≡ Ok (x, 1 + n)
formed-reads x n bs rest f =
    cond-true (length_fits n) _ _ (and_from _ _ (le-leb 1 n f.some) (le-leb n 16 f.most))
    ∙ ap (λ l. announced n (until_zero l) l) (take_at bs rest n f.long)
    ∙ cond-false (nat_lt (until_zero bs) n) _ _ (le-ltb _ n (omega (arith, f.whole)))
    ∙ ap (λ y. Ok (y, 1 + n)) f.value

reference-back : (x : Reference) (w rest : List ℕ) → Bytes (w ++ rest) → reference_written x ≡ Some w → reference_reads (w ++ rest) ≡ Ok (x, length w)
reference-back x w rest b h =
    let p = is-formed x w h in
    let f = p.0 in
    let long : 1 + until_zero (row_of x) ≡ length (until_zero (row_of x) ∷ take (until_zero (row_of x)) (row_of x)) = omega (arith, f.long) in
    rw (← p.1) (formed-reads x _ _ rest f ∙ ap (λ m. Ok (x, m)) long)

-- what is known of a reference that was read
record Read (n : ℕ) (rest : List ℕ) (x : Reference) (k : ℕ) : Type 0 where
  some : 0 < n
  most : n ≤ 16
  whole : n ≤ until_zero (take n rest)
  value : packed (take n rest) ≡ x
  long : k ≡ 1 + n

reference-read : (n : ℕ) (rest : List ℕ) (x : Reference) (k : ℕ) → reference_reads (n ∷ rest) ≡ Ok (x, k) → Read n rest x k
reference-read n rest x k h =
    let bs = take n rest in
    let p = ok-since (length_fits n) 0 _ _ h in
    let q = and_parts (nat_le 1 n) (nat_le n 16) p.0 in
    let r = ok-past (nat_lt (until_zero bs) n) (1 + until_zero bs) _ _ p.1 in
    let both : ◌≡◌ {A = Reference × ℕ} (packed bs, 1 + n) (x, k) = ok_same r.1 in
    record { some = leb-true 1 n q.0; most = leb-true n 16 q.1; whole = ltb-false _ n r.0; value = ap (λ y. y.0) both; long = sym (ap (λ y. y.1) both) }

reference-within : (s : List ℕ) (x : Reference) (k : ℕ) → Bytes s → reference_reads s ≡ Ok (x, k) → k ≤ length s
reference-within [] x k b h = let z : ◌≡◌ {A = ℕ} 0 1 = cc in absurd (omega arith)
reference-within (n ∷ rest) x k b h = let r = reference-read n rest x k h in omega (arith, r.whole, r.long, zero-le (take n rest), length-take n rest)

reference-covers : (s : List ℕ) (x : Reference) (k : ℕ) → Bytes s → reference_reads s ≡ Ok (x, k) → reference_written x ≡ Some (take k s)
reference-covers [] x k b h = let z : ◌≡◌ {A = ℕ} 0 1 = cc in absurd (omega arith)
reference-covers (n ∷ rest) x k b h =
    let r = reference-read n rest x k h in
    let bs = take n rest in
    let long : length bs ≡ n = omega (arith, r.whole, zero-le bs, length-take n rest) in
    let whole : until_zero bs ≡ length bs = omega (arith, r.whole, zero-le bs, length-take n rest) in
    let sixteen : length (padded bs) ≡ 16 = length-append bs (replicate (16 - length bs) 0) ∙ omega (arith, length-replicate {A = ℕ} (16 - length bs) 0, r.most) in
    let small : Bytes (padded bs) = bytes-append bs _ (bytes_take n rest (λ i. b (suc i))) (bytes-zeros (16 - length bs)) in
    let row : row_of x ≡ padded bs = ap row_of (sym r.value) ∙ row-of-row (padded bs) sixteen small in
    let fronts : until_zero (padded bs) ≡ n = zero-padded bs (16 - length bs) whole ∙ long in
    let bytes : take n (padded bs) ≡ bs = take_at bs _ n long in
    let end : take k (n ∷ rest) ≡ n ∷ bs = ap (λ m. take m (n ∷ rest)) (r.long ∙ one-add n) in
    let given : (nat_lt 0 n && same_words (packed bs) x) ≡ true = and_from _ _ (lt-ltb 0 n (omega (arith, r.some))) (ap (λ y. same_words y x) r.value ∙ words-self x) in
    ap (λ l. formed x l (until_zero l)) row
    ∙ ap (formed x (padded bs)) fronts
    ∙ ap (λ l. cond (nat_lt 0 n && same_words (packed l) x) (Some (n ∷ l)) None) bytes
    ∙ cond-true (nat_lt 0 n && same_words (packed bs) x) _ _ given
    ∙ ap Some (sym end)

pub reference-form : WrittenForm reference_written reference_reads
reference-form = record { back = reference-back; within = reference-within; covers = reference-covers }
