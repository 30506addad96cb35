-- The bytes before the first zero byte, and the rows of sixteen bytes that references are.
use Rattle.std.specs.Prelude.{◌≡◌, ℕ, suc, ◌+◌, ◌-◌, ◌<◌, ◌≤◌, min, true, false, List, [], ◌∷◌, ◌++◌, length, take, drop, replicate, Ok, Err, ◌==◌, nat_lt, slice_index, refl, cond}
use Rattle.std.specs.List.{position_or_len}
use Rattle.std.proofs.lemmas.List.Recursion.{is_position_or_len}
use Rattle.std.proofs.Common.{sym, ap, ◌∙◌, ⊎_elim, arith, length-drop}
use Rattle.std.proofs.Math.Nat.{sub-zero}
use Rattle.std.proofs.lemmas.List.{append-nil, drop_at, drop-replicate, take_all, take_at, take_rest}
use Rattle.std.proofs.lemmas.Bool.{cond-true, cond-false, cases_lt, false≢true, le-ltb, lt-ltb}
use Rattle.std.proofs.lemmas.Bool.Decides.{nat_tests}
use Rattle.values.specs.ReferenceForm.{announced, until_zero, length_fits, of_row, padded, packed, reference_is, reference_reads, row_of}
use Rattle.values.specs.declared.reference.Reference.{Reference}
use Rattle.values.specs.Words.{bytes_of, number_of}
use Rattle.values.specs.NumberBytes.{length-bytes_of}
use borrow.Rule.Slice.PartMut.{put_mid, post_of}

-- std's word for the first place that passes a test means the same
pub zero_position : (bs : List ℕ) → until_zero bs ≡ position_or_len (λ b. (b == 0)) bs
zero_position bs = is_position_or_len until_zero (λ b. (b == 0)) refl (λ b cs. let e : suc (until_zero cs) ≡ 1 + until_zero cs = omega arith in ap (λ n. cond (b == 0) 0 n) e) bs

pub zero-le : (bs : List ℕ) → until_zero bs ≤ length bs
zero-le [] = omega arith
zero-le (b ∷ bs) = let p = zero-le bs in grind (arith, nat_tests)

-- an array of sixteen zeros whose front was copied over
pub padded-made : (bs cs : List ℕ) → cs ≡ bs → cs ++ post_of 0 (length bs - 0) (replicate 16 0) ≡ padded bs
padded-made bs cs e = rw (e, sub-zero, drop-replicate {X = ℕ} (length bs) 16 0)

-- an array of sixteen zeros whose halves were filled
pub row_made : (x : Reference) (a b : List ℕ) → a ≡ bytes_of 8 x.high → b ≡ bytes_of (length (take 8 (drop 8 (a ++ replicate 8 0)))) x.low → put_mid 8 8 (a ++ replicate 8 0) b ≡ row_of x
unfolding row_of
row_made x a b p q =
    let la : length a ≡ 8 = ap length p ∙ length-bytes_of 8 x.high in
    let z : List ℕ = replicate 8 0 in
    let d : drop 8 (a ++ z) ≡ z = drop_at a z 8 la in
    let lb : length (take 8 (drop 8 (a ++ z))) ≡ 8 = ap (λ l. length (take 8 l)) d in
    let low : b ≡ bytes_of 8 x.low = q ∙ ap (λ k. bytes_of k x.low) lb in
    let t : take 8 (a ++ z) ≡ a = take_at a z 8 la in
    ap (λ l. l ++ (b ++ post_of 8 8 (a ++ z))) t ∙ ap (λ l. a ++ (b ++ drop 8 l)) d ∙ ap (λ l. a ++ l) (append-nil b) ∙ ap (λ l. l ++ b) p ∙ ap (λ l. bytes_of 8 x.high ++ l) low

pub row_read : (row : List ℕ) (h l : ℕ) → length row ≡ 16 → h ≡ number_of (take 8 row) → l ≡ number_of (take 8 (drop 8 row)) → reference_is h l ≡ of_row row
row_read row h l long p q =
    let all : take 8 (drop 8 row) ≡ drop 8 row = take_all 8 (drop 8 row) (omega (arith, length-drop 8 row)) in
    ap (λ n. reference_is n l) p ∙ ap (λ n. reference_is (number_of (take 8 row)) n) (q ∙ ap number_of all)

take_min : (n : ℕ) (xs : List ℕ) → take (min n (length xs)) xs ≡ take n xs
take_min n xs = ⊎_elim (λ h. ap (λ k. take k xs) (omega arith)) (λ h. take_all _ xs (omega arith) ∙ sym (take_all n xs (omega arith))) (cases_lt n (length xs))

-- the part that is read: as many bytes as were announced, or all that there are
part-is : (s : List ℕ) (n m : ℕ) → m ≡ min n (length (take (length s - 1) (drop 1 s))) → take (m - 0) (take (length s - 1) (drop 1 s)) ≡ take n (drop 1 s)
part-is s n m e = rw (sub-zero, take_rest) (ap (λ k. take k (drop 1 s)) (e ∙ ap (λ l. min n (length l)) (take_rest s 1)) ∙ take_min n (drop 1 s))

-- the reading of s, where n bytes were announced and m are at hand: past the tests of the length
module _ (s : List ℕ) (n m : ℕ) (e : n ≡ slice_index s 0) (fits : length_fits n ≡ true) (k : m ≡ min n (length (take (length s - 1) (drop 1 s)))) where
  abbrev part : List ℕ
  part = take (m - 0) (take (length s - 1) (drop 1 s))

  reads-accepts : reference_reads s ≡ announced n (until_zero part) part
  reads-accepts = from s e (part-is s n m k)
    where
      from : (t : List ℕ) → n ≡ slice_index t 0 → part ≡ take n (drop 1 t) → reference_reads t ≡ announced n (until_zero part) part
      from [] e p = let z : false ≡ true = sym (ap length_fits e) ∙ fits in absurd (false≢true z)
      from (b ∷ rest) e p =
          ap (λ b. reference_reads (b ∷ rest)) (sym e)
          ∙ cond-true (length_fits n) _ _ fits
          ∙ ap (λ l. announced n (until_zero l) l) (sym p)

  pub reads-not : (f : ℕ) → f ≡ until_zero part → f < n → Err (1 + f) ≡ reference_reads s
  reads-not f e h = ap (λ k. Err (1 + k)) e ∙ sym (reads-accepts ∙ cond-true (nat_lt (until_zero part) n) _ _ (lt-ltb _ n (omega arith)))

  pub reads_all : (f : ℕ) (x : Reference) → f ≡ until_zero part → n ≤ f → x ≡ packed part → Ok (x, 1 + n) ≡ reference_reads s
  reads_all f x e h p = ap (λ y. Ok (y, 1 + n)) p ∙ sym (reads-accepts ∙ cond-false (nat_lt (until_zero part) n) _ _ (le-ltb _ n (omega arith)))
