-- Rows of bytes: at every width, the row of a number and the number of a row undo one another.
use Rattle.std.specs.Prelude.{◌≡◌, ℕ, zero, suc, ◌+◌, ◌-◌, ◌*◌, ◌/◌, ◌%◌, ◌^◌, ◌<◌, ◌≤◌, List, [], ◌∷◌, ◌++◌, length, take, drop, slice_index, slice_index_or, refl}
use Rattle.std.specs.Int.{byte_at, bytes_high_first, to_be_bytes, w64}
use Rattle.std.proofs.Common.{sym, ap, ◌∙◌, zero-add, mul_comm, pow-suc, add-one, arith, length-append}
use Rattle.std.proofs.Math.Nat.{div-div-eq-div-mul, pow-le-pow_right}
use Rattle.std.proofs.lemmas.Nat.{div-add-mod', div_below, div-mul-add, mod-mul-add}
use Rattle.std.proofs.lemmas.Int.Digits.{number_push, number_more}
use Rattle.std.proofs.lemmas.List.{take_more}
use Rattle.values.specs.Form.{Bytes}
use Rattle.values.specs.Words.{bytes_of, number_of}

-- one byte more
pub grows : (n b i : ℕ) → n < 256 ^ i → b < 256 → n * 256 + b < 256 ^ (i + 1)
grows n b i h k = rw (add-one, pow-suc) (omega arith)

pub within_word : (i : ℕ) → i ≤ 8 → 256 ^ i ≤ 2 ^ 64
within_word i h = let p : 256 ^ i ≤ 256 ^ 8 = pow-le-pow_right (omega arith) h in p

pub within-seven : (i : ℕ) → i ≤ 7 → 256 ^ i ≤ 2 ^ 56
within-seven i h = let p : 256 ^ i ≤ 256 ^ 7 = pow-le-pow_right (omega arith) h in p

pub length-bytes_of : (k n : ℕ) → length (bytes_of k n) ≡ k
length-bytes_of zero n = refl
length-bytes_of (suc k) n = simp length-append (omega (arith, length-bytes_of k (n / 256)))

pub number-bytes_of : (k n : ℕ) → n < 256 ^ k → number_of (bytes_of k n) ≡ n
number-bytes_of zero n h = omega arith
number-bytes_of (suc k) n h =
    let small : n / 256 < 256 ^ k = div_below n 256 (256 ^ k) (omega arith) (rw pow-suc at h) in
    number_push 256 (bytes_of k (n / 256)) (n % 256) ∙ omega (arith, number-bytes_of k (n / 256) small, div-add-mod' n 256)

-- the first k of some bytes: the number that they write, and its bytes
module _ (bs : List ℕ) (small : Bytes bs) where
  next : (k : ℕ) → suc k ≤ length bs → number_of (take (suc k) bs) ≡ number_of (take k bs) * 256 + slice_index bs k
  next k h = rw add-one at (number_more 256 bs k (omega arith))

  pub number_small : (k : ℕ) → k ≤ length bs → number_of (take k bs) < 256 ^ k
  number_small zero h = omega arith
  number_small (suc k) h = rw (next k h) (rw add-one at (grows (number_of (take k bs)) (slice_index bs k) k (number_small k (omega arith)) (small k)))

  pub bytes_of-number : (k : ℕ) → k ≤ length bs → bytes_of k (number_of (take k bs)) ≡ take k bs
  bytes_of-number zero h = refl
  bytes_of-number (suc k) h =
      let n = number_of (take k bs) in
      let b = slice_index_or bs k 0 in
      let t : take (suc k) bs ≡ take k bs ++ (b ∷ []) = rw add-one at (take_more bs k 0 (omega arith)) in
      rw (next k h, div-mul-add n 256 b (small k), mod-mul-add n 256 b (small k), bytes_of-number k (omega arith), t)

-- std's word for the bytes of a number, the high byte first, means the same
byte_at-next : (k n : ℕ) → byte_at (suc k) n ≡ byte_at k (n / 256)
byte_at-next zero n = refl
byte_at-next (suc k) n = ap (λ m. n / m % 256) (pow-suc 256 (suc k) ∙ mul_comm (256 ^ suc k) 256) ∙ ap (λ q. q % 256) (sym (div-div-eq-div-mul n 256 (256 ^ suc k)))

high_first-push : (k n : ℕ) → bytes_high_first (suc k) n ≡ bytes_high_first k (n / 256) ++ (n % 256 ∷ [])
high_first-push zero n = refl
high_first-push (suc k) n = ap (λ b. b ∷ bytes_high_first (suc k) n) (byte_at-next k n) ∙ ap (λ bs. byte_at k (n / 256) ∷ bs) (high_first-push k n)

high_first-bytes_of : (k n : ℕ) → bytes_high_first k n ≡ bytes_of k n
high_first-bytes_of zero n = refl
high_first-bytes_of (suc k) n = high_first-push k n ∙ ap (λ bs. bs ++ (n % 256 ∷ [])) (high_first-bytes_of k (n / 256))

-- the last k of m + k bytes
high_first-drop : (m k n : ℕ) → drop m (bytes_high_first (m + k) n) ≡ bytes_high_first k n
high_first-drop zero k n = ap (λ j. bytes_high_first j n) (zero-add k)
high_first-drop (suc m) k n = let e : suc m + k ≡ suc (m + k) = omega arith in ap (λ j. drop (suc m) (bytes_high_first j n)) e ∙ high_first-drop m k n

pub last_bytes : (k n : ℕ) → k ≤ 8 → drop (8 - k) (to_be_bytes w64 n) ≡ bytes_of k n
last_bytes k n h =
    let e : 8 ≡ 8 - k + k = omega arith in
    ap (λ j. drop (8 - k) (bytes_high_first j n)) e ∙ high_first-drop (8 - k) k n ∙ high_first-bytes_of k n
