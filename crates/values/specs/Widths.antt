-- The written form of a number keeps its laws, at every width by one argument.
use Rattle.std.specs.Prelude.{◌≡◌, ℕ, zero, suc, ◌+◌, ◌-◌, ◌*◌, ◌/◌, ◌^◌, ◌<◌, ◌≤◌, true, false, cond, List, [], ◌∷◌, ◌++◌, length, take, Some, Ok, ◌==◌, nat_lt, refl}
use Rattle.std.proofs.Common.{sym, ap, subst, ◌∙◌, ⊎_elim, add-zero, one-mul, pow-suc, one-add, arith, length-append, length-take, pow_mono}
use Rattle.std.proofs.Math.Nat.{div-eq_of_lt}
use Rattle.values.specs.Choice.{some_since, ok-past, ok-since, ok_same}
use Rattle.std.proofs.lemmas.List.{take_at}
use Rattle.std.proofs.lemmas.Bool.{ltb-true, ltb-false, eqb-true, eq-eqb, ne_eqb, lt-ltb, le-ltb, cases_lt, cond_both, cond-true, cond-false}
use Rattle.std.proofs.lemmas.Nat.{le-div, pow-add, pow_pos}
use Rattle.values.specs.declared.number.Number.{Number}
use Rattle.values.specs.Form.{Bytes, WrittenForm}
use Rattle.values.specs.Words.{bytes_of, number_of}
use Rattle.values.specs.NumberForm.{code_from, code_of, coded, holds_in, judged, number_is, number_reads, number_written, width_of}
use Rattle.values.specs.NumberBytes.{length-bytes_of, number-bytes_of, bytes_of-number, number_small, within_word}

-- k codes from c on, at every width by one argument
codes-le : (k c n : ℕ) → code_from k c n ≤ c + k
codes-le zero c n = omega arith
codes-le (suc k) c n =
    let P : ℕ → Type 0 = λ d. d ≤ c + suc k in
    cond_both (holds_in (width_of c) n) c _ P (λ _. omega arith) (λ _. omega (arith, codes-le k (c + 1) n))

codes-hold : (k c n : ℕ) → n < 256 ^ (2 ^ (c + k)) → n < 256 ^ (2 ^ code_from k c n)
codes-hold zero c n h = rw add-zero at h
codes-hold (suc k) c n h =
    let P : ℕ → Type 0 = λ d. n < 256 ^ (2 ^ d) in
    let e : c + suc k ≡ c + 1 + k = omega arith in
    cond_both (holds_in (width_of c) n) c _ P (ltb-true n _) (λ _. codes-hold k (c + 1) n (subst P e h))

pub code-le : (n : ℕ) → code_of n ≤ 3
code-le n = codes-le 3 0 n

-- the width that the code stands for holds the number
pub code_holds : (n : ℕ) → n < 2 ^ 64 → n < 256 ^ (2 ^ code_of n)
code_holds n h = codes-hold 3 0 n h

-- the codes are tried one after another, from 0 on: c is next
module _ (n c : ℕ) (h : c < 3) (so_far : code_of n ≡ code_from (3 - c) c n) where
  tried : code_of n ≡ cond (holds_in (width_of c) n) c (code_from (3 - (c + 1)) (c + 1) n)
  tried = let k : 3 - c ≡ suc (3 - (c + 1)) = omega arith in so_far ∙ ap (λ m. code_from m c n) k

  pub code_here : holds_in (width_of c) n ≡ true → c ≡ code_of n
  code_here e = sym (tried ∙ cond-true _ _ _ e)

  pub code-later : holds_in (width_of c) n ≡ false → code_of n ≡ code_from (3 - (c + 1)) (c + 1) n
  code-later e = tried ∙ cond-false _ _ _ e

-- eight bits to a byte
bits-bytes : (k : ℕ) → 2 ^ (8 * k) ≡ 256 ^ k
bits-bytes zero = refl
bits-bytes (suc k) =
    let e : 8 * suc k ≡ 8 * k + 8 = omega arith in
    ap (λ n. 2 ^ n) e ∙ pow-add 2 (8 * k) 8 ∙ ap (λ n. n * 256) (bits-bytes k) ∙ sym (pow-suc 256 k)

-- whether a number is below a power of 256, told by a shift
pub shifted-out : (width n : ℕ) → (n / 2 ^ (8 * width) == 0) ≡ holds_in width n
shifted-out width n =
    let e : 2 ^ (8 * width) ≡ 256 ^ width = bits-bytes width in
    ⊎_elim
    (λ (h : n < 256 ^ width). eq-eqb _ 0 (div-eq_of_lt (rw e h)) ∙ sym (lt-ltb n _ h))
    (λ (h : 256 ^ width ≤ n). ne_eqb _ 0 (λ z. omega (arith, le-div 1 n (2 ^ (8 * width)) (pow_pos (8 * width)) (rw (e, one-mul) h))) ∙ sym (le-ltb n _ h))
    (cases_lt n (256 ^ width))

pub width-le : (c : ℕ) → c ≤ 3 → 2 ^ c ≤ 8
width-le c h = let p : 2 ^ c ≤ 2 ^ 3 = pow_mono h in p

pub narrow-le : (c : ℕ) → c < 3 → 2 ^ c ≤ 7
narrow-le c h = let q : c ≤ 2 = omega arith in let p : 2 ^ c ≤ 2 ^ 2 = pow_mono q in omega arith

-- a number in the bytes of its own width reads back
coded-reads : (n c : ℕ) (rest : List ℕ) → c ≤ 3 → n < 256 ^ (2 ^ c) → code_of n ≡ c → number_reads (coded c n ++ rest) ≡ Ok (number_is n, 1 + 2 ^ c)
coded-reads n c rest small fits e =
    let k = 2 ^ c in
    let long : length (bytes_of k n ++ rest) ≡ k + length rest = length-append (bytes_of k n) rest ∙ ap (λ m. m + length rest) (length-bytes_of k n) in
    let front : take k (bytes_of k n ++ rest) ≡ bytes_of k n = take_at (bytes_of k n) rest k (length-bytes_of k n) in
    let value : number_of (take k (bytes_of k n ++ rest)) ≡ n = ap number_of front ∙ number-bytes_of k n fits in
    cond-false (nat_lt 3 c) _ _ (le-ltb 3 c small)
    ∙ cond-false (nat_lt (length (bytes_of k n ++ rest)) k) _ _ (le-ltb _ k (omega arith))
    ∙ ap (judged c) value
    ∙ cond-true (code_of n == c) _ _ (eq-eqb _ c e)

number-back : (x : Number) (w rest : List ℕ) → Bytes (w ++ rest) → number_written x ≡ Some w → number_reads (w ++ rest) ≡ Ok (x, length w)
number-back x w rest b h =
    let n = x.value in
    let p = some_since (nat_lt n (2 ^ 64)) _ w h in
    let long : 1 + 2 ^ code_of n ≡ length (coded (code_of n) n) = omega (arith, length-bytes_of (2 ^ code_of n) n) in
    rw (← p.1) (coded-reads n (code_of n) rest (code-le n) (code_holds n (ltb-true n _ p.0)) refl ∙ ap (λ m. Ok (x, m)) long)

-- what is known of a number that was read
record Read (c : ℕ) (rest : List ℕ) (x : Number) (n : ℕ) : Type 0 where
  code : c ≤ 3
  room : 2 ^ c ≤ length rest
  smallest : code_of x.value ≡ c
  value : number_of (take (2 ^ c) rest) ≡ x.value
  long : n ≡ 1 + 2 ^ c

number_read : (c : ℕ) (rest : List ℕ) (x : Number) (n : ℕ) → number_reads (c ∷ rest) ≡ Ok (x, n) → Read c rest x n
number_read c rest x n h =
    let v = number_of (take (2 ^ c) rest) in
    let p = ok-past (nat_lt 3 c) 0 _ _ h in
    let q = ok-past (nat_lt (length rest) (2 ^ c)) (1 + length rest) _ _ p.1 in
    let r = ok-since (code_of v == c) 0 _ _ q.1 in
    let both : ◌≡◌ {A = Number × ℕ} (number_is v, 1 + 2 ^ c) (x, n) = ok_same r.1 in
    let e : v ≡ x.value = ap (λ y. y.0.value) both in
    record { code = ltb-false 3 c p.0; room = ltb-false _ _ q.0; smallest = sym (ap code_of e) ∙ eqb-true _ c r.0; value = e; long = sym (ap (λ y. y.1) both) }

number-within : (s : List ℕ) (x : Number) (n : ℕ) → Bytes s → number_reads s ≡ Ok (x, n) → n ≤ length s
number-within [] x n b h = let z : ◌≡◌ {A = ℕ} 0 1 = cc in absurd (omega arith)
number-within (c ∷ rest) x n b h = let r = number_read c rest x n h in omega arith

number-covers : (s : List ℕ) (x : Number) (n : ℕ) → Bytes s → number_reads s ≡ Ok (x, n) → number_written x ≡ Some (take n s)
number-covers [] x n b h = let z : ◌≡◌ {A = ℕ} 0 1 = cc in absurd (omega arith)
number-covers (c ∷ rest) x n b h =
    let r = number_read c rest x n h in
    let k = 2 ^ c in
    let bytes : Bytes rest = λ i. b (suc i) in
    let row : bytes_of k x.value ≡ take k rest = ap (bytes_of k) (sym r.value) ∙ bytes_of-number rest bytes k r.room in
    let small : x.value < 2 ^ 64 = omega (arith, r.value, number_small rest bytes k r.room, within_word k (width-le c r.code)) in
    let front : take n (c ∷ rest) ≡ c ∷ take k rest = ap (λ m. take m (c ∷ rest)) (r.long ∙ one-add k) in
    cond-true (nat_lt x.value (2 ^ 64)) _ _ (lt-ltb _ _ small) ∙ ap Some (ap (λ m. coded m x.value) r.smallest ∙ ap (λ m. c ∷ m) row ∙ sym front)

pub number-form : WrittenForm number_written number_reads
number-form = record { back = number-back; within = number-within; covers = number-covers }

pub part-le : (xs : List ℕ) (c k : ℕ) → c ≤ 3 → k ≡ 2 ^ c → length (take (k - 0) xs) ≤ 8
part-le xs c k h e = omega (arith, length-take (k - 0) xs, width-le c h)
