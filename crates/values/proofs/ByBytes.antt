-- The order of rows of bytes is that of the numbers that they write.
use Rattle.std.proofs.Common.{◌≡◌, ℕ, zero, suc, ◌+◌, ◌*◌, ◌/◌, ◌%◌, ◌^◌, ◌<◌, eqb, ltb, List, [], ◌∷◌, ◌++◌, length, Ordering, Less, Equal, Greater, sym, refl, ap, ◌∙◌, ⊎_elim, pow-suc, arith}
use Rattle.std.proofs.lemmas.Nat.{div-add-mod', div_below}
use Rattle.std.proofs.lemmas.Bool.{cases_order, cond-false, cond-true, eq-eqb, le-ltb, lt-ltb, ne_eqb}
use Rattle.values.specs.declared.reference.Reference.{Reference}
use Rattle.std.specs.Ordering.{ordering_then}
use Rattle.values.specs.Order.{by_bytes, by_number}
use Rattle.values.specs.ReferenceForm.{reference_order, row_of}
use Rattle.values.specs.Words.{bytes_of}
use Rattle.values.specs.NumberBytes.{length-bytes_of}

less : (m n : ℕ) → m < n → by_number m n ≡ Less
less m n h = cond-true (ltb m n) _ _ (lt-ltb m n h)

same : (m n : ℕ) → m ≡ n → by_number m n ≡ Equal
same m n h = cond-false (ltb m n) _ _ (le-ltb m n (omega arith)) ∙ cond-true (eqb m n) _ _ (eq-eqb m n h)

greater : (m n : ℕ) → n < m → by_number m n ≡ Greater
greater m n h = cond-false (ltb m n) _ _ (le-ltb m n (omega arith)) ∙ cond-false (eqb m n) _ _ (ne_eqb m n (λ e. omega arith))

then_by-equal : (o : Ordering) → ordering_then o Equal ≡ o
then_by-equal Less = refl
then_by-equal Equal = refl
then_by-equal Greater = refl

then_by-assoc : (a b c : Ordering) → ordering_then (ordering_then a b) c ≡ ordering_then a (ordering_then b c)
then_by-assoc Less b c = refl
then_by-assoc Equal b c = refl
then_by-assoc Greater b c = refl

-- the high part tells first
by_parts : (a b c d : ℕ) → b < 256 → d < 256 → ordering_then (by_number a c) (by_number b d) ≡ by_number (a * 256 + b) (c * 256 + d)
by_parts a b c d h k =
    let m : ℕ = a * 256 + b in
    let n : ℕ = c * 256 + d in
    ⊎_elim
    (λ (e : a ≡ c). ap (λ o. ordering_then o (by_number b d)) (same a c e) ∙
    ⊎_elim
    (λ (f : b ≡ d). same b d f ∙ sym (same m n (omega arith)))
    (⊎_elim (λ (f : b < d). less b d f ∙ sym (less m n (omega arith))) (λ (f : d < b). greater b d f ∙ sym (greater m n (omega arith))))
    (cases_order b d))
    (⊎_elim
    (λ (e : a < c). ap (λ o. ordering_then o (by_number b d)) (less a c e) ∙ sym (less m n (omega arith)))
    (λ (e : c < a). ap (λ o. ordering_then o (by_number b d)) (greater a c e) ∙ sym (greater m n (omega arith))))
    (cases_order a c)

-- rows of one length, one after the other
bytes-append : (xs ys a b : List ℕ) → length xs ≡ length ys → by_bytes (xs ++ a) (ys ++ b) ≡ ordering_then (by_bytes xs ys) (by_bytes a b)
bytes-append [] [] a b h = refl
bytes-append [] (y ∷ ys) a b h = absurd (omega arith)
bytes-append (x ∷ xs) [] a b h = absurd (omega arith)
bytes-append (x ∷ xs) (y ∷ ys) a b h = ap (ordering_then (by_number x y)) (bytes-append xs ys a b (omega arith)) ∙ sym (then_by-assoc (by_number x y) (by_bytes xs ys) (by_bytes a b))

same_length : (k m n : ℕ) → length (bytes_of k m) ≡ length (bytes_of k n)
same_length k m n = length-bytes_of k m ∙ sym (length-bytes_of k n)

bytes-number : (k m n : ℕ) → m < 256 ^ k → n < 256 ^ k → by_bytes (bytes_of k m) (bytes_of k n) ≡ by_number m n
bytes-number zero m n h l = sym (same m n (omega arith))
bytes-number (suc k) m n h l =
    let small : (i : ℕ) → i < 256 ^ suc k → i / 256 < 256 ^ k = λ i j. div_below i 256 (256 ^ k) (omega arith) (rw pow-suc at j) in
    bytes-append (bytes_of k (m / 256)) (bytes_of k (n / 256)) (m % 256 ∷ []) (n % 256 ∷ []) (same_length k _ _)
    ∙ ap (λ o. ordering_then o (by_bytes (m % 256 ∷ []) (n % 256 ∷ []))) (bytes-number k (m / 256) (n / 256) (small m h) (small n l))
    ∙ ap (ordering_then (by_number (m / 256) (n / 256))) (then_by-equal (by_number (m % 256) (n % 256)))
    ∙ by_parts (m / 256) (m % 256) (n / 256) (n % 256) (omega arith) (omega arith)
    ∙ ap (λ i. by_number i (n / 256 * 256 + n % 256)) (div-add-mod' m 256)
    ∙ ap (by_number m) (div-add-mod' n 256)

pub reference-bytes : (x y : Reference) → x.high < 2 ^ 64 → x.low < 2 ^ 64 → y.high < 2 ^ 64 → y.low < 2 ^ 64 → reference_order x y ≡ by_bytes (row_of x) (row_of y)
unfolding row_of
reference-bytes x y a b c d = sym (
    bytes-append (bytes_of 8 x.high) (bytes_of 8 y.high) (bytes_of 8 x.low) (bytes_of 8 y.low) (same_length 8 x.high y.high)
    ∙ ap (λ o. ordering_then o (by_bytes (bytes_of 8 x.low) (bytes_of 8 y.low))) (bytes-number 8 x.high y.high a c)
    ∙ ap (ordering_then (by_number x.high y.high)) (bytes-number 8 x.low y.low b d))
