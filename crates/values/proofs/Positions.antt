-- The first place that passes a test, or the length.
use Rattle.std.proofs.Common.{◌≡◌, ◌<◌, ◌≤◌, ℕ, ltb, Bool, List, length, Some, None, ⊎_elim, ◌∙◌, ap, not, arith}
use Rattle.std.specs.List.{position, position_or_len}
use Rattle.std.specs.Option.{unwrap_or}
use Rattle.std.proofs.lemmas.List.Sums.{prefix_len-le-length}
use Rattle.std.proofs.lemmas.Bool.{cases_lt, cond-false, cond-true, le-ltb, lt-ltb}

pub first_or_length : {X : Type 0} (p : X → Bool) (xs : List X) → unwrap_or (position p xs) (length xs) ≡ position_or_len p xs
first_or_length p xs =
    let n : ℕ = position_or_len p xs in
    let most : n ≤ length xs = prefix_len-le-length (λ x. not (p x)) xs in
    ⊎_elim
    (λ (h : n < length xs). ap (λ o. unwrap_or o (length xs)) (cond-true (ltb n (length xs)) (Some n) None (lt-ltb n (length xs) h)))
    (λ (h : length xs ≤ n). ap (λ o. unwrap_or o (length xs)) (cond-false (ltb n (length xs)) (Some n) None (le-ltb n (length xs) h)) ∙ omega arith)
    (cases_lt n (length xs))
