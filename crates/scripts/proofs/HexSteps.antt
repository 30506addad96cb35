-- The steps of a loop that takes two digits a turn.
use Rattle.std.proofs.Common.{◌≡◌, ℕ, ◌≤◌, List, [], ◌∷◌, ◌++◌, length, get_or, drop, Some, None, Option, sym, refl, ap, ◌∙◌, subst, append_assoc, arith}
use Rattle.std.specs.Option.{option_map}
use Rattle.scripts.specs.Hexadecimals.{before, byte_of, bytes_of}

pub none_yet : (o : Option (List ℕ)) → o ≡ option_map (λ bs. [] ++ bs) o
none_yet (Some bs) = refl
none_yet None = refl

pub one_more : (xs : List ℕ) (b : ℕ) (o : Option (List ℕ)) → option_map (λ bs. xs ++ bs) (before (Some b) o) ≡ option_map (λ bs. (xs ++ b ∷ []) ++ bs) o
one_more xs b (Some bs) = ap Some (sym (append_assoc xs (b ∷ []) bs))
one_more xs b None = refl

-- two digits in front
pub two-in-front : (left : List ℕ) → 2 ≤ length left → bytes_of left ≡ before (byte_of (get_or left 0 0) (get_or left 1 0)) (bytes_of (drop 2 left))
two-in-front [] h = absurd (omega arith)
two-in-front (x ∷ []) h = absurd (omega (arith, h))
two-in-front (x ∷ (y ∷ rest)) h = refl

-- a turn: the byte b of the two digits in front goes behind xs
pub turn : (all xs ys left : List ℕ) (b : ℕ) (rest : List ℕ) → bytes_of all ≡ option_map (λ bs. xs ++ bs) (bytes_of left) → 2 ≤ length left → Some b ≡ byte_of (get_or left 0 0) (get_or left 1 0) → ys ≡ xs ++ b ∷ [] → rest ≡ drop 2 left → bytes_of all ≡ option_map (λ bs. ys ++ bs) (bytes_of rest)
turn all xs ys left b rest inv two is ys-is rest-is =
    let P : List ℕ → List ℕ → Type 0 = λ us vs. bytes_of all ≡ option_map (λ bs. us ++ bs) (bytes_of vs) in
    let f : Option ℕ → Option (List ℕ) = λ o. option_map (λ bs. xs ++ bs) (before o (bytes_of (drop 2 left))) in
    let e : P (xs ++ b ∷ []) (drop 2 left) = inv ∙ ap (option_map (λ bs. xs ++ bs)) (two-in-front left two) ∙ ap f (sym is) ∙ one_more xs b (bytes_of (drop 2 left)) in
    subst (λ us. P us rest) (sym ys-is) (subst (λ vs. P (xs ++ b ∷ []) vs) (sym rest-is) e)
