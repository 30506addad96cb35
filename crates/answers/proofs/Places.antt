-- The first place that passes, or all places where none does.
use Rattle.std.proofs.Common.{◌≡◌, ℕ, ◌≤◌, Bool, true, cond, List, length, Some, None, Option, IfSome, refl, sym, ap, ◌∙◌, arith, inl, inr}
use Rattle.std.proofs.lemmas.Option.{get_or_from_slice_get, slice_get_within}
use Rattle.std.proofs.lemmas.Bool.{cases_lt, le-ltb, lt-ltb}
use Rattle.std.proofs.lemmas.List.Sums.{passes_at_first, prefix_len-le-length}
use Rattle.std.specs.List.{position, position_or_len, slice_get}
use Rattle.std.specs.Option.{unwrap_or}

pub place_or_all : {X : Type 0} (p : X → Bool) (xs : List X) → unwrap_or (position p xs) (length xs) ≡ position_or_len p xs
place_or_all p xs =
    let n : ℕ = position_or_len p xs in
    let at : Bool → ℕ = λ b. unwrap_or (cond b (Some n) None) (length xs) in
    let h : n ≤ length xs = prefix_len-le-length _ xs in
    elim (cases_lt n (length xs)) [ inl l ↦ ap at (lt-ltb n (length xs) l) | inr l ↦ ap at (le-ltb n (length xs) l) ∙ omega (arith, h, l) ]

pub passes_there : {X : Type 0} (p : X → Bool) (P : X → Type 0) → ((x : X) → p x ≡ true → P x) → (xs : List X) → IfSome (slice_get xs (position_or_len p xs)) P
passes_there p P f xs = go (slice_get xs (position_or_len p xs)) refl
  where
    go : (o : Option _) → slice_get xs (position_or_len p xs) ≡ o → IfSome o P
    go None e = tt
    go (Some x) e = f x (rw (sym (get_or_from_slice_get xs (position_or_len p xs) x x e)) (passes_at_first p xs x (slice_get_within xs (position_or_len p xs) x e)))
