-- The order of a kind of value: whether a value is less than, equal to or greater than another.
use Rattle.std.specs.Prelude.{◌≡◌, ℕ, cond, List, [], ◌∷◌, ◌==◌, nat_lt}
use Rattle.std.specs.declared.cmp.Ordering.TheVariants.{Less, Equal, Greater}
use Rattle.std.specs.declared.cmp.Ordering.{Ordering}
use Rattle.std.specs.Ordering.{ordering_reverse, ordering_then}

-- what every comparison keeps
pub record TotalOrder {V : Type 0} (order : V → V → Ordering) : Type 0 where
  -- equal is told exactly when both are the same value
  pub same : (x y : V) → order x y ≡ Equal → x ≡ y
  pub reflexive : (x : V) → order x x ≡ Equal
  -- swapping the two swaps less and greater
  pub swaps : (x y : V) → order y x ≡ ordering_reverse (order x y)
  -- less carries over a middle value
  pub carries : (x y z : V) → order x y ≡ Less → order y z ≡ Less → order x z ≡ Less

-- the usual order of numbers
abbrev pub by_number : ℕ → ℕ → Ordering
by_number m n = cond (nat_lt m n) Less (cond (m == n) Equal Greater)

-- lists of bytes, from the first byte on
abbrev pub by_bytes : List ℕ → List ℕ → Ordering
by_bytes [] [] = Equal
by_bytes [] (y ∷ ys) = Less
by_bytes (x ∷ xs) [] = Greater
by_bytes (x ∷ xs) (y ∷ ys) = ordering_then (by_number x y) (by_bytes xs ys)
