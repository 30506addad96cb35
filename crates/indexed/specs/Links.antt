-- Lists of cells that are linked by number. A link of lim or more leads to no cell.
use Rattle.std.specs.Prelude.{◌≡◌, ℕ, zero, suc, ◌+◌, ◌<◌, ◌≤◌, cond, List, [], ◌∷◌, length, take, drop, ◌==◌, nat_lt, slice_index, slice_set}
use Rattle.std.specs.declared.cmp.Ordering.{Ordering}
use Rattle.items.specs.Ascending.{leading}

-- the cells reached from a by at most as many links
abbrev pub reached : List ℕ → ℕ → ℕ → ℕ → List ℕ
reached ls lim a zero = []
reached ls lim a (suc f) = cond (nat_lt (slice_index ls a) lim) (slice_index ls a ∷ reached ls lim (slice_index ls a) f) []

-- the links lead from a through these cells, and to no cell after them
abbrev pub Leads : List ℕ → ℕ → ℕ → List ℕ → Type 0
Leads ls lim a [] = lim ≤ slice_index ls a
Leads ls lim a (x ∷ xs) = (slice_index ls a ≡ x) × (x < lim) × Leads ls lim x xs

-- the last of them, or a where there is none
abbrev pub last_of : ℕ → List ℕ → ℕ
last_of a [] = a
last_of a (x ∷ xs) = last_of x xs

-- how often a number stands in a list
abbrev pub times : ℕ → List ℕ → ℕ
times j [] = 0
times j (x ∷ xs) = cond (j == x) 1 0 + times j xs

-- what stands before the place that a probe tells
abbrev pub front : (ℕ → Ordering) → List ℕ → List ℕ
front p xs = take (leading p xs) xs

-- what stands from that place on
abbrev pub back : (ℕ → Ordering) → List ℕ → List ℕ
back p xs = drop (leading p xs) xs

-- the links once cell i is put in after p
abbrev pub linked : List ℕ → ℕ → ℕ → List ℕ
linked ls p i = slice_set (slice_set ls i (slice_index ls p)) p i

-- the links once cell i is taken out after p
abbrev pub unlinked : List ℕ → ℕ → ℕ → List ℕ
unlinked ls p i = slice_set ls p (slice_index ls i)

-- each number below n once, and no other
pub record Numbered (n : ℕ) (xs : List ℕ) : Type 0 where
  pub once : (j : ℕ) → times j xs ≤ 1
  pub below : (j : ℕ) → n ≤ j → times j xs ≡ 0
  pub many : length xs ≡ n
