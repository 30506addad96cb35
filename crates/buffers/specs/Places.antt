-- A lent buffer that is filled from a place on: what comes past its end is counted and not kept.
use Rattle.std.specs.Prelude.{ℕ, ◌+◌, min, cond, List, [], ◌∷◌, nat_lt, slice_set}

-- the largest place
abbrev pub last_place : ℕ
last_place = 340282366920938463463374607431768211455

-- the place after a place; the largest stays
abbrev pub place_after : ℕ → ℕ
place_after n = cond (nat_lt n last_place) (n + 1) n

-- a number as it is counted: past the largest place, no further
abbrev pub capped : ℕ → ℕ
capped n = min n last_place

module _ {X : Type 0} where
  -- a buffer with elements put in from the place n on
  abbrev pub fill : List X → ℕ → List X → List X
  fill buffer n [] = buffer
  fill buffer n (x ∷ xs) = fill (slice_set buffer n x) (place_after n) xs

  -- the place after all of them
  abbrev pub places_after : ℕ → List X → ℕ
  places_after n [] = n
  places_after n (x ∷ xs) = places_after (place_after n) xs
