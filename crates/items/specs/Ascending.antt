-- Sets as strictly ascending lists, over any three-way order.
use Rattle.std.specs.Prelude.{ℕ, suc, Bool, true, false, cond, ◌&&◌, ◌||◌, List, [], ◌∷◌, Some, None, Option, filter}
use Rattle.std.specs.declared.cmp.Ordering.TheVariants.{Less, Equal, Greater}
use Rattle.std.specs.declared.cmp.Ordering.{Ordering}
use Rattle.std.specs.Ordering.{is_eq, is_lt}

-- one of three, by an answer
abbrev pub pick : {T : Type 0} → Ordering → T → T → T → T
pick Less a b c = a
pick Equal a b c = b
pick Greater a b c = c

module _ {X : Type 0} where
  -- the first element that passes the test
  abbrev pub first_of : (X → Bool) → List X → Option X
  first_of t [] = None
  first_of t (x ∷ xs) = cond (t x) (Some x) (first_of t xs)

  -- a probe tells of each element whether it stands before a place, at it or past it; so many in front stand before
  abbrev pub leading : (X → Ordering) → List X → ℕ
  leading p [] = 0
  leading p (x ∷ xs) = pick (p x) (suc (leading p xs)) 0 0

  -- the element, if it stands at the place
  abbrev pub met : (X → Ordering) → Option X → Option X
  met p None = None
  met p (Some x) = cond (is_eq (p x)) (Some x) None

  -- the elements that pass the test
  abbrev pub kept : (X → Bool) → List X → List X
  kept = filter

module _ {X : Type 0} (order : X → X → Ordering) where
  -- x is less than the first element, if there is one
  abbrev pub heads : X → List X → Bool
  heads x [] = true
  heads x (y ∷ ys) = is_lt (order x y)

  -- each element is less than the next
  abbrev pub ascends : List X → Bool
  ascends [] = true
  ascends (x ∷ xs) = heads x xs && ascends xs

  -- x is among the elements
  abbrev pub held : X → List X → Bool
  held x [] = false
  held x (y ∷ ys) = is_eq (order x y) || held x ys

  -- the list with x put in at its place
  abbrev pub placed : X → List X → List X
  placed x [] = x ∷ []
  placed x (y ∷ ys) = pick (order x y) (x ∷ (y ∷ ys)) (y ∷ ys) (y ∷ placed x ys)

  -- the list with x taken out
  abbrev pub without : X → List X → List X
  without x [] = []
  without x (y ∷ ys) = pick (order x y) (y ∷ ys) ys (y ∷ without x ys)
