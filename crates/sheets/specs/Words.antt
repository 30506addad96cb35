-- A few words on lists.
use Rattle.std.specs.Prelude.{ℕ, Bool, not, List, Option, position}
use Rattle.std.specs.List.{flat_map, list_all, list_any}
use Rattle.std.specs.Option.{option_to_list}

module _ {X : Type 0} where
  -- those that are there
  abbrev pub present : List (Option X) → List X
  present = flat_map option_to_list

  -- each passes
  abbrev pub every : (X → Bool) → List X → Bool
  every = list_all

  -- one at least passes
  abbrev pub some : (X → Bool) → List X → Bool
  some = list_any

  -- the number of the first that does not pass, from 0
  abbrev pub first_failing : (X → Bool) → List X → Option ℕ
  first_failing p = position (λ x. not (p x))
