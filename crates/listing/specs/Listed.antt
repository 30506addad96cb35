-- What is listed of a set of items, and sets compared.
use Rattle.std.specs.Prelude.{ℕ, Bool, cond, List, [], map}
use Rattle.std.specs.declared.cmp.Ordering.{Ordering}
use Rattle.std.specs.List.{list_all}
use Rattle.items.specs.Ascending.{held, kept}
use Rattle.items.specs.Items.{named}
use Rattle.items.specs.declared.item.Item.{Item}

module _ {V X : Type 0} (takes : ℕ → Bool) (shows : Item V → X) where
  -- the items whose names are taken, in their order, each as it is shown
  abbrev pub listed_of : List (Item V) → List X
  listed_of xs = map shows (kept (λ x. takes x.name) xs)

  -- those of one name: all of them if the name is taken, and else none
  abbrev pub listed_named : ℕ → List (Item V) → List X
  listed_named n xs = cond (takes n) (map shows (kept (named n) xs)) []

-- each element of the first list is held by the second
abbrev pub all_held : {X : Type 0} → (X → X → Ordering) → List X → List X → Bool
all_held order xs ys = list_all (λ x. held order x ys) xs
