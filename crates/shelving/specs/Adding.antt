-- What a shelf holds once items were added to it.
use Rattle.std.specs.Prelude.{ℕ, List, fold}
use Rattle.std.specs.declared.cmp.Ordering.{Ordering}
use Rattle.items.specs.Items.{add_answer, after_add}
use Rattle.items.specs.declared.item.Item.{Item}

-- the items of a shelf of that limit after each of `held` was added in turn, as far as it had room
abbrev pub added_all : {V : Type 0} → (V → V → Ordering) → ℕ → List (Item V) → List (Item V) → List (Item V)
added_all order limit held items = fold (λ xs x. after_add order (add_answer order limit x xs) x xs) items held
