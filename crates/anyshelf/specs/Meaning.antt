-- What a shelf of either make means: what the one chosen means.
use Rattle.std.specs.Prelude.{ℕ, List}
use Rattle.std.specs.declared.cmp.Ord as ord
use Rattle.std.specs.declared.cmp.PartialEq as partial_eq
use Rattle.std.specs.declared.cmp.PartialOrd as partial_ord
use Rattle.values.specs.declared.value.Bucketed as bucketed
use Rattle.values.specs.declared.value.Value as value
use Rattle.items.specs.declared.item.Item.{Item}
use Rattle.sorted.specs.Meaning.{sorted_items, sorted_limit}
use Rattle.indexed.specs.Meaning.{indexed_items, indexed_limit}
use Rattle.anyshelf.specs.declared.any.AnyShelf.{AnyShelf}
use Rattle.anyshelf.specs.declared.any.AnyShelf.TheVariants.{Sorted, Indexed}

module _ {V : Type 0} {b : bucketed.Ghosts V} {v : value.Ghosts V} {o : ord.Ghosts V} {e : partial_eq.Ghosts V} {p : partial_ord.Ghosts V} where
  -- the items that it holds
  abbrev pub any_items : AnyShelf V b v o e p → List (Item V)
  any_items (Sorted s) = sorted_items s
  any_items (Indexed s) = indexed_items s

  -- how many it may hold
  abbrev pub any_limit : AnyShelf V b v o e p → ℕ
  any_limit (Sorted s) = sorted_limit s
  any_limit (Indexed s) = indexed_limit s
