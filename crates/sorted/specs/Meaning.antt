-- What a sorted shelf means.
use Rattle.std.specs.Prelude.{ℕ, List, vec_items}
use Rattle.std.specs.declared.cmp.Ord as ord
use Rattle.std.specs.declared.cmp.PartialEq as partial_eq
use Rattle.std.specs.declared.cmp.PartialOrd as partial_ord
use Rattle.values.specs.declared.value.Value as value
use Rattle.items.specs.declared.item.Item.{Item}
use Rattle.sorted.specs.declared.shelf.SortedShelf.{SortedShelf}

module _ {V : Type 0} {v : value.Ghosts V} {o : ord.Ghosts V} {e : partial_eq.Ghosts V} {p : partial_ord.Ghosts V} where
  -- the items that it holds
  abbrev pub sorted_items : SortedShelf V v o e p → List (Item V)
  sorted_items s = vec_items s.cells

  -- how many it may hold
  abbrev pub sorted_limit : SortedShelf V v o e p → ℕ
  sorted_limit s = s.limit
