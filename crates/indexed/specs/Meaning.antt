-- What an indexed shelf means.
use Rattle.std.specs.Prelude.{◌≡◌, ℕ, true, false, List, ◌∷◌, drop, vec_items, Option, MatchOption}
use Rattle.std.specs.declared.cmp.Ord as ord
use Rattle.std.specs.declared.cmp.PartialEq as partial_eq
use Rattle.std.specs.declared.cmp.PartialOrd as partial_ord
use Rattle.values.specs.declared.value.Bucketed as bucketed
use Rattle.values.specs.declared.value.Value as value
use Rattle.items.specs.Ascending.{held}
use Rattle.items.specs.Items.{item_order}
use Rattle.items.specs.declared.item.Item.{Item}
use Rattle.indexed.specs.Links.{back}
use Rattle.indexed.specs.Index.{order_of, items_of, item_in, probe, chain_of, name_of, last_in}
use Rattle.indexed.specs.declared.shelf.IndexedShelf.{IndexedShelf}

module _ {V : Type 0} {b : bucketed.Ghosts V} {v : value.Ghosts V} {o : ord.Ghosts V} {e : partial_eq.Ghosts V} {p : partial_ord.Ghosts V} where
  -- how many items it may hold
  abbrev pub indexed_limit : IndexedShelf V b v o e p → ℕ
  indexed_limit s = s.limit

  -- the items that it holds
  abbrev pub indexed_items : IndexedShelf V b v o e p → List (Item V)
  indexed_items s = items_of v.blank (vec_items s.cells) (vec_items s.threads) s.limit

  -- their cells, in the order of the items
  abbrev pub ordered : IndexedShelf V b v o e p → List ℕ
  ordered s = order_of (vec_items s.threads) s.limit

  -- the cell before x in its chain
  abbrev pub chain_last : IndexedShelf V b v o e p → Item V → ℕ
  chain_last s x = last_in o.cmp v.blank (chain_of b.bucket_of) (vec_items s.cells) s.limit (ordered s) x

  -- the cell before x in the thread of its name
  abbrev pub thread_last : IndexedShelf V b v o e p → Item V → ℕ
  thread_last s x = last_in o.cmp v.blank name_of (vec_items s.cells) s.limit (ordered s) x

-- the cell i holds x, and stands first of those that do not hold less
pub record Holds {V : Type 0} {b : bucketed.Ghosts V} {v : value.Ghosts V} {o : ord.Ghosts V} {e : partial_eq.Ghosts V} {p : partial_ord.Ghosts V} (s : IndexedShelf V b v o e p) (x : Item V) (i : ℕ) : Type 0 where
  pub is : item_in v.blank (vec_items s.cells) i ≡ x
  pub there : back (probe o.cmp v.blank (vec_items s.cells) x) (ordered s) ≡ i ∷ drop 1 (back (probe o.cmp v.blank (vec_items s.cells) x) (ordered s))
  pub found : held (item_order o.cmp) x (indexed_items s) ≡ true

-- the cell that holds x, if one does
abbrev pub Located : {V : Type 0} {b : bucketed.Ghosts V} {v : value.Ghosts V} {o : ord.Ghosts V} {e : partial_eq.Ghosts V} {p : partial_ord.Ghosts V} → IndexedShelf V b v o e p → Item V → Option ℕ → Type 0
Located {o = o} s x r = MatchOption r (held (item_order o.cmp) x (indexed_items s) ≡ false) (Holds s x)
