-- Cells with items, linked into a thread for each name and a chain for each name and bucket. Both are groups: cells whose items have one key.
use Rattle.std.specs.Prelude.{◌≡◌, ℕ, zero, suc, ◌+◌, ◌*◌, ◌<◌, ◌≤◌, true, List, [], ◌++◌, map, length, nat_eq, slice_index_or}
use Rattle.std.specs.declared.cmp.Ordering.{Ordering}
use Rattle.items.specs.Ascending.{kept, ascends}
use Rattle.items.specs.Items.{item_order}
use Rattle.items.specs.declared.item.Item.{Item}
use Rattle.indexed.specs.Links.{reached, Leads, times, last_of, front}

-- the cells of the m names from n on, name by name; the thread of name n starts at the link lim + n
abbrev pub threads_from : List ℕ → ℕ → ℕ → ℕ → List ℕ
threads_from threads lim zero n = []
threads_from threads lim (suc m) n = reached threads lim (lim + n) lim ++ threads_from threads lim m (suc n)

-- the cells of all names, name by name
unfoldable pub order_of : List ℕ → ℕ → List ℕ
order_of threads lim = threads_from threads lim 256 0

module _ {V : Type 0} (blank : V) where
  -- the item in a cell
  abbrev pub item_in : List (Item V) → ℕ → Item V
  item_in cells j = slice_index_or cells j (record { name = 0; first = blank; second = blank; third = blank })

  -- the items of all names, in order
  abbrev pub items_of : List (Item V) → List ℕ → ℕ → List (Item V)
  items_of cells threads lim = map (item_in cells) (order_of threads lim)

  -- among the cells js, those whose items have the key k
  abbrev pub group : (Item V → ℕ) → List (Item V) → ℕ → List ℕ → List ℕ
  group key cells k js = kept (λ j. nat_eq (key (item_in cells j)) k) js

  -- the links lead through each of K groups; that of the key k starts at the link lim + k
  abbrev pub Grouped : (Item V → ℕ) → ℕ → List ℕ → ℕ → List (Item V) → List ℕ → Type 0
  Grouped key K ls lim cells js = (k : ℕ) → k < K → Leads ls lim (lim + k) (group key cells k js)

-- the chain of an item, by its name and the bucket of its first value
abbrev pub chain_of : {V : Type 0} → (V → ℕ) → Item V → ℕ
chain_of bucket x = x.name * 1024 + bucket x.first

-- the thread of an item, by its name
abbrev pub name_of : {V : Type 0} → Item V → ℕ
name_of x = x.name

-- an index rightly made, where js are its cells in the order of their items
pub record Sound {V : Type 0} (order : V → V → Ordering) (bucket : V → ℕ) (blank : V) (cells : List (Item V)) (threads chains free : List ℕ) (lim : ℕ) (js : List ℕ) : Type 0 where
  -- a cell, a thread's start and a chain's start each has its place
  pub long : lim ≤ length cells
  pub threads_long : length threads ≡ lim + 256
  pub chains_long : length chains ≡ lim + 262144
  pub most : lim ≤ 65536
  -- the threads and the chains lead through the cells of their items
  pub threaded : Grouped blank name_of 256 threads lim cells js
  pub chained : Grouped blank (chain_of bucket) 262144 chains lim cells js
  -- each cell holds an item or is free, and not both
  pub apart : (j : ℕ) → times j js + times j free ≤ 1
  pub small : (j : ℕ) → lim ≤ j → times j js + times j free ≡ 0
  pub full : length js + length free ≡ lim
  -- the items ascend, and their names are bytes
  pub rising : ascends (item_order order) (map (item_in blank cells) js) ≡ true
  pub tame : (j : ℕ) → 1 ≤ times j js → (item_in blank cells j).name < 256

-- how the item in a cell compares with x
abbrev pub probe : {V : Type 0} → (V → V → Ordering) → V → List (Item V) → Item V → ℕ → Ordering
probe order blank cells x j = item_order order (item_in blank cells j) x

-- a walk may begin at a: the links from there end, and each cell has its place
pub record Walkable (long : ℕ) (ls : List ℕ) (lim a : ℕ) : Type 0 where
  pub starts : a < length ls
  pub links_reach : lim ≤ length ls
  pub cells_reach : lim ≤ long
  pub ends : Leads ls lim a (reached ls lim a lim)

-- the last cell, in the group of x, that holds less than x; the start of the group where none does
abbrev pub last_in : {V : Type 0} → (V → V → Ordering) → V → (Item V → ℕ) → List (Item V) → ℕ → List ℕ → Item V → ℕ
last_in order blank key cells lim js x = last_of (lim + key x) (group blank key cells (key x) (front (probe order blank cells x) js))
