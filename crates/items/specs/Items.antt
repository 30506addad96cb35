-- The order of items, and what a shelf's calls answer.
use Rattle.std.specs.Prelude.{ℕ, ◌<◌, min, Bool, true, cond, ◌&&◌, List, length, Some, None, Option, ◌==◌, nat_le, nat_lt}
use Rattle.std.specs.declared.cmp.Ordering.{Ordering}
use Rattle.std.specs.Ordering.{is_eq, is_lt, ordering_then}
use Rattle.std.specs.List.{AllByRecursion}
use Rattle.values.specs.Order.{by_number}
use Rattle.items.specs.Ascending.{first_of, held, placed}
use Rattle.items.specs.declared.item.Item.{Item}
use Rattle.items.specs.declared.added.Added.{Added}
use Rattle.items.specs.declared.added.Added.TheVariants.{Held, Put, Full}

-- the limit of a shelf that is given n cells
abbrev pub limit_of : ℕ → ℕ
limit_of n = min n 65536

-- an item that is held stays; another is put in while the count is below the limit, and is refused otherwise
abbrev pub add_rule : Bool → ℕ → ℕ → Added
add_rule h n l = cond h Held (cond (nat_lt n l) Put Full)

module _ {V : Type 0} where
  -- an item of the name n
  abbrev pub named : ℕ → Item V → Bool
  named n x = x.name == n

  -- an item of the name n or a later one
  abbrev pub from_name : ℕ → Item V → Bool
  from_name n x = nat_le n x.name

  -- the name of each item is a byte
  abbrev pub ByteNames : List (Item V) → Type 0
  ByteNames xs = AllByRecursion (λ (x : Item V). x.name < 256) xs

module _ {V : Type 0} (order : V → V → Ordering) where
  -- by name, then by first, second and third value
  abbrev pub item_order : Item V → Item V → Ordering
  item_order a b = ordering_then (by_number a.name b.name) (ordering_then (order a.first b.first) (ordering_then (order a.second b.second) (order a.third b.third)))

  -- the first value is the one asked for, if one is
  abbrev pub agrees : Option V → V → Bool
  agrees None v = true
  agrees (Some f) v = is_eq (order v f)

  -- the item is above the one given, if one is
  abbrev pub is_above : Option (Item V) → Item V → Bool
  is_above None y = true
  is_above (Some x) y = is_lt (item_order x y)

  -- of that name, of that first value, and above that item
  abbrev pub wanted : ℕ → Option V → Option (Item V) → Item V → Bool
  wanted n f a y = y.name == n && (agrees f y.first && is_above a y)

  -- the least such item: in an ascending list, the first
  abbrev pub next_of : ℕ → Option V → Option (Item V) → List (Item V) → Option (Item V)
  next_of n f a xs = first_of (wanted n f a) xs

  -- what `add` answers, at a limit
  abbrev pub add_answer : ℕ → Item V → List (Item V) → Added
  add_answer l x xs = add_rule (held item_order x xs) (length xs) l

  -- the items after `add` has answered
  abbrev pub after_add : Added → Item V → List (Item V) → List (Item V)
  after_add Held x xs = xs
  after_add Put x xs = placed item_order x xs
  after_add Full x xs = xs
