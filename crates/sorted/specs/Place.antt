-- Where an item stands against what is looked for: before it, at it or past it.
use Rattle.std.specs.Prelude.{ℕ, cond, Some, None, Option}
use Rattle.std.specs.declared.cmp.Ordering.TheVariants.{Less, Equal}
use Rattle.std.specs.declared.cmp.Ordering.{Ordering}
use Rattle.std.specs.Ordering.{is_lt, ordering_then}
use Rattle.values.specs.Order.{by_number}
use Rattle.items.specs.Items.{item_order}
use Rattle.items.specs.declared.item.Item.{Item}
use Rattle.sorted.specs.declared.mark.Mark.{Mark}
use Rattle.sorted.specs.declared.mark.Mark.TheVariants.{At, Among}

module _ {V : Type 0} (order : V → V → Ordering) where
  -- by its first value, if one is looked for
  abbrev pub first_place : Option V → V → Ordering
  first_place None v = Equal
  first_place (Some f) v = order v f

  -- an item that is not above the one given stands before
  abbrev pub above_place : Option (Item V) → Item V → Ordering
  above_place None y = Equal
  above_place (Some x) y = cond (is_lt (item_order order x y)) Equal Less

  -- by name, then by first value, then against the item given
  abbrev pub range_place : ℕ → Option V → Option (Item V) → Item V → Ordering
  range_place n f a y = ordering_then (by_number y.name n) (ordering_then (first_place f y.first) (above_place a y))

  -- by what is looked for
  abbrev pub place_of : Mark V → Item V → Ordering
  place_of (At x) y = item_order order y x
  place_of (Among n f a) y = range_place n f a y
