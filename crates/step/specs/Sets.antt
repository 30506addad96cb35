-- What one move does to a set.
use Rattle.std.specs.Prelude.{Bool, true, false, cond, ◌&&◌, List}
use Rattle.std.specs.declared.cmp.Ordering.{Ordering}
use Rattle.std.specs.Ordering.{is_eq}
use Rattle.items.specs.Ascending.{placed, without}
use Rattle.items.specs.Items.{item_order}
use Rattle.items.specs.declared.item.Item.{Item}
use Rattle.rules.specs.Step.{caused_by}
use Rattle.rules.specs.declared.moves.Cause.{Cause}
use Rattle.rules.specs.declared.moves.Cause.TheVariants.{Fired, Lapsed, Asked, Struck}
use Rattle.rules.specs.declared.moves.Move.{Move}

-- its item is taken out; else it is asked for
abbrev pub takes_out : Cause → Bool
takes_out Fired = true
takes_out Lapsed = true
takes_out Asked = false
takes_out Struck = true

-- the move moves the item for that cause
abbrev pub is_for : {V : Type 0} → (V → V → Ordering) → Cause → Item V → Move V → Bool
is_for order c x m = caused_by c m && is_eq (item_order order x m.item)

-- the move takes the item out
abbrev pub takes_item : {V : Type 0} → (V → V → Ordering) → Item V → Move V → Bool
takes_item order x m = takes_out m.cause && is_eq (item_order order x m.item)

module _ {V : Type 0} (order : V → V → Ordering) (m : Move V) (xs : List (Item V)) where
  -- the set after one taking out
  abbrev pub out_by : List (Item V)
  out_by = cond (takes_out m.cause) (without (item_order order) m.item xs) xs

  -- the set after one ask
  abbrev pub in_by : List (Item V)
  in_by = cond (takes_out m.cause) xs (placed (item_order order) m.item xs)
