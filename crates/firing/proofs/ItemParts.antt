-- What an item gives, put in after one another: itself, and its fired rows.
use Rattle.std.proofs.Common.{◌≡◌, ℕ, Bool, List, ◌++◌, sym, refl, ap, ◌∙◌}
use Rattle.std.specs.List.{flat_map}
use Rattle.items.specs.declared.item.Item.{Item}
use Rattle.sheets.specs.declared.tables.Entry.{Entry}
use Rattle.sheets.specs.declared.tables.Row.{Row}
use Rattle.rules.specs.Kinds.{ValueKind}
use Rattle.rules.specs.Step.{Numbered, fired_rows}
use Rattle.firing.specs.At.{event_in, sheet_in}
use Rattle.firing.specs.Effects.{is_filled, item_gives, row_gives}
use Rattle.buffers.specs.Places.{fill, places_after}
use Rattle.firing.specs.declared.at.SheetEvent.{SheetEvent}
use Rattle.buffers.proofs.Fillings.{filled-both, counted-both}

module _ {V X : Type 0} (of_entry : Item V → Row → ℕ → Entry → List X) (K : ValueKind V) (s : SheetEvent V) (F : List (Item V)) (of_item : Item V → Bool → List X) (x : Item V) where
  abbrev fired : List Numbered
  fired = fired_rows K (sheet_in s) F (event_in s) x

  gives-is : item_gives of_entry K s F of_item x ≡ of_item x (is_filled fired) ++ flat_map (row_gives of_entry x) fired
  unfolding item_gives
  gives-is = refl

  module _ (first : List X) (b : Bool) (e : first ≡ of_item x b) (f : b ≡ is_filled fired) (n m : ℕ) (counted : m ≡ places_after n first) where
    given : first ≡ of_item x (is_filled fired)
    given = e ∙ ap (of_item x) f

    after_first : m ≡ places_after n (of_item x (is_filled fired))
    after_first = counted ∙ ap (places_after n) given

    pub item-filled : (buffer between after : List X) → between ≡ fill buffer n first → after ≡ fill between m (flat_map (row_gives of_entry x) fired) → after ≡ fill buffer n (item_gives of_entry K s F of_item x)
    item-filled buffer between after h k = filled-both n m (of_item x (is_filled fired)) (flat_map (row_gives of_entry x) fired) after_first buffer between after (h ∙ ap (fill buffer n) given) k ∙ ap (fill buffer n) (sym gives-is)

    pub item-counted : (k : ℕ) → k ≡ places_after m (flat_map (row_gives of_entry x) fired) → k ≡ places_after n (item_gives of_entry K s F of_item x)
    item-counted k h = counted-both n m (of_item x (is_filled fired)) (flat_map (row_gives of_entry x) fired) after_first k h ∙ ap (places_after n) (sym gives-is)
