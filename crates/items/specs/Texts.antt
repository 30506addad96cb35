-- Items in words.
use Rattle.std.specs.Prelude.{ℕ, List, [], ◌∷◌, Some, Option}
use Rattle.std.specs.Fmt.{◌++?◌, decimal}
use Rattle.items.specs.declared.item.Item.{Item}

module _ {V : Type 0} (text : V → Option (List ℕ)) where
  -- a value behind a space, of code 32
  abbrev pub spaced : V → Option (List ℕ)
  spaced x = Some (32 ∷ []) ++? text x

  -- the name, then the three values, parted by single spaces
  abbrev pub item_text : Item V → Option (List ℕ)
  item_text x = Some (decimal x.name) ++? spaced x.first ++? spaced x.second ++? spaced x.third
