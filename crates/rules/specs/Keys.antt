-- Keys: which events and which items are a key's own.
use Rattle.std.specs.Prelude.{Bool, false, ◌&&◌, Some, None, Option, nat_lt}
use Rattle.std.specs.Ordering.{is_eq}
use Rattle.records.specs.Fields.{field_of}
use Rattle.records.specs.declared.event.Event.{Event}
use Rattle.items.specs.declared.item.Item.{Item}
use Rattle.sheets.specs.Tables.{SheetModel, kind_of, state_of}
use Rattle.rules.specs.Kinds.{ValueKind}

-- an event's key: the value in its kind's key field, if both exist
abbrev pub key_of : {V : Type 0} → SheetModel V → Event V → Option V
key_of s e = field_of e (kind_of s.kinds e.kind).key

module _ {V : Type 0} (K : ValueKind V) where
  -- a value that is there and is the key
  abbrev pub is_key : V → Option V → Bool
  is_key k None = false
  is_key k (Some v) = is_eq (K.order v k)

  -- an event of a key
  abbrev pub has_key : SheetModel V → V → Event V → Bool
  has_key s k e = is_key k (key_of s e)

  -- an item of a key: its state has parameters, and its first value is the key
  abbrev pub of_key : SheetModel V → V → Item V → Bool
  of_key s k x = nat_lt 0 (state_of s.states x.name).parameters && is_eq (K.order x.first k)
