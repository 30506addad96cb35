-- The fields of an event as a list and by their numbers, and the bit map.
use Rattle.std.specs.Prelude.{ℕ, zero, suc, ◌+◌, ◌*◌, Bool, cond, ◌&&◌, List, [], ◌∷◌, is_some, None, Option, nat_le, slice_index_or}
use Rattle.records.specs.declared.event.Event.{Event}

-- fields are numbered from 1 to 8
abbrev pub has_field : ℕ → Bool
has_field n = nat_le 1 n && nat_le n 8

module _ {V : Type 0} where
  -- from the first field to the eighth
  abbrev pub fields_of : Event V → List (Option V)
  fields_of e = e.field1 ∷ (e.field2 ∷ (e.field3 ∷ (e.field4 ∷ (e.field5 ∷ (e.field6 ∷ (e.field7 ∷ (e.field8 ∷ [])))))))

  -- the field of a number from 1 on; there is no field 0 and none above 8
  abbrev pub field_of : Event V → ℕ → Option V
  field_of e zero = None
  field_of e (suc i) = slice_index_or (fields_of e) i None

  -- the event of a kind and some fields
  abbrev pub event_of : ℕ → List (Option V) → Event V
  event_of k fs = record { kind = k; field1 = slice_index_or fs 0 None; field2 = slice_index_or fs 1 None; field3 = slice_index_or fs 2 None; field4 = slice_index_or fs 3 None; field5 = slice_index_or fs 4 None; field6 = slice_index_or fs 5 None; field7 = slice_index_or fs 6 None; field8 = slice_index_or fs 7 None }

  -- whether a field is there
  abbrev pub bit_of : Option V → ℕ
  bit_of f = cond (is_some f) 1 0

  -- 1 for the first field, 2 for the second, up to 128 for the eighth
  abbrev pub map_of : List (Option V) → ℕ
  map_of [] = 0
  map_of (f ∷ fs) = bit_of f + 2 * map_of fs
