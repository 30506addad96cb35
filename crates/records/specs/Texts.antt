-- Events in words.
use Rattle.std.specs.Prelude.{ℕ, List, [], ◌∷◌, Some, None, Option}
use Rattle.std.specs.Fmt.{◌++?◌, decimal}
use Rattle.records.specs.declared.event.Event.{Event}

module _ {V : Type 0} (text : V → Option (List ℕ)) where
  -- a field that is there: a space, of code 32, its number, `=`, of code 61, and its value
  abbrev pub given_text : ℕ → Option V → Option (List ℕ)
  given_text n None = Some []
  given_text n (Some v) = Some (32 ∷ []) ++? Some (decimal n) ++? Some (61 ∷ []) ++? text v

  -- the kind, then each field that is there
  abbrev pub event_text : Event V → Option (List ℕ)
  event_text e =
      Some (decimal e.kind) ++? given_text 1 e.field1 ++? given_text 2 e.field2 ++? given_text 3 e.field3 ++? given_text 4 e.field4
      ++? given_text 5 e.field5 ++? given_text 6 e.field6 ++? given_text 7 e.field7 ++? given_text 8 e.field8
