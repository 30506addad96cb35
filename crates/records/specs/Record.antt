-- The bytes of an event, and what stands at a place of a batch.
use Rattle.std.specs.Prelude.{ℕ, zero, suc, ◌+◌, ◌-◌, ◌/◌, ◌%◌, ◌^◌, min, Bool, cond, List, [], ◌∷◌, ◌++◌, drop, Some, None, Ok, Err, Option, ◌==◌, nat_le}
use Rattle.values.specs.Form.{Reading}
use Rattle.records.specs.declared.event.Event.{Event}
use Rattle.records.specs.Fields.{event_of, fields_of, map_of}

-- kinds run from 0 to 63
abbrev pub kind_fits : ℕ → Bool
kind_fits k = nat_le k 63

-- a number as it is told in 64 bits: the largest stands for every larger one
abbrev pub in_word : ℕ → ℕ
in_word n = min n (2 ^ 64 - 1)

-- two parts, one after the other, where both have bytes
abbrev pub joined : Option (List ℕ) → Option (List ℕ) → Option (List ℕ)
joined None b = None
joined (Some a) None = None
joined (Some a) (Some b) = Some (a ++ b)

module _ {V : Type 0} (written : V → Option (List ℕ)) where
  -- an absent field takes no bytes
  abbrev pub field_bytes : Option V → Option (List ℕ)
  field_bytes None = Some []
  field_bytes (Some x) = written x

  -- the fields that are there, the first one first
  abbrev pub fields_bytes : List (Option V) → Option (List ℕ)
  fields_bytes [] = Some []
  fields_bytes (f ∷ fs) = joined (field_bytes f) (fields_bytes fs)

  -- the kind, the bit map, and the fields that are there; an event whose kind does not fit has no bytes
  unfoldable pub event_bytes : Event V → Option (List ℕ)
  event_bytes e = cond (kind_fits e.kind) (joined (Some (e.kind ∷ (map_of (fields_of e) ∷ []))) (fields_bytes (fields_of e))) None

module _ {V : Type 0} (reads : List ℕ → Reading V) where
  -- the value at a place, and the place after it, or the place that is refused
  abbrev pub found : ℕ → Reading V → Reading (Option V)
  found p (Ok x) = Ok (Some x.0, p + x.1)
  found p (Err q) = Err (in_word (p + q))

  -- the field whose bit is the lowest of m
  unfoldable pub field_at : ℕ → List ℕ → ℕ → Reading (Option V)
  field_at m s p = cond (m % 2 == 0) (Ok (None, p)) (found p (reads (drop p s)))

  -- fields in front of those that follow
  abbrev pub before : List (Option V) → Reading (List (Option V)) → Reading (List (Option V))
  before fs (Ok x) = Ok (fs ++ x.0, x.1)
  before fs (Err q) = Err q

  -- one field, and then the others from the place after it
  abbrev pub follow : Reading (Option V) → (ℕ → Reading (List (Option V))) → Reading (List (Option V))
  follow (Ok x) rest = before (x.0 ∷ []) (rest x.1)
  follow (Err q) rest = Err q

  -- k fields, of which m tells which are there
  unfoldable pub fields_at : ℕ → ℕ → List ℕ → ℕ → Reading (List (Option V))
  fields_at zero m s p = Ok ([], p)
  fields_at (suc k) m s p = follow (field_at m s p) (λ q. fields_at k (m / 2) s q)

  -- an event of a kind, of the fields that were read
  abbrev pub event : ℕ → Reading (List (Option V)) → Reading (Event V)
  event k (Ok x) = Ok (event_of k x.0, x.1)
  event k (Err q) = Err q

  -- what begins with a kind byte at p
  abbrev pub record_in : List ℕ → ℕ → List ℕ → Reading (Event V)
  record_in s p [] = Err p
  record_in s p (kind ∷ []) = cond (kind_fits kind) (Err (p + 1)) (Err p)
  record_in s p (kind ∷ (m ∷ more)) = cond (kind_fits kind) (event kind (fields_at 8 m s (p + 2))) (Err p)

  -- the event at a place, and the place after it, or the place that is refused
  unfoldable pub record_at : List ℕ → ℕ → Reading (Event V)
  record_at s p = record_in s p (drop p s)
