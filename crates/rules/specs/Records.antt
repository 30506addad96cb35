-- The records of a batch, one after another.
use Rattle.std.specs.Prelude.{ℕ, zero, suc, cond, List, [], ◌∷◌, length, Ok, Err, nat_lt}
use Rattle.values.specs.Form.{Reading}
use Rattle.records.specs.Record.{record_at}
use Rattle.records.specs.declared.event.Event.{Event}

-- events, each with the place of its record's first byte, up to the end or to a place that is refused
pub data Records (V : Type 0) : Type 0 where
  done : Records V
  stop : ℕ → Records V
  one : ℕ → Event V → Records V → Records V

-- the events of records
abbrev pub events_in : {V : Type 0} → Records V → List (Event V)
events_in done = []
events_in (stop q) = []
events_in (one p e more) = e ∷ events_in more

module _ {V : Type 0} (reads : List ℕ → Reading V) where
  -- what was read at p, and then the records from the place after it
  abbrev pub read_on : ℕ → Reading (Event V) → (ℕ → Records V) → Records V
  read_on p (Ok x) more = one p x.0 (more x.1)
  read_on p (Err q) more = stop q

  -- the first `most` records of the batch s from the place p on
  unfoldable pub records_from : ℕ → List ℕ → ℕ → Records V
  records_from zero s p = done
  records_from (suc most) s p = cond (nat_lt p (length s)) (read_on p (record_at reads s p) (records_from most s)) done

  -- all records from p on: there are fewer than bytes, as each has two bytes at least
  unfoldable pub records_at : List ℕ → ℕ → Records V
  records_at s p = records_from (length s) s p
