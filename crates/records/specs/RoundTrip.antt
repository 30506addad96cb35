-- Reading and writing undo one another, told of what the reader and the writer answer.
use Rattle.std.specs.Prelude.{◌≡◌, ℕ, ◌+◌, ◌-◌, ◌<◌, ◌≤◌, List, ◌++◌, length, take, drop, Some, Ok, Option}
use Rattle.values.specs.Form.{Bytes, Reading, filled}
use Rattle.records.specs.declared.event.Event.{Event}
use Rattle.records.specs.Reader.{Step, next_at}
use Rattle.records.specs.Record.{event_bytes}
use Rattle.records.specs.Writer.{Write, writes}

-- the reader answers the event e, and stands at q then
abbrev pub reading : {V : Type 0} → Event V → ℕ → Step V
reading e q = record { answer = Ok (Some e); place = q }

-- the bytes from p to q are those of e
abbrev pub Covers : {V : Type 0} → (V → Option (List ℕ)) → List ℕ → ℕ → Event V → ℕ → Type 0
Covers written s p e q = (p < q) × (q ≤ length s) × (event_bytes written e ≡ Some (take (q - p) (drop p s)))

module _ {V : Type 0} (written : V → Option (List ℕ)) (reads : List ℕ → Reading V) where
  -- what a write of e leaves in the buffer that it was lent
  abbrev pub leaves : Event V → List ℕ → Write
  leaves e lent = writes (event_bytes written e) lent

  -- the law of reading and writing
  pub record RoundTrip : Type 0 where
    -- the n bytes that were written, behind any bytes and before any others, read back to the event and their length
    pub back : (e : Event V) (lent front rest : List ℕ) (n : ℕ) → (leaves e lent).answer ≡ Ok n → Bytes (front ++ (take n (leaves e lent).buffer ++ rest)) → next_at reads (front ++ (take n (leaves e lent).buffer ++ rest)) (length front) ≡ reading e (length front + n)
    -- an event that was read ends further on, within the batch
    pub onward : (s : List ℕ) (p : ℕ) (e : Event V) (q : ℕ) → Bytes s → next_at reads s p ≡ reading e q → (p < q) × (q ≤ length s)
    -- and is written in the very bytes that were read
    pub again : (s lent : List ℕ) (p : ℕ) (e : Event V) (q : ℕ) → Bytes s → next_at reads s p ≡ reading e q → q - p ≤ length lent → leaves e lent ≡ record { answer = Ok (q - p); buffer = filled (take (q - p) (drop p s)) lent }
