-- What a reader answers at each place of a batch, and where it stands then.
use Rattle.std.specs.Prelude.{ℕ, cond, List, length, Some, None, Ok, Err, Option, Result, nat_lt}
use Rattle.refusals.specs.Telling.{Told, telling}
use Rattle.refusals.specs.declared.refusal.Layer.TheVariants.{Record}
use Rattle.values.specs.Form.{Reading}
use Rattle.records.specs.declared.event.Event.{Event}
use Rattle.records.specs.Record.{record_at}

-- bytes that are no record: refused 4, at the offending byte
abbrev pub malformed : ℕ → Told
malformed p = telling 4 Record p

-- what the reader answers, and its place then
pub record Step (V : Type 0) : Type 0 where
  pub answer : Result (Option (Event V)) Told
  pub place : ℕ

module _ {V : Type 0} (reads : List ℕ → Reading V) where
  -- an event is passed over, and a refused read does not move
  abbrev pub stepped : ℕ → Reading (Event V) → Step V
  stepped p (Ok x) = record { answer = Ok (Some x.0); place = x.1 }
  stepped p (Err q) = record { answer = Err (malformed q); place = p }

  -- at the end there is no event
  abbrev pub next_at : List ℕ → ℕ → Step V
  next_at s p = cond (nat_lt p (length s)) (stepped p (record_at reads s p)) (record { answer = Ok None; place = p })
