-- What a write answers, and what it leaves in its buffer.
use Rattle.std.specs.Prelude.{ℕ, cond, List, length, Some, None, Ok, Err, Option, Result, nat_lt}
use Rattle.values.specs.Form.{filled}
use Rattle.refusals.specs.Telling.{Told, telling}
use Rattle.refusals.specs.declared.refusal.Layer.TheVariants.{Record}
use Rattle.records.specs.Reader.{malformed}
use Rattle.records.specs.Record.{in_word}

-- a buffer that is too short: refused 12, with the bytes needed
abbrev pub too_short : ℕ → Told
too_short n = telling 12 Record (in_word n)

-- what a write answers, and what its buffer holds then
pub record Write : Type 0 where
  pub answer : Result ℕ Told
  pub buffer : List ℕ

-- what has no bytes is refused first, at place 0, then a buffer that is too short; a refusal leaves the buffer as it was
abbrev pub writes : Option (List ℕ) → List ℕ → Write
writes None lent = record { answer = Err (malformed 0); buffer = lent }
writes (Some w) lent = cond (nat_lt (length lent) (length w)) (record { answer = Err (too_short (length w)); buffer = lent }) (record { answer = Ok (length w); buffer = filled w lent })
