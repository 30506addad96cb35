-- Tallies: nothing counted, and what is counted added up.
use Rattle.std.specs.Prelude.{ℕ, ◌+◌, min}
use Rattle.rules.specs.declared.tallies.Tally.{Tally}

-- the largest number that a count can hold
abbrev pub most_counted : ℕ
most_counted = 340282366920938463463374607431768211455

-- a count after more was counted; it stops at the largest
abbrev pub count_sum : ℕ → ℕ → ℕ
count_sum n m = min (n + m) most_counted

-- the tally of a name of which nothing was counted
abbrev pub no_tally : Tally
no_tally = record { started = 0; asked = 0; repeats = 0; fired = 0; lapsed = 0; struck = 0 }

-- a tally after more was counted
abbrev pub tally_sum : Tally → Tally → Tally
tally_sum t more = record {
  started = count_sum t.started more.started;
  asked = count_sum t.asked more.asked;
  repeats = count_sum t.repeats more.repeats;
  fired = count_sum t.fired more.fired;
  lapsed = count_sum t.lapsed more.lapsed;
  struck = count_sum t.struck more.struck;
}
