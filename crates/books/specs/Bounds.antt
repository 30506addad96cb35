-- How large the counts of a book can be.
use Rattle.std.specs.Prelude.{ℕ, ◌+◌, ◌*◌, ◌<◌, ◌≤◌, List, slice_index_or}
use Rattle.rules.specs.Book.{count_in}
use Rattle.rules.specs.Step.{Count}
use Rattle.rules.specs.Tallies.{no_tally}
use Rattle.rules.specs.declared.phase.Phase.{Phase}
use Rattle.rules.specs.declared.phase.Phase.TheVariants.{Blank, Open, Ended}
use Rattle.rules.specs.declared.tallies.Tally.{Tally}

-- no list of the program is as long as this
abbrev pub longest : ℕ
longest = 18446744073709551616

-- what the opening may have added to a count
abbrev pub start_room : Phase → ℕ
start_room Blank = 0
start_room Open = longest
start_room Ended = longest

-- the most that a count can be once so many events are accepted
abbrev pub count_most : Phase → ℕ → ℕ
count_most p n = start_room p + n * longest

-- no count of a name is larger than so many accepted events can make it
abbrev pub CountsWithin : Phase → ℕ → List Tally → Type 0
CountsWithin p n ts = (c : Count) (name : ℕ) → name < 32 → count_in (slice_index_or ts name no_tally) c ≤ count_most p n
