-- What is put in and counted when a book is opened.
use Rattle.std.specs.Prelude.{◌≡◌, ℕ, ◌+◌, ◌<◌, ◌≤◌, Bool, cond, ◌&&◌, List, [], ◌∷◌, length, ◌==◌, slice_index_or}
use Rattle.items.specs.Ascending.{placed}
use Rattle.items.specs.Items.{item_order}
use Rattle.items.specs.declared.item.Item.{Item}
use Rattle.sheets.specs.declared.tables.State.{State}
use Rattle.rules.specs.Book.{count_in, plain_item}
use Rattle.rules.specs.Kinds.{ValueKind}
use Rattle.rules.specs.Step.{Count, Starts, Asks, Repeats, FiredOut, LapsedOut, StruckOut}
use Rattle.rules.specs.Tallies.{no_tally}
use Rattle.rules.specs.declared.tallies.Tally.{Tally}
use Rattle.counting.specs.Counts.{counted}

-- the tally of an init item that was put in
abbrev pub start_tally : Tally
start_tally = record { started = 1; asked = 0; repeats = 0; fired = 0; lapsed = 0; struck = 0 }

-- the state is init
abbrev pub is_init : State → Bool
is_init d = d.init

-- a set after the item of a state of that name was put in, if the state is init
abbrev pub started_with : {V : Type 0} → ValueKind V → ℕ → State → List (Item V) → List (Item V)
started_with K n d xs = cond d.init (placed (item_order K.order) (plain_item K n) xs) xs

-- tallies after a state of that name was counted, if it is init
abbrev pub counted_with : ℕ → State → List Tally → List Tally
counted_with n d tallies = cond d.init (counted tallies n start_tally) tallies

-- how many init states of that name there are among some, the first of which has a given name
abbrev pub inits_named : ℕ → ℕ → List State → ℕ
inits_named n from [] = 0
inits_named n from (d ∷ ds) = cond (d.init && from == n) 1 0 + inits_named n (from + 1) ds

-- what such states add to each count of a name when a book is opened
abbrev pub starts_from : Count → ℕ → ℕ → List State → ℕ
starts_from Starts n from ds = inits_named n from ds
starts_from Asks n from ds = 0
starts_from Repeats n from ds = 0
starts_from FiredOut n from ds = 0
starts_from LapsedOut n from ds = 0
starts_from StruckOut n from ds = 0

-- each count of each of the first 32 names is what it was and what the opening adds, and no more than the number of states was added
pub record Started (states : List State) (before after : List Tally) : Type 0 where
  pub counts : (c : Count) (n : ℕ) → n < 32 → count_in (slice_index_or after n no_tally) c ≡ count_in (slice_index_or before n no_tally) c + starts_from c n 0 states
  pub most : (c : Count) (n : ℕ) → n < 32 → count_in (slice_index_or after n no_tally) c ≤ count_in (slice_index_or before n no_tally) c + length states
