-- What is counted move by move.
use Rattle.std.specs.Prelude.{◌≡◌, ℕ, ◌+◌, ◌<◌, ◌≤◌, Bool, false, cond, not, ◌&&◌, ◌||◌, List, length, slice_index_or, slice_set}
use Rattle.items.specs.Ascending.{held, kept}
use Rattle.items.specs.Items.{item_order}
use Rattle.items.specs.declared.item.Item.{Item}
use Rattle.rules.specs.Kinds.{ValueKind}
use Rattle.rules.specs.Step.{Count, Starts, Asks, Repeats, FiredOut, LapsedOut, StruckOut, count_added, gone_by, moved_by, taken}
use Rattle.rules.specs.declared.moves.Cause.TheVariants.{Fired, Lapsed, Asked, Struck}
use Rattle.rules.specs.declared.moves.Move.{Move}
use Rattle.rules.specs.Book.{count_in}
use Rattle.rules.specs.Tallies.{most_counted, no_tally, tally_sum}
use Rattle.rules.specs.declared.tallies.Tally.{Tally}
use Rattle.step.specs.Counts.{is_counted as is_part_counted}
use Rattle.step.specs.Sets.{takes_out}
use Rattle.step.specs.declared.part.Part.TheVariants.{Ask, Repeat, Out}

-- one, or nothing
abbrev pub one_if : Bool → ℕ
one_if b = cond b 1 0

-- an ask, which may be a repeated one
abbrev pub ask_tally : Bool → Tally
ask_tally again = record { started = 0; asked = 1; repeats = one_if again; fired = 0; lapsed = 0; struck = 0 }

module _ {V : Type 0} (K : ValueKind V) where
  -- an item that is gone, under the first cause that applies
  abbrev pub gone_tally : List (Move V) → Item V → Tally
  gone_tally ms x = record { started = 0; asked = 0; repeats = 0; fired = one_if (gone_by K Fired ms x); lapsed = one_if (gone_by K Lapsed ms x); struck = one_if (gone_by K Struck ms x) }

  module _ (all : List (Move V)) (F : List (Item V)) where
    -- the move adds one to that count of the name n, with those in front of it and all moves known: each count is of a part of the moves
    abbrev pub is_counted : ℕ → Count → List (Move V) → Move V → Bool
    is_counted n Starts = λ front m. false
    is_counted n Asks = is_part_counted K all F n Ask
    is_counted n Repeats = is_part_counted K all F n Repeat
    is_counted n FiredOut = is_part_counted K all F n (Out Fired)
    is_counted n LapsedOut = is_part_counted K all F n (Out Lapsed)
    is_counted n StruckOut = is_part_counted K all F n (Out Struck)

    -- an item leaves for good by a move: it was there up to here, and nothing asks for it
    abbrev pub goes : List (Move V) → Move V → Bool
    goes front m = held (item_order K.order) m.item (kept (λ x. not (taken K front x)) F) && not (moved_by K Asked all m.item)

    -- what one move adds to the tally of its item's name
    abbrev pub move_tally : List (Move V) → Move V → Tally
    move_tally front m =
        cond (takes_out m.cause)
        (cond (goes front m) (gone_tally all m.item) no_tally)
        (ask_tally (moved_by K Asked front m.item || held (item_order K.order) m.item F))

-- a table of tallies after more was counted of a name; a name past its end is not counted
abbrev pub counted : List Tally → ℕ → Tally → List Tally
counted tallies n more = slice_set tallies n (tally_sum (slice_index_or tallies n no_tally) more)

-- no count of the first 32 names is so large that so many more would not fit
abbrev pub RoomFor : ℕ → List Tally → Type 0
RoomFor more tallies = (c : Count) (n : ℕ) → n < 32 → count_in (slice_index_or tallies n no_tally) c + more ≤ most_counted

-- each count of each of the first 32 names is what it was and what the moves of an event add, and no more than their number was added
pub record CountsAfter {V : Type 0} (K : ValueKind V) (ms : List (Move V)) (F : List (Item V)) (before after : List Tally) : Type 0 where
  pub counts : (c : Count) (n : ℕ) → n < 32 → count_in (slice_index_or after n no_tally) c ≡ count_in (slice_index_or before n no_tally) c + count_added K c n ms F
  pub most : (c : Count) (n : ℕ) → n < 32 → count_in (slice_index_or after n no_tally) c ≤ count_in (slice_index_or before n no_tally) c + length ms
