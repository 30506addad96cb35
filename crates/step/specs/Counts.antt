-- What is counted move by move.
use Rattle.std.specs.Prelude.{ℕ, ◌+◌, Bool, false, cond, not, ◌&&◌, ◌||◌, List, [], ◌∷◌, ◌++◌}
use Rattle.items.specs.Ascending.{held, kept}
use Rattle.items.specs.Items.{item_order, named}
use Rattle.items.specs.declared.item.Item.{Item}
use Rattle.rules.specs.Kinds.{ValueKind}
use Rattle.rules.specs.Step.{moved_by, taken}
use Rattle.rules.specs.declared.moves.Cause.{Cause}
use Rattle.rules.specs.declared.moves.Cause.TheVariants.{Fired, Lapsed, Asked, Struck}
use Rattle.rules.specs.declared.moves.Move.{Move}
use Rattle.step.specs.Sets.{takes_out}
use Rattle.step.specs.declared.part.Part.{Part}
use Rattle.step.specs.declared.part.Part.TheVariants.{Ask, Repeat, Out}

-- how many elements pass a test that also sees those in front
abbrev pub count_from : {M : Type 0} → (List M → M → Bool) → List M → List M → ℕ
count_from test front [] = 0
count_from test front (m ∷ ms) = cond (test front m) 1 0 + count_from test (front ++ m ∷ []) ms

module _ {V : Type 0} (K : ValueKind V) where
  -- the cause is the first that applies to an item that is gone
  abbrev pub part_of : Cause → List (Move V) → Item V → Bool
  part_of Fired ms x = moved_by K Fired ms x
  part_of Lapsed ms x = not (moved_by K Fired ms x) && moved_by K Lapsed ms x
  part_of Asked ms x = false
  part_of Struck ms x = not (moved_by K Fired ms x) && (not (moved_by K Lapsed ms x) && moved_by K Struck ms x)

  module _ (all : List (Move V)) (F : List (Item V)) where
    -- an item that leaves for good counts where it is first taken out
    abbrev pub is_gone : (Item V → Bool) → List (Move V) → Move V → Bool
    is_gone p front m = takes_out m.cause && (held (item_order K.order) m.item (kept (λ x. not (taken K front x)) F) && (not (moved_by K Asked all m.item) && p m.item))

    -- the move counts under that part, for the name n, with those in front of it and all moves known
    abbrev pub is_counted : ℕ → Part → List (Move V) → Move V → Bool
    is_counted n Ask front m = not (takes_out m.cause) && named n m.item
    is_counted n Repeat front m = not (takes_out m.cause) && (named n m.item && (moved_by K Asked front m.item || held (item_order K.order) m.item F))
    is_counted n (Out c) front m = is_gone (λ x. named n x && part_of c all x) front m
