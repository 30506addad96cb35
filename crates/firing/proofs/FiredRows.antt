-- The rows of a sheet one by one, with their numbers: those that fire.
use Rattle.std.proofs.Common.{◌≡◌, ℕ, ◌+◌, ◌<◌, ◌≤◌, Bool, true, false, cond, leb, List, [], ◌∷◌, ◌++◌, length, get_or, drop, Some, None, Option, refl, ap, ◌∙◌, ⊎_elim, leb-true}
use Rattle.std.proofs.lemmas.List.{drop_more}
use Rattle.std.proofs.lemmas.Bool.{and_parts, cases_Bool}
use Rattle.std.specs.List.{flat_map, list_any}
use Rattle.records.specs.declared.event.Event.{Event}
use Rattle.items.specs.Ascending.{kept}
use Rattle.items.specs.declared.item.Item.{Item}
use Rattle.sheets.specs.Sound.{sound_tables}
use Rattle.sheets.specs.Tables.{SheetModel}
use Rattle.sheets.specs.Words.{present}
use Rattle.sheets.specs.declared.tables.EventKind.{EventKind}
use Rattle.sheets.specs.declared.tables.Row.{Row}
use Rattle.sheets.specs.declared.tables.State.{State}
use Rattle.rules.specs.Kinds.{ValueKind}
use Rattle.rules.specs.Step.{Numbered, numbered_from, fired_rows, row_fires}
use Rattle.firing.specs.Effects.{if_there, is_filled, numbered}

-- a sheet has at most 256 rows, and at most 32 states
module _ (states : List State) (rows : List Row) (kinds : List EventKind) (n : ℕ) (h : sound_tables states rows kinds n ≡ true) where
  pub few-rows : length rows ≤ 256
  unfolding sound_tables
  few-rows = leb-true _ _ (and_parts (leb (length rows) 256) _ (and_parts (leb (length states) 32) _ h).1).0

  pub few-states : length states ≤ 32
  unfolding sound_tables
  few-states = leb-true _ _ (and_parts (leb (length states) 32) _ h).0

-- entries that may be absent
pub joined-present : {A X : Type 0} (f : A → List X) (os : List (Option A)) → flat_map (if_there f) os ≡ flat_map f (present os)
joined-present f [] = refl
joined-present f (None ∷ os) = joined-present f os
joined-present f (Some a ∷ os) = ap (λ l. f a ++ l) (joined-present f os)

module _ {A : Type 0} (p : A → Bool) where
  joined-kept : {X : Type 0} (f : A → List X) (a : A) (more : List A) → flat_map f (kept p (a ∷ more)) ≡ cond (p a) (f a) [] ++ flat_map f (kept p more)
  joined-kept f a more = ⊎_elim (λ (e : p a ≡ true). rw e refl) (λ (e : p a ≡ false). rw e refl) (cases_Bool (p a))

module _ {V : Type 0} (K : ValueKind V) (s : SheetModel V) (e : Event V) (x : Item V) (F : List (Item V)) where
  -- the row fires for the item
  abbrev pub fires_for : Numbered → Bool
  fires_for r = row_fires K s e x r.row F

  -- the fired rows from the row of number i on
  abbrev pub fired_from : ℕ → List Numbered
  fired_from i = kept fires_for (numbered_from i (drop i s.rows))

  pub fired-start : fired_from 0 ≡ fired_rows K s F e x
  unfolding fired_rows
  fired-start = refl

  module _ (i : ℕ) (d : Row) (h : i < length s.rows) where
    step : fired_from i ≡ kept fires_for (numbered i (get_or s.rows i d) ∷ numbered_from (i + 1) (drop (i + 1) s.rows))
    step = ap (λ l. kept fires_for (numbered_from i l)) (drop_more s.rows i d h)

    pub fired-more : {X : Type 0} (f : Numbered → List X) → flat_map f (fired_from i) ≡ cond (fires_for (numbered i (get_or s.rows i d))) (f (numbered i (get_or s.rows i d))) [] ++ flat_map f (fired_from (i + 1))
    fired-more f = ap (flat_map f) step ∙ joined-kept fires_for f (numbered i (get_or s.rows i d)) (numbered_from (i + 1) (drop (i + 1) s.rows))

  any-from : (n : ℕ) (rows : List Row) → list_any (λ (r : Row). row_fires K s e x r F) rows ≡ is_filled (kept fires_for (numbered_from n rows))
  any-from n [] = refl
  any-from n (r ∷ rs) =
      let rest = any-from (n + 1) rs in
      ⊎_elim (λ (h : row_fires K s e x r F ≡ true). rw h refl) (λ (h : row_fires K s e x r F ≡ false). rw h rest) (cases_Bool (row_fires K s e x r F))

  -- a row fires where there are fired rows
  pub any-fires : list_any (λ (r : Row). row_fires K s e x r F) s.rows ≡ is_filled (fired_rows K s F e x)
  unfolding fired_rows
  any-fires = any-from 0 s.rows
