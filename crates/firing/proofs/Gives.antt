-- The two effects give an item's moves and its findings.
use Rattle.std.proofs.Common.{◌≡◌, ℕ, List, [], ◌∷◌, ◌++◌, map, sym, refl, ap, ◌∙◌}
use Rattle.std.proofs.lemmas.List.{map-append}
use Rattle.std.specs.List.{flat_map}
use Rattle.items.specs.declared.item.Item.{Item}
use Rattle.sheets.specs.Tables.{SheetModel}
use Rattle.sheets.specs.Words.{present}
use Rattle.rules.specs.Kinds.{ValueKind}
use Rattle.rules.specs.Step.{Numbered, entry_faults, entry_moves, fired_rows, item_faults, item_moves, lapse_faults, leaving, numbered_as, row_faults}
use Rattle.rules.specs.declared.finding.Finding.{Finding}
use Rattle.firing.specs.At.{event_in, sheet_in}
use Rattle.firing.specs.Effects.{fired_as, is_filled, item_gives, row_gives}
use Rattle.firing.specs.declared.at.SheetEvent.{SheetEvent}

pub map-joined : {A B C : Type 0} (g : B → C) (f : A → List B) (xs : List A) → map g (flat_map f xs) ≡ flat_map (λ x. map g (f x)) xs
map-joined g f [] = refl
map-joined g f (x ∷ xs) = map-append g (f x) (flat_map f xs) ∙ ap (λ l. map g (f x) ++ l) (map-joined g f xs)

pub joined_same : {A B : Type 0} (f h : A → List B) → ((x : A) → f x ≡ h x) → (xs : List A) → flat_map f xs ≡ flat_map h xs
joined_same f h e [] = refl
joined_same f h e (x ∷ xs) = rw (e x) (ap (λ l. h x ++ l) (joined_same f h e xs))

module _ {V : Type 0} (s : SheetModel V) (x : Item V) where
  leaving-as : (rows : List Numbered) → leaving s x (fired_as (is_filled rows)) ≡ leaving s x rows
  leaving-as [] = refl
  leaving-as (r ∷ rs) = refl

  lapse-as : (rows : List Numbered) → lapse_faults s x (fired_as (is_filled rows)) ≡ lapse_faults s x rows
  lapse-as [] = refl
  lapse-as (r ∷ rs) = refl

module _ {V : Type 0} (K : ValueKind V) (s : SheetEvent V) (F : List (Item V)) (x : Item V) where
  pub moves-given : item_gives (λ y row n entry. entry_moves K (sheet_in s) (event_in s) y row entry) K s F (λ y b. leaving (sheet_in s) y (fired_as b)) x ≡ item_moves K (sheet_in s) F (event_in s) x
  unfolding item_gives item_moves
  moves-given = ap (λ l. l ++ flat_map (row_gives (λ y row n entry. entry_moves K (sheet_in s) (event_in s) y row entry) x) (fired_rows K (sheet_in s) F (event_in s) x)) (leaving-as (sheet_in s) x (fired_rows K (sheet_in s) F (event_in s) x))

  pub findings-given : (n : ℕ) → item_gives (λ y row i entry. map (numbered_as n) (entry_faults y i entry)) K s F (λ y b. map (numbered_as n) (lapse_faults (sheet_in s) y (fired_as b))) x ≡ map (numbered_as n) (item_faults K (sheet_in s) F (event_in s) x)
  unfolding item_gives item_faults
  findings-given n =
      let fired = fired_rows K (sheet_in s) F (event_in s) x in
      let f : Numbered → List (Finding V) = row_gives (λ y row i entry. map (numbered_as n) (entry_faults y i entry)) x in
      sym
      (map-append (numbered_as n) (lapse_faults (sheet_in s) x fired) (flat_map (row_faults x) fired)
      ∙ ap (λ l. map (numbered_as n) l ++ map (numbered_as n) (flat_map (row_faults x) fired)) (sym (lapse-as (sheet_in s) x fired))
      ∙ ap (λ l. map (numbered_as n) (lapse_faults (sheet_in s) x (fired_as (is_filled fired))) ++ l) (map-joined (numbered_as n) (row_faults x) fired ∙ joined_same (λ r. map (numbered_as n) (row_faults x r)) f (λ r. map-joined (numbered_as n) (entry_faults x r.number) (present r.row.entries)) fired))
