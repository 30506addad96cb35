-- An item outside an event's scope is quiet, and a quiet item gives nothing.
use Rattle.std.proofs.Common.{◌≡◌, ℕ, ◌+◌, ◌<◌, ◌≤◌, Bool, true, false, cond, not, ◌&&◌, eqb, ltb, leb, List, [], ◌∷◌, ◌++◌, length, Some, None, Option, Ordering, Less, Equal, Greater, unwrap_or, sym, refl, ap, ◌∙◌, subst, ⊎_elim, arith}
use Rattle.std.proofs.lemmas.List.{get_or_past}
use Rattle.std.proofs.lemmas.Bool.{and_left, and_parts, and_right, cases_Bool, eqb-true, false≢true, ltb-true}
use Rattle.std.specs.Ordering.{is_eq, ordering_reverse}
use Rattle.std.specs.List.{flat_map, AllByRecursion}
use Rattle.values.specs.Order.{TotalOrder}
use Rattle.records.specs.Fields.{field_of}
use Rattle.records.specs.declared.event.Event.{Event}
use Rattle.items.specs.Ascending.{kept}
use Rattle.items.specs.declared.item.Item.{Item}
use Rattle.sheets.specs.Sound.{sound_init, sound_kind, sound_row, sound_state, sound_tables}
use Rattle.sheets.specs.Tables.{SheetModel, state_of, unnamed}
use Rattle.sheets.specs.Words.{every, present}
use Rattle.sheets.specs.declared.tables.Cell.{Cell}
use Rattle.sheets.specs.declared.tables.Entry.{Entry}
use Rattle.sheets.specs.declared.tables.EventKind.{EventKind}
use Rattle.sheets.specs.declared.tables.Row.{Row}
use Rattle.sheets.specs.declared.tables.State.{State}
use Rattle.sheets.specs.declared.tables.Want.{Want}
use Rattle.sheets.specs.declared.tables.Want.TheVariants as want
use Rattle.rules.specs.Kinds.{ValueKind}
use Rattle.rules.specs.Step.{Numbered, cell_holds, condition_holds, fired_rows, meets_field, numbered_from, row_fires}
use Rattle.firing.specs.At.{event_in, sheet_in}
use Rattle.firing.specs.Effects.{is_filled, item_gives, row_gives}
use Rattle.firing.specs.declared.at.SheetEvent.{SheetEvent}
use Rattle.step.specs.Scopes.{Keys, Quiet, own_cell, own_field, own_first}

-- the value in a field is the item's first
abbrev pub reached : {V : Type 0} → (V → V → Ordering) → Item V → Option V → Bool
reached order x None = false
reached order x (Some v) = is_eq (order v x.first)

module _ {V : Type 0} (K : ValueKind V) (s : SheetModel V) (e : Event V) (x : Item V) (row : Row) where
  own-reached : (o : Option V) → meets_field K s e x row (want.Own 1) o ≡ reached K.order x o
  own-reached None = refl
  own-reached (Some v) = refl

  want-blocks : (w : Want) (g f : ℕ) → cond (own_first w) (Some g) None ≡ Some f → reached K.order x (field_of e f) ≡ false → meets_field K s e x row w (field_of e g) ≡ false
  want-blocks want.Any g f h r = let z : ◌≡◌ {A = ℕ} 0 1 = cc in absurd (omega arith)
  want-blocks (want.Constant k) g f h r = let z : ◌≡◌ {A = ℕ} 0 1 = cc in absurd (omega arith)
  want-blocks (want.Own k) g f h r =
      ⊎_elim
      (λ (t : eqb k 1 ≡ true).
      let i : ◌≡◌ {A = Option ℕ} (Some g) (Some f) = simp t at h in
      let j : g ≡ f = cc in
      rw (eqb-true k 1 t, j) (own-reached (field_of e f) ∙ r))
      (λ (t : eqb k 1 ≡ false). let i : ◌≡◌ {A = Option ℕ} None (Some f) = simp t at h in let z : ◌≡◌ {A = ℕ} 0 1 = cc in absurd (omega arith))
      (cases_Bool (eqb k 1))
  want-blocks (want.Bind k) g f h r = let z : ◌≡◌ {A = ℕ} 0 1 = cc in absurd (omega arith)
  want-blocks (want.Slot k) g f h r = let z : ◌≡◌ {A = ℕ} 0 1 = cc in absurd (omega arith)

  -- the first cell blocks, or a later one does
  first_cell : (c : Cell) (cs : List (Option Cell)) (f : ℕ) → reached K.order x (field_of e f) ≡ false → (own_field cs ≡ f → every (cell_holds K s e x row) (present cs) ≡ false) → (o : Option ℕ) → own_cell (Some c) ≡ o → unwrap_or o (own_field cs) ≡ f → (cell_holds K s e x row c && every (cell_holds K s e x row) (present cs)) ≡ false
  first_cell c cs f r rest None i j = and_right (cell_holds K s e x row c) _ (rest j)
  first_cell c cs f r rest (Some g) i j = and_left (cell_holds K s e x row c) _ (want-blocks c.want c.field f (i ∙ ap Some j) r)

  cells-block : (cs : List (Option Cell)) (f : ℕ) → own_field cs ≡ f → 0 < f → reached K.order x (field_of e f) ≡ false → every (cell_holds K s e x row) (present cs) ≡ false
  cells-block [] f h p r = absurd (omega arith)
  cells-block (None ∷ cs) f h p r = cells-block cs f h p r
  cells-block (Some c ∷ cs) f h p r = first_cell c cs f r (λ j. cells-block cs f j p r) (own_cell (Some c)) refl h

  row-blocks : (F : List (Item V)) (f : ℕ) → reached K.order x (field_of e f) ≡ false → Keys x.name e.kind f row → row_fires K s e x row F ≡ false
  unfolding row_fires
  row-blocks F f r k =
      ⊎_elim
      (λ (a : eqb row.source x.name ≡ true).
      ⊎_elim
      (λ (b : eqb row.kind e.kind ≡ true).
      let own = k (eqb-true row.source x.name a) (eqb-true row.kind e.kind b) in
      and_right (eqb row.source x.name) _ (and_right (eqb row.kind e.kind) _ (and_left _ (every (condition_holds K s e x row F) (present row.conditions)) (cells-block row.cells f own.0 own.1 r))))
      (λ (b : eqb row.kind e.kind ≡ false). and_right (eqb row.source x.name) _ (and_left (eqb row.kind e.kind) _ b))
      (cases_Bool (eqb row.kind e.kind)))
      (λ (a : eqb row.source x.name ≡ false). and_left (eqb row.source x.name) _ a)
      (cases_Bool (eqb row.source x.name))

module _ {V : Type 0} (K : ValueKind V) (s : SheetModel V) (e : Event V) (x : Item V) (F : List (Item V)) (f : ℕ) (r : reached K.order x (field_of e f) ≡ false) where
  rows-block : (n : ℕ) (rows : List Row) → AllByRecursion (Keys x.name e.kind f) rows → kept (λ (p : Numbered). row_fires K s e x p.row F) (numbered_from n rows) ≡ []
  rows-block n [] h = refl
  rows-block n (row ∷ rows) h = rw (row-blocks K s e x row F f r h.0) (rows-block (n + 1) rows h.1)

  none-fires : AllByRecursion (Keys x.name e.kind f) s.rows → fired_rows K s F e x ≡ []
  unfolding fired_rows
  none-fires h = rows-block 0 s.rows h

module _ {V : Type 0} (K : ValueKind V) (s : SheetEvent V) (F : List (Item V)) (x : Item V) where
  -- an item whose first value is not in the field that all its rows want is quiet, unless it can lapse
  pub outside : (f : ℕ) → reached K.order x (field_of (event_in s) f) ≡ false → (name : ℕ) (m : State) → x.name ≡ name → AllByRecursion (Keys name (event_in s).kind f) s.rows.now → m ≡ state_of s.states.now name → m.step ≡ false → m.next ≡ false → Quiet K s F x
  outside f r name m n h i p q =
      let same : m ≡ state_of s.states.now x.name = i ∙ ap (state_of s.states.now) (sym n) in
      record {
        still = none-fires K (sheet_in s) (event_in s) x F f r (subst (λ (k : ℕ). AllByRecursion (Keys k (event_in s).kind f) s.rows.now) (sym n) h);
        stays = ap (λ (z : State). z.step) (sym same) ∙ p;
        rests = ap (λ (z : State). z.next) (sym same) ∙ q;
      }

  -- a quiet item gives nothing
  pub quiet-gives : {X : Type 0} (of_entry : Item V → Row → ℕ → Entry → List X) (of_item : Item V → Bool → List X) → Quiet K s F x → of_item x false ≡ [] → item_gives of_entry K s F of_item x ≡ []
  unfolding item_gives
  quiet-gives of_entry of_item q h =
      ap (λ l. of_item x (is_filled l) ++ flat_map (row_gives of_entry x) l) q.still ∙ ap (λ l. l ++ []) h

-- a sheet's rows are of its states
source-rows : (states : List State) (n : ℕ) (rows : List Row) (m k : ℕ) → every (sound_row states n) rows ≡ true → length states ≤ m → AllByRecursion (Keys m k 0) rows
source-rows states n [] m k h l = tt
source-rows states n (row ∷ rows) m k h l =
    let b = and_parts (sound_row states n row) _ h in
    let a = ltb-true _ _ (and_parts (ltb row.source (length states)) _ b.0).0 in
    ((λ e f. absurd (omega (arith, a, l, e))), source-rows states n rows m k b.1 l)

sound-rows : (states : List State) (rows : List Row) (kinds : List EventKind) (n : ℕ) → sound_tables states rows kinds n ≡ true → every (sound_row states n) rows ≡ true
unfolding sound_tables
sound-rows states rows kinds n h =
    (and_parts _ (every sound_init states)
    (and_parts (every sound_kind kinds) _ (and_parts (every sound_state states) _ (and_parts (leb n 256) _ (and_parts (leb (length rows) 256) _ (and_parts (leb (length states) 32) _ h).1).1).1).1).1).0

-- an item whose name the sheet does not have is quiet
pub unnamed-quiet : {V : Type 0} (K : ValueKind V) (s : SheetEvent V) (F : List (Item V)) (x : Item V) → length s.states.now ≤ x.name → Quiet K s F x
unnamed-quiet K s F x past =
    let none = get_or_past s.states.now x.name unnamed past in
    let rows = sound-rows s.states.now s.rows.now s.kinds.now (length s.constants.now) s.sound in
    outside K s F x 0 refl x.name (state_of s.states.now x.name) refl (source-rows s.states.now (length s.constants.now) s.rows.now x.name (event_in s).kind rows past) refl (ap (λ (z : State). z.step) none) (ap (λ (z : State). z.next) none)

unequal : (o : Ordering) → not (is_eq o) ≡ true → is_eq (ordering_reverse o) ≡ false
unequal Less h = refl
unequal Equal h = absurd (false≢true h)
unequal Greater h = refl

pub apart : {V : Type 0} {order : V → V → Ordering} (t : TotalOrder order) (v w : V) → not (is_eq (order v w)) ≡ true → is_eq (order w v) ≡ false
apart {order = order} t v w h = ap is_eq (t.swaps v w) ∙ unequal (order v w) h
