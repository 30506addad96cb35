-- One event: which rows fire, its moves and its findings, the set afterwards, and what is counted.
use Rattle.std.specs.Prelude.{ℕ, zero, suc, ◌+◌, Bool, true, false, cond, not, ◌&&◌, ◌||◌, List, [], ◌∷◌, ◌++◌, map, length, Some, None, Option, ◌==◌, slice_index_or}
use Rattle.std.specs.declared.cmp.Ordering.{Ordering}
use Rattle.std.specs.Option.{unwrap_or}
use Rattle.std.specs.Ordering.{is_eq}
use Rattle.std.specs.List.{flat_map}
use Rattle.records.specs.Fields.{field_of}
use Rattle.records.specs.declared.event.Event.{Event}
use Rattle.items.specs.Ascending.{held, kept, placed}
use Rattle.items.specs.Items.{agrees, item_order, named}
use Rattle.items.specs.declared.item.Item.{Item}
use Rattle.sheets.specs.Sound.{binds}
use Rattle.sheets.specs.Tables.{SheetModel, argument_list, kind_of, state_of}
use Rattle.sheets.specs.Words.{every, present, some}
use Rattle.sheets.specs.declared.tables.Argument.{Argument}
use Rattle.sheets.specs.declared.tables.Argument.TheVariants as argument
use Rattle.sheets.specs.declared.tables.Cell.{Cell}
use Rattle.sheets.specs.declared.tables.Condition.{Condition}
use Rattle.sheets.specs.declared.tables.Entry.{Entry}
use Rattle.sheets.specs.declared.tables.Entry.TheVariants as entry
use Rattle.sheets.specs.declared.tables.Pattern.{Pattern}
use Rattle.sheets.specs.declared.tables.Row.{Row}
use Rattle.sheets.specs.declared.tables.Want.{Want}
use Rattle.sheets.specs.declared.tables.Want.TheVariants as want
use Rattle.rules.specs.Kinds.{ValueKind}
use Rattle.rules.specs.declared.fault.Fault.{Fault}
use Rattle.rules.specs.declared.fault.Fault.TheVariants as fault
use Rattle.rules.specs.declared.finding.Finding.{Finding}
use Rattle.rules.specs.declared.moves.Cause.{Cause}
use Rattle.rules.specs.declared.moves.Cause.TheVariants.{Fired, Lapsed, Asked, Struck}
use Rattle.rules.specs.declared.moves.Move.{Move}

-- how many pass
abbrev pub how_many : {X : Type 0} → (X → Bool) → List X → ℕ
how_many p xs = length (kept p xs)

-- a set with all of a list put in
abbrev pub with_all : {X : Type 0} → (X → X → Ordering) → List X → List X → List X
with_all order xs [] = xs
with_all order xs (a ∷ more) = with_all order (placed order a xs) more

-- a row with its number
pub record Numbered : Type 0 where
  pub number : ℕ
  pub row : Row

-- rows numbered from n on
abbrev pub numbered_from : ℕ → List Row → List Numbered
numbered_from n [] = []
numbered_from n (r ∷ rs) = record { number = n; row = r } ∷ numbered_from (n + 1) rs

-- a finding without its event number
pub record Found (V : Type 0) : Type 0 where
  pub fault : Fault
  pub item : Item V

-- the six counts that a book keeps for each name: init items put in, asks, repeated asks, and items gone, by cause
pub data Count : Type 0 where
  Starts Asks Repeats FiredOut LapsedOut StruckOut : Count

-- causes by number, to tell them apart
abbrev pub cause_number : Cause → ℕ
cause_number Fired = 1
cause_number Lapsed = 2
cause_number Asked = 3
cause_number Struck = 4

module _ {V : Type 0} where
  -- an item's three values
  abbrev pub values_in : Item V → List V
  values_in x = x.first ∷ (x.second ∷ (x.third ∷ []))

  -- a move for that cause
  abbrev pub caused_by : Cause → Move V → Bool
  caused_by c m = cause_number m.cause == cause_number c

  -- the items that are moved for a cause, in order
  abbrev pub moved : Cause → List (Move V) → List (Item V)
  moved c ms = map (λ (m : Move V). m.item) (kept (caused_by c) ms)

  -- one move of an item, as a list
  abbrev pub moves_for : Cause → Item V → List (Move V)
  moves_for c x = record { cause = c; item = x } ∷ []

  -- one finding of an item, as a list
  abbrev pub findings_of : Fault → Item V → List (Found V)
  findings_of f x = record { fault = f; item = x } ∷ []

  -- a finding at the event of that number
  abbrev pub numbered_as : ℕ → Found V → Finding V
  numbered_as n f = record { event = n; fault = f.fault; item = f.item }

  -- the findings of a fired row's entries: one for each error
  abbrev pub entry_faults : Item V → ℕ → Entry → List (Found V)
  entry_faults x n entry.Ok = []
  entry_faults x n entry.Error = findings_of (fault.Error n) x
  entry_faults x n (entry.Ask p) = []
  entry_faults x n (entry.Strike p) = []

  -- the findings of a fired row, in order
  abbrev pub row_faults : Item V → Numbered → List (Found V)
  row_faults x r = flat_map (entry_faults x r.number) (present r.row.entries)

  -- What a sheet says of an item by its fired rows, and of an event.
  module _ (s : SheetModel V) where
    -- an item with a fired row leaves, unless always; a step or next item with none lapses, always or not
    abbrev pub leaving : Item V → List Numbered → List (Move V)
    leaving x [] = cond ((state_of s.states x.name).step || (state_of s.states x.name).next) (moves_for Lapsed x) []
    leaving x (r ∷ rs) = cond (state_of s.states x.name).always [] (moves_for Fired x)

    -- a lapsed next item is a finding
    abbrev pub lapse_faults : Item V → List Numbered → List (Found V)
    lapse_faults x [] = cond (state_of s.states x.name).next (findings_of fault.LapsedNext x) []
    lapse_faults x (r ∷ rs) = []

    -- its kind is watched
    abbrev pub is_watched : Event V → Bool
    is_watched e = (kind_of s.kinds e.kind).watched

module _ {V : Type 0} (K : ValueKind V) where
  -- the item is in a set, or among some items
  abbrev pub in_set : Item V → List (Item V) → Bool
  in_set x F = held (item_order K.order) x F

  -- What moves do to a set.

  -- the item is moved for that cause
  abbrev pub moved_by : Cause → List (Move V) → Item V → Bool
  moved_by c ms x = in_set x (moved c ms)

  -- the item leaves or is struck
  unfoldable pub taken : List (Move V) → Item V → Bool
  taken ms x = moved_by Fired ms x || (moved_by Lapsed ms x || moved_by Struck ms x)

  -- the set without what is taken, together with all that is asked for: an item both taken and asked for stays
  unfoldable pub new_set : List (Move V) → List (Item V) → List (Item V)
  new_set ms F = with_all (item_order K.order) (kept (λ x. not (taken ms x)) F) (moved Asked ms)

  -- the items of a set that are missing from the new one
  unfoldable pub gone : List (Move V) → List (Item V) → List (Item V)
  gone ms F = kept (λ x. not (in_set x (new_set ms F))) F

  -- those of some asks whose item was seen before, or asked for earlier among them
  abbrev pub repeated : List (Item V) → List (Item V) → List (Item V)
  repeated seen [] = []
  repeated seen (a ∷ more) = cond (in_set a seen) (a ∷ []) [] ++ repeated (a ∷ seen) more

  -- the cause under which an item that is gone is counted: fired, or else lapsed, or else struck
  abbrev pub gone_by : Cause → List (Move V) → Item V → Bool
  gone_by Fired ms x = moved_by Fired ms x
  gone_by Lapsed ms x = not (moved_by Fired ms x) && moved_by Lapsed ms x
  gone_by Asked ms x = false
  gone_by Struck ms x = not (moved_by Fired ms x) && (not (moved_by Lapsed ms x) && moved_by Struck ms x)

  -- what the moves of one event add to each count of a name
  unfoldable pub count_added : Count → ℕ → List (Move V) → List (Item V) → ℕ
  count_added Starts n ms F = 0
  count_added Asks n ms F = how_many (named n) (moved Asked ms)
  count_added Repeats n ms F = how_many (named n) (repeated F (moved Asked ms))
  count_added FiredOut n ms F = how_many (λ x. named n x && gone_by Fired ms x) (gone ms F)
  count_added LapsedOut n ms F = how_many (λ x. named n x && gone_by Lapsed ms x) (gone ms F)
  count_added StruckOut n ms F = how_many (λ x. named n x && gone_by Struck ms x) (gone ms F)

  -- What a row reads.

  -- an item's own parameter, numbered from 1
  abbrev pub own_value : Item V → ℕ → V
  own_value x zero = K.blank
  own_value x (suc i) = slice_index_or (values_in x) i K.blank

  -- the value of a slot: that in the field of the cell that binds it
  abbrev pub slot_value : Event V → List Cell → ℕ → V
  slot_value e [] t = K.blank
  slot_value e (c ∷ cs) t = cond (binds t c.want) (unwrap_or (field_of e c.field) K.blank) (slot_value e cs t)

  module _ (s : SheetModel V) where
    -- the constant of that number
    abbrev pub constant_of : ℕ → V
    constant_of i = slice_index_or s.constants i K.blank

    -- An item meets an event at a row of its state.
    module _ (e : Event V) (x : Item V) (row : Row) where
      -- a value is what a cell wants
      abbrev pub meets : Want → V → Bool
      meets want.Any v = true
      meets (want.Constant i) v = is_eq (K.order v (constant_of i))
      meets (want.Own p) v = is_eq (K.order v (own_value x p))
      meets (want.Bind t) v = true
      meets (want.Slot t) v = is_eq (K.order v (slot_value e (present row.cells) t))

      -- an absent field meets nothing
      abbrev pub meets_field : Want → Option V → Bool
      meets_field w None = false
      meets_field w (Some v) = meets w v

      -- a cell matches the event
      abbrev pub cell_holds : Cell → Bool
      cell_holds c = meets_field c.want (field_of e c.field)

      -- an argument's value; none for any
      abbrev pub argument_value : Argument → Option V
      argument_value (argument.Constant i) = Some (constant_of i)
      argument_value (argument.Own p) = Some (own_value x p)
      argument_value (argument.Slot t) = Some (slot_value e (present row.cells) t)
      argument_value argument.Any = None

      -- each argument agrees with the value at its place
      abbrev pub all_agree : List Argument → List V → Bool
      all_agree [] vs = true
      all_agree (a ∷ more) [] = true
      all_agree (a ∷ more) (v ∷ vs) = agrees K.order (argument_value a) v && all_agree more vs

      -- an item of a pattern: of its state, with its arguments
      abbrev pub is_of : Pattern → Item V → Bool
      is_of p y = named p.state y && all_agree (argument_list p.arguments) (values_in y)

      -- an item of the pattern is in the set or, negated, none is
      abbrev pub condition_holds : List (Item V) → Condition → Bool
      condition_holds F c = cond c.negated (not (some (is_of c.pattern) F)) (some (is_of c.pattern) F)

      -- the value of the argument at a place; past the arguments, the filler
      abbrev pub place_value : List Argument → ℕ → V
      place_value [] i = K.blank
      place_value (a ∷ more) zero = unwrap_or (argument_value a) K.blank
      place_value (a ∷ more) (suc i) = place_value more i

      -- the item that an ask or a strike names
      abbrev pub item_of : Pattern → Item V
      item_of p = record {
        name = p.state;
        first = place_value (argument_list p.arguments) 0;
        second = place_value (argument_list p.arguments) 1;
        third = place_value (argument_list p.arguments) 2;
      }

      -- the move of an ask or a strike
      abbrev pub entry_moves : Entry → List (Move V)
      entry_moves entry.Ok = []
      entry_moves entry.Error = []
      entry_moves (entry.Ask p) = moves_for Asked (item_of p)
      entry_moves (entry.Strike p) = moves_for Struck (item_of p)

      -- the asks and strikes of the row, in order
      abbrev pub row_moves : List (Move V)
      row_moves = flat_map entry_moves (present row.entries)

      -- the row is of the item's state and the event's kind, every cell matches, and every condition holds on the set before the event
      unfoldable pub row_fires : List (Item V) → Bool
      row_fires F =
          (row.source == x.name)
          && (row.kind == e.kind
          && (every cell_holds (present row.cells)
          && every (condition_holds F) (present row.conditions)))

    -- An event at the set F before it.
    module _ (F : List (Item V)) (e : Event V) where
      -- the rows that fire for an item, in order
      unfoldable pub fired_rows : Item V → List Numbered
      fired_rows x = kept (λ (r : Numbered). row_fires e x r.row F) (numbered_from 0 s.rows)

      -- its leaving, then the asks and strikes of its fired rows
      unfoldable pub item_moves : Item V → List (Move V)
      item_moves x = leaving s x (fired_rows x) ++ flat_map (λ (r : Numbered). row_moves e x r.row) (fired_rows x)

      -- its lapse, if that is one, then the errors of its fired rows
      unfoldable pub item_faults : Item V → List (Found V)
      item_faults x = lapse_faults s x (fired_rows x) ++ flat_map (row_faults x) (fired_rows x)

      -- the moves, item by item; an event of a kind that is not watched has none
      unfoldable pub moves_at : List (Move V)
      moves_at = cond (is_watched s e) (flat_map item_moves F) []

      -- the findings, item by item; likewise
      unfoldable pub faults_at : List (Found V)
      faults_at = cond (is_watched s e) (flat_map item_faults F) []

      -- the set after the event
      unfoldable pub set_after : List (Item V)
      set_after = new_set moves_at F
