-- What is known of a sheet that is sound and keyed.
use Rattle.std.proofs.Common.{◌≡◌, ℕ, ◌<◌, Bool, true, false, cond, not, ◌&&◌, ◌||◌, eqb, ltb, leb, List, [], ◌∷◌, ◌++◌, length, Some, None, Option, sym, refl, ap, ◌∙◌, inl, inr, arith, ltb-true}
use Rattle.std.specs.List.{AllByRecursion}
use Rattle.std.proofs.lemmas.Bool.{false≢true, and_parts, eqb-true, not-true, or_parts}
use Rattle.std.proofs.ByRecursion.{All-weaker}
use Rattle.sheets.specs.Keyed.{is_argument, is_first, key_argument, keyed_cell, keyed_condition, keyed_entry, keyed_parts, keyed_pattern, keyed_row, keyed_state}
use Rattle.sheets.specs.Sound.{binds, is_bound, sound_cell, sound_cells, sound_init, sound_kind, sound_row, sound_state, sound_tables, sound_want, up_to}
use Rattle.sheets.specs.Tables.{SheetModel, first_argument, kind_of, state_of}
use Rattle.sheets.specs.Words.{every, present, some}
use Rattle.sheets.specs.declared.tables.Argument.{Argument}
use Rattle.sheets.specs.declared.tables.Argument.TheVariants as argument
use Rattle.sheets.specs.declared.tables.Cell.{Cell}
use Rattle.sheets.specs.declared.tables.Condition.{Condition}
use Rattle.sheets.specs.declared.tables.Entry.{Entry}
use Rattle.sheets.specs.declared.tables.Entry.TheVariants as entry
use Rattle.sheets.specs.declared.tables.Pattern.{Pattern}
use Rattle.sheets.specs.declared.tables.Row.{Row}
use Rattle.sheets.specs.declared.tables.State.{State}
use Rattle.sheets.specs.declared.tables.Want.{Want}
use Rattle.sheets.specs.declared.tables.Want.TheVariants as want
use Rattle.rules.specs.Law.{SoundSheet, KeyedSheet}
use Rattle.rules.proofs.Lists.{In, every-all, some_in}

never : {A : Type 0} {a : Argument} → None ≡ Some a → A
never h = let z : ◌≡◌ {A = ℕ} 0 1 = cc in absurd (omega arith)

-- the argument that stands for the key, by what the cell on the key field wants
abbrev pub KeyWant : ℕ → Want → Argument → Type 0
KeyWant p want.Any a = ⊥
KeyWant p (want.Constant i) a = ⊥
KeyWant p (want.Own i) a = (i ≡ 1) × (a ≡ argument.Own 1)
KeyWant p (want.Bind t) a = (p ≡ 0) × (a ≡ argument.Slot t)
KeyWant p (want.Slot t) a = ⊥

key-want : (p : ℕ) (w : Want) (a : Argument) → key_argument p w ≡ Some a → KeyWant p w a
key-want p want.Any a h = never h
key-want p (want.Constant i) a h = never h
key-want p (want.Own i) a h = go (eqb i 1) refl h
  where
    go : (b : Bool) → eqb i 1 ≡ b → cond b (Some (argument.Own 1)) None ≡ Some a → (i ≡ 1) × (a ≡ argument.Own 1)
    go true e g = (eqb-true i 1 e, cc)
    go false e g = never g
key-want p (want.Bind t) a h = go (eqb p 0) refl h
  where
    go : (b : Bool) → eqb p 0 ≡ b → cond b (Some (argument.Slot t)) None ≡ Some a → (p ≡ 0) × (a ≡ argument.Slot t)
    go true e g = (eqb-true p 0 e, cc)
    go false e g = never g
key-want p (want.Slot t) a h = never h

is-argument : (a b : Argument) → is_argument a b ≡ true → b ≡ a
is-argument (argument.Constant i) b h = absurd (false≢true h)
is-argument (argument.Own i) (argument.Constant j) h = absurd (false≢true h)
is-argument (argument.Own i) (argument.Own j) h = ap argument.Own (sym (eqb-true i j h))
is-argument (argument.Own i) (argument.Slot u) h = absurd (false≢true h)
is-argument (argument.Own i) argument.Any h = absurd (false≢true h)
is-argument (argument.Slot t) (argument.Constant j) h = absurd (false≢true h)
is-argument (argument.Slot t) (argument.Own j) h = absurd (false≢true h)
is-argument (argument.Slot t) (argument.Slot u) h = ap argument.Slot (sym (eqb-true t u h))
is-argument (argument.Slot t) argument.Any h = absurd (false≢true h)
is-argument argument.Any b h = absurd (false≢true h)

is-first : (a : Argument) (o : Option Argument) → is_first a o ≡ true → o ≡ Some a
is-first a None h = absurd (false≢true h)
is-first a (Some b) h = ap Some (is-argument a b h)

-- a slot that a cell binds was not bound by an earlier one
some-append : {X : Type 0} (p : X → Bool) (xs : List X) (x : X) → some p (xs ++ x ∷ []) ≡ false → (some p xs ≡ false) × (p x ≡ false)
some-append p [] x h = (refl, (or_parts (p x) false h).0)
some-append p (y ∷ ys) x h =
    let q = or_parts (p y) (some p (ys ++ x ∷ [])) h in
    let r = some-append p ys x q.1 in
    (rw q.0 r.0, r.1)

module _ (n p t : ℕ) where
  pub bound-once : (c : Cell) (earlier cs : List Cell) → sound_cells n p earlier cs ≡ true → In c cs → c.want ≡ want.Bind t
      → is_bound t earlier ≡ false
  bound-once c earlier [] h i w = absurd i
  bound-once c earlier (d ∷ cs) h (inl e) w =
      let q = and_parts (sound_cell n p earlier d) _ h in
      let r = and_parts (up_to 8 d.field) _ q.0 in
      let v = and_parts (not (some (λ (b : Cell). eqb d.field b.field) earlier)) _ r.1 in
      let u : sound_want n p earlier (want.Bind t) ≡ true = rw (ap (λ (b : Cell). b.want) e ∙ w) at v.1 in
      not-true (is_bound t earlier) (and_parts (up_to 4 t) _ u).1
  bound-once c earlier (d ∷ cs) h (inr i) w =
      (some-append (λ (b : Cell). binds t b.want) earlier d
      (bound-once c (earlier ++ d ∷ []) cs (and_parts (sound_cell n p earlier d) _ h).1 i w)
      ).0

module _ {V : Type 0} (s : SheetModel V) where
  -- a pattern of the key's own items
  abbrev pub KeyPattern : Argument → Pattern → Type 0
  KeyPattern a x = (0 < (state_of s.states x.state).parameters) × (first_argument x.arguments ≡ Some a)

  abbrev pub KeyEntry : Argument → Entry → Type 0
  KeyEntry a entry.Ok = Unit {0}
  KeyEntry a entry.Error = Unit {0}
  KeyEntry a (entry.Ask x) = KeyPattern a x
  KeyEntry a (entry.Strike x) = KeyPattern a x

  -- a row of such a sheet: its key is what one of its cells reads, and its patterns begin with it
  pub record RowFacts (row : Row) : Type 0 where
    pub key : Argument
    pub cell : Cell
    pub there : In cell (present row.cells)
    pub field : cell.field ≡ (kind_of s.kinds row.kind).key
    pub wants : KeyWant (state_of s.states row.source).parameters cell.want key
    pub source : row.source < length s.states
    pub cells : sound_cells (length s.constants) (state_of s.states row.source).parameters [] (present row.cells) ≡ true
    pub conditions : AllByRecursion (λ (c : Condition). KeyPattern key c.pattern) (present row.conditions)
    pub entries : AllByRecursion (KeyEntry key) (present row.entries)

  key-pattern : (a : Argument) (x : Pattern) → keyed_pattern s.states a x ≡ true → KeyPattern a x
  key-pattern a x h =
      let q = and_parts (ltb 0 (state_of s.states x.state).parameters) _ h in
      (ltb-true 0 (state_of s.states x.state).parameters q.0, is-first a (first_argument x.arguments) q.1)

  key-entry : (a : Argument) (n : Entry) → keyed_entry s.states a n ≡ true → KeyEntry a n
  key-entry a entry.Ok h = tt
  key-entry a entry.Error h = tt
  key-entry a (entry.Ask x) h = key-pattern a x h
  key-entry a (entry.Strike x) h = key-pattern a x h

  row-facts : (row : Row) → sound_row s.states (length s.constants) row ≡ true → keyed_row s.states s.kinds row ≡ true
      → RowFacts row
  row-facts row f g = go (key_argument p c.want) refl
    where
      p : ℕ
      p = (state_of s.states row.source).parameters

      found : (c : Cell) × In c (present row.cells) × (keyed_cell s.states row (kind_of s.kinds row.kind).key c ≡ true)
      found =
          some_in
          (keyed_cell s.states row (kind_of s.kinds row.kind).key)
          (present row.cells)
          (and_parts (ltb 0 (kind_of s.kinds row.kind).key) _ g).1

      c : Cell
      c = found.0

      parts : (eqb c.field (kind_of s.kinds row.kind).key ≡ true) × (keyed_parts s.states row (key_argument p c.want) ≡ true)
      parts = and_parts (eqb c.field (kind_of s.kinds row.kind).key) _ found.2

      go : (o : Option Argument) → key_argument p c.want ≡ o → RowFacts row
      go None e = absurd (false≢true (rw e at parts.1))
      go (Some a) e =
          let k = and_parts (every (keyed_condition s.states a) (present row.conditions)) (every (keyed_entry s.states a) (present row.entries)) (rw e at parts.1) in
          let a1 = and_parts (ltb row.source (length s.states)) _ f in
          let a2 = and_parts (leb row.kind 63) _ a1.1 in
          let a3 = and_parts (sound_cells (length s.constants) p [] (present row.cells)) _ a2.1 in
          record {
            key = a;
            cell = c;
            there = found.1;
            field = eqb-true c.field (kind_of s.kinds row.kind).key parts.0;
            wants = key-want p c.want a e;
            source = ltb-true row.source (length s.states) a1.0;
            cells = a3.0;
            conditions =
                All-weaker
                (λ (d : Condition). keyed_condition s.states a d ≡ true)
                (λ (d : Condition). KeyPattern a d.pattern)
                (λ d. key-pattern a d.pattern) (present row.conditions)
                (every-all (keyed_condition s.states a) (present row.conditions) k.0);
            entries =
                All-weaker
                (λ (n : Entry). keyed_entry s.states a n ≡ true)
                (KeyEntry a) (key-entry a) (present row.entries)
                (every-all (keyed_entry s.states a) (present row.entries) k.1);
          }

  -- an init state has no parameters
  pub sound-inits : SoundSheet s → AllByRecursion (λ (d : State). d.init ≡ true → d.parameters ≡ 0) s.states
  unfolding sound_tables
  sound-inits h =
      let a1 = and_parts (leb (length s.states) 32) _ h in
      let a2 = and_parts (leb (length s.rows) 256) _ a1.1 in
      let a3 = and_parts (leb (length s.constants) 256) _ a2.1 in
      let a4 = and_parts (every sound_state s.states) _ a3.1 in
      let a5 = and_parts (every sound_kind s.kinds) _ a4.1 in
      let a6 = and_parts (every (sound_row s.states (length s.constants)) s.rows) (every sound_init s.states) a5.1 in
      All-weaker (λ (d : State). sound_init d ≡ true)
      (λ (d : State). d.init ≡ true → d.parameters ≡ 0)
      plain s.states
      (every-all sound_init s.states a6.1)
    where
      plain : (d : State) → sound_init d ≡ true → d.init ≡ true → d.parameters ≡ 0
      plain d e i = eqb-true d.parameters 0 (rw i at e)

  -- the rows
  pub keyed-rows : SoundSheet s → KeyedSheet s → AllByRecursion RowFacts s.rows
  unfolding sound_tables
  keyed-rows h k =
      let a1 = and_parts (leb (length s.states) 32) _ h in
      let a2 = and_parts (leb (length s.rows) 256) _ a1.1 in
      let a3 = and_parts (leb (length s.constants) 256) _ a2.1 in
      let a4 = and_parts (every sound_state s.states) _ a3.1 in
      let a5 = and_parts (every sound_kind s.kinds) _ a4.1 in
      let a6 = and_parts (every (sound_row s.states (length s.constants)) s.rows) (every sound_init s.states) a5.1 in
      let b = and_parts (every keyed_state s.states) (every (keyed_row s.states s.kinds) s.rows) k in
      both s.rows
      (every-all (sound_row s.states (length s.constants)) s.rows a6.0)
      (every-all (keyed_row s.states s.kinds) s.rows b.1)
    where
      both : (rs : List Row) → AllByRecursion (λ r. sound_row s.states (length s.constants) r ≡ true) rs
          → AllByRecursion (λ r. keyed_row s.states s.kinds r ≡ true) rs → AllByRecursion RowFacts rs
      both [] f g = tt
      both (r ∷ rs) f g = (row-facts r f.0 g.0, both rs f.1 g.1)

  -- a state without parameters is always, and none is step or next
  pub keyed-states : KeyedSheet s
      → AllByRecursion (λ (d : State). (d.parameters ≡ 0 → d.always ≡ true) × ((d.step ≡ false) × (d.next ≡ false))) s.states
  keyed-states k =
      All-weaker (λ (d : State). keyed_state d ≡ true)
      (λ (d : State). (d.parameters ≡ 0 → d.always ≡ true) × ((d.step ≡ false) × (d.next ≡ false)))
      one s.states
      (every-all keyed_state s.states (and_parts (every keyed_state s.states) _ k).0)
    where
      one : (d : State) → keyed_state d ≡ true → (d.parameters ≡ 0 → d.always ≡ true) × ((d.step ≡ false) × (d.next ≡ false))
      one d h =
          let q = and_parts (ltb 0 d.parameters || (d.init && d.always)) _ h in
          let r = and_parts (not d.step) (not d.next) q.1 in
          ((λ e. (and_parts d.init d.always (rw e at q.0)).1), (not-true d.step r.0, not-true d.next r.1))
