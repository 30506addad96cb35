-- Under a keyed sheet an event reads and changes only the items of its key and reads, but never changes, those without parameters.
use Rattle.std.proofs.Common.{◌≡◌, ℕ, ◌+◌, ◌<◌, Bool, true, false, cond, not, ◌||◌, eqb, ltb, List, [], ◌∷◌, ◌++◌, length, Some, None, Option, unwrap_or, sym, refl, ap, ◌∙◌, subst, inl, inr, arith}
use Rattle.std.specs.List.{flat_map, AllByRecursion}
use Rattle.std.proofs.lemmas.Bool.{true≢false, false≢true, and_parts, eqb-true, eq-eqb, lt-ltb, ltb-false, or_parts, or_right}
use Rattle.std.proofs.ByRecursion.{All-append, All-weaker}
use Rattle.values.specs.Order.{TotalOrder}
use Rattle.records.specs.Fields.{field_of}
use Rattle.records.specs.declared.event.Event.{Event}
use Rattle.items.specs.Ascending.{kept}
use Rattle.items.specs.declared.item.Item.{Item}
use Rattle.sheets.specs.Sound.{binds, sound_cell, sound_cells}
use Rattle.sheets.specs.Tables.{SheetModel, argument_list, first_argument, kind_of, state_of, unnamed}
use Rattle.sheets.specs.Words.{every, present, some}
use Rattle.sheets.specs.declared.tables.Argument.{Argument}
use Rattle.sheets.specs.declared.tables.Argument.TheVariants as argument
use Rattle.sheets.specs.declared.tables.Arguments.{Arguments}
use Rattle.sheets.specs.declared.tables.Arguments.TheVariants.{Nothing, One, Two, Three}
use Rattle.sheets.specs.declared.tables.Cell.{Cell}
use Rattle.sheets.specs.declared.tables.Condition.{Condition}
use Rattle.sheets.specs.declared.tables.Entry.{Entry}
use Rattle.sheets.specs.declared.tables.Entry.TheVariants as entry
use Rattle.sheets.specs.declared.tables.Pattern.{Pattern}
use Rattle.sheets.specs.declared.tables.Row.{Row}
use Rattle.sheets.specs.declared.tables.State.{State}
use Rattle.sheets.specs.declared.tables.Want.{Want}
use Rattle.sheets.specs.declared.tables.Want.TheVariants as want
use Rattle.rules.specs.Keys.{key_of, of_key}
use Rattle.rules.specs.Kinds.{ValueKind}
use Rattle.rules.specs.Law.{SoundSheet, KeyedSheet}
use Rattle.rules.specs.Step.{Numbered, numbered_from, slot_value, own_value, meets_field, cell_holds, argument_value, is_of, condition_holds, item_of, entry_moves, row_moves, row_fires, fired_rows, leaving, item_moves, item_faults, is_watched, moves_at, faults_at}
use Rattle.rules.specs.declared.moves.Move.{Move}
use Rattle.rules.proofs.Facts.{KeyEntry, KeyPattern, RowFacts, bound-once, keyed-rows, keyed-states}
use Rattle.rules.proofs.Lists.{In, all-at, all-below, all-each, all-joined, every-alike, every_in, joined-alike, joined-kept, joined-none, kept-alike, some-kept}
use Rattle.rules.proofs.Sets.{same, same-eq, same_refl}

all-numbered : (P : Row → Type 0) (n : ℕ) (rs : List Row) → AllByRecursion P rs → AllByRecursion (λ (r : Numbered). P r.row) (numbered_from n rs)
all-numbered P n [] h = tt
all-numbered P n (r ∷ rs) h = (h.0, all-numbered P (n + 1) rs h.1)

-- arguments that begin with a
begins : (a : Argument) (xs : Arguments) → first_argument xs ≡ Some a → (more : List Argument) × (argument_list xs ≡ a ∷ more)
begins a Nothing h = let z : ◌≡◌ {A = ℕ} 0 1 = cc in absurd (omega arith)
begins a (One b) h = let e : b ≡ a = cc in ([], ap (λ c. c ∷ []) e)
begins a (Two b c) h = let e : b ≡ a = cc in (c ∷ [], ap (λ d. d ∷ (c ∷ [])) e)
begins a (Three b c d) h = let e : b ≡ a = cc in (c ∷ (d ∷ []), ap (λ f. f ∷ (c ∷ (d ∷ []))) e)

-- what none of a list passes, its last does not
last_of : {X : Type 0} (p : X → Bool) (xs : List X) (x : X) → some p (xs ++ x ∷ []) ≡ false → p x ≡ false
last_of p [] x h = (or_parts (p x) false h).0
last_of p (y ∷ ys) x h = last_of p ys x (or_parts (p y) (some p (ys ++ x ∷ [])) h).1

module _ {V : Type 0} (K : ValueKind V) (T : TotalOrder K.order) (s : SheetModel V) where
  -- what an event of key k reads: items without parameters, and those with first value k
  abbrev pub relevant : V → Item V → Bool
  relevant k x = not (ltb 0 (state_of s.states x.name).parameters) || same K.order x.first k

  -- the slot that a cell binds has that cell's value, as no slot is bound twice
  slot_of : (n p : ℕ) (e : Event V) (t : ℕ) (c : Cell) (earlier cs : List Cell) → sound_cells n p earlier cs ≡ true → In c cs
      → c.want ≡ want.Bind t → slot_value K e cs t ≡ unwrap_or (field_of e c.field) K.blank
  slot_of n p e t c earlier [] a i w = absurd i
  slot_of n p e t c earlier (d ∷ cs) a (inl f) w = rw (ap (λ (b : Cell). b.want) f ∙ w, eq-eqb t t refl) (rw f)
  slot_of n p e t c earlier (d ∷ cs) a (inr i) w =
      let later = (and_parts (sound_cell n p earlier d) _ a).1 in
      let l = last_of (λ (b : Cell). binds t b.want) earlier d (bound-once n p t c (earlier ++ d ∷ []) cs later i w) in
      rw l (slot_of n p e t c (earlier ++ d ∷ []) cs later i w)

  module _ (e : Event V) (x : Item V) (row : Row) (key : RowFacts s row) where
    pub record Match : Type 0 where
      pub value : V
      pub is_key : key_of s e ≡ Some value
      pub argument : argument_value K s e x row key.key ≡ Some value
      pub reads : relevant value x ≡ true
      pub source : row.source ≡ x.name

    matched : eqb row.source x.name ≡ true → eqb row.kind e.kind ≡ true
        → every (cell_holds K s e x row) (present row.cells) ≡ true → Match
    matched a b c = go key.cell.want refl (key_of s e) refl
      where
        name : row.source ≡ x.name
        name = eqb-true row.source x.name a

        holds : meets_field K s e x row key.cell.want (key_of s e) ≡ true
        holds =
            subst
            (λ i. meets_field K s e x row key.cell.want (field_of e i) ≡ true)
            (key.field ∙ ap (λ m. (kind_of s.kinds m).key) (eqb-true row.kind e.kind b))
            (every_in (cell_holds K s e x row) key.cell (present row.cells) c key.there)

        go : (w : Want) → key.cell.want ≡ w → (o : Option V) → key_of s e ≡ o → Match
        go w f None g = absurd (false≢true (rw g at holds))
        go want.Any f (Some v) g = absurd (rw f at key.wants)
        go (want.Constant i) f (Some v) g = absurd (rw f at key.wants)
        go (want.Own p) f (Some v) g =
            let w : (p ≡ 1) × (key.key ≡ argument.Own 1) = rw f at key.wants in
            let m : same K.order v (own_value K x p) ≡ true = rw (f, g) at holds in
            let q : v ≡ x.first = same-eq T v x.first (rw w.0 at m) in
            record {
              value = v;
              is_key = g;
              argument = rw w.1 (ap Some (sym q));
              reads =
                  or_right
                  (not (ltb 0 (state_of s.states x.name).parameters))
                  (same K.order x.first v) (rw q (same_refl T x.first));
              source = name;
            }
        go (want.Bind t) f (Some v) g =
            let w : ((state_of s.states row.source).parameters ≡ 0) × (key.key ≡ argument.Slot t) = rw f at key.wants in
            let q : slot_value K e (present row.cells) t ≡ v = slot_of (length s.constants) (state_of s.states row.source).parameters e t key.cell [] (present row.cells) key.cells key.there f ∙ ap (λ o. unwrap_or o K.blank) (ap (field_of e) (key.field ∙ ap (λ m. (kind_of s.kinds m).key) (eqb-true row.kind e.kind b)) ∙ g) in
            record { value = v; is_key = g; argument = rw w.1 (ap Some q); reads = rw (sym name) (rw w.0); source = name }
        go (want.Slot t) f (Some v) g = absurd (rw f at key.wants)

    -- the key's patterns name items of the key
    pattern-reads : (k : V) → argument_value K s e x row key.key ≡ Some k → (p : Pattern) → KeyPattern s key.key p → (y : Item V)
        → is_of K s e x row p y ≡ true → relevant k y ≡ true
    pattern-reads k a p w y h =
        let q = and_parts (eqb y.name p.state) _ h in
        let l = begins key.key p.arguments w.1 in
        let f = rw (l.1, a) at q.1 in
        or_right
        (not (ltb 0 (state_of s.states y.name).parameters))
        (same K.order y.first k)
        (and_parts (same K.order y.first k) _ f).0

    condition-alike : (k : V) → argument_value K s e x row key.key ≡ Some k → (F : List (Item V)) (c : Condition)
        → KeyPattern s key.key c.pattern → condition_holds K s e x row F c ≡ condition_holds K s e x row (kept (relevant k) F) c
    condition-alike k a F c w =
        ap (λ b. cond c.negated (not b) b) (some-kept (is_of K s e x row c.pattern) (relevant k) F (pattern-reads k a c.pattern w))

    -- whether a row fires, asked of what the event's key reads alone
    fires-alike : (k : V) → key_of s e ≡ Some k → (F : List (Item V)) → row_fires K s e x row F ≡ row_fires K s e x row (kept (relevant k) F)
    unfolding row_fires
    fires-alike k h F =
        go (eqb row.source x.name) (eqb row.kind e.kind) (every (cell_holds K s e x row) (present row.cells)) refl refl refl
      where
        conditions : Match
            → every (condition_holds K s e x row F) (present row.conditions)
            ≡ every (condition_holds K s e x row (kept (relevant k) F)) (present row.conditions)
        conditions m =
            every-alike (condition_holds K s e x row F)
            (condition_holds K s e x row (kept (relevant k) F))
            (present row.conditions)
            (All-weaker
            (λ (c : Condition). KeyPattern s key.key c.pattern)
            (λ c. condition_holds K s e x row F c ≡ condition_holds K s e x row (kept (relevant k) F) c)
            (condition-alike k (m.argument ∙ (sym m.is_key ∙ h)) F)
            (present row.conditions) key.conditions)

        go : (a b c : Bool) → eqb row.source x.name ≡ a → eqb row.kind e.kind ≡ b
            → every (cell_holds K s e x row) (present row.cells) ≡ c → row_fires K s e x row F ≡ row_fires K s e x row (kept (relevant k) F)
        go true true true f g i = rw (f, g, i) (conditions (matched f g i))
        go true true false f g i = rw (f, g, i)
        go true false c f g i = rw (f, g)
        go false b c f g i = rw f

    -- a row that fires
    fired-match : (F : List (Item V)) → row_fires K s e x row F ≡ true → Match
    unfolding row_fires
    fired-match F h =
        let a = and_parts (eqb row.source x.name) _ h in
        let b = and_parts (eqb row.kind e.kind) _ a.1 in
        let c = and_parts (every (cell_holds K s e x row) (present row.cells)) _ b.1 in
        matched a.0 b.0 c.0

    -- an item that an entry of a fired row names is of the key
    entry_key : (k : V) → argument_value K s e x row key.key ≡ Some k → (p : Pattern) → KeyPattern s key.key p
        → of_key K s k (item_of K s e x row p) ≡ true
    entry_key k a p w =
        let l = begins key.key p.arguments w.1 in
        rw (lt-ltb 0 (state_of s.states p.state).parameters w.0, l.1, a) (same_refl T k)

  abbrev pub OfKey : V → Move V → Type 0
  OfKey k m = of_key K s k m.item ≡ true

  module _ (sound : SoundSheet s) (keyed : KeyedSheet s) where
    -- every row of the sheet with what is known of it
    numbered-facts : AllByRecursion (λ (r : Numbered). RowFacts s r.row) (numbered_from 0 s.rows)
    numbered-facts = all-numbered (RowFacts s) 0 s.rows (keyed-rows s sound keyed)

    lasts : (n : ℕ) → ((state_of s.states n).step ≡ false) × ((state_of s.states n).next ≡ false)
    lasts n =
        all-at
        (λ (d : State). (d.step ≡ false) × (d.next ≡ false))
        s.states unnamed
        (All-weaker
        (λ (d : State). (d.parameters ≡ 0 → d.always ≡ true) × ((d.step ≡ false) × (d.next ≡ false)))
        (λ (d : State). (d.step ≡ false) × (d.next ≡ false))
        (λ d f. f.1) s.states (keyed-states s keyed))
        (refl, refl) n

    module _ (e : Event V) where
      rows_alike : (k : V) → key_of s e ≡ Some k → (F : List (Item V)) (x : Item V)
          → fired_rows K s F e x ≡ fired_rows K s (kept (relevant k) F) e x
      unfolding fired_rows
      rows_alike k h F x =
          kept-alike
          (λ (r : Numbered). row_fires K s e x r.row F)
          (λ (r : Numbered). row_fires K s e x r.row (kept (relevant k) F))
          (numbered_from 0 s.rows)
          (All-weaker (λ (r : Numbered). RowFacts s r.row)
          (λ (r : Numbered). row_fires K s e x r.row F ≡ row_fires K s e x r.row (kept (relevant k) F))
          (λ r f. fires-alike e x r.row f k h F)
          (numbered_from 0 s.rows) numbered-facts)

      -- each fired row matches
      rows-match : (F : List (Item V)) (x : Item V)
          → AllByRecursion (λ (r : Numbered). (g : RowFacts s r.row) × Match e x r.row g) (fired_rows K s F e x)
      unfolding fired_rows
      rows-match F x = go (numbered_from 0 s.rows) numbered-facts
        where
          go : (rs : List Numbered) → AllByRecursion (λ (r : Numbered). RowFacts s r.row) rs
              → AllByRecursion (λ (r : Numbered). (g : RowFacts s r.row) × Match e x r.row g) (kept (λ (r : Numbered). row_fires K s e x r.row F) rs)
          go [] h = tt
          go (r ∷ rs) h = at (row_fires K s e x r.row F) refl (go rs h.1)
            where
              at : (b : Bool) → row_fires K s e x r.row F ≡ b
                  → AllByRecursion (λ (r : Numbered). (g : RowFacts s r.row) × Match e x r.row g) (kept (λ (r : Numbered). row_fires K s e x r.row F) rs)
                  → AllByRecursion (λ (r : Numbered). (g : RowFacts s r.row) × Match e x r.row g) (kept (λ (r : Numbered). row_fires K s e x r.row F) (r ∷ rs))
              at true i ih = rw i ((h.0, fired-match e x r.row h.0 F i), ih)
              at false i ih = rw i ih

      -- no row fires without a key, and none for an item that the key does not read
      no_rows : (rs : List Numbered) (x : Item V) → AllByRecursion (λ (r : Numbered). (g : RowFacts s r.row) × Match e x r.row g) rs
          → key_of s e ≡ None → rs ≡ []
      no_rows [] x h n = refl
      no_rows (r ∷ rs) x h n = let z : ◌≡◌ {A = ℕ} 0 1 = cc (h.0.1.is_key, n) in absurd (omega arith)

      unread-rows : (rs : List Numbered) (x : Item V) → AllByRecursion (λ (r : Numbered). (g : RowFacts s r.row) × Match e x r.row g) rs
          → (k : V) → key_of s e ≡ Some k → relevant k x ≡ false → rs ≡ []
      unread-rows [] x h k n u = refl
      unread-rows (r ∷ rs) x h k n u =
          let q : h.0.1.value ≡ k = cc (h.0.1.is_key, n) in absurd (true≢false (sym h.0.1.reads ∙ (rw q u)))

      quiet-moves : (F : List (Item V)) (x : Item V) → fired_rows K s F e x ≡ [] → item_moves K s F e x ≡ []
      unfolding item_moves
      quiet-moves F x h = rw h (rw ((lasts x.name).0, (lasts x.name).1))

      quiet-faults : (F : List (Item V)) (x : Item V) → fired_rows K s F e x ≡ [] → item_faults K s F e x ≡ []
      unfolding item_faults
      quiet-faults F x h = rw h (rw (lasts x.name).1)

      -- Without a key the event does nothing.
      pub keyless-moves : key_of s e ≡ None → (F : List (Item V)) → moves_at K s F e ≡ []
      unfolding moves_at
      keyless-moves n F =
          rw
          (joined-none (item_moves K s F e) F
          (all-each (λ x. item_moves K s F e x ≡ []) (λ x. quiet-moves F x (no_rows (fired_rows K s F e x) x (rows-match F x) n)) F))
          (same-ways (is_watched s e))
        where
          same-ways : (b : Bool) → cond {A = List (Move V)} b [] [] ≡ []
          same-ways true = refl
          same-ways false = refl

      module _ (k : V) (h : key_of s e ≡ Some k) where
        moves-alike : (F : List (Item V)) (x : Item V) → item_moves K s F e x ≡ item_moves K s (kept (relevant k) F) e x
        unfolding item_moves
        moves-alike F x = rw (rows_alike k h F x)

        faults-alike : (F : List (Item V)) (x : Item V) → item_faults K s F e x ≡ item_faults K s (kept (relevant k) F) e x
        unfolding item_faults
        faults-alike F x = rw (rows_alike k h F x)

        -- With key k it reads only what k reads.
        pub slice-moves : (F : List (Item V)) → moves_at K s F e ≡ moves_at K s (kept (relevant k) F) e
        unfolding moves_at
        slice-moves F =
            ap (λ ms. cond (is_watched s e) ms [])
            (joined-kept (item_moves K s F e) (relevant k) F
            (λ x u. quiet-moves F x (unread-rows (fired_rows K s F e x) x (rows-match F x) k h u))
            ∙ joined-alike (item_moves K s F e) (item_moves K s (kept (relevant k) F) e) (kept (relevant k) F)
            (all-each (λ x. item_moves K s F e x ≡ item_moves K s (kept (relevant k) F) e x) (moves-alike F) (kept (relevant k) F)))

        pub slice-faults : (F : List (Item V)) → faults_at K s F e ≡ faults_at K s (kept (relevant k) F) e
        unfolding faults_at
        slice-faults F =
            ap (λ ms. cond (is_watched s e) ms [])
            (joined-kept (item_faults K s F e) (relevant k) F
            (λ x u. quiet-faults F x (unread-rows (fired_rows K s F e x) x (rows-match F x) k h u))
            ∙ joined-alike (item_faults K s F e) (item_faults K s (kept (relevant k) F) e) (kept (relevant k) F)
            (all-each (λ x. item_faults K s F e x ≡ item_faults K s (kept (relevant k) F) e x) (faults-alike F) (kept (relevant k) F)))

        -- All that it moves is of key k.

        entries-key : (x : Item V) (row : Row) (g : RowFacts s row) → Match e x row g
            → AllByRecursion (OfKey k) (flat_map (entry_moves K s e x row) (present row.entries))
        entries-key x row g m =
            all-joined (OfKey k) (entry_moves K s e x row) (present row.entries)
            (All-weaker (KeyEntry s g.key) (λ n. AllByRecursion (OfKey k) (entry_moves K s e x row n)) go (present row.entries) g.entries)
          where
            names : argument_value K s e x row g.key ≡ Some k
            names = m.argument ∙ (sym m.is_key ∙ h)

            go : (n : Entry) → KeyEntry s g.key n → AllByRecursion (OfKey k) (entry_moves K s e x row n)
            go entry.Ok w = tt
            go entry.Error w = tt
            go (entry.Ask p) w = (entry_key e x row g k names p w, tt)
            go (entry.Strike p) w = (entry_key e x row g k names p w, tt)

        leaving-key : (x : Item V) (rs : List Numbered) → AllByRecursion (λ (r : Numbered). (g : RowFacts s r.row) × Match e x r.row g) rs
            → AllByRecursion (OfKey k) (leaving s x rs)
        leaving-key x [] a = rw ((lasts x.name).0, (lasts x.name).1) tt
        leaving-key x (r ∷ rs) a = go (state_of s.states x.name).always refl
          where
            q : a.0.1.value ≡ k
            q = cc (a.0.1.is_key, h)

            reads : relevant k x ≡ true
            reads = rw q at a.0.1.reads

            has : (state_of s.states x.name).always ≡ false → of_key K s k x ≡ true
            has f = at (ltb 0 (state_of s.states x.name).parameters) refl
              where
                at : (b : Bool) → ltb 0 (state_of s.states x.name).parameters ≡ b → of_key K s k x ≡ true
                at true i = rw i (rw i at reads)
                at false i =
                    let there : x.name < length s.states = rw a.0.1.source at a.0.0.source in
                    let none : (state_of s.states x.name).parameters ≡ 0 = omega (arith, ltb-false 0 (state_of s.states x.name).parameters i) in
                    absurd
                    (true≢false
                    (sym
                    ((all-below
                    (λ (d : State). (d.parameters ≡ 0 → d.always ≡ true) × ((d.step ≡ false) × (d.next ≡ false)))
                    s.states unnamed (keyed-states s keyed) x.name there).0 none)
                    ∙ f))

            go : (b : Bool) → (state_of s.states x.name).always ≡ b → AllByRecursion (OfKey k) (leaving s x (r ∷ rs))
            go true f = rw f tt
            go false f = rw f (has f, tt)

        pub slice-key : (F : List (Item V)) → AllByRecursion (OfKey k) (moves_at K s F e)
        unfolding moves_at item_moves
        slice-key F = go (is_watched s e)
          where
            go : (b : Bool) → AllByRecursion (OfKey k) (cond b (flat_map (item_moves K s F e) F) [])
            go true =
                all-joined (OfKey k) (item_moves K s F e) F
                (all-each
                (λ x. AllByRecursion (OfKey k) (item_moves K s F e x))
                (λ x.
                All-append (OfKey k) (leaving s x (fired_rows K s F e x))
                (flat_map (λ (r : Numbered). row_moves K s e x r.row) (fired_rows K s F e x))
                (leaving-key x (fired_rows K s F e x) (rows-match F x))
                (all-joined (OfKey k)
                (λ (r : Numbered). row_moves K s e x r.row)
                (fired_rows K s F e x)
                (All-weaker
                (λ (r : Numbered). (g : RowFacts s r.row) × Match e x r.row g)
                (λ (r : Numbered). AllByRecursion (OfKey k) (row_moves K s e x r.row))
                (λ r m. entries-key x r.row m.0 m.1)
                (fired_rows K s F e x) (rows-match F x))))
                F)
            go false = tt
