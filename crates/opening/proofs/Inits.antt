-- The init items of some states, one state after the other.
use Rattle.std.proofs.Common.{◌≡◌, ℕ, zero, suc, ◌+◌, ◌<◌, ◌≤◌, Bool, true, false, cond, ◌&&◌, eqb, ltb, List, [], ◌∷◌, ◌++◌, length, get_or, take, drop, sym, refl, ap, ◌∙◌, subst, ⊎_elim, append_assoc, arith}
use Rattle.std.specs.List.{AllByRecursion}
use Rattle.std.proofs.lemmas.List.{append-nil, at_drop_all, drop_more, length-set, length-take, take_more}
use Rattle.std.proofs.lemmas.Bool.{cases_Bool, ltb-true, ne_eqb}
use Rattle.items.specs.Ascending.{placed}
use Rattle.items.specs.Items.{item_order, named}
use Rattle.items.specs.declared.item.Item.{Item}
use Rattle.sheets.specs.Tables.{SheetModel, unnamed}
use Rattle.sheets.specs.declared.tables.State.{State}
use Rattle.rules.specs.Book.{count_in, inits_from, plain_item, started_by}
use Rattle.rules.specs.Kinds.{ValueKind}
use Rattle.rules.specs.Step.{Count, Starts, Asks, Repeats, FiredOut, LapsedOut, StruckOut, how_many}
use Rattle.rules.specs.Tallies.{count_sum, most_counted, no_tally}
use Rattle.rules.specs.declared.tallies.Tally.{Tally}
use Rattle.counting.specs.Counts.{RoomFor, counted}
use Rattle.counting.proofs.Tallying.{count_at}
use Rattle.opening.specs.Starts.{Started, counted_with, inits_named, is_init, start_tally, started_with, starts_from}

-- A loop that counts: i states are judged, and d is next.
module _ (ds : List State) (i : ℕ) (d : State) (h : i < length ds) (is : d ≡ get_or ds i unnamed) where
  behind : drop i ds ≡ d ∷ drop (i + 1) ds
  behind = drop_more ds i unnamed h ∙ ap (λ e. e ∷ drop (i + 1) ds) (sym is)

  front : take (i + 1) ds ≡ take i ds ++ d ∷ []
  front = take_more ds i unnamed h ∙ ap (λ e. take i ds ++ e ∷ []) (sym is)

  pub inits-counted : (total all : ℕ) → total + how_many is_init (drop i ds) ≡ all → total + cond d.init 1 0 + how_many is_init (drop (i + 1) ds) ≡ all
  inits-counted total all e = go d.init refl
    where
      go : (b : Bool) → d.init ≡ b → total + cond d.init 1 0 + how_many is_init (drop (i + 1) ds) ≡ all
      go true f = let k : how_many is_init (drop i ds) ≡ 1 + how_many is_init (drop (i + 1) ds) = ap (how_many is_init) behind ∙ rw f (omega arith) in rw f (omega arith)
      go false f = let k : how_many is_init (drop i ds) ≡ how_many is_init (drop (i + 1) ds) = ap (how_many is_init) behind ∙ rw f in rw f (omega arith)

module _ {V : Type 0} (K : ValueKind V) where
  inits-append : (n : ℕ) (ds es : List State) → inits_from K n (ds ++ es) ≡ inits_from K n ds ++ inits_from K (n + length ds) es
  inits-append n [] es = let e : n ≡ n + 0 = omega arith in ap (λ m. inits_from K m es) e
  inits-append n (d ∷ ds) es =
      let e : n + 1 + length ds ≡ n + length (d ∷ ds) = omega arith in
      ap (λ l. cond d.init (plain_item K n ∷ []) [] ++ l) (inits-append (n + 1) ds es ∙ ap (λ m. inits_from K (n + 1) ds ++ inits_from K m es) e)
      ∙ sym (append_assoc (cond d.init (plain_item K n ∷ []) []) (inits_from K (n + 1) ds) (inits_from K (n + length (d ∷ ds)) es))

  -- names of init items are below the number of the states
  below : (n : ℕ) (ds : List State) → AllByRecursion (λ (x : Item V). x.name < n + length ds) (inits_from K n ds)
  below n [] = tt
  below n (d ∷ ds) = go d.init (below (n + 1) ds)
    where
      raise : (m k : ℕ) → m ≡ k → (xs : List (Item V)) → AllByRecursion (λ (x : Item V). x.name < m) xs → AllByRecursion (λ (x : Item V). x.name < k) xs
      raise m k e [] a = tt
      raise m k e (x ∷ xs) a = (omega (arith, a.0), raise m k e xs a.1)

      go : (b : Bool) → AllByRecursion (λ (x : Item V). x.name < n + 1 + length ds) (inits_from K (n + 1) ds)
          → AllByRecursion (λ (x : Item V). x.name < n + length (d ∷ ds)) (cond b (plain_item K n ∷ []) [] ++ inits_from K (n + 1) ds)
      go true a = (omega arith, raise _ _ (omega arith) (inits_from K (n + 1) ds) a)
      go false a = raise _ _ (omega arith) (inits_from K (n + 1) ds) a

  -- an item behind all others is put in at the end
  placed-last : (x : Item V) (xs : List (Item V)) → AllByRecursion (λ (y : Item V). y.name < x.name) xs → placed (item_order K.order) x xs ≡ xs ++ x ∷ []
  placed-last x [] a = refl
  placed-last x (y ∷ ys) a =
      let p = lt_not x.name y.name a.0 in
      let q = ne_eqb x.name y.name (λ e. omega (arith, e, a.0)) in
      rw (p, q) (ap (λ l. y ∷ l) (placed-last x ys a.1))
    where
      lt_not : (m n : ℕ) → n < m → ltb m n ≡ false
      lt_not m n l = ⊎_elim (λ (e : ltb m n ≡ true). absurd (omega (arith, ltb-true m n e))) (λ (e : ltb m n ≡ false). e) (cases_Bool (ltb m n))

  -- there are as many init items as init states
  pub inits-length : (n : ℕ) (ds : List State) → length (inits_from K n ds) ≡ how_many is_init ds
  inits-length n [] = refl
  inits-length n (d ∷ ds) = go d.init refl (inits-length (n + 1) ds)
    where
      go : (b : Bool) → d.init ≡ b → length (inits_from K (n + 1) ds) ≡ how_many is_init ds → length (inits_from K n (d ∷ ds)) ≡ how_many is_init (d ∷ ds)
      go true e r = rw e (omega arith)
      go false e r = rw e r

  some-inits : (n : ℕ) (ds : List State) → how_many is_init (take n ds) ≤ how_many is_init ds
  some-inits zero ds = omega arith
  some-inits (suc n) [] = omega arith
  some-inits (suc n) (d ∷ ds) = go d.init refl (some-inits n ds)
    where
      go : (b : Bool) → d.init ≡ b → how_many is_init (take n ds) ≤ how_many is_init ds → how_many is_init (d ∷ take n ds) ≤ how_many is_init (d ∷ ds)
      go true e r = rw e (omega arith)
      go false e r = rw e r

  module _ (ds : List State) (i : ℕ) (d : State) (h : i < length ds) (is : d ≡ get_or ds i unnamed) where
    -- one more state is gone through
    pub inits-more : started_with K i d (inits_from K 0 (take i ds)) ≡ inits_from K 0 (take (i + 1) ds)
    inits-more = sym (ap (inits_from K 0) (front ds i d h is) ∙ inits-append 0 (take i ds) (d ∷ []) ∙ go d.init refl)
      where
        long : 0 + length (take i ds) ≡ i
        long = simp length-take (omega arith)

        low : AllByRecursion (λ (y : Item V). y.name < (plain_item K i).name) (inits_from K 0 (take i ds))
        low = subst (λ k. AllByRecursion (λ (y : Item V). y.name < k) (inits_from K 0 (take i ds))) long (below 0 (take i ds))

        go : (b : Bool) → d.init ≡ b → inits_from K 0 (take i ds) ++ inits_from K (0 + length (take i ds)) (d ∷ []) ≡ started_with K i d (inits_from K 0 (take i ds))
        go true e = ap (λ m. inits_from K 0 (take i ds) ++ inits_from K m (d ∷ [])) long ∙ rw e (sym (placed-last (plain_item K i) (inits_from K 0 (take i ds)) low))
        go false e = ap (λ m. inits_from K 0 (take i ds) ++ inits_from K m (d ∷ [])) long ∙ rw e (append-nil (inits_from K 0 (take i ds)))

    -- and there is room for it where there is room for all
    pub inits-room : (limit : ℕ) → how_many is_init ds ≤ limit → length (started_with K i d (inits_from K 0 (take i ds))) ≤ limit
    inits-room limit r =
        let e = ap length inits-more in
        let m = inits-length 0 (take (i + 1) ds) in
        let k = some-inits (i + 1) ds in
        omega (arith, e, m, k)

  -- what the opening adds, by the states
  named-inits : (n m : ℕ) (ds : List State) → how_many (named n) (inits_from K m ds) ≡ inits_named n m ds
  named-inits n m [] = refl
  named-inits n m (d ∷ ds) = go d.init (eqb m n) refl (named-inits n (m + 1) ds)
    where
      go : (b e : Bool) → eqb m n ≡ e → how_many (named n) (inits_from K (m + 1) ds) ≡ inits_named n (m + 1) ds
          → how_many (named n) (cond b (plain_item K m ∷ []) [] ++ inits_from K (m + 1) ds) ≡ cond (b && eqb m n) 1 0 + inits_named n (m + 1) ds
      go true true f r = rw f (omega arith)
      go true false f r = rw f (omega arith)
      go false e f r = omega arith

  pub started-by : (s : SheetModel V) (c : Count) (n : ℕ) → starts_from c n 0 s.states ≡ started_by K s c n
  started-by s Starts n = sym (named-inits n 0 s.states)
  started-by s Asks n = refl
  started-by s Repeats n = refl
  started-by s FiredOut n = refl
  started-by s LapsedOut n = refl
  started-by s StruckOut n = refl

nothing : (b : Bool) → 0 ≡ cond {A = ℕ} b 0 0 + 0
nothing true = refl
nothing false = refl

-- i states are counted
pub record Starting (ds : List State) (before tallies : List Tally) (i : ℕ) : Type 0 where
  pub long : length tallies ≡ 32
  pub counts : (c : Count) (n : ℕ) → n < 32 → count_in (get_or tallies n no_tally) c + starts_from c n i (drop i ds) ≡ count_in (get_or before n no_tally) c + starts_from c n 0 ds
  pub most : (c : Count) (n : ℕ) → n < 32 → count_in (get_or tallies n no_tally) c ≤ count_in (get_or before n no_tally) c + i

module _ (ds : List State) (before : List Tally) where
  pub starting-none : length before ≡ 32 → Starting ds before before 0
  starting-none long = record { long = long; counts = λ c n l. refl; most = λ c n l. omega arith }

  module _ (tallies : List Tally) (i : ℕ) (d : State) (h : i < length ds) (is : d ≡ get_or ds i unnamed) (room : RoomFor (length ds) before) (t : Starting ds before tallies i) where
    -- what one state adds
    one : (c : Count) (n : ℕ) → ℕ
    one c n = cond (d.init && eqb i n) (count_in start_tally c) 0

    next : (c : Count) (n : ℕ) → n < 32 → count_in (get_or (counted_with i d tallies) n no_tally) c ≡ count_in (get_or tallies n no_tally) c + one c n
    unfolding one
    next c n l = go d.init refl
      where
        little : (k : Count) → count_in start_tally k ≤ 1
        little Starts = omega arith
        little Asks = omega arith
        little Repeats = omega arith
        little FiredOut = omega arith
        little LapsedOut = omega arith
        little StruckOut = omega arith

        sum : (b : Bool) (x y : ℕ) → x + y ≤ most_counted → cond b (count_sum x y) x ≡ x + cond b y 0
        sum true x y e = omega arith
        sum false x y e = omega arith

        go : (b : Bool) → d.init ≡ b → count_in (get_or (cond b (counted tallies i start_tally) tallies) n no_tally) c ≡ count_in (get_or tallies n no_tally) c + cond (b && eqb i n) (count_in start_tally c) 0
        go true e =
            let a = count_at tallies i start_tally n c (omega (arith, t.long)) in
            a ∙ sum (eqb i n) (count_in (get_or tallies n no_tally) c) (count_in start_tally c) (omega (arith, t.most c n l, room c n l, little c))
        go false e = omega arith

    moved_on : (c : Count) (n : ℕ) → starts_from c n i (drop i ds) ≡ one c n + starts_from c n (i + 1) (drop (i + 1) ds)
    unfolding one
    moved_on Starts n = ap (inits_named n i) (behind ds i d h is)
    moved_on Asks n = nothing (d.init && eqb i n)
    moved_on Repeats n = nothing (d.init && eqb i n)
    moved_on FiredOut n = nothing (d.init && eqb i n)
    moved_on LapsedOut n = nothing (d.init && eqb i n)
    moved_on StruckOut n = nothing (d.init && eqb i n)

    one-most : (c : Count) (n : ℕ) → one c n ≤ 1
    unfolding one
    one-most c n = go (d.init && eqb i n) c
      where
        go : (b : Bool) (k : Count) → cond b (count_in start_tally k) 0 ≤ 1
        go true Starts = omega arith
        go true Asks = omega arith
        go true Repeats = omega arith
        go true FiredOut = omega arith
        go true LapsedOut = omega arith
        go true StruckOut = omega arith
        go false k = omega arith

    pub starting-more : (after : List Tally) → after ≡ counted_with i d tallies → Starting ds before after (i + 1)
    starting-more after e = record {
      long = ap length e ∙ same d.init;
      counts = λ c n l.
          let a = ap (λ ts. count_in (get_or ts n no_tally) c) e ∙ next c n l in
          omega (arith, a, moved_on c n, t.counts c n l);
      most = λ c n l.
          let a = ap (λ ts. count_in (get_or ts n no_tally) c) e ∙ next c n l in
          omega (arith, a, one-most c n, t.most c n l);
    }
      where
        same : (b : Bool) → length (cond b (counted tallies i start_tally) tallies) ≡ 32
        same true = length-set tallies i _ ∙ t.long
        same false = t.long

  pub starting-all : (tallies : List Tally) (i : ℕ) → length ds ≤ i → i ≤ length ds → Starting ds before tallies i → Started ds before tallies
  starting-all tallies i h k t = record {
    counts = λ c n l.
        let e = at_drop_all (starts_from c n i) ds i h in
        omega (arith, e, none c n, t.counts c n l);
    most = λ c n l. omega (arith, t.most c n l);
  }
    where
      none : (c : Count) (n : ℕ) → starts_from c n i [] ≡ 0
      none Starts n = refl
      none Asks n = refl
      none Repeats n = refl
      none FiredOut n = refl
      none LapsedOut n = refl
      none StruckOut n = refl
