-- A table of tallies while the moves of an event are counted one after the other.
use Rattle.std.proofs.Common.{◌≡◌, ℕ, ◌+◌, ◌-◌, ◌<◌, ◌≤◌, Bool, true, false, cond, not, ◌&&◌, ◌||◌, eqb, List, [], ◌∷◌, ◌++◌, length, get_or, take, drop, sym, refl, ap, ◌∙◌, ⊎_elim, arith}
use Rattle.std.proofs.lemmas.List.{at_drop_all, get_or-set_same, get_or-set_other, length-set}
use Rattle.std.proofs.lemmas.Bool.{cases_Bool, eq-eqb, eqb-true, eqb-false}
use Rattle.values.specs.Order.{TotalOrder}
use Rattle.items.specs.Ascending.{ascends, held, kept}
use Rattle.items.specs.Items.{item_order}
use Rattle.items.specs.declared.item.Item.{Item}
use Rattle.rules.specs.Book.{count_in}
use Rattle.rules.specs.Kinds.{ValueKind}
use Rattle.rules.specs.Step.{Count, Starts, Asks, Repeats, FiredOut, LapsedOut, StruckOut, count_added, gone_by, moved_by, taken}
use Rattle.rules.specs.Tallies.{count_sum, most_counted, no_tally, tally_sum}
use Rattle.rules.specs.declared.moves.Cause.TheVariants.{Fired, Lapsed, Asked, Struck}
use Rattle.rules.specs.declared.moves.Move.{Move}
use Rattle.rules.specs.declared.tallies.Tally.{Tally}
use Rattle.step.specs.Sets.{takes_out}
use Rattle.counting.specs.Counts.{CountsAfter, RoomFor, ask_tally, counted, gone_tally, is_counted, move_tally, one_if}
use Rattle.step.specs.Counts.{count_from}
use Rattle.step.proofs.Counting.{added-asks, added-fired, added-lapsed, added-repeats, added-starts, added-struck, count-more}

-- each count of a sum
sum-in : (t more : Tally) (c : Count) → count_in (tally_sum t more) c ≡ count_sum (count_in t c) (count_in more c)
sum-in t more Starts = refl
sum-in t more Asks = refl
sum-in t more Repeats = refl
sum-in t more FiredOut = refl
sum-in t more LapsedOut = refl
sum-in t more StruckOut = refl

one-most : (b : Bool) → one_if b ≤ 1
one-most true = omega arith
one-most false = omega arith

module _ {V : Type 0} (K : ValueKind V) (all : List (Move V)) (F : List (Item V)) (front : List (Move V)) (m : Move V) where
  -- an item that goes counts under a part of that name
  part : (o h a n p : Bool) → one_if (o && (h && (not a && (n && p)))) ≡ cond n (cond o (cond (h && not a) (one_if p) 0) 0) 0
  part true true true true p = refl
  part true true true false p = refl
  part true true false true p = refl
  part true true false false p = refl
  part true false a true p = refl
  part true false a false p = refl
  part false h a true p = refl
  part false h a false p = refl

  asks : (o n : Bool) → one_if (not o && n) ≡ cond n (cond o 0 1) 0
  asks true true = refl
  asks true false = refl
  asks false true = refl
  asks false false = refl

  repeats : (o n r : Bool) → one_if (not o && (n && r)) ≡ cond n (cond o 0 (one_if r)) 0
  repeats true true r = refl
  repeats true false r = refl
  repeats false true r = refl
  repeats false false r = refl

  nothing : (b : Bool) → cond {A = ℕ} b 0 0 ≡ 0
  nothing true = refl
  nothing false = refl

  out : (c : Count) (o g : Bool) (gone ask : Tally) → count_in no_tally c ≡ 0 → count_in (cond o (cond g gone no_tally) ask) c ≡ cond o (cond g (count_in gone c) 0) (count_in ask c)
  out c true true gone ask e = refl
  out c true false gone ask e = e
  out c false g gone ask e = refl

  -- whether a move adds one to a count of a name, by what it adds to its own name's tally
  one-counted : (n : ℕ) (c : Count) → one_if (is_counted K all F n c front m) ≡ cond (eqb m.item.name n) (count_in (move_tally K all F front m) c) 0
  one-counted n c = go c
    where
      o : Bool
      o = takes_out m.cause

      h : Bool
      h = held (item_order K.order) m.item (kept (λ x. not (taken K front x)) F)

      a : Bool
      a = moved_by K Asked all m.item

      r : Bool
      r = moved_by K Asked front m.item || held (item_order K.order) m.item F

      is : Bool
      is = eqb m.item.name n

      both : (d : Count) → count_in no_tally d ≡ 0 → count_in (move_tally K all F front m) d ≡ cond o (cond (h && not a) (count_in (gone_tally K all m.item) d) 0) (count_in (ask_tally r) d)
      both d e = out d o (h && not a) (gone_tally K all m.item) (ask_tally r) e

      same_out : (b g : Bool) (k : ℕ) → cond b (cond g 0 0) k ≡ cond b 0 k
      same_out true true k = refl
      same_out true false k = refl
      same_out false g k = refl

      go : (d : Count) → one_if (is_counted K all F n d front m) ≡ cond is (count_in (move_tally K all F front m) d) 0
      go Starts = sym (ap (λ k. cond is k 0) (both Starts refl ∙ same_out o (h && not a) 0 ∙ nothing o) ∙ nothing is)
      go Asks = asks o is ∙ ap (λ k. cond is k 0) (sym (both Asks refl ∙ same_out o (h && not a) 1))
      go Repeats = repeats o is r ∙ ap (λ k. cond is k 0) (sym (both Repeats refl ∙ same_out o (h && not a) (one_if r)))
      go FiredOut = part o h a is (gone_by K Fired all m.item) ∙ ap (λ k. cond is k 0) (sym (both FiredOut refl))
      go LapsedOut = part o h a is (gone_by K Lapsed all m.item) ∙ ap (λ k. cond is k 0) (sym (both LapsedOut refl))
      go StruckOut = part o h a is (gone_by K Struck all m.item) ∙ ap (λ k. cond is k 0) (sym (both StruckOut refl))

  one-tallied : (c : Count) → count_in (move_tally K all F front m) c ≤ 1
  one-tallied c =
      let e = one-counted m.item.name c ∙ ap (λ b. cond b (count_in (move_tally K all F front m) c) 0) (eq-eqb m.item.name m.item.name refl) in
      let l = one-most (is_counted K all F m.item.name c front m) in
      omega (arith, e, l)

-- one count of a table after more was counted of a name
pub count_at : (ts : List Tally) (k : ℕ) (more : Tally) (n : ℕ) (c : Count) → n < length ts
    → count_in (get_or (counted ts k more) n no_tally) c ≡ cond (eqb k n) (count_sum (count_in (get_or ts n no_tally) c) (count_in more c)) (count_in (get_or ts n no_tally) c)
count_at ts k more n c l =
    ⊎_elim
    (λ (e : eqb k n ≡ true). rw e (same (eqb-true k n e)))
    (λ (e : eqb k n ≡ false). rw e (ap (λ t. count_in t c) (get_or-set_other ts k n (tally_sum (get_or ts k no_tally) more) no_tally (λ h. eqb-false k n e (sym h)))))
    (cases_Bool (eqb k n))
  where
    same : k ≡ n → count_in (get_or (counted ts k more) n no_tally) c ≡ count_sum (count_in (get_or ts n no_tally) c) (count_in more c)
    same h =
        ap (λ j. count_in (get_or (counted ts j more) n no_tally) c) h
        ∙ ap (λ t. count_in t c) (get_or-set_same ts n (tally_sum (get_or ts n no_tally) more) no_tally l)
        ∙ sum-in (get_or ts n no_tally) more c

-- i of the moves are counted
pub record Tallying {V : Type 0} (K : ValueKind V) (all : List (Move V)) (F : List (Item V)) (before tallies : List Tally) (i : ℕ) : Type 0 where
  pub long : length tallies ≡ 32
  pub counts : (c : Count) (n : ℕ) → n < 32
      → count_in (get_or tallies n no_tally) c + count_from (is_counted K all F n c) (take i all) (drop i all)
      ≡ count_in (get_or before n no_tally) c + count_from (is_counted K all F n c) [] all
  pub most : (c : Count) (n : ℕ) → n < 32 → count_in (get_or tallies n no_tally) c ≤ count_in (get_or before n no_tally) c + i

module _ {V : Type 0} (K : ValueKind V) (all : List (Move V)) (F : List (Item V)) (before : List Tally) where
  pub tallying-start : length before ≡ 32 → Tallying K all F before before 0
  tallying-start long = record { long = long; counts = λ c n l. refl; most = λ c n l. omega arith }

  -- one more move is counted
  module _ (tallies : List Tally) (i : ℕ) (m : Move V) (h : i < length all) (is : m ≡ get_or all i m) (room : RoomFor (length all) before) (t : Tallying K all F before tallies i) where
    next : (c : Count) (n : ℕ) → n < 32 → count_in (get_or (counted tallies m.item.name (move_tally K all F (take (i - 0) all) m)) n no_tally) c ≡ count_in (get_or tallies n no_tally) c + one_if (is_counted K all F n c (take i all) m)
    next c n l =
        let z : i - 0 ≡ i = omega arith in
        let long = t.long in
        let a = count_at tallies m.item.name (move_tally K all F (take i all) m) n c (omega arith) in
        let o = one-counted K all F (take i all) m n c in
        let most = t.most c n l in
        let r = room c n l in
        let k = one-tallied K all F (take i all) m c in
        ap (λ j. count_in (get_or (counted tallies m.item.name (move_tally K all F (take j all) m)) n no_tally) c) z
        ∙ a
        ∙ go (eqb m.item.name n) (count_in (get_or tallies n no_tally) c) (count_in (move_tally K all F (take i all) m) c) (omega arith)
        ∙ ap (λ j. count_in (get_or tallies n no_tally) c + j) (sym o)
      where
        go : (b : Bool) (x y : ℕ) → x + y ≤ most_counted → cond b (count_sum x y) x ≡ x + cond b y 0
        go true x y e = omega arith
        go false x y e = omega arith

    pub tallying-more : (after : List Tally) → after ≡ counted tallies m.item.name (move_tally K all F (take (i - 0) all) m) → Tallying K all F before after (i + 1)
    tallying-more after e = record {
      long = ap length e ∙ length-set tallies m.item.name _ ∙ t.long;
      counts = λ c n l.
          let a = ap (λ ts. count_in (get_or ts n no_tally) c) e ∙ next c n l in
          let k = count-more (is_counted K all F n c) all i m h is in
          let s = t.counts c n l in
          omega (arith, a, k, s);
      most = λ c n l.
          let a = ap (λ ts. count_in (get_or ts n no_tally) c) e ∙ next c n l in
          let o = one-most (is_counted K all F n c (take i all) m) in
          let s = t.most c n l in
          omega (arith, a, o, s);
    }

  -- all moves are counted
  pub tallying-end : (T : TotalOrder K.order) (u : ascends (item_order K.order) F ≡ true) (tallies : List Tally) (i : ℕ) → length all ≤ i → i ≤ length all → Tallying K all F before tallies i → CountsAfter K all F before tallies
  tallying-end T u tallies i h k t = record {
    counts = λ c n l.
        let e = at_drop_all (count_from (is_counted K all F n c) (take i all)) all i h in
        let s = t.counts c n l in
        let a = added n c in
        omega (arith, e, s, a);
    most = λ c n l. let s = t.most c n l in omega (arith, s);
  }
    where
      added : (n : ℕ) (c : Count) → count_from (is_counted K all F n c) [] all ≡ count_added K c n all F
      added n Starts = none [] all ∙ added-starts K T n all F u
        where
          none : (front ms : List (Move V)) → count_from (is_counted K all F n Starts) front ms ≡ 0
          none front [] = refl
          none front (m ∷ ms) = let r = none (front ++ m ∷ []) ms in omega arith
      added n Asks = added-asks K T n all F u
      added n Repeats = added-repeats K T n all F u
      added n FiredOut = added-fired K T n all F u
      added n LapsedOut = added-lapsed K T n all F u
      added n StruckOut = added-struck K T n all F u
