-- An index rightly made stays so.
use Rattle.std.proofs.Common.{◌≡◌, ℕ, zero, suc, ◌+◌, ◌<◌, ◌≤◌, true, false, eqb, ◌⊎◌, List, [], ◌∷◌, ◌++◌, map, length, get_or, drop, set, Ordering, sym, refl, ap, ◌∙◌, subst, inl, inr, ⊎_elim, arith, length-append, length-set, take-append-drop}
use Rattle.std.proofs.lemmas.Bool.{cases_eq, cases_lt}
use Rattle.std.proofs.lemmas.List.{get_or-set_same, get_or-set_other, take-map, drop-map, map-append, drop-drop}
use Rattle.values.specs.Order.{TotalOrder}
use Rattle.items.specs.Ascending.{leading, pick, ascends, held, placed, without}
use Rattle.items.specs.Items.{item_order}
use Rattle.items.specs.declared.item.Item.{Item}
use Rattle.items.proofs.Orders.{item-total}
use Rattle.items.proofs.Next.{length-kept}
use Rattle.items.proofs.Ascending.{placed_at, ascends-placed, without_at, ascends-without}
use Rattle.indexed.specs.Links.{reached, last_of, times, front, back, linked, unlinked}
use Rattle.indexed.specs.Index.{threads_from, order_of, item_in, group, Grouped, chain_of, name_of, Sound}
use Rattle.indexed.specs.LinksLemmas.{times-same, times-other, times-append, times-last, times-kept, reached-leads, map_same}
use Rattle.indexed.proofs.Groups.{grouped-add, grouped-remove}
use Rattle.indexed.proofs.Order.{collect, collected, upward}

pub leading-map : {X : Type 0} (f : ℕ → X) (p : X → Ordering) (js : List ℕ) → leading p (map f js) ≡ leading (λ j. p (f j)) js
leading-map f p [] = refl
leading-map f p (j ∷ js) = ap (λ n. pick (p (f j)) (suc n) 0 0) (leading-map f p js)

-- a place after which a cell may be linked: a start, or one of the cells
pub last-below : (lim k : ℕ) (js : List ℕ) → ((j : ℕ) → lim ≤ j → times j js ≡ 0) → (last_of (lim + k) js < lim + k + 1) × ((i : ℕ) → i < lim → times i js ≡ 0 → last_of (lim + k) js ≡ i → ⊥)
last-below lim k js u =
    let t = times-last (lim + k) js in
    let both : (last_of (lim + k) js ≡ lim + k) ⊎ (1 ≤ times (last_of (lim + k) js) js) =
    ⊎_elim inl (λ n. inr (omega (arith, times-other (last_of (lim + k) js) (lim + k) js n))) (cases_eq (last_of (lim + k) js) (lim + k)) in
    ⊎_elim
    (λ e. (omega arith, λ i h z f. omega arith))
    (λ m. (⊎_elim (λ h. omega arith) (λ h. let z = u (last_of (lim + k) js) h in absurd (omega arith)) (cases_lt (last_of (lim + k) js) lim), λ i h z f. let g = ap (λ j. times j js) f in omega arith))
    both

-- what the links are after one cell more
module _ (ls : List ℕ) (p i : ℕ) (ph : p < length ls) (ih : i < length ls) (ne : p ≡ i → ⊥) where
  linked-other : (j : ℕ) → (j ≡ p → ⊥) → (j ≡ i → ⊥) → get_or (linked ls p i) j 0 ≡ get_or ls j 0
  linked-other j n m = get_or-set_other (set ls i (get_or ls p 0)) p j i 0 n ∙ get_or-set_other ls i j (get_or ls p 0) 0 m

  linked-at : get_or (linked ls p i) p 0 ≡ i
  linked-at = get_or-set_same (set ls i (get_or ls p 0)) p i 0 (rw length-set ph)

  linked-new : get_or (linked ls p i) i 0 ≡ get_or ls p 0
  linked-new = get_or-set_other (set ls i (get_or ls p 0)) p i i 0 (λ e. ne (sym e)) ∙ get_or-set_same ls i (get_or ls p 0) 0 ih

unlinked-other : (ls : List ℕ) (p i j : ℕ) → (j ≡ p → ⊥) → get_or (unlinked ls p i) j 0 ≡ get_or ls j 0
unlinked-other ls p i j n = get_or-set_other ls p j (get_or ls i 0) 0 n

pub length-linked : (ls : List ℕ) (p i : ℕ) → length (linked ls p i) ≡ length ls
length-linked ls p i = simp length-set

module _ {V : Type 0} {order : V → V → Ordering} (t : TotalOrder order) (bucket : V → ℕ) (blank : V) where
  module _ {cells : List (Item V)} {threads chains free : List ℕ} {lim : ℕ} {js : List ℕ} (s : Sound order bucket blank cells threads chains free lim js) where
    pub reached-name : (k : ℕ) → k < 256 → reached threads lim (lim + k) lim ≡ group blank name_of cells k js
    reached-name k h = reached-leads threads lim (lim + k) (group blank name_of cells k js) lim (s.threaded k h) (let l = length-kept (λ j. eqb (name_of (item_in blank cells j)) k) js in omega (arith, s.full))

    pub reached-chain : (k : ℕ) → k < 262144 → reached chains lim (lim + k) lim ≡ group blank (chain_of bucket) cells k js
    reached-chain k h = reached-leads chains lim (lim + k) (group blank (chain_of bucket) cells k js) lim (s.chained k h) (let l = length-kept (λ j. eqb (chain_of bucket (item_in blank cells j)) k) js in omega (arith, s.full))

    threads_from-is : (m n : ℕ) → n + m ≤ 256 → threads_from threads lim m n ≡ collect (λ j. (item_in blank cells j).name) m n js
    threads_from-is zero n h = refl
    threads_from-is (suc m) n h = let a = reached-name n (omega arith) in let b = threads_from-is m (suc n) (omega arith) in cc

    pub order_is : order_of threads lim ≡ js
    unfolding order_of
    order_is = threads_from-is 256 0 (omega arith) ∙ collected (λ j. (item_in blank cells j).name) 256 js (upward t (item_in blank cells) js s.rising) s.tame

    pub once : (j : ℕ) → times j js ≤ 1
    once j = let a = s.apart j in omega arith

    pub bounded : (j : ℕ) → lim ≤ j → times j js ≡ 0
    bounded j h = let a = s.small j h in omega arith

    -- one item more, in cell i
    module _ (x : Item V) (i : ℕ) (rest : List ℕ) (popped : free ≡ rest ++ (i ∷ [])) where
      abbrev F : List ℕ
      F = front (λ j. item_order order (item_in blank cells j) x) js

      abbrev B : List ℕ
      B = back (λ j. item_order order (item_in blank cells j) x) js

      whole : F ++ B ≡ js
      whole = take-append-drop _ js

      free-times : (j : ℕ) → times j free ≡ times j rest + times j (i ∷ [])
      free-times j = ap (times j) popped ∙ times-append j rest (i ∷ [])

      pub i-small : i < lim
      i-small =
          ⊎_elim (λ h. h)
          (λ h. let a = s.small i h in absurd (omega (arith, free-times i, times-same i [])))
          (cases_lt i lim)

      pub i-new : times i js ≡ 0
      i-new = let a = s.apart i in omega (arith, free-times i, times-same i [])

      at_other : (j : ℕ) → (j ≡ i → ⊥) → item_in blank (set cells i x) j ≡ item_in blank cells j
      at_other j n = get_or-set_other cells i j x _ n

      at_same : item_in blank (set cells i x) i ≡ x
      at_same = get_or-set_same cells i x _ (let a = i-small in let b = s.long in omega arith)

      js-times : (j : ℕ) → times j F + times j B ≡ times j js
      js-times j = sym (times-append j F B) ∙ ap (times j) whole

      apart-at : (j : ℕ) (ys : List ℕ) → times i ys ≡ 0 → 1 ≤ times j ys → j ≡ i → ⊥
      apart-at j ys z h e = let g = ap (λ j. times j ys) e in omega arith

      pub put-items : held (item_order order) x (map (item_in blank cells) js) ≡ false → map (item_in blank (set cells i x)) (F ++ (i ∷ B)) ≡ placed (item_order order) x (map (item_in blank cells) js)
      put-items n =
          let a = js-times i in
          let b = i-new in
          let f = map_same (item_in blank (set cells i x)) (item_in blank cells) F (λ j h. at_other j (apart-at j F (omega arith) h)) in
          let g = map_same (item_in blank (set cells i x)) (item_in blank cells) B (λ j h. at_other j (apart-at j B (omega arith) h)) in
          let l = leading-map (item_in blank cells) (λ y. item_order order y x) js in
          map-append (item_in blank (set cells i x)) F (i ∷ B)
          ∙ simp (f, g, at_same, ← take-map, ← drop-map, ← l) (sym (placed_at (item-total t) x (map (item_in blank cells) js) n))

      -- a family of groups after it
      groups-put : (key : Item V → ℕ) (K : ℕ) (ls : List ℕ) → Grouped blank key K ls lim cells js → length ls ≡ lim + K → key x < K
          → (p : ℕ) → p ≡ last_of (lim + key x) (group blank key cells (key x) F) → Grouped blank key K (linked ls p i) lim (set cells i x) (F ++ (i ∷ B))
      groups-put key K ls G n h p e =
          let a = i-small in
          let b = i-new in
          let u : (j : ℕ) → lim ≤ j → times j (group blank key cells (key x) F) ≡ 0 =
          λ j l. let c = times-kept (λ j. eqb (key (item_in blank cells j)) (key x)) j F in let d = js-times j in let f = bounded j l in omega arith in
          let l = last-below lim (key x) (group blank key cells (key x) F) u in
          let ne : p ≡ i → ⊥ =
          λ f. l.1 i a (let c = times-kept (λ j. eqb (key (item_in blank cells j)) (key x)) i F in let d = js-times i in omega arith) (sym e ∙ f) in
          let ph : p < length ls = omega (arith, l.0) in
          let ih : i < length ls = omega arith in
          grouped-add blank key K lim i ls (linked ls p i) cells (set cells i x) F B
          (subst (Grouped blank key K ls lim cells) (sym whole) G)
          (λ j. let c = js-times j in let d = once j in omega (arith, times-append j F B))
          (λ j m. let c = js-times j in let d = bounded j m in omega (arith, times-append j F B))
          a (let c = js-times i in omega (arith, times-append i F B)) at_other
          p (subst (λ y. p ≡ last_of (lim + key y) (group blank key cells (key y) F)) (sym at_same) e)
          (linked-other ls p i ph ih ne) (linked-at ls p i ph ih ne) (linked-new ls p i ph ih ne)

      pub sound-add : held (item_order order) x (map (item_in blank cells) js) ≡ false → x.name < 256 → bucket x.first < 1024
          → (p : ℕ) → p ≡ last_of (lim + x.name) (group blank name_of cells x.name F)
          → (q : ℕ) → q ≡ last_of (lim + chain_of bucket x) (group blank (chain_of bucket) cells (chain_of bucket x) F)
          → Sound order bucket blank (set cells i x) (linked threads p i) (linked chains q i) rest lim (F ++ (i ∷ B))
      sound-add n hn hb p e q f = record {
        long = rw length-set s.long;
        threads_long = rw length-linked s.threads_long;
        chains_long = rw length-linked s.chains_long;
        most = s.most;
        threaded = groups-put name_of 256 threads s.threaded s.threads_long hn p e;
        chained = groups-put (chain_of bucket) 262144 chains s.chained s.chains_long (omega arith) q f;
        apart = λ j. let a = s.apart j in let b = js-times j in let c = times-append j F (i ∷ B) in omega (arith, free-times j);
        small = λ j h. let a = s.small j h in let b = js-times j in let c = times-append j F (i ∷ B) in omega (arith, free-times j);
        full = let a = s.full in let b = length-append F (i ∷ B) in let c = ap length whole in let d = length-append F B in let g = ap length popped in let k = length-append rest (i ∷ []) in omega arith;
        rising = ap (ascends (item_order order)) (put-items n) ∙ ascends-placed (item-total t) x (map (item_in blank cells) js) s.rising;
        tame = λ j h. ⊎_elim
            (λ (g : j ≡ i). rw (g, at_same) hn)
            (λ m. let a = s.tame j (let b = js-times j in let c = times-append j F (i ∷ B) in omega (arith, times-other j i B m)) in rw (at_other j m) a)
            (cases_eq j i);
      }

    -- one item less: the one in cell i, which stands first of those that are not less
    module _ (i : ℕ) (C : List ℕ) (found : back (λ j. item_order order (item_in blank cells j) (item_in blank cells i)) js ≡ i ∷ C) where
      abbrev E : List ℕ
      E = front (λ j. item_order order (item_in blank cells j) (item_in blank cells i)) js

      sum : E ++ (i ∷ C) ≡ js
      sum = ap (λ l. E ++ l) (sym found) ∙ take-append-drop _ js

      sum-times : (j : ℕ) → times j E + times j (i ∷ C) ≡ times j js
      sum-times j = sym (times-append j E (i ∷ C)) ∙ ap (times j) sum

      pub take-items : held (item_order order) (item_in blank cells i) (map (item_in blank cells) js) ≡ true → map (item_in blank cells) (E ++ C) ≡ without (item_order order) (item_in blank cells i) (map (item_in blank cells) js)
      take-items n =
          let l = leading-map (item_in blank cells) (λ y. item_order order y (item_in blank cells i)) js in
          let one : leading (λ j. item_order order (item_in blank cells j) (item_in blank cells i)) js + 1 ≡ suc (leading (λ j. item_order order (item_in blank cells j) (item_in blank cells i)) js) = omega arith in
          let k : C ≡ drop (suc (leading (λ j. item_order order (item_in blank cells j) (item_in blank cells i)) js)) js = ap (drop 1) (sym found) ∙ drop-drop 1 _ js ∙ ap (λ m. drop m js) one in
          map-append (item_in blank cells) E C
          ∙ ap (λ l. map (item_in blank cells) E ++ map (item_in blank cells) l) k
          ∙ simp (← take-map, ← drop-map, ← l) (sym (without_at (item-total t) (item_in blank cells i) (map (item_in blank cells) js) s.rising n))

      groups-out : (key : Item V → ℕ) (K : ℕ) (ls : List ℕ) → Grouped blank key K ls lim cells js → length ls ≡ lim + K → key (item_in blank cells i) < K
          → (p : ℕ) → p ≡ last_of (lim + key (item_in blank cells i)) (group blank key cells (key (item_in blank cells i)) E) → Grouped blank key K (unlinked ls p i) lim cells (E ++ C)
      groups-out key K ls G n h p e =
          let u : (j : ℕ) → lim ≤ j → times j (group blank key cells (key (item_in blank cells i)) E) ≡ 0 =
          λ j l. let c = times-kept (λ j. eqb (key (item_in blank cells j)) (key (item_in blank cells i))) j E in let d = sum-times j in let f = bounded j l in omega arith in
          let l = last-below lim (key (item_in blank cells i)) (group blank key cells (key (item_in blank cells i)) E) u in
          let ph : p < length ls = omega (arith, l.0) in
          grouped-remove blank key K lim i ls (unlinked ls p i) cells E C
          (subst (Grouped blank key K ls lim cells) (sym sum) G)
          (λ j. let c = sum-times j in let d = once j in omega (arith, times-append j E (i ∷ C)))
          (λ j m. let c = sum-times j in let d = bounded j m in omega (arith, times-append j E (i ∷ C)))
          p e (unlinked-other ls p i) (get_or-set_same ls p (get_or ls i 0) 0 ph)

      pub sound-remove : (more : List ℕ) → more ≡ free ++ (i ∷ []) → held (item_order order) (item_in blank cells i) (map (item_in blank cells) js) ≡ true → bucket (item_in blank cells i).first < 1024
          → (p : ℕ) → p ≡ last_of (lim + (item_in blank cells i).name) (group blank name_of cells (item_in blank cells i).name E)
          → (q : ℕ) → q ≡ last_of (lim + chain_of bucket (item_in blank cells i)) (group blank (chain_of bucket) cells (chain_of bucket (item_in blank cells i)) E)
          → Sound order bucket blank cells (unlinked threads p i) (unlinked chains q i) more lim (E ++ C)
      sound-remove more pushed n hb p e q f =
          let hn : (item_in blank cells i).name < 256 = s.tame i (omega (arith, sum-times i, times-same i C)) in
          let more-times : (j : ℕ) → times j more ≡ times j free + times j (i ∷ []) = λ j. ap (times j) pushed ∙ times-append j free (i ∷ []) in
          record {
            long = s.long;
            threads_long = rw length-set s.threads_long;
            chains_long = rw length-set s.chains_long;
            most = s.most;
            threaded = groups-out name_of 256 threads s.threaded s.threads_long hn p e;
            chained = groups-out (chain_of bucket) 262144 chains s.chained s.chains_long (omega arith) q f;
            apart = λ j. let a = s.apart j in let b = sum-times j in let c = times-append j E C in omega (arith, more-times j);
            small = λ j h. let a = s.small j h in let b = sum-times j in let c = times-append j E C in omega (arith, more-times j);
            full = let a = s.full in let b = length-append E (i ∷ C) in let c = ap length sum in let d = length-append E C in let g = ap length pushed in let k = length-append free (i ∷ []) in omega arith;
            rising = ap (ascends (item_order order)) (take-items n) ∙ ascends-without (item-total t) (item_in blank cells i) (map (item_in blank cells) js) s.rising;
            tame = λ j h. s.tame j (let b = sum-times j in let c = times-append j E C in omega arith);
          }
