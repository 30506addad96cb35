-- What the index's walks find.
use Rattle.std.proofs.Common.{◌≡◌, ℕ, ◌+◌, ◌*◌, ◌<◌, ◌≤◌, Bool, true, false, eqb, List, [], ◌∷◌, ◌++◌, map, length, get_or, drop, Some, None, Option, Ordering, Less, Equal, sym, refl, ap, ◌∙◌, subst, arith, length-append, take-append-drop}
use Rattle.std.proofs.lemmas.Bool.{eq-eqb, eqb-true, and_parts, and_right}
use Rattle.std.proofs.lemmas.List.{get_or_read}
use Rattle.std.specs.Ordering.{is_eq, is_lt}
use Rattle.values.specs.Order.{TotalOrder}
use Rattle.items.specs.Ascending.{kept, leading, ascends, held, first_of}
use Rattle.items.specs.Items.{item_order, wanted, next_of}
use Rattle.items.specs.declared.item.Item.{Item}
use Rattle.items.proofs.Orders.{by_answer, item-total}
use Rattle.items.proofs.Next.{length-kept}
use Rattle.items.proofs.Ascending.{is-equal, not_equal, less-greater}
use Rattle.items.proofs.Kept.{kept_append}
use Rattle.indexed.specs.Links.{reached, Leads, last_of, times, front, back}
use Rattle.indexed.specs.Index.{item_in, group, chain_of, name_of, Sound, probe, Walkable, last_in}
use Rattle.indexed.specs.LinksLemmas.{times-same, times-other, times-append, times-last, times-kept, kept-passes, reached-leads, leads-below}
use Rattle.indexed.proofs.Order.{front_kept, back-kept}
use Rattle.indexed.proofs.Sound.{reached-name, reached-chain, bounded, last-below}
use Rattle.indexed.proofs.Seek.{LeadsOn, leads-at, leads-split, last-split, kept-has, split, first-kept, ascends-kept, held_kept, hits, held_back, back_head, front-split, first-skip, front_less}

module _ {V : Type 0} {order : V → V → Ordering} (t : TotalOrder order) {bucket : V → ℕ} (small : (v : V) → bucket v < 1024) {blank : V}
    {cells : List (Item V)} {threads chains free : List ℕ} {lim : ℕ} {js : List ℕ} (s : Sound order bucket blank cells threads chains free lim js) where
  pub chain-small : (x : Item V) → x.name < 256 → chain_of bucket x < 262144
  chain-small x h = let b = small x.first in omega arith

  -- a walk may begin at the start of a chain or of a name
  pub chain-walk : (k : ℕ) → k < 262144 → Walkable (length cells) chains lim (lim + k)
  chain-walk k h = record {
    starts = omega (arith, s.chains_long);
    links_reach = omega (arith, s.chains_long);
    cells_reach = s.long;
    ends = subst (Leads chains lim (lim + k)) (sym (reached-chain t bucket blank s k h)) (s.chained k h);
  }

  pub name-walk : (k : ℕ) → k < 256 → Walkable (length cells) threads lim (lim + k)
  name-walk k h = record {
    starts = omega (arith, s.threads_long);
    links_reach = omega (arith, s.threads_long);
    cells_reach = s.long;
    ends = subst (Leads threads lim (lim + k)) (sym (reached-name t bucket blank s k h)) (s.threaded k h);
  }

  -- the same, from what a call passes on
  pub walk_same : {cs : List (Item V)} {ls ms : List ℕ} {a : ℕ} → cs ≡ cells → ls ≡ ms → Walkable (length cells) ms lim a → Walkable (length cs) ls lim a
  walk_same e f w = rw (e, f) w

  -- the place after which an item is linked lies among the links
  pub last-small : (key : Item V → ℕ) (x : Item V) (p : ℕ) → p ≡ last_in order blank key cells lim js x → p < lim + key x + 1
  last-small key x p e =
      let F = front (probe order blank cells x) js in
      let u : (j : ℕ) → lim ≤ j → times j (group blank key cells (key x) F) ≡ 0 =
      λ j l.
      let a = times-kept (λ j. eqb (key (item_in blank cells j)) (key x)) j F in
      let b = bounded t bucket blank s j l in
      let c = times-append j F (back (probe order blank cells x) js) in
      let d = ap (times j) (take-append-drop (leading (probe order blank cells x) js) js) in
      omega arith in
      omega (arith, (last-below lim (key x) (group blank key cells (key x) F) u).0)

  module _ (x : Item V) (hn : x.name < 256) where
    abbrev pr : ℕ → Ordering
    pr = probe order blank cells x

    -- the walk along the chain of x
    pub chain-last : last_of (lim + chain_of bucket x) (front pr (reached chains lim (lim + chain_of bucket x) lim)) ≡ last_in order blank (chain_of bucket) cells lim js x
    chain-last =
        ap (λ l. last_of (lim + chain_of bucket x) (front pr l)) (reached-chain t bucket blank s (chain_of bucket x) (chain-small x hn))
        ∙ ap (last_of (lim + chain_of bucket x)) (front_kept (item-total t) (item_in blank cells) x _ js s.rising)

    pub chain-found : (cs : List (Item V)) (ls : List ℕ) (k r : ℕ) → cs ≡ cells → ls ≡ chains → k ≡ chain_of bucket x → r ≡ last_of (lim + k) (front (probe order blank cs x) (reached ls lim (lim + k) lim)) → r ≡ last_in order blank (chain_of bucket) cells lim js x
    chain-found cs ls k r a b d e = rw (a, b, d) at e ∙ chain-last

    -- the walk along the cells of its name
    pub name-last : last_of (lim + x.name) (front pr (reached threads lim (lim + x.name) lim)) ≡ last_in order blank name_of cells lim js x
    name-last =
        ap (λ l. last_of (lim + x.name) (front pr l)) (reached-name t bucket blank s x.name hn)
        ∙ ap (last_of (lim + x.name)) (front_kept (item-total t) (item_in blank cells) x _ js s.rising)

    pub name-found : (cs : List (Item V)) (ls : List ℕ) (r : ℕ) → cs ≡ cells → ls ≡ threads → r ≡ last_of (lim + x.name) (front (probe order blank cs x) (reached ls lim (lim + x.name) lim)) → r ≡ last_in order blank name_of cells lim js x
    name-found cs ls r a b e = rw (a, b) at e ∙ name-last

    -- a walk along the name may begin at any cell of that name
    abbrev N : List ℕ
    N = group blank name_of cells x.name js

    module _ (i : ℕ) (m : 1 ≤ times i N) where
      abbrev A : List ℕ
      A = (split i N m).0

      abbrev C : List ℕ
      C = (split i N m).1.0

      parts : N ≡ A ++ (i ∷ C)
      parts = (split i N m).1.1

      run-i : Leads threads lim i C
      run-i = leads-split threads lim (lim + x.name) i A C (subst (Leads threads lim (lim + x.name)) parts (s.threaded x.name hn))

      reached-i : reached threads lim i lim ≡ C
      reached-i =
          let a = length-kept (λ j. eqb (name_of (item_in blank cells j)) x.name) js in
          let b = ap length parts in
          let d = length-append A (i ∷ C) in
          reached-leads threads lim i C lim run-i (omega (arith, s.full))

      up : ascends (item_order order) (map (item_in blank cells) (A ++ (i ∷ C))) ≡ true
      up = subst (λ l. ascends (item_order order) (map (item_in blank cells) l) ≡ true) parts (ascends-kept (item-total t) (item_in blank cells) _ js s.rising)

      cell-walk : Walkable (length cells) threads lim i
      cell-walk =
          let h = leads-below threads lim (lim + x.name) N i (s.threaded x.name hn) m in
          record { starts = omega (arith, s.threads_long); links_reach = omega (arith, s.threads_long); cells_reach = s.long; ends = subst (Leads threads lim i) (sym reached-i) run-i }

      -- from a cell that is not above x, it meets the next item after x
      cell-begins : is_lt (item_order order x (item_in blank cells i)) ≡ false → (n : ℕ) (a : Option (Item V)) → x.name ≡ n → a ≡ Some x
          → first_of (wanted order n None a) (map (item_in blank cells) (reached threads lim i lim)) ≡ next_of order n None a (map (item_in blank cells) js)
      cell-begins h n a k e = rw (e, ← k)
          (ap (λ l. first_of w (map (item_in blank cells) l)) reached-i
          ∙ sym (first-skip (item-total t) (item_in blank cells) w i A C up (not-wanted i h)
          (λ j l. not-wanted j (by_answer (item_order order x (item_in blank cells j))
          (λ g. let z = (item-total t).carries x (item_in blank cells j) (item_in blank cells i) g l in let o = simp z at h in cc) (λ g. rw g) (λ g. rw g))))
          ∙ ap (λ l. first_of w (map (item_in blank cells) l)) (sym parts)
          ∙ first-kept (item_in blank cells) _ _ js (λ j l. (and_parts _ _ l).0))
        where
          w : Item V → Bool
          w = wanted order x.name None (Some x)

          not-wanted : (j : ℕ) → is_lt (item_order order x (item_in blank cells j)) ≡ false → w (item_in blank cells j) ≡ false
          not-wanted j l = and_right (eqb (item_in blank cells j).name x.name) (is_lt (item_order order x (item_in blank cells j))) l

    -- at the cell of x itself
    module _ (i : ℕ) (g : item_in blank cells i ≡ x) (R : List ℕ) (found : back pr js ≡ i ∷ R) where
      i-named : 1 ≤ times i N
      i-named =
          let a = times-append i (front pr js) (back pr js) in
          let b = ap (times i) (take-append-drop (leading pr js) js) in
          let c = ap (times i) found in
          kept-has (λ j. eqb (name_of (item_in blank cells j)) x.name) i js (eq-eqb _ _ (ap name_of g)) (omega (arith, times-same i R))

      pub held-walk : Walkable (length cells) threads lim i
      held-walk = cell-walk i i-named

      pub held-begins : (n : ℕ) (a : Option (Item V)) → x.name ≡ n → a ≡ Some x → first_of (wanted order n None a) (map (item_in blank cells) (reached threads lim i lim)) ≡ next_of order n None a (map (item_in blank cells) js)
      held-begins = cell-begins i i-named (ap (λ y. is_lt (item_order order x y)) g ∙ ap is_lt ((item-total t).reflexive x))

    module _ (q : ℕ) (e : q ≡ last_in order blank (chain_of bucket) cells lim js x) where
      abbrev c : ℕ
      c = chain_of bucket x

      -- the chain before and after q
      chain_run : Leads chains lim (lim + c) (group blank (chain_of bucket) cells c (front pr js) ++ group blank (chain_of bucket) cells c (back pr js))
      chain_run =
          subst (Leads chains lim (lim + c)) (ap (kept (λ j. eqb (chain_of bucket (item_in blank cells j)) c)) (sym (take-append-drop _ js)) ∙ kept_append _ (front pr js) (back pr js))
          (s.chained c (chain-small x hn))

      held-there : held (item_order order) x (map (item_in blank cells) js) ≡ hits (item-total t) (item_in blank cells) x (group blank (chain_of bucket) cells c (back pr js))
      held-there =
          sym (held_kept (item-total t) (item_in blank cells) x (λ j. eqb (chain_of bucket (item_in blank cells j)) c) js (λ j g. eq-eqb _ _ (ap (chain_of bucket) g)))
          ∙ held_back (item-total t) (item_in blank cells) x _ (ascends-kept (item-total t) (item_in blank cells) _ js s.rising)
          ∙ ap (hits (item-total t) (item_in blank cells) x) (back-kept (item-total t) (item_in blank cells) x _ js s.rising)

      leads : LeadsOn chains lim q (group blank (chain_of bucket) cells c (back pr js))
      leads = subst (λ a. LeadsOn chains lim a (group blank (chain_of bucket) cells c (back pr js))) (sym e) (leads-at chains lim (lim + c) _ _ chain_run)

      not-held : lim ≤ get_or chains q 0 → held (item_order order) x (map (item_in blank cells) js) ≡ false
      not-held h = held-there ∙ none _ leads
        where
          none : (H : List ℕ) → LeadsOn chains lim q H → hits (item-total t) (item_in blank cells) x H ≡ false
          none [] l = refl
          none (b ∷ H) l = absurd (omega arith)

      pub held_next : get_or chains q 0 < lim → held (item_order order) x (map (item_in blank cells) js) ≡ is_eq (item_order order (item_in blank cells (get_or chains q 0)) x)
      held_next h = held-there ∙ one _ leads
        where
          one : (H : List ℕ) → LeadsOn chains lim q H → hits (item-total t) (item_in blank cells) x H ≡ is_eq (item_order order (item_in blank cells (get_or chains q 0)) x)
          one [] l = absurd (omega arith)
          one (b ∷ H) l = ap (λ j. is_eq (item_order order (item_in blank cells j) x)) (sym l.0)

      pub there : get_or chains q 0 < lim → item_in blank cells (get_or chains q 0) ≡ x → back pr js ≡ get_or chains q 0 ∷ drop 1 (back pr js)
      there h g = back_head (item-total t) (item_in blank cells) x (get_or chains q 0) js s.rising g (member _ refl leads)
        where
          member : (H : List ℕ) → group blank (chain_of bucket) cells c (back pr js) ≡ H → LeadsOn chains lim q H → 1 ≤ times (get_or chains q 0) (back pr js)
          member [] k l = absurd (omega arith)
          member (b ∷ H) k l =
              let a = times-kept (λ j. eqb (chain_of bucket (item_in blank cells j)) c) b (back pr js) in
              let m = ap (times b) k in
              rw l.0 (omega (arith, times-same b H))

      -- what the cell after q tells, if there is one: b is what the code reads there, and y what it reads in the cell
      pub q-within : q < length chains
      q-within = let l = last-small (chain_of bucket) x q e in let k = chain-small x hn in omega (arith, s.chains_long)

      module _ (b : ℕ) (read : b ≡ get_or chains q b) where
        link-is : b ≡ get_or chains q 0
        link-is = get_or_read chains q b q-within read 0

        pub none-there : lim ≤ b → held (item_order order) x (map (item_in blank cells) js) ≡ false
        none-there h = not-held (omega (arith, link-is))

        module _ (h : b < lim) (y : Item V) (seen : y ≡ get_or cells b y) where
          item-is : y ≡ item_in blank cells b
          item-is = get_or_read cells b y (omega (arith, s.long)) seen _

          pub other-there : (item_order order y x ≡ Equal → ⊥) → held (item_order order) x (map (item_in blank cells) js) ≡ false
          other-there n =
              held_next (omega (arith, link-is))
              ∙ not_equal _ (λ m. n (ap (λ z. item_order order z x) (item-is ∙ ap (item_in blank cells) link-is) ∙ m))

          pub same-there : item_order order y x ≡ Equal → (item_in blank cells b ≡ x) × (back pr js ≡ b ∷ drop 1 (back pr js)) × (held (item_order order) x (map (item_in blank cells) js) ≡ true)
          same-there n =
              let k = link-is in
              let m : item_in blank cells b ≡ x = sym item-is ∙ (item-total t).same y x n in
              let e = ap (item_in blank cells) (sym k) ∙ m in
              let o : item_order order (item_in blank cells (get_or chains q 0)) x ≡ Equal = ap (λ z. item_order order z x) e ∙ (item-total t).reflexive x in
              (m, subst (λ i. back pr js ≡ i ∷ drop 1 (back pr js)) (sym k) (there (omega arith) e), held_next (omega arith) ∙ ap is_eq o)

      -- a walk along the name may begin at q, if q is a cell
      module _ (h : q < lim) where
        in-front : 1 ≤ times q (group blank (chain_of bucket) cells c (front pr js))
        in-front =
            let a = subst (λ j. 1 ≤ times j ((lim + c) ∷ group blank (chain_of bucket) cells c (front pr js))) (sym e) (times-last (lim + c) (group blank (chain_of bucket) cells c (front pr js))) in
            omega (arith, times-other q (lim + c) (group blank (chain_of bucket) cells c (front pr js)) (omega arith))

        q-less : pr q ≡ Less
        q-less =
            let a = times-kept (λ j. eqb (chain_of bucket (item_in blank cells j)) c) q (front pr js) in
            let b = in-front in
            front_less (item-total t) (item_in blank cells) x q js (omega arith)

        q-named : 1 ≤ times q (group blank name_of cells x.name js)
        q-named =
            let a = times-kept (λ j. eqb (chain_of bucket (item_in blank cells j)) c) q (front pr js) in
            let b = in-front in
            let k = eqb-true _ _ (kept-passes (λ j. eqb (chain_of bucket (item_in blank cells j)) c) q (front pr js) b) in
            let m = small x.first in
            let n = small (item_in blank cells q).first in
            let l = times-append q (front pr js) (back pr js) in
            let w = ap (times q) (take-append-drop (leading pr js) js) in
            kept-has (λ j. eqb (name_of (item_in blank cells j)) x.name) q js (eq-eqb _ _ (omega arith)) (omega arith)

        pub entry-walk : Walkable (length cells) threads lim q
        entry-walk = cell-walk q q-named

        entry-last : last_of q (front pr (reached threads lim q lim)) ≡ last_in order blank name_of cells lim js x
        entry-last =
            ap (λ l. last_of q (front pr l)) (reached-i q q-named)
            ∙ sym (last-split (lim + x.name) q (A q q-named) (front pr (C q q-named)))
            ∙ ap (last_of (lim + x.name)) (sym (front-split (item-total t) (item_in blank cells) x q (A q q-named) (C q q-named) (up q q-named) q-less) ∙ ap (front pr) (sym (parts q q-named)) ∙ front_kept (item-total t) (item_in blank cells) x _ js s.rising)

        pub entry_found : (cs : List (Item V)) (ls : List ℕ) (r : ℕ) → cs ≡ cells → ls ≡ threads → r ≡ last_of q (front (probe order blank cs x) (reached ls lim q lim)) → r ≡ last_in order blank name_of cells lim js x
        entry_found cs ls r a b e = rw (a, b) at e ∙ entry-last

        pub entry-begins : (n : ℕ) (a : Option (Item V)) → x.name ≡ n → a ≡ Some x → first_of (wanted order n None a) (map (item_in blank cells) (reached threads lim q lim)) ≡ next_of order n None a (map (item_in blank cells) js)
        entry-begins = cell-begins q q-named (ap is_lt (less-greater (item-total t) (item_in blank cells q) x q-less))

  -- the walks of `next`
  pub name-first : (n : ℕ) (a : Option (Item V)) → n < 256 → first_of (wanted order n None a) (map (item_in blank cells) (reached threads lim (lim + n) lim)) ≡ next_of order n None a (map (item_in blank cells) js)
  name-first n a h =
      ap (λ l. first_of (wanted order n None a) (map (item_in blank cells) l)) (reached-name t bucket blank s n h)
      ∙ first-kept (item_in blank cells) _ _ js (λ j g. (and_parts _ _ g).0)

  pub chain_first : (n : ℕ) (v : V) (a : Option (Item V)) → n < 256 → first_of (wanted order n (Some v) a) (map (item_in blank cells) (reached chains lim (lim + (n * 1024 + bucket v)) lim)) ≡ next_of order n (Some v) a (map (item_in blank cells) js)
  chain_first n v a h =
      let b = small v in
      ap (λ l. first_of (wanted order n (Some v) a) (map (item_in blank cells) l)) (reached-chain t bucket blank s (n * 1024 + bucket v) (omega arith))
      ∙ first-kept (item_in blank cells) _ _ js
      (λ j g.
      let p = and_parts _ _ g in
      let m : (item_in blank cells j).name ≡ n = eqb-true _ _ p.0 in
      let k : (item_in blank cells j).first ≡ v = t.same _ _ (is-equal _ (and_parts _ _ p.1).0) in
      eq-eqb _ _ (ap (λ i. i * 1024 + bucket (item_in blank cells j).first) m ∙ ap (λ w. n * 1024 + bucket w) k))

  -- the same, from what a call passes on
  pub first_found : (cs : List (Item V)) (ls ms : List ℕ) (a : ℕ) (w : Item V → Bool) (r z : Option (Item V)) → cs ≡ cells → ls ≡ ms
      → r ≡ first_of w (map (item_in blank cs) (reached ls lim a lim)) → first_of w (map (item_in blank cells) (reached ms lim a lim)) ≡ z → r ≡ z
  first_found cs ls ms a w r z e f h k = rw (e, f) at h ∙ k

  pub chain-begins : (n : ℕ) (v : V) (a : Option (Item V)) → n < 256 → (k : ℕ) → k ≡ n * 1024 + bucket v → first_of (wanted order n (Some v) a) (map (item_in blank cells) (reached chains lim (lim + k) lim)) ≡ next_of order n (Some v) a (map (item_in blank cells) js)
  chain-begins n v a h k e = rw e (chain_first n v a h)
