-- A cell more or less in a family of linked groups.
use Rattle.std.proofs.Common.{◌≡◌, ℕ, ◌+◌, ◌<◌, ◌≤◌, cond, eqb, List, ◌∷◌, ◌++◌, get_or, sym, ap, ◌∙◌, subst, ⊎_elim, arith}
use Rattle.std.proofs.lemmas.Bool.{eq-eqb, ne_eqb, cases_eq, eqb-true}
use Rattle.items.specs.declared.item.Item.{Item}
use Rattle.items.proofs.Kept.{kept_append}
use Rattle.indexed.specs.Links.{Leads, last_of, times}
use Rattle.indexed.specs.Index.{item_in, group, Grouped}
use Rattle.indexed.specs.LinksLemmas.{times-other, times-append, times-last, leads-same, leads-link, leads-unlink, kept_same, times-kept, kept-passes}

module _ {V : Type 0} (blank : V) (key : Item V → ℕ) where
  -- of two groups, a cell or a start of one is none of the other
  groups-apart : (cells : List (Item V)) (lim k k₀ : ℕ) (js is : List ℕ) → (k ≡ k₀ → ⊥) → ((j : ℕ) → lim ≤ j → times j js ≡ 0) → ((j : ℕ) → lim ≤ j → times j is ≡ 0)
      → (j p : ℕ) → 1 ≤ times j ((lim + k) ∷ group blank key cells k js) → 1 ≤ times p ((lim + k₀) ∷ group blank key cells k₀ is) → j ≡ p → ⊥
  groups-apart cells lim k k₀ js is ne u w j p h l e =
      let A = group blank key cells k js in
      let B = group blank key cells k₀ is in
      let a = times-kept (λ j. eqb (key (item_in blank cells j)) k) j js in
      let b = times-kept (λ j. eqb (key (item_in blank cells j)) k₀) p is in
      ⊎_elim
      (λ (f : j ≡ lim + k). ⊎_elim
      (λ (g : p ≡ lim + k₀). omega (arith, ne))
      (λ n. omega (arith, times-other p (lim + k₀) B n, w p (omega arith)))
      (cases_eq p (lim + k₀)))
      (λ m. ⊎_elim
      (λ (g : p ≡ lim + k₀). omega (arith, times-other j (lim + k) A m, u j (omega arith)))
      (λ n.
      let x = eqb-true _ _ (kept-passes (λ j. eqb (key (item_in blank cells j)) k) j js (omega (arith, times-other j (lim + k) A m))) in
      let y = eqb-true _ _ (kept-passes (λ j. eqb (key (item_in blank cells j)) k₀) p is (omega (arith, times-other p (lim + k₀) B n))) in
      ne (sym x ∙ ap (λ j. key (item_in blank cells j)) e ∙ y))
      (cases_eq p (lim + k₀)))
      (cases_eq j (lim + k))

  -- a group among the cells, of which no start is one
  group-once : (cells : List (Item V)) (lim k : ℕ) (js : List ℕ) → ((j : ℕ) → times j js ≤ 1) → ((j : ℕ) → lim ≤ j → times j js ≡ 0) → (j : ℕ) → times j ((lim + k) ∷ group blank key cells k js) ≤ 1
  group-once cells lim k js o u j =
      let a = times-kept (λ j. eqb (key (item_in blank cells j)) k) j js in
      let b = o j in
      ⊎_elim
      (λ (e : j ≡ lim + k). let z = u j (omega arith) in rw (eq-eqb j (lim + k) e) (omega arith))
      (λ n. let z = times-other j (lim + k) (group blank key cells k js) n in omega arith)
      (cases_eq j (lim + k))

  -- one cell more
  pub grouped-add : (K lim i : ℕ) (ls ms : List ℕ) (cells more : List (Item V)) (F B : List ℕ)
      → Grouped blank key K ls lim cells (F ++ B)
      → ((j : ℕ) → times j (F ++ B) ≤ 1) → ((j : ℕ) → lim ≤ j → times j (F ++ B) ≡ 0)
      → i < lim → times i (F ++ B) ≡ 0
      → ((j : ℕ) → (j ≡ i → ⊥) → item_in blank more j ≡ item_in blank cells j)
      → (p : ℕ) → p ≡ last_of (lim + key (item_in blank more i)) (group blank key cells (key (item_in blank more i)) F)
      → ((j : ℕ) → (j ≡ p → ⊥) → (j ≡ i → ⊥) → get_or ms j 0 ≡ get_or ls j 0) → get_or ms p 0 ≡ i → get_or ms i 0 ≡ get_or ls p 0
      → Grouped blank key K ms lim more (F ++ (i ∷ B))
  grouped-add K lim i ls ms cells more F B G o u h z s p e w q v k l =
      let t = times-append i F B in
      let n : (xs : List ℕ) → times i xs ≡ 0 → group blank key more k xs ≡ group blank key cells k xs =
      λ xs y. kept_same _ _ xs (λ j c. ap (λ x. eqb (key x) k) (s j (λ f. let g = ap (λ j. times j xs) f in omega arith))) in
      let r : Leads ls lim (lim + k) (group blank key cells k F ++ group blank key cells k B) = subst (Leads ls lim (lim + k)) (kept_append _ F B) (G k l) in
      let once : (j : ℕ) → times j ((lim + k) ∷ (group blank key cells k F ++ group blank key cells k B)) ≤ 1 =
      λ j. subst (λ xs. times j ((lim + k) ∷ xs) ≤ 1) (kept_append _ F B) (group-once cells lim k (F ++ B) o u j) in
      let none-i : times i (group blank key cells k F ++ group blank key cells k B) ≡ 0 =
      subst (λ xs. times i xs ≡ 0) (kept_append _ F B) (let y = times-kept (λ j. eqb (key (item_in blank cells j)) k) i (F ++ B) in omega arith) in
      let out : (j : ℕ) → 1 ≤ times j ((lim + k) ∷ (group blank key cells k F ++ group blank key cells k B)) → j ≡ i → ⊥ =
      λ j c f. let g = ap (λ j. times j ((lim + k) ∷ (group blank key cells k F ++ group blank key cells k B))) f in
      let y = times-other i (lim + k) (group blank key cells k F ++ group blank key cells k B) (omega arith) in omega arith in
      let whole : group blank key more k (F ++ (i ∷ B)) ≡ group blank key cells k F ++ cond (eqb (key (item_in blank more i)) k) (i ∷ group blank key cells k B) (group blank key cells k B) =
      kept_append _ F (i ∷ B) ∙ simp (n F (omega arith), n B (omega arith)) in
      ⊎_elim
      (λ (f : key (item_in blank more i) ≡ k).
      let m : p ≡ last_of (lim + k) (group blank key cells k F) = rw f at e in
      let g : group blank key more k (F ++ (i ∷ B)) ≡ group blank key cells k F ++ (i ∷ group blank key cells k B) = whole ∙ simp (eq-eqb (key (item_in blank more i)) k f) in
      subst (Leads ms lim (lim + k)) (sym g)
      (leads-link ls ms lim (lim + k) i _ _ r h once (λ j c d. w j (λ x. d (x ∙ m)) (out j c)) (ap (λ j. get_or ms j 0) (sym m) ∙ q) (v ∙ ap (λ j. get_or ls j 0) m)))
      (λ f.
      let g : group blank key more k (F ++ (i ∷ B)) ≡ group blank key cells k F ++ group blank key cells k B = whole ∙ simp (ne_eqb (key (item_in blank more i)) k f) in
      let pp : 1 ≤ times p ((lim + key (item_in blank more i)) ∷ group blank key cells (key (item_in blank more i)) F) = subst (λ j. 1 ≤ times j ((lim + key (item_in blank more i)) ∷ group blank key cells (key (item_in blank more i)) F)) (sym e) (times-last (lim + key (item_in blank more i)) (group blank key cells (key (item_in blank more i)) F)) in
      let in_l : (j : ℕ) → lim ≤ j → times j F ≡ 0 = λ j c. let y = u j c in let x = times-append j F B in omega arith in
      subst (Leads ms lim (lim + k)) (sym g)
      (leads-same ls ms lim (lim + k) _ r (λ j c. w j
      (groups-apart cells lim k (key (item_in blank more i)) (F ++ B) F (λ x. f (sym x)) u in_l j p (subst (λ xs. 1 ≤ times j ((lim + k) ∷ xs)) (sym (kept_append _ F B)) c) pp)
      (out j c))))
      (cases_eq (key (item_in blank more i)) k)

  -- one cell less
  pub grouped-remove : (K lim i : ℕ) (ls ms : List ℕ) (cells : List (Item V)) (F B : List ℕ)
      → Grouped blank key K ls lim cells (F ++ (i ∷ B))
      → ((j : ℕ) → times j (F ++ (i ∷ B)) ≤ 1) → ((j : ℕ) → lim ≤ j → times j (F ++ (i ∷ B)) ≡ 0)
      → (p : ℕ) → p ≡ last_of (lim + key (item_in blank cells i)) (group blank key cells (key (item_in blank cells i)) F)
      → ((j : ℕ) → (j ≡ p → ⊥) → get_or ms j 0 ≡ get_or ls j 0) → get_or ms p 0 ≡ get_or ls i 0
      → Grouped blank key K ms lim cells (F ++ B)
  grouped-remove K lim i ls ms cells F B G o u p e w q k l =
      let once = group-once cells lim k (F ++ (i ∷ B)) o u in
      ⊎_elim
      (λ (f : key (item_in blank cells i) ≡ k).
      let m : p ≡ last_of (lim + k) (group blank key cells k F) = rw f at e in
      let g : group blank key cells k (F ++ (i ∷ B)) ≡ group blank key cells k F ++ (i ∷ group blank key cells k B) = kept_append _ F (i ∷ B) ∙ simp (eq-eqb (key (item_in blank cells i)) k f) in
      subst (Leads ms lim (lim + k)) (sym (kept_append _ F B))
      (leads-unlink ls ms lim (lim + k) i _ _ (subst (Leads ls lim (lim + k)) g (G k l)) (λ j. subst (λ xs. times j ((lim + k) ∷ xs) ≤ 1) g (once j))
      (λ j c d. w j (λ x. d (x ∙ m))) (ap (λ j. get_or ms j 0) (sym m) ∙ q)))
      (λ f.
      let g : group blank key cells k (F ++ (i ∷ B)) ≡ group blank key cells k (F ++ B) = kept_append _ F (i ∷ B) ∙ (simp (ne_eqb (key (item_in blank cells i)) k f) (sym (kept_append _ F B))) in
      let pp : 1 ≤ times p ((lim + key (item_in blank cells i)) ∷ group blank key cells (key (item_in blank cells i)) F) = subst (λ j. 1 ≤ times j ((lim + key (item_in blank cells i)) ∷ group blank key cells (key (item_in blank cells i)) F)) (sym e) (times-last (lim + key (item_in blank cells i)) (group blank key cells (key (item_in blank cells i)) F)) in
      let in_l : (j : ℕ) → lim ≤ j → times j F ≡ 0 = λ j c. let y = u j c in let x = times-append j F (i ∷ B) in omega arith in
      leads-same ls ms lim (lim + k) _ (subst (Leads ls lim (lim + k)) g (G k l)) (λ j c. w j
      (groups-apart cells lim k (key (item_in blank cells i)) (F ++ (i ∷ B)) F (λ x. f (sym x)) u in_l j p (subst (λ xs. 1 ≤ times j ((lim + k) ∷ xs)) (sym g) c) pp)))
      (cases_eq (key (item_in blank cells i)) k)
