-- What `add` and `remove` leave.
use Rattle.std.proofs.Common.{◌≡◌, ℕ, ◌+◌, ◌<◌, true, false, List, [], ◌∷◌, ◌++◌, map, length, set, Ordering, ap, ◌∙◌, subst, ⊎_elim, arith, length-append, take-append-drop}
use Rattle.std.proofs.lemmas.Bool.{cases_lt}
use Rattle.std.proofs.lemmas.List.{length-map}
use Rattle.values.specs.Order.{TotalOrder}
use Rattle.items.specs.Ascending.{leading, held, placed, without}
use Rattle.items.specs.Items.{item_order}
use Rattle.items.specs.declared.item.Item.{Item}
use Rattle.indexed.specs.Links.{times, front, back, linked, unlinked}
use Rattle.indexed.specs.Index.{order_of, item_in, chain_of, name_of, Sound, probe, last_in}
use Rattle.indexed.specs.LinksLemmas.{times-same, times-append}
use Rattle.indexed.proofs.Sound.{bounded, order_is, put-items, sound-add, take-items, sound-remove}

module _ {V : Type 0} {order : V → V → Ordering} (t : TotalOrder order) {bucket : V → ℕ} (small : (v : V) → bucket v < 1024) {blank : V}
    {cells : List (Item V)} {threads chains free : List ℕ} {lim : ℕ} {js : List ℕ} (s : Sound order bucket blank cells threads chains free lim js) where
  -- each cell holds an item or is free
  pub counted : (n : ℕ) → n ≡ length free → length (map (item_in blank cells) js) + n ≡ lim
  counted n e = let a = length-map js (item_in blank cells) in omega (arith, s.full)

  -- an item put into cell i
  pub put : (x : Item V) → x.name < 256 → held (item_order order) x (map (item_in blank cells) js) ≡ false
      → (i : ℕ) (rest : List ℕ) → free ≡ rest ++ (i ∷ [])
      → (p q : ℕ) → p ≡ last_in order blank name_of cells lim js x → q ≡ last_in order blank (chain_of bucket) cells lim js x
      → (ns ps : List ℕ) → ns ≡ linked threads p i → ps ≡ linked chains q i
      → Sound order bucket blank (set cells i x) ns ps rest lim (order_of ns lim)
      × (map (item_in blank (set cells i x)) (order_of ns lim) ≡ placed (item_order order) x (map (item_in blank cells) js))
  put x hn n i rest popped p q e f ns ps k m =
      let r = sound-add t bucket blank s x i rest popped n hn (small x.first) p e q f in
      let o : order_of ns lim ≡ front (probe order blank cells x) js ++ (i ∷ back (probe order blank cells x) js) = ap (λ l. order_of l lim) k ∙ order_is t bucket blank r in
      (rw (o, k, m) r, ap (map (item_in blank (set cells i x))) o ∙ put-items t bucket blank s x i rest popped n)

  -- the item of cell i taken out
  abbrev Out : ℕ → List ℕ → ℕ → ℕ → List ℕ → List ℕ → Item V → Type 0
  Out i more p q ns ps x =
      held (item_order order) x (map (item_in blank cells) js) ≡ true → (C : List ℕ) → back (probe order blank cells x) js ≡ i ∷ C
      → p ≡ last_in order blank name_of cells lim js x → q ≡ last_in order blank (chain_of bucket) cells lim js x
      → Sound order bucket blank cells ns ps more lim (order_of ns lim) × (map (item_in blank cells) (order_of ns lim) ≡ without (item_order order) x (map (item_in blank cells) js))

  pub out : (i : ℕ) (more : List ℕ) → more ≡ free ++ (i ∷ []) → (p q : ℕ) (ns ps : List ℕ) → ns ≡ unlinked threads p i → ps ≡ unlinked chains q i
      → (x : Item V) → item_in blank cells i ≡ x → Out i more p q ns ps x
  out i more pushed p q ns ps k m x g = subst (Out i more p q ns ps) g this
    where
      this : Out i more p q ns ps (item_in blank cells i)
      this n C found e f =
          let r = sound-remove t bucket blank s i C found more pushed n (small (item_in blank cells i).first) p e q f in
          let o : order_of ns lim ≡ front (probe order blank cells (item_in blank cells i)) js ++ C = ap (λ l. order_of l lim) k ∙ order_is t bucket blank r in
          (rw (o, k, m) r, ap (map (item_in blank cells)) o ∙ take-items t bucket blank s i C found n)

  -- a cell that stands after a place is one of the index's, so a free place is left to come
  pub one_out : (p : ℕ → Ordering) (i : ℕ) (C : List ℕ) → back p js ≡ i ∷ C → (i < lim) × (length free < lim)
  one_out p i C e =
      let a = times-append i (front p js) (back p js) in
      let b = ap (times i) (take-append-drop (leading p js) js) in
      let c = ap (times i) e in
      let d = times-same i C in
      let l = length-append (front p js) (back p js) in
      let m = ap length (take-append-drop (leading p js) js) in
      let n = ap length e in
      (⊎_elim (λ h. h) (λ h. let z = bounded t bucket blank s i h in absurd (omega arith)) (cases_lt i lim), omega (arith, s.full))
