-- A sum of costs is decided by each key's costs in order, however the keys are mixed.
use Rattle.std.proofs.Common.{◌≡◌, ℕ, ◌+◌, Bool, true, false, cond, List, [], ◌∷◌, ◌++◌, Some, None, Option, Ordering, sym, refl, ap, ◌∙◌, arith}
use Rattle.std.specs.List.{AllByRecursion}
use Rattle.std.proofs.lemmas.Bool.{false≢true}
use Rattle.values.specs.Order.{TotalOrder}
use Rattle.rules.proofs.Sets.{same, same-eq, same_refl}

-- what something with a key, or without one, costs
pub record Cost (K : Type 0) : Type 0 where
  pub key : Option K
  pub cost : ℕ

abbrev pub sum : {K : Type 0} → List (Cost K) → ℕ
sum [] = 0
sum (c ∷ cs) = c.cost + sum cs

module _ {K : Type 0} (order : K → K → Ordering) (T : TotalOrder order) where
  abbrev pub matches : K → Option K → Bool
  matches k None = false
  matches k (Some j) = same order j k

  abbrev pub costs : K → List (Cost K) → List ℕ
  costs k [] = []
  costs k (c ∷ cs) = cond (matches k c.key) (c.cost ∷ []) [] ++ costs k cs

  -- what has no key costs nothing
  abbrev pub Free : Cost K → Type 0
  Free c = c.key ≡ None → c.cost ≡ 0

  -- without the first of key j, which costs n
  record Without (j : K) (n : ℕ) (rest : List ℕ) (cs : List (Cost K)) : Type 0 where
    others : List (Cost K)
    total : sum cs ≡ n + sum others
    own : costs j others ≡ rest
    apart : (k : K) → same order j k ≡ false → costs k others ≡ costs k cs
    free : AllByRecursion Free others

  nothing : {A : Type 0} (n : ℕ) (ns : List ℕ) → [] ≡ n ∷ ns → A
  nothing n ns e = let z : ◌≡◌ {A = ℕ} 0 1 = cc in absurd (omega arith)

  matched-key : (j : K) (o : Option K) → matches j o ≡ true → o ≡ Some j
  matched-key j None e = absurd (false≢true e)
  matched-key j (Some i) e = ap Some (same-eq T i j e)

  without : (j : K) (n : ℕ) (rest : List ℕ) (cs : List (Cost K)) → AllByRecursion Free cs → costs j cs ≡ n ∷ rest → Without j n rest cs
  without j n rest [] f h = nothing n rest h
  without j n rest (c ∷ cs) f h = go (matches j c.key) refl (without j n rest cs f.1)
    where
      go : (b : Bool) → matches j c.key ≡ b → (costs j cs ≡ n ∷ rest → Without j n rest cs) → Without j n rest (c ∷ cs)
      go true e later =
          let q : c.cost ∷ costs j cs ≡ n ∷ rest = rw e at h in
          let p : c.cost ≡ n = cc in
          record { others = cs; total = ap (λ m. m + sum cs) p; own = cc; apart = λ k d. rw (matched-key j c.key e) (rw d); free = f.1 }
      go false e later =
          let w = later (rw e at h) in
          let t = w.total in
          record {
            others = c ∷ w.others;
            total = omega arith;
            own = rw e w.own;
            apart = λ k d. ap (λ ns. cond (matches k c.key) (c.cost ∷ []) [] ++ ns) (w.apart k d);
            free = (f.0, w.free);
          }

  pub mixed : (cs ds : List (Cost K)) → AllByRecursion Free cs → AllByRecursion Free ds → ((k : K) → costs k cs ≡ costs k ds) → sum cs ≡ sum ds
  mixed [] [] f g h = refl
  mixed [] (d ∷ ds) f g h = go d.key refl (mixed [] ds f g.1)
    where
      go : (o : Option K) → d.key ≡ o → (((k : K) → [] ≡ costs k ds) → 0 ≡ sum ds) → 0 ≡ d.cost + sum ds
      go None e later =
          let z = g.0 e in
          let t = later (λ k. h k ∙ rw e) in
          omega arith
      go (Some j) e later = nothing d.cost (costs j ds) (h j ∙ rw (e, same_refl T j))
  mixed (c ∷ cs) ds f g h = go c.key refl (mixed cs)
    where
      go : (o : Option K) → c.key ≡ o
          → ((us : List (Cost K)) → AllByRecursion Free cs → AllByRecursion Free us → ((k : K) → costs k cs ≡ costs k us) → sum cs ≡ sum us)
          → c.cost + sum cs ≡ sum ds
      go None e later =
          let z = f.0 e in
          let t = later ds f.1 g (λ k. rw e at (h k)) in
          omega arith
      go (Some j) e later =
          let w = without j c.cost (costs j cs) ds g (sym (rw (e, same_refl T j) at (h j))) in
          let t = w.total in
          let u = later w.others f.1 w.free (agree w) in
          omega arith
        where
          agree : (w : Without j c.cost (costs j cs) ds) (k : K) → costs k cs ≡ costs k w.others
          agree w k = at (same order j k) refl
            where
              at : (b : Bool) → same order j k ≡ b → costs k cs ≡ costs k w.others
              at true d = rw (← same-eq T j k d) (sym w.own)
              at false d = sym (w.apart k d ∙ (sym (h k) ∙ rw (e, d)))
