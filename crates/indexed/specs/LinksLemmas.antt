-- What holds of linked lists of cells.
use Rattle.std.specs.Prelude.{◌≡◌, ℕ, zero, suc, ◌+◌, ◌<◌, ◌≤◌, Bool, true, false, List, [], ◌∷◌, ◌++◌, map, length, ◌≢◌, nat_lt, slice_index, refl}
use Rattle.std.specs.declared.cmp.Ordering.{Ordering}
use Rattle.std.proofs.Common.{ap, ◌∙◌, ⊎_elim, arith, take-append-drop}
use Rattle.std.proofs.lemmas.Bool.{lt-ltb, le-ltb, eq-eqb, ne_eqb, cases_eq, cases_Bool}
use Rattle.std.specs.List.{AllByRecursion}
use Rattle.items.specs.Ascending.{leading, kept}
use Rattle.indexed.specs.Links.{reached, Leads, last_of, times, front, back}

pub times-same : (j : ℕ) (xs : List ℕ) → times j (j ∷ xs) ≡ 1 + times j xs
times-same j xs = rw (eq-eqb j j refl)

pub times-other : (j x : ℕ) (xs : List ℕ) → (j ≢ x) → times j (x ∷ xs) ≡ times j xs
times-other j x xs n = rw (ne_eqb j x n) (omega arith)

pub times-append : (j : ℕ) (xs ys : List ℕ) → times j (xs ++ ys) ≡ times j xs + times j ys
times-append j [] ys = omega arith
times-append j (x ∷ xs) ys = let r = times-append j xs ys in omega arith

pub times-last : (a : ℕ) (xs : List ℕ) → 1 ≤ times (last_of a xs) (a ∷ xs)
times-last a [] = rw (eq-eqb a a refl) (omega arith)
times-last a (x ∷ xs) = let r = times-last x xs in omega arith

-- the reached is what the links lead through
pub reached-leads : (ls : List ℕ) (lim a : ℕ) (xs : List ℕ) (f : ℕ) → Leads ls lim a xs → length xs ≤ f → reached ls lim a f ≡ xs
reached-leads ls lim a [] zero r h = refl
reached-leads ls lim a (x ∷ xs) zero r h = absurd (omega arith)
reached-leads ls lim a [] (suc f) r h = rw (le-ltb (slice_index ls a) lim r)
reached-leads ls lim a (x ∷ xs) (suc f) r h =
    let t = reached-leads ls lim x xs f r.2 (omega arith) in
    let l : nat_lt x lim ≡ true = lt-ltb _ _ r.1 in
    simp (r.0, l, t)

pub leads-below : (ls : List ℕ) (lim a : ℕ) (xs : List ℕ) (j : ℕ) → Leads ls lim a xs → 1 ≤ times j xs → j < lim
leads-below ls lim a [] j r h = absurd (omega arith)
leads-below ls lim a (x ∷ xs) j r h =
    ⊎_elim (λ e. omega arith) (λ n. leads-below ls lim x xs j r.2 (omega (arith, times-other j x xs n))) (cases_eq j x)

-- links that agree at a and at the cells passed lead through the same
pub leads-same : (ls ms : List ℕ) (lim a : ℕ) (xs : List ℕ) → Leads ls lim a xs → ((j : ℕ) → 1 ≤ times j (a ∷ xs) → slice_index ms j ≡ slice_index ls j) → Leads ms lim a xs
leads-same ls ms lim a [] r s = let e = s a (omega (arith, times-same a [])) in omega arith
leads-same ls ms lim a (x ∷ xs) r s =
    let e = s a (omega (arith, times-same a (x ∷ xs))) in
    (e ∙ r.0, r.1, leads-same ls ms lim x xs r.2 (λ j h. s j (omega arith)))

-- from another start with the same link
leads-from : (ls ms : List ℕ) (lim a b : ℕ) (xs : List ℕ) → Leads ls lim a xs → slice_index ms b ≡ slice_index ls a → ((j : ℕ) → 1 ≤ times j xs → slice_index ms j ≡ slice_index ls j) → Leads ms lim b xs
leads-from ls ms lim a b [] r e s = omega arith
leads-from ls ms lim a b (x ∷ xs) r e s = (e ∙ r.0, r.1, leads-same ls ms lim x xs r.2 s)

-- one cell more, after the last of F
pub leads-link : (ls ms : List ℕ) (lim a i : ℕ) (F B : List ℕ) → Leads ls lim a (F ++ B) → i < lim → ((j : ℕ) → times j (a ∷ (F ++ B)) ≤ 1)
    → ((j : ℕ) → 1 ≤ times j (a ∷ (F ++ B)) → (j ≢ last_of a F) → slice_index ms j ≡ slice_index ls j)
    → slice_index ms (last_of a F) ≡ i → slice_index ms i ≡ slice_index ls (last_of a F) → Leads ms lim a (F ++ (i ∷ B))
leads-link ls ms lim a i [] B r h u s p q =
    (p, h, leads-from ls ms lim a i B r q (λ j k. s j (omega arith) (λ e. let z = u a in omega (arith, times-same a B, rw e at k))))
leads-link ls ms lim a i (f ∷ F) B r h u s p q =
    let ne : a ≡ last_of f F → ⊥ = λ e. let z = u a in let t = times-last f F in let w = times-append (last_of f F) (f ∷ F) B in omega (arith, times-same a (f ∷ (F ++ B)), ap (λ j. times j (f ∷ (F ++ B))) e) in (
      s a (omega (arith, times-same a (f ∷ (F ++ B)))) ne ∙ r.0,
      r.1,
      leads-link ls ms lim f i F B r.2 h (λ j. let z = u j in omega arith) (λ j k n. s j (omega arith) n) p q,
    )

-- one cell less, after the last of F
pub leads-unlink : (ls ms : List ℕ) (lim a i : ℕ) (F B : List ℕ) → Leads ls lim a (F ++ (i ∷ B)) → ((j : ℕ) → times j (a ∷ (F ++ (i ∷ B))) ≤ 1)
    → ((j : ℕ) → 1 ≤ times j (a ∷ (F ++ (i ∷ B))) → (j ≢ last_of a F) → slice_index ms j ≡ slice_index ls j)
    → slice_index ms (last_of a F) ≡ slice_index ls i → Leads ms lim a (F ++ B)
leads-unlink ls ms lim a i [] B r u s p =
    leads-from ls ms lim i a B r.2 p (λ j k. s j (omega arith) (λ e. let z = u a in omega (arith, times-same a (i ∷ B), rw e at k)))
leads-unlink ls ms lim a i (f ∷ F) B r u s p =
    let ne : a ≡ last_of f F → ⊥ = λ e. let z = u a in let t = times-last f F in let w = times-append (last_of f F) (f ∷ F) (i ∷ B) in omega (arith, times-same a (f ∷ (F ++ (i ∷ B))), ap (λ j. times j (f ∷ (F ++ (i ∷ B)))) e) in (
      s a (omega (arith, times-same a (f ∷ (F ++ (i ∷ B))))) ne ∙ r.0,
      r.1,
      leads-unlink ls ms lim f i F B r.2 (λ j. let z = u j in omega arith) (λ j k n. s j (omega arith) n) p,
    )

-- what a function gives at each cell of a list
pub map_same : {X : Type 0} (f g : ℕ → X) (xs : List ℕ) → ((j : ℕ) → 1 ≤ times j xs → f j ≡ g j) → map f xs ≡ map g xs
map_same f g [] s = refl
map_same f g (x ∷ xs) s = let e = s x (omega (arith, times-same x xs)) in let r = map_same f g xs (λ j h. s j (omega arith)) in cc

pub kept_same : (f g : ℕ → Bool) (xs : List ℕ) → ((j : ℕ) → 1 ≤ times j xs → f j ≡ g j) → kept f xs ≡ kept g xs
kept_same f g [] s = refl
kept_same f g (x ∷ xs) s = let e = s x (omega (arith, times-same x xs)) in let r = kept_same f g xs (λ j h. s j (omega arith)) in simp (e, r)

-- what holds of each cell that stands in the list holds of all
pub all_listed : (P : ℕ → Type 0) (xs : List ℕ) → ((j : ℕ) → 1 ≤ times j xs → P j) → AllByRecursion P xs
all_listed P [] h = tt
all_listed P (x ∷ xs) h = (h x (omega (arith, times-same x xs)), all_listed P xs (λ j i. h j (omega arith)))

pub times-kept : (t : ℕ → Bool) (j : ℕ) (xs : List ℕ) → times j (kept t xs) ≤ times j xs
times-kept t j [] = omega arith
times-kept t j (x ∷ xs) =
    let r = times-kept t j xs in
    ⊎_elim (λ (e : t x ≡ true). rw e (omega arith)) (λ (e : t x ≡ false). rw e (omega arith)) (cases_Bool (t x))

-- what is kept passes the test
pub kept-passes : (t : ℕ → Bool) (j : ℕ) (xs : List ℕ) → 1 ≤ times j (kept t xs) → t j ≡ true
kept-passes t j [] = λ h. absurd (omega arith)
kept-passes t j (x ∷ xs) =
    ⊎_elim
    (λ (e : t x ≡ true). rw e (λ h. ⊎_elim (λ (k : j ≡ x). rw k e) (λ n. kept-passes t j xs (omega (arith, times-other j x (kept t xs) n))) (cases_eq j x)))
    (λ (e : t x ≡ false). rw e (kept-passes t j xs))
    (cases_Bool (t x))

pub front-back : (p : ℕ → Ordering) (xs : List ℕ) → front p xs ++ back p xs ≡ xs
front-back p xs = take-append-drop (leading p xs) xs
