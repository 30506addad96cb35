-- Where a walk along a list of cells ends, and what it meets.
use Rattle.std.proofs.Common.{◌≡◌, ℕ, zero, suc, ◌<◌, ◌≤◌, Bool, true, false, ltb, List, [], ◌∷◌, ◌++◌, map, length, get_or, drop, Ordering, Less, Equal, Greater, sym, refl, ap, ◌∙◌, ⊎_elim, arith}
use Rattle.std.proofs.lemmas.Bool.{cases_eq, cases_Bool, and_parts, and_from, both_ways}
use Rattle.std.specs.Ordering.{is_eq}
use Rattle.values.specs.Order.{TotalOrder}
use Rattle.items.specs.Ascending.{kept, heads, ascends, held, first_of}
use Rattle.items.proofs.Orders.{by_answer}
use Rattle.items.proofs.Ascending.{is-less, heads-down, ascends-tail, held-above, less-greater, greater-less, equal-equal}
use Rattle.indexed.specs.Links.{reached, Leads, last_of, times, front, back}
use Rattle.indexed.specs.LinksLemmas.{times-same, times-other, times-append, reached-leads}

reached-length : (ls : List ℕ) (lim a f : ℕ) → length (reached ls lim a f) ≤ f
reached-length ls lim a zero = omega arith
reached-length ls lim a (suc f) =
    let r = reached-length ls lim (get_or ls a 0) f in
    ⊎_elim (λ (e : ltb (get_or ls a 0) lim ≡ true). rw e (omega arith)) (λ (e : ltb (get_or ls a 0) lim ≡ false). rw e (omega arith)) (cases_Bool _)

-- the cell that a link leads to, and the reached from there
pub reached-more : (ls : List ℕ) (lim a : ℕ) → Leads ls lim a (reached ls lim a lim) → get_or ls a 0 < lim
    → (reached ls lim a lim ≡ get_or ls a 0 ∷ reached ls lim (get_or ls a 0) lim) × Leads ls lim (get_or ls a 0) (reached ls lim (get_or ls a 0) lim)
reached-more ls lim a r h = more (reached ls lim a lim) refl r
  where
    more : (xs : List ℕ) → reached ls lim a lim ≡ xs → Leads ls lim a xs → (reached ls lim a lim ≡ get_or ls a 0 ∷ reached ls lim (get_or ls a 0) lim) × Leads ls lim (get_or ls a 0) (reached ls lim (get_or ls a 0) lim)
    more [] e q = absurd (omega arith)
    more (x ∷ xs) e q =
        let l = reached-length ls lim a lim in
        let n = ap length e in
        let w : reached ls lim x lim ≡ xs = reached-leads ls lim x xs lim q.2 (omega arith) in
        let b = q.0 in
        (simp (b, w, e), simp (b, w) q.2)

pub reached-end : (ls : List ℕ) (lim a : ℕ) → lim ≤ get_or ls a 0 → reached ls lim a lim ≡ []
reached-end ls lim a h = reached-leads ls lim a [] lim h (omega arith)

-- the link of the last cell of F leads on to the first of B
abbrev pub LeadsOn : List ℕ → ℕ → ℕ → List ℕ → Type 0
LeadsOn ls lim p [] = lim ≤ get_or ls p 0
LeadsOn ls lim p (b ∷ B) = (get_or ls p 0 ≡ b) × (b < lim)

pub leads-at : (ls : List ℕ) (lim a : ℕ) (F B : List ℕ) → Leads ls lim a (F ++ B) → LeadsOn ls lim (last_of a F) B
leads-at ls lim a [] [] r = r
leads-at ls lim a [] (b ∷ B) r = (r.0, r.1)
leads-at ls lim a (f ∷ F) B r = leads-at ls lim f F B r.2

pub leads-split : (ls : List ℕ) (lim a q : ℕ) (A C : List ℕ) → Leads ls lim a (A ++ (q ∷ C)) → Leads ls lim q C
leads-split ls lim a q [] C r = r.2
leads-split ls lim a q (f ∷ A) C r = leads-split ls lim f q A C r.2

pub last-split : (a q : ℕ) (A C : List ℕ) → last_of a (A ++ (q ∷ C)) ≡ last_of q C
last-split a q [] C = refl
last-split a q (f ∷ A) C = last-split f q A C

pub kept-has : (w : ℕ → Bool) (j : ℕ) (js : List ℕ) → w j ≡ true → 1 ≤ times j js → 1 ≤ times j (kept w js)
kept-has w j [] e h = absurd (omega arith)
kept-has w j (a ∷ js) e h =
    ⊎_elim
    (λ (f : j ≡ a). let g : w a ≡ true = ap w (sym f) ∙ e in rw g (omega (arith, times-same j (kept w js), ap (λ i. times j (i ∷ kept w js)) f)))
    (λ n.
    let r = kept-has w j js e (omega (arith, times-other j a js n)) in
    ⊎_elim (λ (g : w a ≡ true). rw g (omega arith)) (λ (g : w a ≡ false). rw g r) (cases_Bool (w a)))
    (cases_eq j a)

pub split : (q : ℕ) (js : List ℕ) → 1 ≤ times q js → (A : List ℕ) × ((C : List ℕ) × (js ≡ A ++ (q ∷ C)))
split q [] h = absurd (omega arith)
split q (a ∷ js) h =
    ⊎_elim
    (λ (e : q ≡ a). ([], (js, ap (λ i. i ∷ js) (sym e))))
    (λ n. let r = split q js (omega (arith, times-other q a js n)) in (a ∷ r.0, (r.1.0, ap (λ l. a ∷ l) r.1.1)))
    (cases_eq q a)

-- a test that only passes what is kept
pub first-kept : {X : Type 0} (f : ℕ → X) (w : X → Bool) (v : ℕ → Bool) (js : List ℕ) → ((j : ℕ) → w (f j) ≡ true → v j ≡ true) → first_of w (map f (kept v js)) ≡ first_of w (map f js)
first-kept f w v [] h = refl
first-kept f w v (a ∷ js) h =
    let r = first-kept f w v js h in
    ⊎_elim
    (λ (e : v a ≡ true). simp (e, r))
    (λ (e : v a ≡ false). ⊎_elim (λ (g : w (f a) ≡ true). absurd (both_ways (v a) e (h a g))) (λ (g : w (f a) ≡ false). simp (e, g, r)) (cases_Bool (w (f a))))
    (cases_Bool (v a))

module _ {X : Type 0} {order : X → X → Ordering} (t : TotalOrder order) (f : ℕ → X) where
  heads-kept : (w : ℕ → Bool) (x : X) (js : List ℕ) → heads order x (map f js) ≡ true → ascends order (map f js) ≡ true → heads order x (map f (kept w js)) ≡ true
  heads-kept w x [] h u = refl
  heads-kept w x (a ∷ js) h u =
      ⊎_elim (λ (e : w a ≡ true). rw e h)
      (λ (e : w a ≡ false). rw e (heads-kept w x js (heads-down t x (f a) (map f js) (is-less _ h) (and_parts _ _ u).0) (and_parts _ _ u).1))
      (cases_Bool (w a))

  pub ascends-kept : (w : ℕ → Bool) (js : List ℕ) → ascends order (map f js) ≡ true → ascends order (map f (kept w js)) ≡ true
  ascends-kept w [] u = refl
  ascends-kept w (a ∷ js) u =
      let v = and_parts _ _ u in
      let r = ascends-kept w js v.1 in
      ⊎_elim (λ (e : w a ≡ true). rw e (and_from _ _ (heads-kept w (f a) js v.0 v.1) r)) (λ (e : w a ≡ false). rw e r) (cases_Bool (w a))

  -- what stands after a cell is greater
  later : (a b : ℕ) (js : List ℕ) → ascends order (map f (a ∷ js)) ≡ true → 1 ≤ times b js → order (f a) (f b) ≡ Less
  later a b [] u h = absurd (omega arith)
  later a b (c ∷ js) u h =
      let v = and_parts _ _ u in
      let l = is-less _ v.0 in
      ⊎_elim (λ (e : b ≡ c). ap (λ j. order (f a) (f j)) e ∙ l) (λ n. t.carries (f a) (f c) (f b) l (later c b js v.1 (omega (arith, times-other b c js n)))) (cases_eq b c)

  -- a search may begin after a cell, if neither it nor what is less is looked for
  pub first-skip : (w : X → Bool) (q : ℕ) (A C : List ℕ) → ascends order (map f (A ++ (q ∷ C))) ≡ true → w (f q) ≡ false → ((j : ℕ) → order (f j) (f q) ≡ Less → w (f j) ≡ false) → first_of w (map f (A ++ (q ∷ C))) ≡ first_of w (map f C)
  first-skip w q [] C u e n = simp e
  first-skip w q (a ∷ A) C u e n =
      let g = later a q (A ++ (q ∷ C)) u (omega (arith, times-same q C, times-append q A (q ∷ C))) in
      let r = first-skip w q A C (ascends-tail t (f a) (map f (A ++ (q ∷ C))) u) e n in
      simp (n a g, r)

  module _ (x : X) where
    pub held_kept : (w : ℕ → Bool) (js : List ℕ) → ((j : ℕ) → f j ≡ x → w j ≡ true) → held order x (map f (kept w js)) ≡ held order x (map f js)
    held_kept w [] h = refl
    held_kept w (a ∷ js) h =
        let r = held_kept w js h in
        ⊎_elim (λ (e : w a ≡ true). simp (e, r))
        (λ (e : w a ≡ false). by_answer (order x (f a))
        (λ g. simp (e, g, r))
        (λ g. absurd (both_ways (w a) e (h a (sym (t.same x (f a) g)))))
        (λ g. simp (e, g, r)))
        (cases_Bool (w a))

    -- whether the first of these is x
    abbrev pub hits : List ℕ → Bool
    hits [] = false
    hits (b ∷ js) = is_eq (order (f b) x)

    pub held_back : (js : List ℕ) → ascends order (map f js) ≡ true → held order x (map f js) ≡ hits (back (λ j. order (f j) x) js)
    held_back [] u = refl
    held_back (a ∷ js) u =
        by_answer (order (f a) x)
        (λ g. let h = less-greater t (f a) x g in simp (g, h) (held_back js (ascends-tail t (f a) (map f js) u)))
        (λ g. let h = equal-equal t (f a) x g in simp (g, h))
        (λ g. let h = greater-less t (f a) x g in let k : heads order x (map f (a ∷ js)) ≡ true = rw h in simp (g, held-above t x (map f (a ∷ js)) k u))

    -- x stands first of those that are not less
    pub back_head : (b : ℕ) (js : List ℕ) → ascends order (map f js) ≡ true → f b ≡ x → 1 ≤ times b (back (λ j. order (f j) x) js) → back (λ j. order (f j) x) js ≡ b ∷ drop 1 (back (λ j. order (f j) x) js)
    back_head b [] u e = λ h. absurd (omega arith)
    back_head b (a ∷ js) u e =
        let here : (order (f a) x ≡ Less → ⊥) → 1 ≤ times b (a ∷ js) → ◌≡◌ {A = List ℕ} (a ∷ js) (b ∷ js) =
        λ n h. ⊎_elim (λ (g : b ≡ a). ap (λ j. j ∷ js) (sym g)) (λ m. absurd (n (rw e at (later a b js u (omega (arith, times-other b a js m)))))) (cases_eq b a) in
        by_answer (order (f a) x)
        (λ g. rw g (back_head b js (ascends-tail t (f a) (map f js) u) e))
        (λ g. rw g (here (λ l. let z : Less ≡ Equal = sym l ∙ g in let o : ◌≡◌ {A = ℕ} 0 1 = cc in omega arith)))
        (λ g. rw g (here (λ l. let z : Less ≡ Greater = sym l ∙ g in let o : ◌≡◌ {A = ℕ} 0 1 = cc in omega arith)))

    -- a walk may begin at a cell that is less
    pub front-split : (q : ℕ) (A C : List ℕ) → ascends order (map f (A ++ (q ∷ C))) ≡ true → order (f q) x ≡ Less → front (λ j. order (f j) x) (A ++ (q ∷ C)) ≡ A ++ (q ∷ front (λ j. order (f j) x) C)
    front-split q [] C u e = simp e
    front-split q (a ∷ A) C u e =
        let g = t.carries (f a) (f q) x (later a q (A ++ (q ∷ C)) u (omega (arith, times-same q C, times-append q A (q ∷ C)))) e in
        let r = front-split q A C (ascends-tail t (f a) (map f (A ++ (q ∷ C))) u) e in
        simp (g, r)

    -- what stands in front is less
    pub front_less : (q : ℕ) (js : List ℕ) → 1 ≤ times q (front (λ j. order (f j) x) js) → order (f q) x ≡ Less
    front_less q [] = λ h. absurd (omega arith)
    front_less q (a ∷ js) =
        by_answer (order (f a) x)
        (λ g. rw g (λ h. ⊎_elim (λ (e : q ≡ a). ap (λ j. order (f j) x) e ∙ g) (λ n. front_less q js (omega (arith, times-other q a (front (λ j. order (f j) x) js) n))) (cases_eq q a)))
        (λ g. rw g (λ h. absurd (omega arith)))
        (λ g. rw g (λ h. absurd (omega arith)))
