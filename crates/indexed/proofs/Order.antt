-- Cells in the order of what they hold.
use Rattle.std.proofs.Common.{◌≡◌, ℕ, zero, suc, ◌+◌, ◌<◌, ◌≤◌, Bool, true, false, eqb, ◌⊎◌, List, [], ◌∷◌, ◌++◌, map, Ordering, Less, Equal, Greater, sym, refl, ap, ◌∙◌, inl, inr, ⊎_elim, arith, take-append-drop}
use Rattle.std.proofs.lemmas.Bool.{eq-eqb, ne_eqb, cases_eq, cases_lt, cases_Bool, and_parts}
use Rattle.std.proofs.lemmas.List.{append_cancel_left}
use Rattle.values.specs.Order.{TotalOrder}
use Rattle.items.specs.Ascending.{leading, kept, ascends}
use Rattle.values.specs.Order.{by_number}
use Rattle.items.specs.Items.{item_order}
use Rattle.items.specs.declared.item.Item.{Item}
use Rattle.items.proofs.Orders.{by_answer, item-total}
use Rattle.std.proofs.lemmas.Bool.Decides.{nat_tests}
use Rattle.items.proofs.Ascending.{is-less, ascends-tail}
use Rattle.items.proofs.Kept.{kept_append}
use Rattle.indexed.specs.Links.{times, front, back}
use Rattle.indexed.specs.LinksLemmas.{times-same}

cases-le : (m n : ℕ) → (m ≤ n) ⊎ (n < m)
cases-le m n = ⊎_elim inr inl (cases_lt n m)

module _ {X : Type 0} {order : X → X → Ordering} (t : TotalOrder order) (f : ℕ → X) where
  module _ (x : X) (w : ℕ → Bool) where
    -- past the first that is not less, none is
    none-less : (a : ℕ) (js : List ℕ) → ascends order (map f (a ∷ js)) ≡ true → (order (f a) x ≡ Less → ⊥) → leading (λ j. order (f j) x) (kept w js) ≡ 0
    none-less a [] u n = refl
    none-less a (b ∷ js) u n =
        let v = and_parts _ _ u in
        let m : order (f b) x ≡ Less → ⊥ = λ e. n (t.carries (f a) (f b) x (is-less _ v.0) e) in
        ⊎_elim
        (λ (e : w b ≡ true). rw e (by_answer (order (f b) x) (λ g. absurd (m g)) (λ g. rw g) (λ g. rw g)))
        (λ (e : w b ≡ false). rw e (none-less b js v.1 m))
        (cases_Bool (w b))

    -- the front of what is kept is what is kept of the front
    pub front_kept : (js : List ℕ) → ascends order (map f js) ≡ true → front (λ j. order (f j) x) (kept w js) ≡ kept w (front (λ j. order (f j) x) js)
    front_kept [] u = refl
    front_kept (a ∷ js) u =
        let r = front_kept js (ascends-tail t (f a) (map f js) u) in
        let no : (order (f a) x ≡ Less → ⊥) → kept w (front (λ j. order (f j) x) (a ∷ js)) ≡ [] → front (λ j. order (f j) x) (kept w (a ∷ js)) ≡ kept w (front (λ j. order (f j) x) (a ∷ js)) =
        λ n e. sym (e ∙ sym (⊎_elim
        (λ (g : w a ≡ true). rw g (by_answer (order (f a) x) (λ h. absurd (n h)) (λ h. rw h) (λ h. rw h)))
        (λ (g : w a ≡ false). simp (g, none-less a js u n))
        (cases_Bool (w a)))) in
        by_answer (order (f a) x)
        (λ e. ⊎_elim (λ (g : w a ≡ true). simp (e, g, r)) (λ (g : w a ≡ false). simp (e, g, r)) (cases_Bool (w a)))
        (λ e. no (λ h. let z : Less ≡ Equal = sym h ∙ e in let o : ◌≡◌ {A = ℕ} 0 1 = cc in omega arith) (simp e))
        (λ e. no (λ h. let z : Less ≡ Greater = sym h ∙ e in let o : ◌≡◌ {A = ℕ} 0 1 = cc in omega arith) (simp e))

    pub back-kept : (js : List ℕ) → ascends order (map f js) ≡ true → back (λ j. order (f j) x) (kept w js) ≡ kept w (back (λ j. order (f j) x) js)
    back-kept js u =
        let p : ℕ → Ordering = λ j. order (f j) x in
        append_cancel_left (kept w (front p js)) _ _
        (ap (λ ys. ys ++ back p (kept w js)) (sym (front_kept js u)) ∙ take-append-drop _ _ ∙ ap (kept w) (sym (take-append-drop (leading p js) js)) ∙ kept_append w (front p js) (back p js))

-- the cells of m names from n on, name by name
abbrev pub collect : (ℕ → ℕ) → ℕ → ℕ → List ℕ → List ℕ
collect nm zero n js = []
collect nm (suc m) n js = kept (λ j. eqb (nm j) n) js ++ collect nm m (suc n) js

module _ (nm : ℕ → ℕ) where
  collect-none : (m n : ℕ) → collect nm m n [] ≡ []
  collect-none zero n = refl
  collect-none (suc m) n = collect-none m (suc n)

  collect-skip : (m n a : ℕ) (js : List ℕ) → nm a < n → collect nm m n (a ∷ js) ≡ collect nm m n js
  collect-skip zero n a js h = refl
  collect-skip (suc m) n a js h = simp (ne_eqb (nm a) n (omega arith), collect-skip m (suc n) a js (omega arith))

  collect-cons : (m n a : ℕ) (js : List ℕ) → n ≤ nm a → nm a < n + m → ((k : ℕ) → k < nm a → kept (λ j. eqb (nm j) k) js ≡ []) → collect nm m n (a ∷ js) ≡ a ∷ collect nm m n js
  collect-cons zero n a js h l e = absurd (omega arith)
  collect-cons (suc m) n a js h l e =
      ⊎_elim
      (λ (g : nm a ≡ n). simp (eq-eqb (nm a) n g, collect-skip m (suc n) a js (omega arith)))
      (λ g. simp (ne_eqb (nm a) n g, e n (omega arith), collect-cons m (suc n) a js (omega arith) (omega arith) e))
      (cases_eq (nm a) n)

  -- names that go up
  abbrev pub Upward : List ℕ → Type 0
  Upward [] = Unit {0}
  Upward (a ∷ js) = ((k : ℕ) → k < nm a → kept (λ j. eqb (nm j) k) js ≡ []) × Upward js

  pub collected : (m : ℕ) (js : List ℕ) → Upward js → ((j : ℕ) → 1 ≤ times j js → nm j < m) → collect nm m 0 js ≡ js
  collected m [] u s = collect-none m 0
  collected m (a ∷ js) u s =
      collect-cons m 0 a js (omega arith) (let h = s a (omega (arith, times-same a js)) in omega arith) u.0
      ∙ ap (λ l. a ∷ l) (collected m js u.1 (λ j h. s j (omega arith)))

module _ {V : Type 0} {order : V → V → Ordering} (t : TotalOrder order) (f : ℕ → Item V) where
  name-up : (x y : Item V) → item_order order x y ≡ Less → x.name ≤ y.name
  name-up x y e =
      ⊎_elim (λ h. h)
      (λ (h : y.name < x.name). let g : by_number x.name y.name ≡ Greater = grind (arith, nat_tests) in let z = simp g at e in let o : ◌≡◌ {A = ℕ} 0 1 = cc in absurd (omega arith))
      (cases-le x.name y.name)

  none_named : (a : ℕ) (js : List ℕ) → ascends (item_order order) (map f (a ∷ js)) ≡ true → (k : ℕ) → k < (f a).name → kept (λ j. eqb (f j).name k) js ≡ []
  none_named a [] u k h = refl
  none_named a (b ∷ js) u k h =
      let v = and_parts _ _ u in
      let l = name-up (f a) (f b) (is-less _ v.0) in
      simp (ne_eqb (f b).name k (omega arith), none_named b js v.1 k (omega arith))

  pub upward : (js : List ℕ) → ascends (item_order order) (map f js) ≡ true → Upward (λ j. (f j).name) js
  upward [] u = tt
  upward (a ∷ js) u = (none_named a js u, upward js (ascends-tail (item-total t) (f a) (map f js) u))
