-- The items of an ascending list, name by name.
use Rattle.std.proofs.Common.{◌≡◌, ℕ, ◌+◌, ◌<◌, ◌≤◌, true, List, [], ◌∷◌, ◌++◌, Ordering, refl, ap, ◌∙◌, inl, inr, arith}
use Rattle.std.proofs.lemmas.Bool.{and_parts, both_ways, cases_order, eq-eqb, le-leb, le-ltb, lt-leb, ne_eqb}
use Rattle.std.specs.Ordering.{is_lt, ordering_then}
use Rattle.values.specs.Order.{by_number}
use Rattle.items.specs.Ascending.{ascends, kept}
use Rattle.items.specs.Items.{ByteNames, from_name, item_order, named}
use Rattle.items.specs.declared.item.Item.{Item}
use Rattle.items.proofs.Kept.{kept-all}

never : (m n : ℕ) (o : Ordering) → n < m → is_lt (ordering_then (by_number m n) o) ≡ true → ⊥
never m n o g h = both_ways (is_lt (ordering_then (by_number m n) o)) (simp (le-ltb m n (omega arith), ne_eqb m n (λ e. omega arith))) h

number-before : (m n : ℕ) (o : Ordering) → is_lt (ordering_then (by_number m n) o) ≡ true → m ≤ n
number-before m n o h =
    elim (cases_order m n) [
      | inl e ↦ omega arith
      | inr u ↦ elim u [
        | inl l ↦ omega arith
        | inr g ↦ absurd (never m n o g h)
      ]
    ]

module _ {V : Type 0} (order : V → V → Ordering) where
  -- past a greater name, there is no item of the name
  above-named : (k : ℕ) (x : Item V) (xs : List (Item V)) → k < x.name → ascends (item_order order) (x ∷ xs) ≡ true → kept (named k) xs ≡ []
  above-named k x [] l a = refl
  above-named k x (y ∷ ys) l a =
      let b = and_parts _ _ a in
      let m = number-before x.name y.name _ b.0 in
      rw (ne_eqb y.name k (λ e. omega arith)) (above-named k y ys (omega arith) b.1)

  -- the items from a name on: those of the name first
  pub names_more : (k : ℕ) (xs : List (Item V)) → ascends (item_order order) xs ≡ true → kept (from_name k) xs ≡ kept (named k) xs ++ kept (from_name (k + 1)) xs
  names_more k [] a = refl
  names_more k (x ∷ xs) a =
      let r = names_more k xs (and_parts _ _ a).1 in
      elim (cases_order x.name k) [
        | inl e ↦ simp (eq-eqb x.name k e, le-leb k x.name (omega arith), lt-leb (k + 1) x.name (omega arith)) (ap (λ zs. x ∷ zs) r)
        | inr u ↦ elim u [
          | inl l ↦ simp (ne_eqb x.name k (λ e. omega arith), lt-leb k x.name (omega arith), lt-leb (k + 1) x.name (omega arith)) r
          | inr g ↦
              let z = above-named k x xs g a in
              simp (ne_eqb x.name k (λ e. omega arith), le-leb k x.name (omega arith), le-leb (k + 1) x.name (omega arith), z)
              (ap (λ zs. x ∷ zs) (r ∙ ap (λ zs. zs ++ kept (from_name (k + 1)) xs) z))
        ]
      ]

-- all items are of the name 0 or a later one
pub names-start : {V : Type 0} (xs : List (Item V)) → kept (from_name 0) xs ≡ xs
names-start xs = kept-all (from_name 0) (λ x. le-leb 0 x.name (omega arith)) xs

-- where names are bytes, no item is behind the name 255
pub names-end : {V : Type 0} (k : ℕ) (xs : List (Item V)) → 256 ≤ k → ByteNames xs → kept (from_name k) xs ≡ []
names-end k [] l h = refl
names-end k (x ∷ xs) l h = rw (lt-leb k x.name (let b = h.0 in omega arith)) (names-end k xs l h.1)
