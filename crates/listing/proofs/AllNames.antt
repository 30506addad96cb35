-- All names, one after another: a name is a byte.
use Rattle.std.proofs.Common.{◌≡◌, ℕ, suc, zero, ◌+◌, ◌-◌, Bool, true, false, ◌&&◌, List, ◌∷◌, length, Some, None, Option, Ordering, sym, refl, ap, subst, ◌∙◌, arith}
use Rattle.std.specs.List.{list_all, range_with_len}
use Rattle.std.specs.Range.{range_inclusive_end, range_inclusive_exhausted, range_inclusive_left, range_inclusive_start, range_inclusive_steps}
use Rattle.std.specs.declared.ops.RangeInclusive.{RangeInclusive}
use Rattle.std.proofs.lemmas.Iterator.{YieldsList}
use Rattle.std.proofs.lemmas.List.Folds.{list_all-append}
use Rattle.std.proofs.lemmas.Iterator.Consumers.{YieldsList-from_shown}
use Rattle.items.specs.Ascending.{ascends, held, kept}
use Rattle.items.specs.Items.{ByteNames, from_name, item_order, named}
use Rattle.items.specs.declared.item.Item.{Item}
use Rattle.items.proofs.Names.{names-end, names_more, names-start}
use Rattle.listing.specs.Listed.{all_held}

-- how many names there are
unfoldable pub many : ℕ
many = 256

many-is : many ≡ 256
unfolding many
many-is = refl

-- what a range has left
abbrev pub number_steps : RangeInclusive ℕ → Option ℕ → RangeInclusive ℕ → Type 0
number_steps = range_inclusive_steps (λ x y. y - x) (λ x y. y ≡ x + 1)

abbrev span : RangeInclusive ℕ → ℕ
span = range_inclusive_left (λ x y. y - x)

abbrev shown : RangeInclusive ℕ → List ℕ
shown s = range_with_len (range_inclusive_start s) (span s)

rest-shown : (a b e : ℕ) (d : Bool) → (d ≡ false → b ≡ a + 1) → (t : RangeInclusive ℕ) → range_inclusive_start t ≡ b → range_inclusive_exhausted t ≡ d → range_with_len (a + 1) (span t) ≡ shown t
rest-shown a b e true f t i h = rw h refl
rest-shown a b e false f t i h = ap (λ n. range_with_len n (span t)) (sym (f refl) ∙ sym i)

next-shown : (s : RangeInclusive ℕ) (x : ℕ) (t : RangeInclusive ℕ) → number_steps s (Some x) t → shown s ≡ x ∷ shown t
next-shown s x t p =
    let left : span s ≡ suc (span t) = omega (arith, p.1.1) in
    ap (range_with_len (range_inclusive_start s)) left
    ∙ ap (λ l. range_inclusive_start s ∷ l) (rest-shown (range_inclusive_start s) (range_inclusive_start t) 0 (range_inclusive_exhausted t) p.1.2 t refl refl)
    ∙ ap (λ y. y ∷ shown t) (sym p.1.0)

none-left : (s t : RangeInclusive ℕ) → number_steps s None t → length (shown s) ≡ 0
none-left s t p = ap (λ n. length (range_with_len (range_inclusive_start s) n)) p.1.0

pub yields-names : {s : RangeInclusive ℕ} → range_inclusive_start s ≡ 0 → range_inclusive_end s ≡ 255 → range_inclusive_exhausted s ≡ false → YieldsList number_steps (λ x. x) s (range_with_len 0 many)
yields-names {s} a b d =
    let n : span s ≡ many = rw (a, b, d) (sym many-is) in
    subst (YieldsList number_steps (λ x. x) s) (ap (λ k. range_with_len k (span s)) a ∙ ap (range_with_len 0) n) (YieldsList-from_shown number_steps (λ x. x) shown none-left next-shown s)

module _ {V : Type 0} (order : V → V → Ordering) (xs ys : List (Item V)) (asc : ascends (item_order order) xs ≡ true) (bytes : ByteNames xs) where
  -- the items of a name are held
  abbrev pub held_named : ℕ → Bool
  held_named k = all_held (item_order order) (kept (named k) xs) ys

  held-from : (n k : ℕ) → n + k ≡ 256 → list_all held_named (range_with_len k n) ≡ all_held (item_order order) (kept (from_name k) xs) ys
  held-from zero k e = sym (ap (λ l. all_held (item_order order) l ys) (names-end k xs (omega (arith, e)) bytes))
  held-from (suc n) k e =
      ap (λ b. held_named k && b) (held-from n (k + 1) (omega (arith, e)))
      ∙ sym (ap (λ l. all_held (item_order order) l ys) (names_more order k xs asc) ∙ list_all-append (λ x. held (item_order order) x ys) (kept (named k) xs) (kept (from_name (k + 1)) xs))

  -- all are held if those of each name are
  pub held-names : list_all held_named (range_with_len 0 many) ≡ all_held (item_order order) xs ys
  held-names = held-from many 0 (omega (arith, many-is)) ∙ ap (λ l. all_held (item_order order) l ys) (names-start xs)
