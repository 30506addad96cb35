-- What is listed, name by name.
use Rattle.std.proofs.Common.{◌≡◌, ℕ, ◌+◌, ◌<◌, ◌≤◌, Bool, true, false, ◌&&◌, List, [], ◌∷◌, ◌++◌, map, length, take, drop, Some, None, Option, Ordering, sym, refl, ap, ◌∙◌, ⊎_elim, arith}
use Rattle.std.proofs.lemmas.List.{map-append, length-take, drop_all}
use Rattle.std.proofs.lemmas.Bool.{cases_Bool, cases_lt, eqb-true}
use Rattle.values.specs.Form.{filled}
use Rattle.values.specs.Order.{TotalOrder}
use Rattle.items.specs.Ascending.{ascends, kept}
use Rattle.items.specs.Items.{ByteNames, from_name, item_order, named, next_of, wanted}
use Rattle.items.specs.declared.item.Item.{Item}
use Rattle.items.proofs.Kept.{kept_append, kept_same}
use Rattle.items.proofs.Names.{names-end, names_more, names-start}
use Rattle.items.proofs.Next.{kept-none, rest_more}
use Rattle.listing.specs.Listed.{listed_named, listed_of}

-- without a first value and an item before, the items of a name are wanted
pub wanted-named : {V : Type 0} (order : V → V → Ordering) (n : ℕ) (xs : List (Item V)) → kept (wanted order n None None) xs ≡ kept (named n) xs
wanted-named order n xs = kept_same (wanted order n None None) (named n) (λ x. with-true (named n x)) xs
  where
    with-true : (b : Bool) → (b && (true && true)) ≡ b
    with-true true = refl
    with-true false = refl

module _ {V X : Type 0} (takes : ℕ → Bool) (shows : Item V → X) where
  listed-append : (xs ys : List (Item V)) → listed_of takes shows (xs ++ ys) ≡ listed_of takes shows xs ++ listed_of takes shows ys
  listed-append xs ys = ap (map shows) (kept_append (λ (x : Item V). takes x.name) xs ys) ∙ map-append shows (kept (λ (x : Item V). takes x.name) xs) (kept (λ (x : Item V). takes x.name) ys)

  -- of the items of one name, all are listed or none
  listed-named : (n : ℕ) (xs : List (Item V)) → listed_of takes shows (kept (named n) xs) ≡ listed_named takes shows n xs
  listed-named n xs =
      ⊎_elim (λ (e : takes n ≡ true). rw e (ap (map shows) (all e xs))) (λ (e : takes n ≡ false). rw e (ap (map shows) (none e xs))) (cases_Bool (takes n))
    where
      all : takes n ≡ true → (ys : List (Item V)) → kept (λ (x : Item V). takes x.name) (kept (named n) ys) ≡ kept (named n) ys
      all e [] = refl
      all e (y ∷ ys) =
          ⊎_elim
          (λ (h : named n y ≡ true). let k : takes y.name ≡ true = ap takes (eqb-true y.name n h) ∙ e in rw h (rw k (ap (λ l. y ∷ l) (all e ys))))
          (λ (h : named n y ≡ false). rw h (all e ys))
          (cases_Bool (named n y))

      none : takes n ≡ false → (ys : List (Item V)) → kept (λ (x : Item V). takes x.name) (kept (named n) ys) ≡ []
      none e [] = refl
      none e (y ∷ ys) =
          ⊎_elim
          (λ (h : named n y ≡ true). let k : takes y.name ≡ false = ap takes (eqb-true y.name n h) ∙ e in rw h (rw k (none e ys)))
          (λ (h : named n y ≡ false). rw h (none e ys))
          (cases_Bool (named n y))

  pub listed_start : (xs : List (Item V)) → listed_of takes shows (kept (from_name 0) xs) ≡ listed_of takes shows xs
  listed_start xs = ap (listed_of takes shows) (names-start xs)

  -- what is listed from a name on: what is listed of the name first
  pub listed_more : (order : V → V → Ordering) (k : ℕ) (xs : List (Item V)) → ascends (item_order order) xs ≡ true → listed_of takes shows (kept (from_name k) xs) ≡ listed_named takes shows k xs ++ listed_of takes shows (kept (from_name (k + 1)) xs)
  listed_more order k xs a =
      ap (listed_of takes shows) (names_more order k xs a)
      ∙ listed-append (kept (named k) xs) (kept (from_name (k + 1)) xs)
      ∙ ap (λ l. l ++ listed_of takes shows (kept (from_name (k + 1)) xs)) (listed-named k xs)

  pub listed-end : (k : ℕ) (xs : List (Item V)) → 256 ≤ k → ByteNames xs → listed_of takes shows (kept (from_name k) xs) ≡ []
  listed-end k xs l b = ap (listed_of takes shows) (names-end k xs l b)

-- all items as they are
pub listed-all : {V : Type 0} (xs : List (Item V)) → listed_of (λ n. true) (λ (x : Item V). x) xs ≡ xs
listed-all [] = refl
listed-all (x ∷ xs) = ap (λ l. x ∷ l) (listed-all xs)

-- what is shown of the items still to come
module _ {V X : Type 0} {order : V → V → Ordering} (t : TotalOrder order) (shows : Item V → X) (n : ℕ) (above : Option (Item V)) (xs : List (Item V)) where
  pub shown-more : ascends (item_order order) xs ≡ true → (y : Item V) → Some y ≡ next_of order n None above xs → map shows (kept (wanted order n None above) xs) ≡ (shows y ∷ []) ++ map shows (kept (wanted order n None (Some y)) xs)
  shown-more a y e = ap (map shows) (rest_more t n None above xs a y (sym e))

  pub shown-end : None ≡ next_of order n None above xs → map shows (kept (wanted order n None above) xs) ≡ []
  shown-end e = ap (map shows) (kept-none (wanted order n None above) xs (sym e))

-- a buffer that is filled as far as it reaches
pub filled-reach : {X : Type 0} (xs buffer : List X) → take (length buffer) xs ++ drop (length xs) buffer ≡ filled (take (length buffer) xs) buffer
filled-reach xs buffer =
    let k = length-take (length buffer) xs in
    ap (λ l. take (length buffer) xs ++ l)
    (⊎_elim
    (λ (h : length xs < length buffer). ap (λ n. drop n buffer) (omega arith))
    (λ (h : length buffer ≤ length xs). drop_all (length xs) buffer h ∙ sym (drop_all (length (take (length buffer) xs)) buffer (omega arith)))
    (cases_lt (length xs) (length buffer)))
