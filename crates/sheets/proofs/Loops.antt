-- Tables judged entry by entry, and what a loop over entries that may be absent keeps.
use Rattle.std.proofs.Common.{◌≡◌, ℕ, suc, ◌+◌, ◌<◌, ◌≤◌, Bool, true, false, cond, not, ◌&&◌, ◌||◌, List, [], ◌∷◌, length, get_or, drop, is_some, Some, None, Option, sym, refl, ap, ◌∙◌, ⊎_elim, arith}
use Rattle.std.proofs.lemmas.Bool.{cases_lt, le-ltb, lt-ltb}
use Rattle.std.proofs.lemmas.List.{at_drop_all, drop_more}
use Rattle.std.proofs.lemmas.List.Folds.{list_all-append}
use Rattle.std.specs.Prelude.{nat_lt}
use Rattle.std.specs.List.{position_or_len}
use Rattle.std.specs.Option.{option_to_list}
use Rattle.sheets.specs.Words.{every, first_failing, present, some}

-- the first that fails stands within the list where not every one passes
within : {X : Type 0} (p : X → Bool) (xs : List X) → nat_lt (position_or_len (λ x. not (p x)) xs) (length xs) ≡ not (every p xs)
within p [] = refl
within p (x ∷ xs) = by (p x) (within p xs)
  where
    n : ℕ
    n = position_or_len (λ y. not (p y)) xs

    by : (b : Bool) → nat_lt n (length xs) ≡ not (every p xs) → nat_lt (cond (not (not b)) (1 + n) 0) (suc (length xs)) ≡ not (b && every p xs)
    by true e =
        ⊎_elim
        (λ (h : n < length xs). lt-ltb (1 + n) (suc (length xs)) (omega (arith, h)) ∙ sym (lt-ltb n (length xs) h) ∙ e)
        (λ (h : length xs ≤ n). le-ltb (1 + n) (suc (length xs)) (omega (arith, h)) ∙ sym (le-ltb n (length xs) h) ∙ e)
        (cases_lt n (length xs))
    by false e = lt-ltb 0 (suc (length xs)) (omega arith)

-- every entry passes where none fails
pub every-passes : {X : Type 0} (p : X → Bool) (xs : List X) → not (is_some (first_failing p xs)) ≡ every p xs
every-passes p xs = told (nat_lt (position_or_len (λ x. not (p x)) xs) (length xs)) (every p xs) (within p xs)
  where
    told : (b e : Bool) → b ≡ not e → not (is_some (cond b (Some (position_or_len (λ x. not (p x)) xs)) None)) ≡ e
    told b true h = ap (λ c. not (is_some (cond c (Some (position_or_len (λ x. not (p x)) xs)) None))) h
    told b false h = ap (λ c. not (is_some (cond c (Some (position_or_len (λ x. not (p x)) xs)) None))) h

-- one at least passes where not every one fails to
pub some-not-every : {X : Type 0} (p : X → Bool) (xs : List X) → not (every (λ x. not (p x)) xs) ≡ some p xs
some-not-every p [] = refl
some-not-every p (x ∷ xs) = by (p x) (some-not-every p xs)
  where
    by : (b : Bool) → not (every (λ x. not (p x)) xs) ≡ some p xs → not (not b && every (λ x. not (p x)) xs) ≡ (b || some p xs)
    by true e = refl
    by false e = e

module _ {X : Type 0} (p : X → Bool) where
  -- i entries are judged, and o is next
  module _ (os : List (Option X)) (i : ℕ) (o : Option X) (h : i < length os) (is : o ≡ get_or os i o) where
    every-next : every p (present (drop i os)) ≡ (every p (option_to_list o) && every p (present (drop (i + 1) os)))
    every-next =
        ap (λ l. every p (present l)) (drop_more os i o h ∙ ap (λ y. y ∷ drop (i + 1) os) (sym is))
        ∙ list_all-append p (option_to_list o) (present (drop (i + 1) os))

    module _ (so_far : every p (present os) ≡ every p (present (drop i os))) where
      pub each-fails : false ≡ every p (option_to_list o) → false ≡ every p (present os)
      each-fails e = sym (so_far ∙ every-next ∙ ap (λ b. b && every p (present (drop (i + 1) os))) (sym e))

      pub each_more : true ≡ every p (option_to_list o) → every p (present os) ≡ every p (present (drop (i + 1) os))
      each_more e = so_far ∙ every-next ∙ ap (λ b. b && every p (present (drop (i + 1) os))) (sym e)

  pub each_all : (os : List (Option X)) (i : ℕ) → every p (present os) ≡ every p (present (drop i os)) → length os ≤ i → true ≡ every p (present os)
  each_all os i so_far h = sym (so_far ∙ at_drop_all (λ l. every p (present l)) os i h)
