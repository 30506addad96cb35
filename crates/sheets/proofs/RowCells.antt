-- The cells of a row, judged one after another.
use Rattle.std.proofs.Common.{◌≡◌, ℕ, ◌+◌, ◌-◌, ◌<◌, ◌≤◌, Bool, true, false, ◌&&◌, List, [], ◌∷◌, ◌++◌, length, get_or, take, drop, Some, None, Option, sym, refl, ap, ◌∙◌}
use native.Mathlib.Nat.{sub-zero}
use Rattle.std.proofs.lemmas.List.{append-nil, flat_map_more, drop_all, drop_more, take_more}
use Rattle.std.specs.Option.{option_to_list}
use Rattle.sheets.specs.declared.tables.Cell.{Cell}
use Rattle.sheets.specs.Sound.{sound_cell, sound_cells}
use Rattle.sheets.specs.Words.{every, present}

-- one place more
module _ (n p : ℕ) where
  place-next : (earlier : List Cell) (o : Option Cell) (os : List (Option Cell)) → sound_cells n p earlier (present (o ∷ os)) ≡ (every (sound_cell n p earlier) (option_to_list o) && sound_cells n p (earlier ++ option_to_list o) (present os))
  place-next earlier None os = ap (λ l. sound_cells n p l (present os)) (sym (append-nil earlier))
  place-next earlier (Some c) os = by (sound_cell n p earlier c)
    where
      by : (b : Bool) → (b && sound_cells n p (earlier ++ (c ∷ [])) (present os)) ≡ ((b && true) && sound_cells n p (earlier ++ (c ∷ [])) (present os))
      by true = refl
      by false = refl

  -- i places are judged, and o stands at the next
  module _ (os : List (Option Cell)) (i : ℕ) (h : i < length os) (so_far : sound_cells n p [] (present os) ≡ sound_cells n p (present (take i os)) (present (drop i os))) where
    abbrev o : Option Cell
    o = get_or os i None

    next-cell : sound_cells n p [] (present os) ≡ (every (sound_cell n p (present (take i os))) (option_to_list o) && sound_cells n p (present (take (i + 1) os)) (present (drop (i + 1) os)))
    next-cell =
        let front : present (take (i + 1) os) ≡ present (take i os) ++ option_to_list o = ap present (take_more os i None h) ∙ sym (flat_map_more option_to_list [] (take i os) o) in
        so_far
        ∙ ap (λ l. sound_cells n p (present (take i os)) (present l)) (drop_more os i None h)
        ∙ place-next (present (take i os)) o (drop (i + 1) os)
        ∙ ap (λ l. every (sound_cell n p (present (take i os))) (option_to_list o) && sound_cells n p l (present (drop (i + 1) os))) (sym front)

    -- what was judged is the part of the cells from 0 to i
    judged : (b : Bool) → b ≡ every (sound_cell n p (present (take (i - 0) os))) (option_to_list o) → b ≡ every (sound_cell n p (present (take i os))) (option_to_list o)
    judged b e = let z : i - 0 ≡ i = sub-zero i in e ∙ ap (λ k. every (sound_cell n p (present (take k os))) (option_to_list o)) z

    pub cell-fails : false ≡ every (sound_cell n p (present (take (i - 0) os))) (option_to_list o) → false ≡ sound_cells n p [] (present os)
    cell-fails e = sym (next-cell ∙ ap (λ b. b && sound_cells n p (present (take (i + 1) os)) (present (drop (i + 1) os))) (sym (judged false e)))

    pub cell-more : true ≡ every (sound_cell n p (present (take (i - 0) os))) (option_to_list o) → sound_cells n p [] (present os) ≡ sound_cells n p (present (take (i + 1) os)) (present (drop (i + 1) os))
    cell-more e = next-cell ∙ ap (λ b. b && sound_cells n p (present (take (i + 1) os)) (present (drop (i + 1) os))) (sym (judged true e))

  pub cells-all : (os : List (Option Cell)) (i : ℕ) → sound_cells n p [] (present os) ≡ sound_cells n p (present (take i os)) (present (drop i os)) → length os ≤ i → true ≡ sound_cells n p [] (present os)
  cells-all os i so_far h = sym (so_far ∙ ap (λ l. sound_cells n p (present (take i os)) (present l)) (drop_all i os h))
