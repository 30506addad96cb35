-- Filling a buffer piece by piece.
use Rattle.std.proofs.Common.{◌≡◌, ℕ, zero, suc, ◌+◌, ◌<◌, ◌≤◌, min, true, false, ltb, List, [], ◌∷◌, ◌++◌, length, take, drop, set, sym, refl, ap, ◌∙◌, ⊎_elim, arith}
use Rattle.std.proofs.lemmas.Bool.{cases_Bool, lt-ltb, ltb-false, ltb-true}
use Rattle.std.proofs.lemmas.List.{append_assoc, append-nil, length-append, length_push, length-set, set_at, set_past, take_all, take_at}
use Rattle.buffers.specs.Places.{capped, fill, last_place, place_after, places_after}

module _ {X : Type 0} where
  pub fill-append : (buffer : List X) (n : ℕ) (xs ys : List X) → fill buffer n (xs ++ ys) ≡ fill (fill buffer n xs) (places_after n xs) ys
  fill-append buffer n [] ys = refl
  fill-append buffer n (x ∷ xs) ys = fill-append (set buffer n x) (place_after n) xs ys

  pub after-append : (n : ℕ) (xs ys : List X) → places_after n (xs ++ ys) ≡ places_after (places_after n xs) ys
  after-append n [] ys = refl
  after-append n (x ∷ xs) ys = after-append (place_after n) xs ys

-- a buffer is being filled: putting in the rest gives what putting in all would have given
pub record Filling {X : Type 0} (buffer₀ : List X) (n₀ : ℕ) (all buffer : List X) (n : ℕ) (rest : List X) : Type 0 where
  pub places : fill buffer n rest ≡ fill buffer₀ n₀ all
  pub count : places_after n rest ≡ places_after n₀ all

pub filling-start : {X : Type 0} (buffer : List X) (n : ℕ) (all left : List X) → left ≡ all → Filling buffer n all buffer n left
filling-start buffer n all left e = record { places = ap (fill buffer n) e; count = ap (places_after n) e }

module _ {X : Type 0} {buffer₀ : List X} {n₀ : ℕ} {all buffer : List X} {n : ℕ} {left : List X} where
  pub filling-more : (ms rest buffer' : List X) (n' : ℕ) → Filling buffer₀ n₀ all buffer n left → left ≡ ms ++ rest → buffer' ≡ fill buffer n ms → n' ≡ places_after n ms → Filling buffer₀ n₀ all buffer' n' rest
  filling-more ms rest buffer' n' f l p k =
      record {
        places = rw (p, k) (sym (fill-append buffer n ms rest) ∙ ap (fill buffer n) (sym l) ∙ f.places);
        count = rw k (sym (after-append n ms rest) ∙ ap (places_after n) (sym l) ∙ f.count);
      }

  pub filled-all : Filling buffer₀ n₀ all buffer n left → left ≡ [] → buffer ≡ fill buffer₀ n₀ all
  filled-all f l = ap (fill buffer n) (sym l) ∙ f.places

  pub counted-all : Filling buffer₀ n₀ all buffer n left → left ≡ [] → n ≡ places_after n₀ all
  counted-all f l = ap (places_after n) (sym l) ∙ f.count

-- two pieces, one after the other
module _ {X : Type 0} (n m : ℕ) (xs ys : List X) (counted : m ≡ places_after n xs) where
  pub filled-both : (buffer between after : List X) → between ≡ fill buffer n xs → after ≡ fill between m ys → after ≡ fill buffer n (xs ++ ys)
  filled-both buffer between after e h = h ∙ rw (e, counted) (sym (fill-append buffer n xs ys))

  pub counted-both : (k : ℕ) → k ≡ places_after m ys → k ≡ places_after n (xs ++ ys)
  counted-both k h = h ∙ rw counted (sym (after-append n xs ys))

-- the places after some elements, as a number
after_is : {X : Type 0} (n : ℕ) (xs : List X) → n ≤ last_place → places_after n xs ≡ min (n + length xs) last_place
after_is n [] h = omega arith
after_is n (x ∷ xs) h =
    ⊎_elim
    (λ (e : ltb n last_place ≡ true). let l = ltb-true n last_place e in rw e (after_is (n + 1) xs (omega arith) ∙ ap (λ k. min k last_place) (omega arith)))
    (λ (e : ltb n last_place ≡ false). let l = ltb-false n last_place e in rw e (after_is n xs h ∙ omega arith))
    (cases_Bool (ltb n last_place))

pub counted : {X : Type 0} (xs : List X) → places_after 0 xs ≡ capped (length xs)
counted xs = after_is 0 xs (omega arith) ∙ ap (λ k. min k last_place) (omega arith)

-- within the buffer, one place comes after the other
next_place : (n : ℕ) → n < last_place → place_after n ≡ n + 1
next_place n h = rw (lt-ltb n last_place h)

still-past : (n k : ℕ) → k ≤ n → k ≤ place_after n
still-past n k h = ⊎_elim (λ (e : ltb n last_place ≡ true). rw e (omega arith)) (λ (e : ltb n last_place ≡ false). rw e h) (cases_Bool (ltb n last_place))

module _ {X : Type 0} where
  pub length-fill : (buffer : List X) (n : ℕ) (xs : List X) → length (fill buffer n xs) ≡ length buffer
  length-fill buffer n [] = refl
  length-fill buffer n (x ∷ xs) = length-fill (set buffer n x) (place_after n) xs ∙ length-set buffer n x

  fill-past : (buffer : List X) (n : ℕ) (xs : List X) → length buffer ≤ n → fill buffer n xs ≡ buffer
  fill-past buffer n [] h = refl
  fill-past buffer n (x ∷ xs) h = rw (set_past buffer n x h) (fill-past buffer (place_after n) xs (still-past n (length buffer) h))

  take_none : (n : ℕ) → take {A = X} n [] ≡ []
  take_none zero = refl
  take_none (suc n) = refl

  fill-from : (xs buffer front : List X) → length (front ++ buffer) ≤ last_place → fill (front ++ buffer) (length front) xs ≡ front ++ (take (length buffer) xs ++ drop (length xs) buffer)
  fill-from [] buffer front h = rw (take_none (length buffer))
  fill-from (x ∷ xs) [] front h = fill-past (front ++ []) (length front) (x ∷ xs) (simp append-nil (omega arith))
  fill-from (x ∷ xs) (b ∷ buffer) front h =
      let k = length-append front (b ∷ buffer) in
      let m = next_place (length front) (omega arith) in
      let l : length ((front ++ x ∷ []) ++ buffer) ≤ last_place = omega (arith, length-append (front ++ x ∷ []) buffer, length_push front x) in
      rw (set_at front b buffer x (length front) refl, m)
      (ap (λ z. fill z (length front + 1) xs) (sym (append_assoc front (x ∷ []) buffer))
      ∙ ap (λ i. fill ((front ++ x ∷ []) ++ buffer) i xs) (sym (length_push front x))
      ∙ fill-from xs buffer (front ++ x ∷ []) l
      ∙ append_assoc front (x ∷ []) _)

  -- filled from the front, a buffer holds what was put in as far as it reaches, and its other places are as they were
  pub fill-front : (buffer xs : List X) → length buffer ≤ last_place → fill buffer 0 xs ≡ take (length buffer) xs ++ drop (length xs) buffer
  fill-front buffer xs h = fill-from xs buffer [] h

  -- where all fits, the front of the buffer is what was put in
  pub filled-front : (buffer xs : List X) → length buffer ≤ last_place → length xs ≤ length buffer → take (length xs) (fill buffer 0 xs) ≡ xs
  filled-front buffer xs l h = ap (take (length xs)) (fill-front buffer xs l ∙ ap (λ zs. zs ++ drop (length xs) buffer) (take_all (length buffer) xs h)) ∙ take_at xs (drop (length xs) buffer) (length xs) refl

  -- so it is where the number that was counted fits the buffer
  pub counted-front : (buffer xs : List X) → length buffer < last_place → capped (length xs) ≤ length buffer → take (capped (length xs)) (fill buffer 0 xs) ≡ xs
  counted-front buffer xs l h =
      let k : length xs ≤ length buffer = omega arith in
      let e : capped (length xs) ≡ length xs = omega arith in
      ap (λ n. take n (fill buffer 0 xs)) e ∙ filled-front buffer xs (omega arith) k
