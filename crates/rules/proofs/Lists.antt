-- What the proofs use of the words on lists.
use Rattle.std.proofs.Common.{◌≡◌, ℕ, zero, suc, ◌+◌, ◌<◌, Bool, true, false, cond, ◌&&◌, ◌⊎◌, List, [], ◌∷◌, ◌++◌, length, get_or, sym, refl, ap, ◌∙◌, subst, ap₂, inl, inr, append_assoc, arith}
use Rattle.std.specs.List.{flat_map, AllByRecursion}
use Rattle.std.proofs.lemmas.Bool.{true≢false, false≢true, and_parts}
use Rattle.std.proofs.ByRecursion.{All-append}
use Rattle.items.specs.Ascending.{kept}
use Rattle.sheets.specs.Words.{every, some}
use Rattle.rules.specs.Step.{how_many}

-- x stands in the list
abbrev pub In : {X : Type 0} → X → List X → Type 0
In x [] = ⊥
In x (y ∷ ys) = (y ≡ x) ⊎ In x ys

-- how many pass, one after the other
abbrev pub counting : {X : Type 0} → (X → Bool) → List X → ℕ
counting p [] = 0
counting p (x ∷ xs) = cond (p x) 1 0 + counting p xs

pub count-is : {X : Type 0} (p : X → Bool) (xs : List X) → how_many p xs ≡ counting p xs
count-is p [] = refl
count-is p (x ∷ xs) = go (p x) refl (count-is p xs)
  where
    go : (b : Bool) → p x ≡ b → how_many p xs ≡ counting p xs → how_many p (x ∷ xs) ≡ cond (p x) 1 0 + counting p xs
    go true e ih = rw e (omega arith)
    go false e ih = rw e (omega arith)

-- a test that each passes, or that some pass
module _ {X : Type 0} where
  pub every-all : (p : X → Bool) (xs : List X) → every p xs ≡ true → AllByRecursion (λ x. p x ≡ true) xs
  every-all p [] h = tt
  every-all p (x ∷ xs) h = let q = and_parts (p x) (every p xs) h in (q.0, every-all p xs q.1)

  pub some_in : (p : X → Bool) (xs : List X) → some p xs ≡ true → (x : X) × In x xs × (p x ≡ true)
  some_in p [] h = absurd (false≢true h)
  some_in p (x ∷ xs) h = go (p x) refl (some_in p xs)
    where
      go : (b : Bool) → p x ≡ b → (some p xs ≡ true → (y : X) × In y xs × (p y ≡ true)) → (y : X) × In y (x ∷ xs) × (p y ≡ true)
      go true e later = (x, inl refl, e)
      go false e later = let r = later (rw e at h) in (r.0, inr r.1, r.2)

  pub all-kept : (p : X → Bool) (P : X → Type 0) (xs : List X) → AllByRecursion P xs → AllByRecursion P (kept p xs)
  all-kept p P [] h = tt
  all-kept p P (x ∷ xs) h = go (p x) refl (all-kept p P xs h.1)
    where
      go : (b : Bool) → p x ≡ b → AllByRecursion P (kept p xs) → AllByRecursion P (kept p (x ∷ xs))
      go true e ih = rw e (h.0, ih)
      go false e ih = rw e ih

module _ {X : Type 0} where
  pub in_all : (P : X → Type 0) (x : X) (xs : List X) → AllByRecursion P xs → In x xs → P x
  in_all P x [] h i = absurd i
  in_all P x (y ∷ ys) h (inl e) = subst P e h.0
  in_all P x (y ∷ ys) h (inr i) = in_all P x ys h.1 i

  pub all-each : (P : X → Type 0) → ((x : X) → P x) → (xs : List X) → AllByRecursion P xs
  all-each P f [] = tt
  all-each P f (x ∷ xs) = (f x, all-each P f xs)

  pub all-from-in : (P : X → Type 0) (xs : List X) → ((x : X) → In x xs → P x) → AllByRecursion P xs
  all-from-in P [] f = tt
  all-from-in P (x ∷ xs) f = (f x (inl refl), all-from-in P xs (λ y i. f y (inr i)))

  -- a list's entry or the default
  pub all-at : (P : X → Type 0) (xs : List X) (d : X) → AllByRecursion P xs → P d → (i : ℕ) → P (get_or xs i d)
  all-at P [] d h p i = p
  all-at P (x ∷ xs) d h p zero = h.0
  all-at P (x ∷ xs) d h p (suc i) = all-at P xs d h.1 p i

  pub all-below : (P : X → Type 0) (xs : List X) (d : X) → AllByRecursion P xs → (i : ℕ) → i < length xs → P (get_or xs i d)
  all-below P [] d h i l = absurd (omega arith)
  all-below P (x ∷ xs) d h zero l = h.0
  all-below P (x ∷ xs) d h (suc i) l = all-below P xs d h.1 i (omega arith)

  pub every_in : (p : X → Bool) (x : X) (xs : List X) → every p xs ≡ true → In x xs → p x ≡ true
  every_in p x [] h i = absurd i
  every_in p x (y ∷ ys) h (inl e) = subst (λ z. p z ≡ true) e (and_parts (p y) (every p ys) h).0
  every_in p x (y ∷ ys) h (inr i) = every_in p x ys (and_parts (p y) (every p ys) h).1 i

  pub every-alike : (p q : X → Bool) (xs : List X) → AllByRecursion (λ x. p x ≡ q x) xs → every p xs ≡ every q xs
  every-alike p q [] h = refl
  every-alike p q (x ∷ xs) h = ap₂ ◌&&◌ h.0 (every-alike p q xs h.1)

  pub kept-alike : (p q : X → Bool) (xs : List X) → AllByRecursion (λ x. p x ≡ q x) xs → kept p xs ≡ kept q xs
  kept-alike p q [] h = refl
  kept-alike p q (x ∷ xs) h = rw (h.0, kept-alike p q xs h.1)

  pub kept-all : (p : X → Bool) (xs : List X) → AllByRecursion (λ x. p x ≡ true) xs → kept p xs ≡ xs
  kept-all p [] h = refl
  kept-all p (x ∷ xs) h = rw h.0 (ap (λ r. x ∷ r) (kept-all p xs h.1))

  pub kept-none : (p : X → Bool) (xs : List X) → AllByRecursion (λ x. p x ≡ false) xs → kept p xs ≡ []
  kept-none p [] h = refl
  kept-none p (x ∷ xs) h = rw h.0 (kept-none p xs h.1)

  pub kept-swap : (p q : X → Bool) (xs : List X) → kept p (kept q xs) ≡ kept q (kept p xs)
  kept-swap p q [] = refl
  kept-swap p q (x ∷ xs) = go (p x) (q x) refl refl (kept-swap p q xs)
    where
      go : (b c : Bool) → p x ≡ b → q x ≡ c → kept p (kept q xs) ≡ kept q (kept p xs) → kept p (kept q (x ∷ xs)) ≡ kept q (kept p (x ∷ xs))
      go true true e f ih = rw (e, f) (rw e (ap (λ r. x ∷ r) ih))
      go true false e f ih = rw (e, f) ih
      go false true e f ih = rw (e, f) (rw e ih)
      go false false e f ih = rw (e, f) ih

  -- where all that pass q pass r, dropping the others changes no question of q
  pub some-kept : (q r : X → Bool) (xs : List X) → ((x : X) → q x ≡ true → r x ≡ true) → some q xs ≡ some q (kept r xs)
  some-kept q r [] h = refl
  some-kept q r (x ∷ xs) h = go (q x) (r x) refl refl (some-kept q r xs h)
    where
      go : (b c : Bool) → q x ≡ b → r x ≡ c → some q xs ≡ some q (kept r xs) → some q (x ∷ xs) ≡ some q (kept r (x ∷ xs))
      go true true e f ih = rw (e, f) (rw e)
      go true false e f ih = absurd (true≢false (sym (h x e) ∙ f))
      go false true e f ih = rw (e, f) (rw e ih)
      go false false e f ih = rw (e, f) ih

  pub kept-passing : (p : X → Bool) (xs : List X) → AllByRecursion (λ x. p x ≡ true) (kept p xs)
  kept-passing p [] = tt
  kept-passing p (x ∷ xs) = go (p x) refl (kept-passing p xs)
    where
      go : (b : Bool) → p x ≡ b → AllByRecursion (λ y. p y ≡ true) (kept p xs) → AllByRecursion (λ y. p y ≡ true) (kept p (x ∷ xs))
      go true e ih = rw e (e, ih)
      go false e ih = rw e ih

  -- where all that pass p pass r
  pub kept-within : (p r : X → Bool) (xs : List X) → ((x : X) → p x ≡ true → r x ≡ true) → kept p xs ≡ kept p (kept r xs)
  kept-within p r [] h = refl
  kept-within p r (x ∷ xs) h = go (p x) (r x) refl refl (kept-within p r xs h)
    where
      go : (b c : Bool) → p x ≡ b → r x ≡ c → kept p xs ≡ kept p (kept r xs) → kept p (x ∷ xs) ≡ kept p (kept r (x ∷ xs))
      go true true e f ih = rw (e, f) (rw e (ap (λ t. x ∷ t) ih))
      go true false e f ih = absurd (true≢false (sym (h x e) ∙ f))
      go false true e f ih = rw (e, f) (rw e ih)
      go false false e f ih = rw (e, f) ih

  pub kept-when : (p : X → Bool) (P : X → Type 0) (xs : List X) → AllByRecursion (λ x. p x ≡ true → P x) xs → AllByRecursion P (kept p xs)
  kept-when p P [] h = tt
  kept-when p P (x ∷ xs) h = go (p x) refl (kept-when p P xs h.1)
    where
      go : (b : Bool) → p x ≡ b → AllByRecursion P (kept p xs) → AllByRecursion P (kept p (x ∷ xs))
      go true e ih = rw e (h.0 e, ih)
      go false e ih = rw e ih

  pub in_left : (x : X) (xs ys : List X) → In x xs → In x (xs ++ ys)
  in_left x [] ys i = absurd i
  in_left x (y ∷ xs) ys (inl e) = inl e
  in_left x (y ∷ xs) ys (inr i) = inr (in_left x xs ys i)

  pub in_right : (x : X) (xs ys : List X) → In x ys → In x (xs ++ ys)
  in_right x [] ys i = i
  in_right x (y ∷ xs) ys i = inr (in_right x xs ys i)

module _ {X Y : Type 0} where
  pub joined-alike : (f g : X → List Y) (xs : List X) → AllByRecursion (λ x. f x ≡ g x) xs → flat_map f xs ≡ flat_map g xs
  joined-alike f g [] h = refl
  joined-alike f g (x ∷ xs) h = ap₂ ◌++◌ h.0 (joined-alike f g xs h.1)

  pub joined-none : (f : X → List Y) (xs : List X) → AllByRecursion (λ x. f x ≡ []) xs → flat_map f xs ≡ []
  joined-none f [] h = refl
  joined-none f (x ∷ xs) h = rw h.0 (joined-none f xs h.1)

  pub joined-kept : (f : X → List Y) (r : X → Bool) (xs : List X) → ((x : X) → r x ≡ false → f x ≡ []) → flat_map f xs ≡ flat_map f (kept r xs)
  joined-kept f r [] h = refl
  joined-kept f r (x ∷ xs) h = go (r x) refl (joined-kept f r xs h)
    where
      go : (b : Bool) → r x ≡ b → flat_map f xs ≡ flat_map f (kept r xs) → flat_map f (x ∷ xs) ≡ flat_map f (kept r (x ∷ xs))
      go true e ih = rw e (ap (λ t. f x ++ t) ih)
      go false e ih = rw (e, h x e) ih

  pub all-joined : (P : Y → Type 0) (f : X → List Y) (xs : List X) → AllByRecursion (λ x. AllByRecursion P (f x)) xs → AllByRecursion P (flat_map f xs)
  all-joined P f [] h = tt
  all-joined P f (x ∷ xs) h = All-append P (f x) (flat_map f xs) h.0 (all-joined P f xs h.1)

  pub joined-append : (f : X → List Y) (xs ys : List X) → flat_map f (xs ++ ys) ≡ flat_map f xs ++ flat_map f ys
  joined-append f [] ys = refl
  joined-append f (x ∷ xs) ys = ap (λ t. f x ++ t) (joined-append f xs ys) ∙ sym (append_assoc (f x) (flat_map f xs) (flat_map f ys))
