-- What holds of the texts of words, told of the words.
use Rattle.std.proofs.Common.{◌≡◌, ℕ, Bool, ◌||◌, List, [], ◌∷◌, refl, ap, Bor}
use Rattle.std.proofs.lemmas.List.Folds.{list_all-map}
use Rattle.std.specs.List.{list_all, list_any}
use Rattle.scripts.specs.Lines.{texts}

pub all_texts : (p : List ℕ → Bool) (ws : List (Bor (List ℕ))) → list_all p (texts ws) ≡ list_all (λ w. p w.now) ws
all_texts p ws = list_all-map p (λ w. w.now) ws

pub any_text : (p : List ℕ → Bool) (ws : List (Bor (List ℕ))) → list_any p (texts ws) ≡ list_any (λ w. p w.now) ws
any_text p [] = refl
any_text p (w ∷ ws) = ap (λ b. p w.now || b) (any_text p ws)
