-- The field of the first cell that wants own parameter 1.
use Rattle.std.proofs.Common.{◌≡◌, ℕ, Bool, true, false, cond, ltb, List, [], ◌∷◌, Some, None, Option, Bor, unwrap_or, refl, sym, ap, ◌∙◌, arith}
use Rattle.std.proofs.lemmas.Bool.{ltb-false}
use Rattle.std.specs.List.{find}
use Rattle.std.specs.Bool.{then_some}
use Rattle.std.specs.Option.{IsSomeAnd, MatchOption, option_map}
use Rattle.sheets.specs.Words.{present}
use Rattle.sheets.specs.declared.tables.Cell.{Cell}
use Rattle.step.specs.Scopes.{own_field, own_first}

-- its field, or 0
abbrev read : Option Cell → ℕ
read o = unwrap_or (option_map (λ (c : Cell). c.field) o) 0

read-found : (cs : List (Option Cell)) → read (find (λ (c : Cell). own_first c.want) (present cs)) ≡ own_field cs
read-found [] = refl
read-found (None ∷ cs) = read-found cs
read-found (Some c ∷ cs) = by (own_first c.want) (read-found cs)
  where
    by : (b : Bool) → read (find (λ (d : Cell). own_first d.want) (present cs)) ≡ own_field cs
        → read (cond b (Some c) (find (λ (d : Cell). own_first d.want) (present cs))) ≡ unwrap_or (cond b (Some c.field) None) (own_field cs)
    by true rest = refl
    by false rest = rest

-- a field is from 1 on
from-one : (m q : Option ℕ) → MatchOption m (q ≡ None) (λ f. (b : Bool) × (b ≡ ltb 0 f) × (q ≡ then_some b f)) → unwrap_or q 0 ≡ unwrap_or m 0
from-one None q e = ap (λ o. unwrap_or o 0) e
from-one (Some f) q (true, i, e) = ap (λ o. unwrap_or o 0) e
from-one (Some f) q (false, i, e) =
    let least = ltb-false 0 f (sym i) in
    ap (λ o. unwrap_or o 0) e ∙ omega (arith, least)

field-of : (r : Option (Bor Cell)) (m : Option ℕ) → MatchOption r (m ≡ None) (λ x. IsSomeAnd m (λ f. f ≡ x.now.field)) → unwrap_or m 0 ≡ read (option_map (λ x. x.now) r)
field-of None m e = ap (λ o. unwrap_or o 0) e
field-of (Some x) None e = elim e [ ]
field-of (Some x) (Some f) e = e

pub own-read : (cs : List (Option Cell)) (r : Option (Bor Cell)) (m q : Option ℕ) → option_map (λ x. x.now) r ≡ find (λ (c : Cell). own_first c.want) (present cs)
    → MatchOption r (m ≡ None) (λ x. IsSomeAnd m (λ f. f ≡ x.now.field)) → MatchOption m (q ≡ None) (λ f. (b : Bool) × (b ≡ ltb 0 f) × (q ≡ then_some b f)) → unwrap_or q 0 ≡ own_field cs
own-read cs r m q i e h = from-one m q h ∙ field-of r m e ∙ ap read i ∙ read-found cs
