-- The chain over options that gives those that are there.
use Rattle.std.proofs.Common.{◌≡◌, ℕ, ◌≤◌, Bool, true, false, cond, List, [], ◌∷◌, length, Some, None, Option, Bor, refl, sym, ap, subst, ◌∙◌, arith}
use Rattle.std.specs.Bool.{MatchBool}
use Rattle.std.specs.declared.option.Iter.{OptionIter}
use Rattle.sheets.specs.Words.{present}
use Rattle.std.specs.Option.{option_to_list, option_copied, option_len}
use Rattle.std.specs.Slice.Iter.{iter_rest}
use Rattle.std.specs.Iterator.Adapters.{flatten_source, flatten_front, flatten_back, flatten_done, flatten_steps, option_iter_done, option_iter_item, option_iter_steps, OptionIterYieldsItsItem}
use Rattle.std.proofs.iter.Yields.{fronts}
use Rattle.std.proofs.lemmas.Iterator.{YieldsList, YieldsList-from_slice}
use Rattle.std.proofs.lemmas.Iterator.Adapters.{YieldsList-from_flatten}
use Rattle.std.proofs.lemmas.Iterator.Consumers.{YieldsList-from_shown}

module _ {A : Type 0} where
  -- what an option's iterator has left
  abbrev left : Bool → Option A → List A
  left d o = cond d [] (option_to_list o)

  at_end : (d : Bool) (o : Option A) → MatchBool d (◌≡◌ {A = Option (Bor A)} None None) (option_copied {T = A} None ≡ o) → length (left d o) ≡ 0
  at_end true o m = refl
  at_end false o m = ap (λ k. length (option_to_list k)) (sym m)

  at_item : (d e : Bool) (o p : Option A) (x : Bor A) → e ≡ true → MatchBool d (Some x ≡ None) (option_copied (Some x) ≡ o) → left d o ≡ x.now ∷ left e p
  at_item true e o p x t m = let z : ◌≡◌ {A = ℕ} 0 1 = cc in absurd (omega arith)
  at_item false e o p x t m = ap option_to_list (sym m) ∙ ap (λ k. x.now ∷ left k p) (sym t)

  pub yields_option : {s : _} (o : Option A) → option_iter_item s ≡ o → option_iter_done s ≡ false → YieldsList option_iter_steps (λ (y : Bor A). y.now) s (option_to_list o)
  yields_option {s} o i d =
      subst (YieldsList option_iter_steps (λ (y : Bor A). y.now) s) (ap (λ k. left k (option_iter_item s)) d ∙ ap option_to_list i)
      (YieldsList-from_shown option_iter_steps (λ y. y.now) (λ u. left (option_iter_done u) (option_iter_item u))
      (λ u t p. at_end (option_iter_done u) (option_iter_item u) p.1) (λ u x t p. at_item (option_iter_done u) (option_iter_done t) (option_iter_item u) (option_iter_item t) x p.0 p.1) s)

  -- what a reference to an option becomes, as an iterator
  abbrev Becomes : Bor (Option A) → OptionIter A → Type 0
  Becomes x j = (option_iter_item j ≡ x.now) × (option_iter_done j ≡ false) × (cond (option_iter_done j) 0 (option_len (option_iter_item j)) ≤ 1) × OptionIterYieldsItsItem A

  -- the chain `iter().flatten()` over some options gives those that are there
  pub yields_present : {s : _} (xs : List (Option A)) → iter_rest (flatten_source s) ≡ xs → flatten_front s ≡ None → flatten_back s ≡ None → flatten_done s ≡ false
      → YieldsList (flatten_steps fronts Becomes option_iter_steps) (λ (y : Bor A). y.now) s (present xs)
  yields_present xs e f b d = YieldsList-from_flatten Becomes option_iter_steps (λ y. y.now) option_to_list (λ x j h. yields_option x.now h.0 h.1) (YieldsList-from_slice xs e) f b d
