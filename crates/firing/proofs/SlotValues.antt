-- The value of a slot: that in the field of the first cell that binds it.
use Rattle.std.proofs.Common.{◌≡◌, ℕ, Bool, true, false, cond, List, [], ◌∷◌, Some, None, Option, Bor, unwrap_or, refl, ap, ◌∙◌}
use Rattle.std.specs.List.{find}
use Rattle.std.specs.Option.{MatchOption, option_and_then, option_map}
use Rattle.records.specs.Fields.{field_of}
use Rattle.records.specs.declared.event.Event.{Event}
use Rattle.rules.specs.Kinds.{ValueKind}
use Rattle.rules.specs.Step.{slot_value}
use Rattle.sheets.specs.Sound.{binds}
use Rattle.sheets.specs.declared.tables.Cell.{Cell}

module _ {V : Type 0} (K : ValueKind V) (e : Event V) (t : ℕ) where
  -- what is in the field of a cell, or the filler
  abbrev read : Option Cell → V
  read o = unwrap_or (option_and_then (λ (c : Cell). field_of e c.field) o) K.blank

  read-found : (cs : List Cell) → read (find (λ (c : Cell). binds t c.want) cs) ≡ slot_value K e cs t
  read-found [] = refl
  read-found (c ∷ cs) = by (binds t c.want) (read-found cs)
    where
      by : (b : Bool) → read (find (λ (d : Cell). binds t d.want) cs) ≡ slot_value K e cs t → read (cond b (Some c) (find (λ (d : Cell). binds t d.want) cs)) ≡ cond b (unwrap_or (field_of e c.field) K.blank) (slot_value K e cs t)
      by true rest = refl
      by false rest = rest

  read-given : (r : Option (Bor Cell)) (v : Option V) → MatchOption r (v ≡ None) (λ x. v ≡ field_of e x.now.field) → unwrap_or v K.blank ≡ read (option_map (λ y. y.now) r)
  read-given None v m = ap (λ o. unwrap_or o K.blank) m
  read-given (Some x) v m = ap (λ o. unwrap_or o K.blank) m

  pub slot-read : (cs : List Cell) (r : Option (Bor Cell)) (v : Option V) → option_map (λ y. y.now) r ≡ find (λ (c : Cell). binds t c.want) cs → MatchOption r (v ≡ None) (λ x. v ≡ field_of e x.now.field) → unwrap_or v K.blank ≡ slot_value K e cs t
  slot-read cs r v i m = read-given r v m ∙ ap read i ∙ read-found cs
