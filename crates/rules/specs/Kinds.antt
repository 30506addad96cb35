-- Kinds of value, as the rules use them.
use Rattle.std.specs.Prelude.{ℕ, Bool, List, Option}
use Rattle.std.specs.declared.cmp.Ordering.{Ordering}
use Rattle.values.specs.Form.{Reading}

-- a kind of value: its order, the value that stands where there is none, and how bytes are read
pub record ValueKind (V : Type 0) : Type 0 where
  pub order : V → V → Ordering
  pub blank : V
  pub reads : List ℕ → Reading V

-- the kind with that order, filler and reading
abbrev pub values_by : {V : Type 0} → (V → V → Ordering) → V → (List ℕ → Reading V) → ValueKind V
values_by order blank reads = record { order = order; blank = blank; reads = reads }

-- the kind of a type that keeps the trait of values: all members of that trait and of those that it builds on, in their order, as a clause names them by the trait's name
abbrev pub value_kind : {V : Type 0} → record { partial_cmp : V → V → Option Ordering; eq : V → V → Bool; cmp : V → V → Ordering; order : V → V → Ordering; blank : V; written : V → Option (List ℕ); reads : List ℕ → Reading V } → ValueKind V
value_kind members = values_by members.cmp members.blank members.reads
