use Rattle.std.proofs.Common.{◌≤◌, vec_items, vec_capacity}
use Rattle.indexed.specs.Links.{Numbered}
use Rattle.indexed.proofs.shelf.calls.numbers.Given as goal

abbrev pub invariant-loop-i : goal.invariant-loop-i
invariant-loop-i l = Numbered l.i (vec_items l.all) × (l.n ≤ vec_capacity l.all)
