use Rattle.std.proofs.Common.{◌≡◌, take}
use Rattle.rules.specs.Book.{inits_from}
use Rattle.rules.specs.Kinds.{values_by}
use Rattle.opening.proofs.starts.start_items.Given as goal

-- the init items of the states so far are put in
abbrev pub invariant-loop-i : goal.invariant-loop-i
invariant-loop-i g l =
    (g.S.Shelf.limit l.shelf ≡ g.S.Shelf.limit l.initial.shelf)
    × (g.S.Shelf.items l.shelf ≡ inits_from (values_by g.S.Of.Ord.cmp g.S.Of.Value.blank g.S.Of.Value.reads) 0 (take l.i l.states))
