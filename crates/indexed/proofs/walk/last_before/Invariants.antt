use Rattle.std.proofs.Common.{◌≡◌, length}
use Rattle.indexed.specs.Links.{reached, last_of, front}
use Rattle.indexed.specs.Index.{probe, Walkable}
use Rattle.indexed.proofs.walk.last_before.Given as goal

-- the walk from here ends where the walk from the start does
abbrev pub invariant-loop-last : goal.invariant-loop-last
invariant-loop-last g l =
    let p = probe g.V.Ord.cmp g.V.Value.blank l.cells l.item in
    Walkable (length l.cells) l.links l.limit l.last
    × (last_of l.last (front p (reached l.links l.limit l.last l.limit)) ≡ last_of l.start (front p (reached l.links l.limit l.start l.limit)))

abbrev pub decreases-loop-last : goal.decreases-loop-last
decreases-loop-last g l = length (reached l.links l.limit l.last l.limit)
