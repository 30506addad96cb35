use Rattle.std.proofs.Common.{◌≡◌, map, length}
use Rattle.items.specs.Ascending.{first_of}
use Rattle.items.specs.Items.{wanted}
use Rattle.indexed.specs.Links.{reached}
use Rattle.indexed.specs.Index.{item_in, Walkable}
use Rattle.indexed.proofs.walk.first_wanted.Given as goal

-- the walk from here meets what the walk from the start does
abbrev pub invariant-loop-last : goal.invariant-loop-last
invariant-loop-last g l =
    let w = wanted g.V.Ord.cmp l.name l.first l.above in
    let f = item_in g.V.Value.blank l.cells in
    Walkable (length l.cells) l.links l.limit l.last
    × (first_of w (map f (reached l.links l.limit l.last l.limit)) ≡ first_of w (map f (reached l.links l.limit l.start l.limit)))

abbrev pub decreases-loop-last : goal.decreases-loop-last
decreases-loop-last g l = length (reached l.links l.limit l.last l.limit)
