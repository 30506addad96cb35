use Rattle.std.proofs.Common.{◌≡◌}
use Rattle.scripts.proofs.posting.event_of.Given as goal

-- the fields leave the kind as it is
abbrev pub invariant-loop-word : goal.invariant-loop-word
invariant-loop-word g l = l.event.kind ≡ l.initial.event.kind
