use Rattle.std.proofs.Common.{◌≡◌, ◌++◌, length, vec_items}
use Rattle.std.specs.Option.{option_map}
use Rattle.scripts.specs.Hexadecimals.{bytes_of}
use Rattle.scripts.proofs.hexadecimal.bytes_of.Given as goal

-- the word's bytes are those so far and those of the digits left
abbrev pub invariant-loop-left : goal.invariant-loop-left
invariant-loop-left l = bytes_of l.word ≡ option_map (λ bs. vec_items l.bytes ++ bs) (bytes_of l.left)

abbrev pub decreases-loop-left : goal.decreases-loop-left
decreases-loop-left l = length l.left
