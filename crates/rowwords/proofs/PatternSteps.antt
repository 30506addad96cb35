-- The letter in front of an argument.
use Rattle.std.proofs.Common.{◌≡◌, ℕ, ◌<◌, ◌≤◌, true, List, [], ◌∷◌, length, get_or, arith}
use lib.Utf8.{encodes, scalars}
use Rattle.std.proofs.lemmas.Str.{lead_after_ascii}

-- a word with a letter is not empty
pub has-letter : (word : List ℕ) → 0 < get_or word 0 0 → 1 ≤ length word
has-letter [] h = absurd (omega (arith, h))
has-letter (b ∷ bs) h = omega arith

-- behind a letter of ASCII a character begins
pub character-behind : (word cs : List ℕ) → scalars cs ≡ true → encodes cs ≡ word → get_or word 0 0 < 128 → 1 < length word → 128 ≤ get_or word 1 0 → 192 ≤ get_or word 1 0
character-behind word cs s e h l a = lead_after_ascii word 0 (cs, (s, e)) h l a
