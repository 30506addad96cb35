-- Words as bytes, two hexadecimal digits to a byte.
use Rattle.std.specs.Prelude.{ℕ, ◌+◌, ◌-◌, ◌*◌, cond, List, [], ◌∷◌, Some, None, Option}
use Rattle.std.specs.Int.{is_in_range}

-- the value of a digit, of either case
abbrev pub digit_of : ℕ → Option ℕ
digit_of c = cond (is_in_range 48 57 c) (Some (c - 48)) (cond (is_in_range 97 102 c) (Some (c - 87)) (cond (is_in_range 65 70 c) (Some (c - 55)) None))

-- the byte of a high and a low digit
abbrev pub pair_of : Option ℕ → Option ℕ → Option ℕ
pair_of (Some h) (Some l) = Some (16 * h + l)
pair_of (Some h) None = None
pair_of None l = None

-- the byte that two characters write
abbrev pub byte_of : ℕ → ℕ → Option ℕ
byte_of h l = pair_of (digit_of h) (digit_of l)

-- a first byte, and the bytes behind it
abbrev pub before : Option ℕ → Option (List ℕ) → Option (List ℕ)
before (Some b) (Some bs) = Some (b ∷ bs)
before (Some b) None = None
before None bs = None

-- the bytes that a word of digits writes
abbrev pub bytes_of : List ℕ → Option (List ℕ)
bytes_of [] = Some []
bytes_of (h ∷ []) = None
bytes_of (h ∷ (l ∷ rest)) = before (byte_of h l) (bytes_of rest)
