-- A number as bytes, the high byte first.
use Rattle.std.specs.Prelude.{ℕ, zero, suc, ◌/◌, ◌%◌, List, [], ◌∷◌, ◌++◌}
use Rattle.std.specs.Int.Digits.{number_from_digits}

-- the last k bytes of n
abbrev pub bytes_of : ℕ → ℕ → List ℕ
bytes_of zero n = []
bytes_of (suc k) n = bytes_of k (n / 256) ++ (n % 256 ∷ [])

-- the number that bytes write
abbrev pub number_of : List ℕ → ℕ
number_of bs = number_from_digits 256 bs
