-- The written form of a number: a width code, then the number in the smallest width that holds it.
use Rattle.std.specs.Prelude.{ℕ, zero, suc, ◌+◌, ◌^◌, Bool, cond, List, [], ◌∷◌, length, take, Some, None, Ok, Err, Option, ◌==◌, nat_lt}
use Rattle.std.specs.declared.cmp.Ordering.{Ordering}
use Rattle.values.specs.declared.number.Number.{Number}
use Rattle.values.specs.Order.{by_number}
use Rattle.values.specs.Form.{Reading}
use Rattle.values.specs.Words.{bytes_of, number_of}

-- the number n as a value
abbrev pub number_is : ℕ → Number
number_is n = record { value = n }

-- the usual order
abbrev pub number_order : Number → Number → Ordering
number_order x y = by_number x.value y.value

-- a width code c stands for 2 ^ c bytes
abbrev pub width_of : ℕ → ℕ
width_of c = 2 ^ c

-- as many bytes can hold n
abbrev pub holds_in : ℕ → ℕ → Bool
holds_in width n = nat_lt n (256 ^ width)

-- the first of k codes from c on whose width holds n, or the code after them
abbrev pub code_from : ℕ → ℕ → ℕ → ℕ
code_from zero c n = c
code_from (suc k) c n = cond (holds_in (width_of c) n) c (code_from k (c + 1) n)

-- the code of the smallest width that holds n, from 0 to 3
abbrev pub code_of : ℕ → ℕ
code_of n = code_from 3 0 n

-- the number n at the width code c
abbrev pub coded : ℕ → ℕ → List ℕ
coded c n = c ∷ bytes_of (width_of c) n

-- every number of 64 bits is written at the code of its smallest width
abbrev pub number_written : Number → Option (List ℕ)
number_written x = cond (nat_lt x.value (2 ^ 64)) (Some (coded (code_of x.value) x.value)) None

-- n was read at the width code c: it stands where no smaller width holds it, else its code is refused
abbrev pub judged : ℕ → ℕ → Reading Number
judged c n = cond (code_of n == c) (Ok (number_is n, 1 + width_of c)) (Err 0)

-- no byte; a code above 3; fewer bytes than the width; and the number
abbrev pub number_reads : List ℕ → Reading Number
number_reads [] = Err 0
number_reads (c ∷ rest) = cond (nat_lt 3 c) (Err 0) (cond (nat_lt (length rest) (width_of c)) (Err (1 + length rest)) (judged c (number_of (take (width_of c) rest))))
