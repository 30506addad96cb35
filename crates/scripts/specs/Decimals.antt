-- Words as numbers.
use Rattle.std.specs.Prelude.{ℕ, ◌-◌, ◌^◌, Bool, cond, ◌&&◌, List, length, Ok, Err, Result, nat_lt}
use Rattle.std.specs.Str.Parse.{digits_value}
use Rattle.std.specs.Str.{all_ascii_digits}
use Rattle.scripts.specs.declared.misfit.Misfit.{Misfit}
use Rattle.scripts.specs.declared.misfit.Misfit.TheVariants.{NotANumber, NumberTooLarge, TooMuchRoom}

-- one digit or more, and nothing else
abbrev pub is_decimal : List ℕ → Bool
is_decimal word = nat_lt 0 (length word) && all_ascii_digits word

-- n, where it is at most as large as its place allows
abbrev pub up_to : ℕ → Misfit → ℕ → Result ℕ Misfit
up_to most misfit n = cond (nat_lt most n) (Err misfit) (Ok n)

-- the number of a word of digits, of 64 bits
abbrev pub number_in : List ℕ → Result ℕ Misfit
number_in word = cond (is_decimal word) (up_to (2 ^ 64 - 1) NumberTooLarge (digits_value 10 word)) (Err NotANumber)

-- a further limit on a number
abbrev pub limited : ℕ → Misfit → Result ℕ Misfit → Result ℕ Misfit
limited most misfit (Ok n) = up_to most misfit n
limited most misfit (Err e) = Err e

-- a byte
abbrev pub byte_in : Result ℕ Misfit → Result ℕ Misfit
byte_in = limited 255 NumberTooLarge

-- the most places of a buffer
abbrev pub most_room : ℕ
most_room = 1000000

-- a number of places
abbrev pub room_of : ℕ → Result ℕ Misfit
room_of n = up_to most_room TooMuchRoom n

-- the places that a word's number says
abbrev pub room_in : Result ℕ Misfit → Result ℕ Misfit
room_in = limited most_room TooMuchRoom
