-- References: 1 to 16 bytes, none of them zero, extended by zero bytes to sixteen and held as two words.
use Rattle.std.specs.Prelude.{ℕ, suc, ◌+◌, ◌-◌, Bool, cond, ◌&&◌, List, [], ◌∷◌, ◌++◌, length, take, drop, replicate, Some, None, Ok, Err, Option, ◌==◌, nat_le, nat_lt}
use Rattle.std.specs.declared.cmp.Ordering.{Ordering}
use Rattle.std.specs.Ordering.{ordering_then}
use Rattle.values.specs.declared.reference.Reference.{Reference}
use Rattle.values.specs.Order.{by_number}
use Rattle.values.specs.Form.{Reading}
use Rattle.values.specs.Words.{bytes_of, number_of}

-- the reference of two words
abbrev pub reference_is : ℕ → ℕ → Reference
reference_is h l = record { high = h; low = l }

-- by the first eight bytes, then by the last eight
abbrev pub reference_order : Reference → Reference → Ordering
reference_order x y = ordering_then (by_number x.high y.high) (by_number x.low y.low)

-- the sixteen bytes of a reference
unfoldable pub row_of : Reference → List ℕ
row_of x = bytes_of 8 x.high ++ bytes_of 8 x.low

-- the reference that sixteen bytes are
abbrev pub of_row : List ℕ → Reference
of_row row = reference_is (number_of (take 8 row)) (number_of (drop 8 row))

-- bytes, extended by zero bytes to sixteen
abbrev pub padded : List ℕ → List ℕ
padded bs = bs ++ replicate (16 - length bs) 0

-- the reference of some bytes
abbrev pub packed : List ℕ → Reference
packed bs = of_row (padded bs)

-- how many bytes stand before the first zero byte
abbrev pub until_zero : List ℕ → ℕ
until_zero [] = 0
until_zero (b ∷ bs) = cond (b == 0) 0 (suc (until_zero bs))

-- a reference has 1 to 16 bytes
abbrev pub length_fits : ℕ → Bool
length_fits n = nat_le 1 n && nat_le n 16

-- the reference that bytes make: 1 to 16 of them, none zero
abbrev pub reference_of : List ℕ → Option Reference
reference_of bs = cond (length_fits (length bs) && until_zero bs == length bs) (Some (packed bs)) None

-- both words are the same
abbrev pub same_words : Reference → Reference → Bool
same_words x y = x.high == y.high && x.low == y.low

-- a length, then the bytes, where x is the first n bytes of its row, extended
abbrev pub formed : Reference → List ℕ → ℕ → Option (List ℕ)
formed x row n = cond (nat_lt 0 n && same_words (packed (take n row)) x) (Some (n ∷ take n row)) None

-- what stands before the first zero byte; the filler, and words that no bytes make, have no written form
abbrev pub reference_written : Reference → Option (List ℕ)
reference_written x = formed x (row_of x) (until_zero (row_of x))

-- n bytes were announced, and the first m of them are there and not zero: the next place holds a zero byte, or is the end
abbrev pub announced : ℕ → ℕ → List ℕ → Reading Reference
announced n m bs = cond (nat_lt m n) (Err (1 + m)) (Ok (packed bs, 1 + n))

-- no byte; a length that no reference has; and the bytes, up to the first that is missing or zero
abbrev pub reference_reads : List ℕ → Reading Reference
reference_reads [] = Err 0
reference_reads (n ∷ rest) = cond (length_fits n) (announced n (until_zero (take n rest)) (take n rest)) (Err 0)
