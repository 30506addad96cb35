-- Values in words.
use Rattle.std.specs.Prelude.{ℕ, ◌/◌, ◌%◌, false, cond, List, [], ◌∷◌, take, codes, nat_eq}
use Rattle.std.specs.Fmt.{decimal, digit_glyph}
use Rattle.std.specs.List.{flat_map}
use Rattle.values.specs.declared.number.Number.{Number}
use Rattle.values.specs.declared.reference.Reference.{Reference}
use Rattle.values.specs.ReferenceForm.{row_of, until_zero}

-- a byte in hexadecimal: two digits in lower case, the high one first
abbrev pub hex_of : ℕ → List ℕ
hex_of b = digit_glyph false (b / 16) ∷ (digit_glyph false (b % 16) ∷ [])

-- bytes in hexadecimal, one behind the other
abbrev pub hex_text : List ℕ → List ℕ
hex_text bytes = flat_map hex_of bytes

-- a number in decimal digits
abbrev pub number_text : Number → List ℕ
number_text x = decimal x.value

-- the first n bytes of a row in hexadecimal, or a hyphen where there are none
abbrev pub row_text : List ℕ → ℕ → List ℕ
row_text row n = cond (nat_eq n 0) (codes "-") (hex_text (take n row))

-- a reference as the hexadecimal of its bytes; it has none where it is the filler
abbrev pub reference_text : Reference → List ℕ
reference_text x = row_text (row_of x) (until_zero (row_of x))
