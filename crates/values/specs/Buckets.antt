-- The bucket of a value: the top ten bits of a product, so that values which differ little are spread.
use Rattle.std.specs.Prelude.{ℕ, ◌+◌, ◌*◌, ◌/◌, ◌%◌, ◌^◌}
use Rattle.values.specs.declared.number.Number.{Number}
use Rattle.values.specs.declared.reference.Reference.{Reference}

-- the top ten of 64 bits
abbrev pub top_ten : ℕ → ℕ
top_ten n = n % 2 ^ 64 / 2 ^ 54

-- the bucket of a number
abbrev pub number_bucket : Number → ℕ
number_bucket x = top_ten (x.value * 0x9e3779b97f4a7c15)

-- the bucket of a reference
abbrev pub reference_bucket : Reference → ℕ
reference_bucket x = top_ten (x.high * 0x9e3779b97f4a7c15 % 2 ^ 64 + x.low * 0xc2b2ae3d27d4eb4f % 2 ^ 64)
