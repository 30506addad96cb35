-- The lines of a script.
use Rattle.std.specs.Prelude.{ℕ, ◌+◌, Bool, cond, List, [], ◌∷◌, length, position, ◌==◌}
use Rattle.std.specs.Option.{unwrap_or}

-- how many bytes stand before the first line end, of code 10
abbrev pub line_end : List ℕ → ℕ
line_end bytes = unwrap_or (position (λ b. b == 10) bytes) (length bytes)
