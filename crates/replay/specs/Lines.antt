-- The lines of a script, as sessions take them.
use Rattle.std.specs.Prelude.{ℕ, ◌<◌, List, length, IfOk, IfSome, Option, Result}

-- where something is answered, fewer bytes of the script are left than before
abbrev pub ShorterIfSome : {T E : Type 0} → Result (Option T) E → List ℕ → List ℕ → Type 0
ShorterIfSome result before after = IfOk result (λ answer. IfSome answer (λ _. length after < length before))
