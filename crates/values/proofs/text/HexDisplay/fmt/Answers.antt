use Rattle.std.proofs.Common.{rules, ◌≡◌, ◌^◌, ◌+◌, ◌-◌, ℕ, List, false, [], ◌++◌, take, get_or, sym, ap, ◌∙◌}
use Rattle.std.proofs.Output.{has_written_append, has_written_of_eq}
use Rattle.std.proofs.lemmas.Fmt.{hex_byte}
use Rattle.std.proofs.lemmas.List.{take_more, flat_map_more}
use Rattle.std.specs.Fmt.{digits, format_spec, padded_integral}
use Rattle.values.specs.Texts.{hex_of, hex_text}
use Rattle.values.proofs.text.HexDisplay.fmt.Goals as goal

pub loop-b-preserved : goal.loop-b-preserved
loop-b-preserved g c = λ plain.
    let bs = c.args.self.now.bytes.now in
    let i = c.loop-b.b-index in
    let b : ℕ = get_or bs i 0 in
    let piece : List ℕ = padded_integral (format_spec 32 0 4 2 (2 ^ 64 - 1)) false [] (digits 16 false b) in
    let e : hex_text (take i bs) ++ piece ≡ hex_text (take (i + 1) bs) =
    ap (λ t. hex_text (take i bs) ++ t) (hex_byte false b (search rules)) ∙ flat_map_more hex_of [] (take i bs) b ∙ ap hex_text (sym (take_more bs i 0 c.loop-b-test.true)) in
    has_written_of_eq _ _ _ _ _ e (has_written_append _ _ _ _ _ _ (c.loop-b.invariant plain) (search rules))
