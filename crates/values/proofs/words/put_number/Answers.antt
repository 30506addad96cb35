use Rattle.std.proofs.Common.{◌∙◌, ◌-◌, ap, drop, length, length-drop, arith}
use Rattle.std.proofs.lemmas.List.{take_all}
use Rattle.values.specs.NumberBytes.{last_bytes}
use Rattle.values.proofs.words.put_number.Goals as goal

pub returns : goal.returns
returns c =
    let n = length c.args.buffer.now in
    let bytes = c.to_be_bytes.result in
    c.copy_from_slice.ensures.after
    ∙ take_all _ (drop (8 - n) bytes) (omega (arith, length-drop (8 - n) bytes, ap length c.to_be_bytes.ensures))
    ∙ ap (drop (8 - n)) c.to_be_bytes.ensures
    ∙ last_bytes n c.args.n c.requires
