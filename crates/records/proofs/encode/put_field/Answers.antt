use Rattle.std.proofs.Common.{◌≡◌, ◌+◌, ◌≤◌, ◌++◌, length, take, sym, ap, ◌∙◌, arith}
use Rattle.values.specs.Form.{bytes_in}
use Rattle.records.specs.Record.{field_bytes}
use Rattle.records.proofs.FieldWrites.{put_front, put_rest}
use Rattle.records.proofs.encode.put_field.Goals as goal

pub returns-in-Some : goal.returns-in-Some
returns-in-Some g c =
    let a = c.args in
    let out = a.buffer.now in
    let w = bytes_in (g.V.Value.written c.in-Some.value) in
    let e : bytes_in (field_bytes g.V.Value.written a.field.now) ≡ w = ap (λ f. bytes_in (field_bytes g.V.Value.written f)) c.in-Some.is in
    let room : a.at + length w ≤ length out = omega (arith, c.requires.field_in_bounds, ap length e) in
    record {
      end = ap (λ n. a.at + n) (c.write.ensures.count ∙ ap length (sym e));
      front = put_front out w c.write.new.buffer a.at c.write.result room c.write.ensures.count c.write.ensures.bytes ∙ ap (λ l. take a.at out ++ l) (sym e);
      rest = put_rest out w c.write.new.buffer a.at c.write.result room c.write.ensures.count c.write.ensures.bytes;
    }
