use Rattle.records.proofs.RoundTrips.{round_trip}
use Rattle.records.proofs.writing.write.Goals as goal

pub returns : goal.returns
returns g c = let e = c.write_front.ensures in record { answer = e.answer; buffer = e.buffer; law = round_trip g.met.V.Value.form }
