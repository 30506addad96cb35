-- The worked cases, computed.
use Rattle.std.proofs.Common.{[], Ok, refl}
use Rattle.records.specs.Record.{event_bytes, field_at, fields_at, record_at}
use Rattle.sheets.specs.Sound.{sound_tables}
use Rattle.rules.specs.Book.{Ending, Opening, Putting, made_book, accepted_put, closings, early_refusal, end_refusal, ended_book, filled_pad, findings_at, late_refusal, open_refusal, opened_book, took}
use Rattle.rules.specs.Cases.{Cases, day, day_end, pad_of, put1, roll_of}
use Rattle.rules.specs.Law.{called, made}
use Rattle.rules.specs.Records.{records_at, records_from}
use Rattle.rules.specs.Step.{taken, new_set, gone, count_added, row_fires, fired_rows, item_moves, item_faults, moves_at, faults_at, set_after}
use Rattle.rules.specs.Wire.{sent}
use Rattle.rules.proofs.Likeness.{alike_self}

pub cases : Cases
unfolding sound_tables event_bytes field_at fields_at record_at records_at records_from taken new_set gone count_added row_fires fired_rows item_moves item_faults moves_at faults_at set_after open_refusal opened_book findings_at took early_refusal late_refusal accepted_put filled_pad closings end_refusal ended_book
cases = record {
  sound = refl;
  keyed = refl;
  sent_once = (refl, refl);
  sent_twice = (refl, refl);
  confirmed_once = (refl, refl, refl);
  confirmed_twice = (refl, refl, refl);
  confirmed_thrice = (refl, refl, refl);
  two_sent = refl;
  over_limit = (refl, refl, refl);
  short_pad = (refl, refl);
  field_missing = (refl, refl);
  as_bytes = (refl, refl);
  too_wide = refl;
  no_room = refl;
  bad_byte = refl;
  bad_record = refl;
  closes = (refl, refl);
  used =
      called {b = day 1} {b' = day_end.book}
      (called {b = day 0} {b' = day 1}
      (called {b = made_book [] 9} {b' = day 0} (made (alike_self (made_book [] 9))) (Opening (Ok tt))
      (record { replied = refl; book = alike_self (day 0) }))
      (Putting (sent 7 40) (pad_of 9) put1.pad (roll_of 9) put1.roll put1.back)
      (record { replied = (refl, refl, refl); book = alike_self (day 1) }))
      (Ending (roll_of 9) day_end.roll day_end.back)
      (record { replied = (refl, refl); book = alike_self day_end.book });
  before = refl;
  stays = (refl, refl);
  limited = (refl, refl);
  lapses = (refl, refl);
  unwatched = (refl, refl);
}
