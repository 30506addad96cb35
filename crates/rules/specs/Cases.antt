-- Worked cases: the definitions computed on the wire sheet, and on four tiny sheets.
use Rattle.std.specs.Prelude.{◌≡◌, ℕ, List, [], ◌∷◌, ◌++◌, take, replicate, Some, None, Ok, Err, Result}
use Rattle.refusals.specs.Telling.{told, telling}
use Rattle.refusals.specs.declared.refusal.Layer.TheVariants as layer
use Rattle.refusals.specs.declared.refusal.Refusal.{Refusal}
use Rattle.refusals.specs.declared.refusal.Refusal.TheVariants.{Malformed, ShelfFull}
use Rattle.values.specs.NumberForm.{number_reads, number_written}
use Rattle.values.specs.declared.number.Number.{Number}
use Rattle.records.specs.Reader.{malformed, next_at}
use Rattle.records.specs.Record.{event_bytes}
use Rattle.records.specs.RoundTrip.{reading}
use Rattle.records.specs.declared.event.Event.{Event}
use Rattle.sheets.specs.Tables.{SheetModel}
use Rattle.rules.specs.Book.{BookModel, EndOutcome, Ending, EventOutcome, Opening, Putting, Turn, made_book, batched, counts_of, batch_outcome, end_outcome, open_outcome, put_outcome}
use Rattle.rules.specs.Law.{KeyedSheet, SoundSheet, Use}
use Rattle.rules.specs.Step.{moves_for}
use Rattle.rules.specs.Wire.{numbers, wire, sent, confirmed, event_on, item_on, tick, Watch, Waiting, Done, set_before, asked_stays, new_set_only, next_lapses}
use Rattle.rules.specs.declared.answers.Accepted.{Accepted}
use Rattle.rules.specs.declared.answers.Batched.{Batched}
use Rattle.rules.specs.declared.fault.Fault.{Fault}
use Rattle.rules.specs.declared.fault.Fault.TheVariants as fault
use Rattle.rules.specs.declared.finding.Finding.{Finding}
use Rattle.rules.specs.declared.moves.Cause.TheVariants.{Fired, Asked}
use Rattle.rules.specs.declared.moves.Move.{Move}
use Rattle.rules.specs.declared.tallies.Counts.{Counts}
use Rattle.items.specs.declared.item.Item.{Item}

-- pads and rolls with so many places
abbrev pub pad_of : ℕ → List (Move Number)
pad_of n = replicate n (record { cause = Fired; item = Watch })

-- a roll with so many places
abbrev pub roll_of : ℕ → List (Finding Number)
roll_of n = replicate n (record { event = 0; fault = fault.HotAtClose; item = Watch })

-- a book that was opened on an empty shelf with that limit
abbrev pub opened_on : SheetModel Number → ℕ → BookModel Number
opened_on s limit = (open_outcome numbers s (made_book [] limit)).book

-- an event put with enough places
abbrev pub put_on : SheetModel Number → BookModel Number → Event Number → EventOutcome Number (Result Accepted Refusal)
put_on s b e = put_outcome numbers s b e (pad_of 9) (roll_of 9)

-- the book after some events were put
abbrev pub put_all : SheetModel Number → BookModel Number → List (Event Number) → BookModel Number
put_all s b [] = b
put_all s b (e ∷ es) = put_all s (put_on s b e).book es

-- so many moves and findings came back
abbrev pub tells : ℕ → ℕ → Result Accepted Refusal
tells m f = Ok (record { moves = m; findings = f })

-- one finding at an event, as a list
abbrev pub finding_at : ℕ → Fault → Item Number → List (Finding Number)
finding_at n f x = record { event = n; fault = f; item = x } ∷ []

-- asked twice, once as a repeat, and once open
abbrev pub twice : Counts
twice = record { kept = record { started = 0; asked = 2; repeats = 1; fired = 0; lapsed = 0; struck = 0 }; «open» = 1 }

-- the book after so many events of one day: sent(7, 40) twice, and confirmed(7) three times
abbrev pub day : ℕ → BookModel Number
day n = put_all wire (opened_on wire 9) (take n (sent 7 40 ∷ (sent 7 40 ∷ (confirmed 7 ∷ (confirmed 7 ∷ (confirmed 7 ∷ []))))))

-- its puts but the second
abbrev pub put1 : EventOutcome Number (Result Accepted Refusal)
put1 = put_on wire (day 0) (sent 7 40)

-- the third event of the day, with what it gives back and leaves
abbrev pub put3 : EventOutcome Number (Result Accepted Refusal)
put3 = put_on wire (day 2) (confirmed 7)

-- the fourth
abbrev pub put4 : EventOutcome Number (Result Accepted Refusal)
put4 = put_on wire (day 3) (confirmed 7)

-- the fifth
abbrev pub put5 : EventOutcome Number (Result Accepted Refusal)
put5 = put_on wire (day 4) (confirmed 7)

-- an event put on a book that was opened with that limit
abbrev pub put_first : SheetModel Number → ℕ → Event Number → EventOutcome Number (Result Accepted Refusal)
put_first s limit e = put_on s (opened_on s limit) e

-- a book with limit 2 on which Watch and Waiting(7, 40) stand
abbrev pub two_stand : BookModel Number
two_stand = put_all wire (opened_on wire 2) (sent 7 40 ∷ [])

-- confirmed(7) there, with one place for moves
abbrev pub on_short_pad : EventOutcome Number (Result Accepted Refusal)
on_short_pad = put_outcome numbers wire two_stand (confirmed 7) (pad_of 1) (roll_of 9)

-- sent(7) without its second field
abbrev pub sent_half : Event Number
sent_half = event_on 1 (Some 7) None

-- the bytes of sent(7, 300)
abbrev pub sent_bytes : List ℕ
sent_bytes = 0x01 ∷ (0x03 ∷ (0x00 ∷ (0x07 ∷ (0x01 ∷ (0x01 ∷ (0x2c ∷ []))))))

-- 7 in two bytes, though one holds it
abbrev pub wide_bytes : List ℕ
wide_bytes = 0x01 ∷ (0x01 ∷ (0x01 ∷ (0x00 ∷ (0x07 ∷ []))))

-- the bytes of sent(8, 40)
abbrev pub other_bytes : List ℕ
other_bytes = 0x01 ∷ (0x03 ∷ (0x00 ∷ (0x08 ∷ (0x00 ∷ (0x28 ∷ [])))))

-- a batch at a book that was opened with that limit
abbrev pub batch_on : ℕ → List ℕ → EventOutcome Number Batched
batch_on limit bytes = batch_outcome numbers wire (opened_on wire limit) bytes (pad_of 9) (roll_of 9)

-- the close of the day after its first event
abbrev pub day_end : EndOutcome Number
day_end = end_outcome wire (day 1) (roll_of 9)

-- that short day as a history, the latest call first: opened, one event put, ended
abbrev pub short_day : List (Turn Number)
short_day =
    Ending (roll_of 9) day_end.roll day_end.back
    ∷ (Putting (sent 7 40) (pad_of 9) put1.pad (roll_of 9) put1.roll put1.back
    ∷ (Opening (Ok tt)
    ∷ []))

-- what the definitions give in each case
pub record Cases : Type 0 where
  -- the wire sheet is a sheet, and keyed
  pub sound : SoundSheet wire
  pub keyed : KeyedSheet wire
  -- sent(7, 40): Watch and Waiting(7, 40) stand; no finding
  pub sent_once : ((day 1).items ≡ Watch ∷ (Waiting 7 40 ∷ [])) × (put1.back ≡ tells 1 0)
  -- once more: the same set; Waiting asked twice, one a repeat
  pub sent_twice : ((day 2).items ≡ (day 1).items) × (counts_of (day 2) 1 ≡ twice)
  -- confirmed(7): Watch and Done(7); two moves
  pub confirmed_once : ((day 3).items ≡ Watch ∷ (Done 7 ∷ []))
      × (put3.back ≡ tells 2 0)
      × (take 2 put3.pad ≡ moves_for Fired (Waiting 7 40) ++ moves_for Asked (Done 7))
  -- confirmed(7): a finding of Done(7) by row 4 at event 4; Watch alone
  pub confirmed_twice : ((day 4).items ≡ Watch ∷ [])
      × (put4.back ≡ tells 1 1)
      × (take 1 put4.roll ≡ finding_at 4 (fault.Error 4) (Done 7))
  -- confirmed(7): a finding of Watch by row 1
  pub confirmed_thrice : ((day 5).items ≡ Watch ∷ [])
      × (put5.back ≡ tells 0 1)
      × (take 1 put5.roll ≡ finding_at 5 (fault.Error 1) Watch)
  -- a fresh book, sent(7, 40), sent(7, 41), confirmed(7): Done asked twice, one a repeat, one open
  pub two_sent : counts_of (put_all wire (opened_on wire 9) (sent 7 40 ∷ (sent 7 41 ∷ (confirmed 7 ∷ [])))) 2 ≡ twice
  -- limit 2, with Watch and Waiting(7, 40): sent(8, 40) is refused 9, and confirmed(7) is accepted
  pub over_limit : (two_stand.items ≡ Watch ∷ (Waiting 7 40 ∷ []))
      × (told (put_on wire two_stand (sent 8 40)).back ≡ Err (telling 9 layer.Shelf 0))
      × ((put_on wire two_stand (confirmed 7)).back ≡ tells 2 0)
  -- the same set and a pad of one place, confirmed(7): refused 7, and the pad holds the leaving of Waiting(7, 40)
  pub short_pad : (told on_short_pad.back ≡ Err (telling 7 layer.Book 0)) × (on_short_pad.pad ≡ moves_for Fired (Waiting 7 40))
  -- sent(7) without field 2: accepted, no effect
  pub field_missing : ((put_first wire 9 sent_half).back ≡ tells 0 0) × ((put_first wire 9 sent_half).book.items ≡ Watch ∷ [])
  -- kind 1, fields 7 and 300, as bytes
  pub as_bytes : (next_at number_reads sent_bytes 0 ≡ reading (sent 7 300) 7) × (event_bytes number_written (sent 7 300) ≡ Some sent_bytes)
  -- a number in too many bytes: refused 4, at the place of its width code
  pub too_wide : next_at number_reads wide_bytes 0 ≡ record { answer = Err (malformed 2); place = 0 }
  -- limit 0: open is refused 9
  pub no_room : told (open_outcome numbers wire (made_book [] 0)).back ≡ Err (telling 9 layer.Shelf 0)
  -- a batch stops at the byte that is refused,
  pub bad_byte : (batch_on 9 (sent_bytes ++ wide_bytes)).back ≡ batched 1 0 (Some (Malformed 9))
  -- or with the place of the record that is
  pub bad_record : (batch_on 2 (sent_bytes ++ other_bytes)).back ≡ batched 1 0 (Some (ShelfFull 7))
  -- Waiting is hot: open at the close, it is a finding with the number of the last event
  pub closes : (day_end.back ≡ Ok 1) × (take 1 day_end.roll ≡ finding_at 1 fault.HotAtClose (Waiting 7 40))
  -- the short day is a use of a book
  pub used : Use numbers wire (λ (b : BookModel Number). b) [] 9 short_day day_end.book
  -- conditions are read on the set before the event: the second row fires too
  pub before : (put_first set_before 9 (tick 1)).back ≡ tells 1 1
  -- an item both taken out and asked for stays
  pub stays : ((put_first asked_stays 9 (tick 1)).back ≡ tells 3 0) × ((put_first asked_stays 9 (tick 1)).book.items ≡ item_on 0 0 0 ∷ [])
  -- the limit is judged on the new set alone: there is place for one item, and one stands before and after
  pub limited : ((put_first new_set_only 1 (tick 1)).back ≡ tells 2 0) × ((put_first new_set_only 1 (tick 1)).book.items ≡ item_on 1 0 0 ∷ [])
  -- a next item lapses at a watched kind, always or not, and is a finding
  pub lapses : ((put_first next_lapses 9 (tick 1)).book.items ≡ [])
      × (take 1 (put_first next_lapses 9 (tick 1)).roll ≡ finding_at 1 fault.LapsedNext (item_on 0 0 0))
  -- and not at a kind that is not watched
  pub unwatched : ((put_first next_lapses 9 (tick 2)).back ≡ tells 0 0) × ((put_first next_lapses 9 (tick 2)).book.items ≡ item_on 0 0 0 ∷ [])
