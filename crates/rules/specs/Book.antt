-- A book and its calls: what each call gives back, what it leaves in the buffers lent to it, and the book afterwards.
-- A call that takes events is lent a pad for moves and a roll for findings.
use Rattle.std.specs.Prelude.{◌≡◌, ℕ, ◌+◌, ◌<◌, Bool, cond, not, List, [], ◌∷◌, ◌++◌, map, length, take, drop, Some, None, Ok, Err, Option, Result, nat_le, nat_lt, slice_index_or}
use Rattle.refusals.specs.declared.refusal.Refusal.{Refusal}
use Rattle.refusals.specs.declared.refusal.Refusal.TheVariants.{Malformed, WrongPhase, TooManyEvents, TooManyMoves, TooManyFindings, ShelfFull, ShelfNotEmpty, UnknownName}
use Rattle.values.specs.Form.{filled}
use Rattle.records.specs.Record.{kind_fits}
use Rattle.records.specs.declared.event.Event.{Event}
use Rattle.items.specs.Ascending.{kept}
use Rattle.items.specs.Items.{named}
use Rattle.items.specs.declared.item.Item.{Item}
use Rattle.sheets.specs.Tables.{SheetModel, state_of}
use Rattle.sheets.specs.declared.tables.State.{State}
use Rattle.rules.specs.Kinds.{ValueKind}
use Rattle.rules.specs.Step.{Count, Starts, Asks, Repeats, FiredOut, LapsedOut, StruckOut, how_many, numbered_as, count_added, moves_at, faults_at, set_after}
use Rattle.rules.specs.Phases.{is_blank, is_open}
use Rattle.rules.specs.Records.{Records, done, stop, one, records_at}
use Rattle.rules.specs.Tallies.{no_tally}
use Rattle.rules.specs.declared.answers.Accepted.{Accepted}
use Rattle.rules.specs.declared.answers.Batched.{Batched}
use Rattle.rules.specs.declared.fault.Fault.TheVariants.{HotAtClose}
use Rattle.rules.specs.declared.finding.Finding.{Finding}
use Rattle.rules.specs.declared.moves.Move.{Move}
use Rattle.rules.specs.declared.phase.Phase.{Phase}
use Rattle.rules.specs.declared.phase.Phase.TheVariants as phase
use Rattle.rules.specs.declared.tallies.Counts.{Counts}
use Rattle.rules.specs.declared.tallies.Tally.{Tally}

-- one of the six counts of a tally
abbrev pub count_in : Tally → Count → ℕ
count_in t Starts = t.started
count_in t Asks = t.asked
count_in t Repeats = t.repeats
count_in t FiredOut = t.fired
count_in t LapsedOut = t.lapsed
count_in t StruckOut = t.struck

-- the refusal if its test holds, and otherwise what is judged later
abbrev pub refused_if : Bool → Refusal → Option Refusal → Option Refusal
refused_if fails r later = cond fails (Some r) later

-- one outcome for a refusal, another without
abbrev pub unless : {A : Type 0} → Option Refusal → (Refusal → A) → A → A
unless None no' yes' = yes'
unless (Some r) no' yes' = no' r

-- one outcome for what is accepted, another for a refusal
abbrev pub on_result : {R A : Type 0} → Result R Refusal → (R → A) → (Refusal → A) → A
on_result (Ok a) yes' no' = yes' a
on_result (Err r) yes' no' = no' r

-- what a batch gives back: how many events were accepted, how many findings they made, and a refusal, if there was one
abbrev pub batched : ℕ → ℕ → Option Refusal → Batched
batched n m r = record { accepted = n; findings = m; refusal = r }

-- a book with its shelf's set and limit; the counts are those of each name
pub record BookModel (V : Type 0) : Type 0 where
  pub phase : Phase
  pub accepted : ℕ
  pub counts : Count → ℕ → ℕ
  pub items : List (Item V)
  pub limit : ℕ

-- two books with the same items and, for each name that is counted, the same counts
pub record Alike {V : Type 0} (b b' : BookModel V) : Type 0 where
  pub phase : b.phase ≡ b'.phase
  pub accepted : b.accepted ≡ b'.accepted
  pub items : b.items ≡ b'.items
  pub limit : b.limit ≡ b'.limit
  pub counts : (c : Count) (n : ℕ) → n < 32 → b.counts c n ≡ b'.counts c n

-- One call as it was made and came back: its arguments, each lent buffer as lent and as given back, and the value returned.
pub data Turn (V : Type 0) : Type 0 where
  Opening : (back : Result (Unit {0}) Refusal) → Turn V
  Putting : Event V → (pad pad' : List (Move V)) (roll roll' : List (Finding V)) (back : Result Accepted Refusal) → Turn V
  Batching : (bytes : List ℕ) (pad pad' : List (Move V)) (roll roll' : List (Finding V)) (back : Batched) → Turn V
  Ending : (roll roll' : List (Finding V)) (back : Result ℕ Refusal) → Turn V
  Listing : (room room' : List (Item V)) (back : ℕ) → Turn V
  Tallying : (name : ℕ) (back : Result Counts Refusal) → Turn V

-- a call as it was made
pub data Call (V : Type 0) : Type 0 where
  ToOpen : Call V
  ToPut : Event V → (pad : List (Move V)) (roll : List (Finding V)) → Call V
  ToBatch : (bytes : List ℕ) (pad : List (Move V)) (roll : List (Finding V)) → Call V
  ToEnd : (roll : List (Finding V)) → Call V
  ToList : (room : List (Item V)) → Call V
  ToTally : (name : ℕ) → Call V

-- the call that a turn made
abbrev pub call_of : {V : Type 0} → Turn V → Call V
call_of (Opening back) = ToOpen
call_of (Putting e pad pad' roll roll' back) = ToPut e pad roll
call_of (Batching bytes pad pad' roll roll' back) = ToBatch bytes pad roll
call_of (Ending roll roll' back) = ToEnd roll
call_of (Listing room room' back) = ToList room
call_of (Tallying name back) = ToTally name

-- What a call gives back, what it leaves on pad and roll, and the book afterwards.

-- of an open
pub record OpenOutcome (V : Type 0) : Type 0 where
  pub back : Result (Unit {0}) Refusal
  pub book : BookModel V

-- of a put or a batch, by what it gives back
pub record EventOutcome (V R : Type 0) : Type 0 where
  pub back : R
  pub pad : List (Move V)
  pub roll : List (Finding V)
  pub book : BookModel V

-- of an end
pub record EndOutcome (V : Type 0) : Type 0 where
  pub back : Result ℕ Refusal
  pub roll : List (Finding V)
  pub book : BookModel V

module _ {V : Type 0} where
  -- a book of the program: its phase, how many events it accepted, the tally of each name, and its shelf's set and limit
  abbrev pub book_of : Phase → ℕ → List Tally → List (Item V) → ℕ → BookModel V
  book_of p n tallies F limit = record {
    phase = p;
    accepted = n;
    counts = λ c name. count_in (slice_index_or tallies name no_tally) c;
    items = F;
    limit = limit;
  }

  -- a book as it is made, on a shelf with a set and a limit
  abbrev pub made_book : List (Item V) → ℕ → BookModel V
  made_book F limit = record { phase = phase.Blank; accepted = 0; counts = λ c n. 0; items = F; limit = limit }

  -- the book after an accepted end
  unfoldable pub ended_book : BookModel V → BookModel V
  ended_book b = record { phase = phase.Ended; accepted = b.accepted; counts = b.counts; items = b.items; limit = b.limit }

  -- the seven counts of a name; open is counted from the shelf
  abbrev pub counts_of : BookModel V → ℕ → Counts
  counts_of b n = record {
    kept = record {
      started = b.counts Starts n;
      asked = b.counts Asks n;
      repeats = b.counts Repeats n;
      fired = b.counts FiredOut n;
      lapsed = b.counts LapsedOut n;
      struck = b.counts StruckOut n;
    };
    «open» = how_many (named n) b.items;
  }

  -- what a tally owes: names run from 0 to 31
  abbrev pub tally_back : BookModel V → ℕ → Result Counts Refusal
  tally_back b n = cond (nat_lt 31 n) (Err UnknownName) (Ok (counts_of b n))

  -- what a list leaves in its room: the items in order, as far as it reaches
  abbrev pub listed_in : List (Item V) → BookModel V → List (Item V)
  listed_in room b = filled (take (length room) b.items) room

  -- two books with the same open items and the same seven counts of each name
  pub record Agreeing (b b' : BookModel V) : Type 0 where
    pub items : b.items ≡ b'.items
    pub counts : (n : ℕ) → n < 32 → counts_of b n ≡ counts_of b' n

  -- a put that is refused
  abbrev pub refused_put : List (Move V) → List (Finding V) → BookModel V → Refusal → EventOutcome V (Result Accepted Refusal)
  refused_put pad roll b r = record { back = Err r; pad = pad; roll = roll; book = b }

  -- a batch that stops, at its end or with a refusal
  abbrev pub stopped : Option Refusal → List (Move V) → List (Finding V) → BookModel V → EventOutcome V Batched
  stopped r pad roll b = record { back = batched 0 0 r; pad = pad; roll = roll; book = b }

  -- a batch after one more put was accepted, which left that roll
  abbrev pub one_more : Accepted → List (Finding V) → EventOutcome V Batched → EventOutcome V Batched
  one_more a roll rest = record {
    back = batched (1 + rest.back.accepted) (a.findings + rest.back.findings) rest.back.refusal;
    pad = rest.pad;
    roll = take a.findings roll ++ rest.roll;
    book = rest.book;
  }

  -- a batch of which n events and m findings, which stand in front of the roll, are done
  abbrev pub so_far : ℕ → ℕ → List (Finding V) → EventOutcome V Batched → EventOutcome V Batched
  so_far n m front rest = record {
    back = batched (n + rest.back.accepted) (m + rest.back.findings) rest.back.refusal;
    pad = rest.pad;
    roll = front ++ rest.roll;
    book = rest.book;
  }

  -- why an event is refused before its moves are listed; the place is that of its record in a batch, and 0 in a put
  unfoldable pub early_refusal : ℕ → BookModel V → Event V → Option Refusal
  early_refusal place b e =
      refused_if (not (is_open b.phase)) WrongPhase (
      refused_if (not (kind_fits e.kind)) (Malformed place) (
      refused_if (nat_le 1000000 b.accepted) (TooManyEvents place)
      None))

  module _ (s : SheetModel V) where
    -- End: the hot items are findings, and the shelf stays as it is.

    -- the state of the item is hot
    abbrev pub is_hot : Item V → Bool
    is_hot x = (state_of s.states x.name).hot

    -- the closing findings of a set, with an event number
    unfoldable pub closings : ℕ → List (Item V) → List (Finding V)
    closings n F = map (λ (x : Item V). record { event = n; fault = HotAtClose; item = x }) (kept is_hot F)

    -- why an end is refused
    unfoldable pub end_refusal : BookModel V → List (Finding V) → Option Refusal
    end_refusal b roll =
        refused_if (not (is_open b.phase)) WrongPhase (
        refused_if (nat_lt (length roll) (length (closings b.accepted b.items))) (TooManyFindings 0)
        None)

    -- what an end owes
    abbrev pub end_outcome : BookModel V → List (Finding V) → EndOutcome V
    end_outcome b roll =
        let fs = closings b.accepted b.items in
        unless (end_refusal b roll)
        (λ r. record { back = Err r; roll = roll; book = b })
        (record { back = Ok (length fs); roll = filled fs roll; book = ended_book b })

  module _ (K : ValueKind V) where
    -- the item of a state without parameters
    abbrev pub plain_item : ℕ → Item V
    plain_item n = record { name = n; first = K.blank; second = K.blank; third = K.blank }

    -- the init items of some states, the first of which has a given number
    abbrev pub inits_from : ℕ → List State → List (Item V)
    inits_from n [] = []
    inits_from n (d ∷ ds) = cond d.init (plain_item n ∷ []) [] ++ inits_from (n + 1) ds

    module _ (s : SheetModel V) where
      -- the init items of the sheet, in order
      abbrev pub init_items : List (Item V)
      init_items = inits_from 0 s.states

      -- what open adds to each count of a name
      abbrev pub started_by : Count → ℕ → ℕ
      started_by Starts n = how_many (named n) init_items
      started_by Asks n = 0
      started_by Repeats n = 0
      started_by FiredOut n = 0
      started_by LapsedOut n = 0
      started_by StruckOut n = 0

      -- Open: on an empty shelf, the init items are put in.

      -- why an open is refused
      unfoldable pub open_refusal : BookModel V → Option Refusal
      open_refusal b =
          refused_if (not (is_blank b.phase)) WrongPhase (
          refused_if (nat_lt 0 (length b.items)) ShelfNotEmpty (
          refused_if (nat_lt b.limit (length init_items)) (ShelfFull 0)
          None))

      -- the book after an accepted open
      unfoldable pub opened_book : BookModel V → BookModel V
      opened_book b = record {
        phase = phase.Open;
        accepted = b.accepted;
        counts = λ c n. b.counts c n + started_by c n;
        items = init_items;
        limit = b.limit;
      }

      -- what an open owes
      abbrev pub open_outcome : BookModel V → OpenOutcome V
      open_outcome b =
          unless (open_refusal b)
          (λ r. record { back = Err r; book = b })
          (record { back = Ok tt; book = opened_book b })

      -- Put: an event makes moves and findings, and the book takes it.

      -- the findings of an event with its number
      unfoldable pub findings_at : ℕ → List (Item V) → Event V → List (Finding V)
      findings_at n F e = map (numbered_as n) (faults_at K s F e)

      -- the book after an accepted event
      unfoldable pub took : Event V → BookModel V → BookModel V
      took e b = record {
        phase = b.phase;
        accepted = b.accepted + 1;
        counts = λ c n. b.counts c n + count_added K c n (moves_at K s b.items e) b.items;
        items = set_after K s b.items e;
        limit = b.limit;
      }

      -- why an event is refused once its moves are listed; the limit is judged on the new set alone
      unfoldable pub late_refusal : ℕ → BookModel V → Event V → List (Move V) → List (Finding V) → Option Refusal
      late_refusal place b e pad roll =
          refused_if (nat_lt (length pad) (length (moves_at K s b.items e))) (TooManyMoves place) (
          refused_if (nat_lt (length roll) (length (findings_at (b.accepted + 1) b.items e))) (TooManyFindings place) (
          refused_if (nat_lt b.limit (length (set_after K s b.items e))) (ShelfFull place)
          None))

      -- an accepted put fills the front of the pad and of the roll
      unfoldable pub accepted_put : BookModel V → Event V → List (Move V) → List (Finding V) → EventOutcome V (Result Accepted Refusal)
      accepted_put b e pad roll =
          let ms = moves_at K s b.items e in
          let fs = findings_at (b.accepted + 1) b.items e in
          record {
            back = Ok (record { moves = length ms; findings = length fs });
            pad = filled ms pad;
            roll = filled fs roll;
            book = took e b;
          }

      -- the front of the pad, with the moves as far as they fit
      unfoldable pub filled_pad : BookModel V → Event V → List (Move V) → List (Move V)
      filled_pad b e pad = filled (take (length pad) (moves_at K s b.items e)) pad

      -- a put of an event whose record stands at a place
      abbrev pub put_at : ℕ → BookModel V → Event V → List (Move V) → List (Finding V) → EventOutcome V (Result Accepted Refusal)
      put_at place b e pad roll =
          unless (early_refusal place b e) (refused_put pad roll b) (
          unless (late_refusal place b e pad roll) (refused_put (filled_pad b e pad) roll b)
          (accepted_put b e pad roll))

      -- what a put owes
      abbrev pub put_outcome : BookModel V → Event V → List (Move V) → List (Finding V) → EventOutcome V (Result Accepted Refusal)
      put_outcome b e pad roll = put_at 0 b e pad roll

      -- Batch: each record is put with the unfilled rest of the roll, up to the first refusal.

      -- from some records on: what one record's put leaves is what the next finds
      abbrev pub batch_from : BookModel V → List (Move V) → List (Finding V) → Records V → EventOutcome V Batched
      batch_from b pad roll done = stopped None pad roll b
      batch_from b pad roll (stop q) = stopped (Some (Malformed q)) pad roll b
      batch_from b pad roll (one place e more) =
          let o = put_at place b e pad roll in
          on_result o.back
          (λ a. one_more a o.roll (batch_from o.book o.pad (drop a.findings o.roll) more))
          (λ r. stopped (Some r) o.pad o.roll o.book)

      -- what a batch owes
      abbrev pub batch_outcome : BookModel V → List ℕ → List (Move V) → List (Finding V) → EventOutcome V Batched
      batch_outcome b bytes pad roll =
          cond (is_open b.phase)
          (batch_from b pad roll (records_at K.reads bytes 0))
          (stopped (Some WrongPhase) pad roll b)

      -- Every call: what came back from it is what it owes at a book,
      abbrev pub Replied : BookModel V → Turn V → Type 0
      Replied b (Opening back) = back ≡ (open_outcome b).back
      Replied b (Putting e pad pad' roll roll' back) =
          let o = put_outcome b e pad roll in
          (back ≡ o.back) × (pad' ≡ o.pad) × (roll' ≡ o.roll)
      Replied b (Batching bytes pad pad' roll roll' back) =
          let o = batch_outcome b bytes pad roll in
          (back ≡ o.back) × (pad' ≡ o.pad) × (roll' ≡ o.roll)
      Replied b (Ending roll roll' back) =
          let o = end_outcome s b roll in
          (back ≡ o.back) × (roll' ≡ o.roll)
      Replied b (Listing room room' back) = (back ≡ length b.items) × (room' ≡ listed_in room b)
      Replied b (Tallying name back) = back ≡ tally_back b name

      -- the book that it leaves,
      abbrev pub book_after : BookModel V → Turn V → BookModel V
      book_after b (Opening back) = (open_outcome b).book
      book_after b (Putting e pad pad' roll roll' back) = (put_outcome b e pad roll).book
      book_after b (Batching bytes pad pad' roll roll' back) = (batch_outcome b bytes pad roll).book
      book_after b (Ending roll roll' back) = (end_outcome s b roll).book
      book_after b (Listing room room' back) = b
      book_after b (Tallying name back) = b

      -- and all that it promises: what came back, and the book afterwards
      pub record Served (b : BookModel V) (t : Turn V) (b' : BookModel V) : Type 0 where
        pub replied : Replied b t
        pub book : Alike b' (book_after b t)
