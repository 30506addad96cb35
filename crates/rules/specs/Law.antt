-- The law of a book's use, over whole histories.
use Rattle.std.specs.Prelude.{◌≡◌, ℕ, ◌+◌, ◌<◌, Bool, true, false, cond, not, ◌&&◌, ◌||◌, List, [], ◌∷◌, ◌++◌, map, length, take, is_ok, Ok, Err, Result, nat_eq}
use Rattle.records.specs.declared.event.Event.{Event}
use Rattle.items.specs.Ascending.{ascends, kept}
use Rattle.items.specs.Items.{item_order}
use Rattle.items.specs.declared.item.Item.{Item}
use Rattle.sheets.specs.Keyed.{keyed_tables}
use Rattle.sheets.specs.Sound.{sound_tables}
use Rattle.sheets.specs.Tables.{SheetModel}
use Rattle.sheets.specs.Words.{some}
use Rattle.rules.specs.Kinds.{ValueKind}
use Rattle.rules.specs.Keys.{has_key, of_key}
use Rattle.rules.specs.Step.{Count, Found, in_set, moved, moved_by, taken, moves_at, set_after, count_added}
use Rattle.rules.specs.Records.{events_in, records_at}
use Rattle.rules.specs.Book.{BookModel, Alike, Turn, Opening, Putting, Batching, Ending, Listing, Tallying, Call, call_of, made_book, init_items, started_by, findings_at, closings, counts_of, Agreeing, Replied, Served}
use Rattle.rules.specs.declared.finding.Finding.{Finding}
use Rattle.rules.specs.declared.moves.Cause.TheVariants.{Asked}
use Rattle.rules.specs.declared.phase.Phase.TheVariants as phase

-- What one call tells by what came back from it.

-- what is made of an accepted call; nothing of a refused one
abbrev pub on_ok : {R E X : Type 0} → Result R E → (R → List X) → List X
on_ok (Ok r) f = f r
on_ok (Err e) f = []

module _ {V : Type 0} where
  -- an accepted open
  abbrev pub opens : Turn V → Bool
  opens (Opening back) = is_ok back
  opens (Putting e pad pad' roll roll' back) = false
  opens (Batching bytes pad pad' roll roll' back) = false
  opens (Ending roll roll' back) = false
  opens (Listing room room' back) = false
  opens (Tallying name back) = false

  -- an accepted end
  abbrev pub ends : Turn V → Bool
  ends (Opening back) = false
  ends (Putting e pad pad' roll roll' back) = false
  ends (Batching bytes pad pad' roll roll' back) = false
  ends (Ending roll roll' back) = is_ok back
  ends (Listing room room' back) = false
  ends (Tallying name back) = false

  -- the accepted events: that of a put not refused, and as many of a batch as it says
  abbrev pub accepts : ValueKind V → Turn V → List (Event V)
  accepts K (Opening back) = []
  accepts K (Putting e pad pad' roll roll' back) = on_ok back (λ a. e ∷ [])
  accepts K (Batching bytes pad pad' roll roll' back) = take back.accepted (events_in (records_at K.reads bytes 0))
  accepts K (Ending roll roll' back) = []
  accepts K (Listing room room' back) = []
  accepts K (Tallying name back) = []

  -- the findings that a put or a batch wrote: those on the roll that came back, as many as it says
  abbrev pub put_wrote : Turn V → List (Finding V)
  put_wrote (Opening back) = []
  put_wrote (Putting e pad pad' roll roll' back) = on_ok back (λ a. take a.findings roll')
  put_wrote (Batching bytes pad pad' roll roll' back) = take back.findings roll'
  put_wrote (Ending roll roll' back) = []
  put_wrote (Listing room room' back) = []
  put_wrote (Tallying name back) = []

  -- and those that end wrote
  abbrev pub end_wrote : Turn V → List (Finding V)
  end_wrote (Opening back) = []
  end_wrote (Putting e pad pad' roll roll' back) = []
  end_wrote (Batching bytes pad pad' roll roll' back) = []
  end_wrote (Ending roll roll' back) = on_ok back (λ n. take n roll')
  end_wrote (Listing room room' back) = []
  end_wrote (Tallying name back) = []

  -- What a history tells. A history is a list of turns with the latest first; the lists that it tells are in the order of time.

  -- open was accepted
  abbrev pub is_opened : List (Turn V) → Bool
  is_opened [] = false
  is_opened (t ∷ h) = opens t || is_opened h

  -- end was accepted
  abbrev pub is_ended : List (Turn V) → Bool
  is_ended [] = false
  is_ended (t ∷ h) = ends t || is_ended h

  -- the accepted events, in order
  abbrev pub accepted_events : ValueKind V → List (Turn V) → List (Event V)
  accepted_events K [] = []
  accepted_events K (t ∷ h) = accepted_events K h ++ accepts K t

  -- the findings that puts wrote, a batch's puts included
  abbrev pub put_findings : List (Turn V) → List (Finding V)
  put_findings [] = []
  put_findings (t ∷ h) = put_findings h ++ put_wrote t

  -- the findings that end wrote
  abbrev pub end_findings : List (Turn V) → List (Finding V)
  end_findings [] = []
  end_findings (t ∷ h) = end_findings h ++ end_wrote t

  -- all findings written, in order
  abbrev pub findings_written : List (Turn V) → List (Finding V)
  findings_written [] = []
  findings_written (t ∷ h) = findings_written h ++ (put_wrote t ++ end_wrote t)

  -- the calls as they were made
  abbrev pub calls_of : List (Turn V) → List (Call V)
  calls_of h = map call_of h

  -- a finding with its event number aside
  abbrev pub aside : Finding V → Found V
  aside f = record { fault = f.fault; item = f.item }

  -- what load has found of a sheet that it accepted
  abbrev pub SoundSheet : SheetModel V → Type 0
  SoundSheet s = sound_tables s.states s.rows s.kinds (length s.constants) ≡ true

  -- the sheet is keyed
  abbrev pub KeyedSheet : SheetModel V → Type 0
  KeyedSheet s = keyed_tables s.states s.rows s.kinds ≡ true

  module _ (K : ValueKind V) (s : SheetModel V) where
    -- Uses of books of a type B, each seen as a book with its shelf's set and limit.
    module _ {B : Type 0} (view : B → BookModel V) where
      -- a use begins with a book as it is made, and each call is served as it promises
      pub data Use (F : List (Item V)) (limit : ℕ) : List (Turn V) → B → Type 0 where
        made : {b : B} → Alike (view b) (made_book F limit) → Use F limit [] b
        called : {h : List (Turn V)} {b b' : B} → Use F limit h b → (t : Turn V) → Served K s (view b) t (view b')
            → Use F limit (t ∷ h) b'

      -- a use at one point: the shelf's first set and limit, the calls so far and the book now
      pub record Point : Type 0 where
        pub before : List (Item V)
        pub limit : ℕ
        pub history : List (Turn V)
        pub book : B
        pub used : Use before limit history book

    -- What the rules give for accepted events, one after the other, from the set before them.

    -- the set after the events
    abbrev pub settled : List (Item V) → List (Event V) → List (Item V)
    settled F [] = F
    settled F (e ∷ es) = settled (set_after K s F e) es

    -- their findings, where n events came before
    abbrev pub ruled_findings : ℕ → List (Item V) → List (Event V) → List (Finding V)
    ruled_findings n F [] = []
    ruled_findings n F (e ∷ es) = findings_at K s (n + 1) F e ++ ruled_findings (n + 1) (set_after K s F e) es

    -- what they add to a count of a name
    abbrev pub count_over : Count → ℕ → List (Item V) → List (Event V) → ℕ
    count_over c n F [] = 0
    count_over c n F (e ∷ es) = count_added K c n (moves_at K s F e) F + count_over c n (set_after K s F e) es

    -- the items that accepted events asked for
    abbrev pub asked_over : List (Item V) → List (Event V) → List (Item V)
    asked_over F [] = []
    asked_over F (e ∷ es) = moved Asked (moves_at K s F e) ++ asked_over (set_after K s F e) es

    -- What a key has.

    -- its accepted events
    abbrev pub key_events : V → List (Turn V) → List (Event V)
    key_events k h = kept (has_key K s k) (accepted_events K h)

    -- the numbers of its events among some, where n events came before
    abbrev pub key_numbers : V → ℕ → List (Event V) → List ℕ
    key_numbers k n [] = []
    key_numbers k n (e ∷ es) = cond (has_key K s k e) ((n + 1) ∷ []) [] ++ key_numbers k (n + 1) es

    -- its open items
    abbrev pub key_items : V → BookModel V → List (Item V)
    key_items k b = kept (of_key K s k) b.items

    -- its findings: those written at its accepted events
    abbrev pub key_findings : V → List (Turn V) → List (Finding V)
    key_findings k h = kept (λ (f : Finding V). some (nat_eq f.event) (key_numbers k 0 (accepted_events K h))) (put_findings h)

    -- its closing findings: those that end wrote for its open items
    abbrev pub key_closing : V → List (Turn V) → List (Finding V)
    key_closing k h = kept (λ (f : Finding V). of_key K s k f.item) (end_findings h)

    -- the book that the rules give, from its shelf's first set and limit and its calls so far
    abbrev pub ruled_book : List (Item V) → ℕ → List (Turn V) → BookModel V
    ruled_book F limit h = record {
      phase = cond (is_ended h) phase.Ended (cond (is_opened h) phase.Open phase.Blank);
      accepted = length (accepted_events K h);
      counts = λ c n. cond (is_opened h) (started_by K s c n + count_over c n (init_items K s) (accepted_events K h)) 0;
      items = cond (is_opened h) (settled (init_items K s) (accepted_events K h)) F;
      limit = limit;
    }

    -- every call so far, refused or not, came back as it owes at that book
    abbrev pub Answered : List (Item V) → ℕ → List (Turn V) → Type 0
    Answered F limit [] = Unit {0}
    Answered F limit (t ∷ h) = Replied K s (ruled_book F limit h) t × Answered F limit h

    -- all findings that the rules give
    abbrev pub ruled_written : List (Item V) → ℕ → List (Turn V) → List (Finding V)
    ruled_written F limit h =
        let b = ruled_book F limit h in
        ruled_findings 0 (init_items K s) (accepted_events K h) ++ cond (is_ended h) (closings s b.accepted b.items) []

    -- an item stands after an event exactly if it was asked for, or stood before and neither left nor was struck
    abbrev pub Membership : List (Item V) → Event V → Item V → Type 0
    Membership F e x =
        let ms = moves_at K s F e in
        in_set K x (set_after K s F e) ≡ (moved_by K Asked ms x || (in_set K x F && not (taken K ms x)))

    -- One point of a use.
    module _ {B : Type 0} {view : B → BookModel V} where
      -- open was accepted
      abbrev pub HasOpened : Point view → Type 0
      HasOpened p = is_opened p.history ≡ true

      -- end was accepted
      abbrev pub HasEnded : Point view → Type 0
      HasEnded p = is_ended p.history ≡ true

      -- what the book has, what came back from each call and what was written is exactly what the rules give
      pub record Exact (p : Point view) : Type 0 where
        pub book : Alike (view p.book) (ruled_book p.before p.limit p.history)
        pub answers : Answered p.before p.limit p.history
        pub writes : findings_written p.history ≡ ruled_written p.before p.limit p.history

      -- each open item stands once, and came in by open or by an ask of an accepted event; at each of these, items came and went as they must
      pub record Accounted (p : Point view) : Type 0 where
        pub once : ascends (item_order K.order) (view p.book).items ≡ true
        pub came : (x : Item V) → in_set K x (view p.book).items ≡ true
            → (in_set K x (init_items K s) || in_set K x (asked_over (init_items K s) (accepted_events K p.history))) ≡ true
        pub members : (es : List (Event V)) (e : Event V) (later : List (Event V)) → accepted_events K p.history ≡ es ++ e ∷ later
            → (x : Item V) → Membership (settled (init_items K s) es) e x

      -- for each name, what came in is open, or left for one reason
      abbrev pub Balanced : Point view → Type 0
      Balanced p = (n : ℕ) → n < 32 →
          let c = counts_of (view p.book) n in
          c.kept.started + c.kept.asked ≡ c.kept.repeats + c.kept.fired + c.kept.lapsed + c.kept.struck + c.«open»

    -- Two points, of two uses under one sheet.
    module _ {B B' : Type 0} {view : B → BookModel V} {view' : B' → BookModel V} (p : Point view) (q : Point view') where
      -- the shelves began alike and the calls were the same, each with the same arguments and buffers
      pub record SameCalls : Type 0 where
        pub before : p.before ≡ q.before
        pub limit : p.limit ≡ q.limit
        pub calls : calls_of p.history ≡ calls_of q.history

      -- all that came back is the same, and so are the books
      pub record SameCourse : Type 0 where
        pub history : p.history ≡ q.history
        pub book : Alike (view p.book) (view' q.book)

      -- a key's accepted events are the same list at both points
      abbrev pub SameEvents : V → Type 0
      SameEvents k = key_events k p.history ≡ key_events k q.history

      -- a key has the same open items and, event numbers aside, the same findings and, if both have ended, the same closing findings
      pub record SameKey (k : V) : Type 0 where
        pub items : key_items k (view p.book) ≡ key_items k (view' q.book)
        pub findings : map aside (key_findings k p.history) ≡ map aside (key_findings k q.history)
        pub closings : HasEnded p → HasEnded q → map aside (key_closing k p.history) ≡ map aside (key_closing k q.history)

      -- all open items and all counts are equal
      abbrev pub SameBook : Type 0
      SameBook = Agreeing (view p.book) (view' q.book)

  -- The law, for every sheet and every use at every point; where two uses are compared, their books may be of two types.
  pub record Law (K : ValueKind V) {B B' : Type 0} (view : B → BookModel V) (view' : B' → BookModel V) : Type 0 where
    -- open items, findings written, counts and answers are exactly those that the rules give
    pub exact : (s : SheetModel V) (p : Point K s view) → Exact K s p
    -- the same first set, limit and calls have the same answers
    pub determined : (s : SheetModel V) (p : Point K s view) (q : Point K s view') → SameCalls K s p q → SameCourse K s p q
    -- no open item stands twice, or came from nowhere
    pub accounted : (s : SheetModel V) (p : Point K s view) → HasOpened K s p → Accounted K s p
    -- started and asked are repeats, fired, lapsed, struck and open
    pub balanced : (s : SheetModel V) (p : Point K s view) → HasOpened K s p → Balanced K s p
    -- under a keyed sheet, what a key has is decided by the key's accepted events
    pub keys : (s : SheetModel V) → SoundSheet s → KeyedSheet s → (p : Point K s view) (q : Point K s view')
        → HasOpened K s p → HasOpened K s q → (k : V) → SameEvents K s p q k → SameKey K s p q k
    -- and if each key's accepted events are the same, however mixed with those of others, so are all open items and counts
    pub mixed : (s : SheetModel V) → SoundSheet s → KeyedSheet s → (p : Point K s view) (q : Point K s view')
        → HasOpened K s p → HasOpened K s q → ((k : V) → SameEvents K s p q k) → SameBook K s p q
