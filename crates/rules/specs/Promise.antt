-- The main promise, of every store opened new, every lawful barrier and every list of calls: nothing in use is taken
-- back, each answer is the book's, what is out of reach is taken back in time, and room suffices.
use Rattle.std.specs.Prelude.{◌≡◌, ℕ, suc, ◌+◌, ◌-◌, ◌*◌, ◌/◌, ◌<◌, ◌≤◌, max, true, false, cond, ◌↔◌, List, [], ◌∷◌, length, Some, None, Option, ◌≢◌, slice_index, slice_index_or}
use Rattle.words.specs.Words.{nothing, number_word, is_number, place_of}
use Rattle.words.specs.declared.place.Place.{Place}
use Rattle.words.specs.declared.place.Place.TheVariants.{Young, Old}
use Rattle.ring.specs.Arcs.{has, ring_of}
use Rattle.rules.specs.Rules.{Record, Barrier, Sizes, Store, Call, step, full, Answer, refused, record_at, empty_nursery, scan_and_close, do_full, run_call}
use Rattle.rules.specs.Book.{BookWord, nil, num, ref, Book, book_record, book_call, Reachable}
use Rattle.rules.specs.Tracing.{TraceState, Traced}
use Rattle.rules.specs.History.{History, Holds, collects, history_call, history_run, new_history}

-- where a word leads, record r is held; H says which record a place holds
abbrev pub LeadsTo : (Place → ℕ → Type 0) → Option Place → ℕ → Type 0
LeadsTo H None r = ⊥
LeadsTo H (Some p) r = H p r

-- a store's word stands for an equal nothing or number, or for the record whose place it is
abbrev pub StandsForIn : (Place → ℕ → Type 0) → ℕ → BookWord → Type 0
StandsForIn H w nil = w ≡ nothing
StandsForIn H w (num v) = (w ≡ number_word v) × (is_number v ≡ true)
StandsForIn H w (ref r) = LeadsTo H (place_of w) r

abbrev pub StandsFor : History → ℕ → BookWord → Type 0
StandsFor j = StandsForIn (Holds j)

-- a place is no free slot
abbrev pub NotFree : List ℕ → Place → Type 0
NotFree free (Young p) = Unit {0}
NotFree free (Old q) = has q free ≡ false

-- record r has one place of its own, which is no free slot and holds the book's fields
pub record Placed (j : History) (r : ℕ) : Type 0 where
  pub place : Place
  pub holds : Holds j place r
  pub only : (p : Place) → Holds j p r → p ≡ place
  pub in_use : NotFree j.store.arcs.free place
  pub same_plain : (record_at j.store place).plain ≡ (book_record j.book r).plain
  pub same_count : length (record_at j.store place).links ≡ length (book_record j.book r).links
  pub same_links : (k : ℕ) → k < length (book_record j.book r).links → StandsFor j (slice_index (record_at j.store place).links k) (slice_index_or (book_record j.book r).links k nil)

-- every slot is on the ring once
pub record EverySlotOnce (slots : ℕ) (ring : List ℕ) : Type 0 where
  pub size : length ring ≡ slots
  pub every : (q : ℕ) → q < slots → has q ring ≡ true

-- nothing in use is taken back: each register stands for the book's word, each reachable record has its place, the ring
-- has every slot once, and occupied slots and nursery records together never exceed the slots
pub record Faithful (z : Sizes) (j : History) : Type 0 where
  pub registers : (i : ℕ) → i < z.registers → StandsFor j (slice_index j.store.registers i) (slice_index_or j.book.registers i nil)
  pub records : (r : ℕ) → Reachable j.book r → Placed j r
  pub ring : EverySlotOnce z.slots (ring_of j.store.arcs)
  pub nursery_fits : length j.store.nursery ≤ z.places
  pub together : length j.store.nursery + (length j.store.arcs.white + (length j.store.arcs.grey + length j.store.arcs.black)) ≤ z.slots

-- each answer is the book's
abbrev pub Agrees : Sizes → Barrier → History → Call → Type 0
Agrees z b j c = let a : Answer = (run_call z b j.store c).1 in a ≡ (book_call z j.book c a).1

-- no number twice in a list
abbrev pub Distinct : List ℕ → Type 0
Distinct xs = (i k : ℕ) → i < length xs → k < length xs → slice_index xs i ≡ slice_index xs k → i ≡ k

-- exactly n records are reachable
pub record Counted (b : Book) (n : ℕ) : Type 0 where
  pub records : List ℕ
  pub size : length records ≡ n
  pub distinct : Distinct records
  pub reachable : (i : ℕ) → i < n → Reachable b (slice_index records i)
  pub all : (r : ℕ) → Reachable b r → has r records ≡ true

-- n / d rounded up, for 0 < d
abbrev pub divide_up : ℕ → ℕ → ℕ
divide_up n d = (n + (d - 1)) / d

-- the steps that a cycle may take with n records reachable when it opens and k scans a step
abbrev pub cycle_steps : ℕ → ℕ → ℕ
cycle_steps n k = max 1 (divide_up n k)

-- the steps in a list of calls; full counts as one
abbrev pub steps_in : List Call → ℕ
steps_in [] = 0
steps_in (c ∷ cs) = cond (collects c) (suc (steps_in cs)) (steps_in cs)

-- a cycle opens in the call
pub data OpensCycle (j : History) : Call → Type 0 where
  by_step : j.store.cycle ≡ false → OpensCycle j step
  by_full : OpensCycle j full

-- no cycle is open at once, or after some of the calls that follow, in their order
pub data ClosedBy (z : Sizes) (b : Barrier) : History → List Call → Type 0 where
  at_once : {j : History} {cs : List Call} → j.store.cycle ≡ false → ClosedBy z b j cs
  later : {j : History} {c : Call} {cs : List Call} → ClosedBy z b (history_call z b j c) cs → ClosedBy z b j (c ∷ cs)

-- a record out of reach when a cycle opens has no place once that cycle has closed
abbrev pub Reclaimed : Sizes → Barrier → History → Call → List Call → Type 0
Reclaimed z b j c cs = OpensCycle j c → (r : ℕ) → r < length j.book.records → (Reachable j.book r → ⊥) → ClosedBy z b (history_call z b j c) cs → (p : Place) → Holds (history_run z b j (c ∷ cs)) p r → ⊥

-- and it closes within the steps that it may take, the one that opens it included
abbrev pub ClosesInTime : Sizes → Barrier → History → Call → List Call → Type 0
ClosesInTime z b j c cs = OpensCycle j c → (n : ℕ) → Counted j.book n → cycle_steps n z.scans ≤ steps_in (c ∷ cs) → ClosedBy z b (history_call z b j c) cs

-- no more than L records are reachable after any of the calls
pub data LiveAtMost (z : Sizes) (b : Barrier) (L : ℕ) : History → List Call → Type 0 where
  stop : {j : History} → LiveAtMost z b L j []
  more : {j : History} {c : Call} {cs : List Call} → ((n : ℕ) → Counted (history_call z b j c).book n → n ≤ L) → LiveAtMost z b L (history_call z b j c) cs → LiveAtMost z b L j (c ∷ cs)

-- the slots that suffice for L reachable records, Y nursery places and K scans a step: L + (2T − 1) × Y, where T is the
-- number of steps that a cycle may take with L records reachable
abbrev pub slots_for : ℕ → ℕ → ℕ → ℕ
slots_for L Y K = L + (2 * cycle_steps L K - 1) * Y

abbrev pub room_for : ℕ → Sizes → ℕ
room_for L z = slots_for L z.places z.scans

-- no call is refused for want of a free slot
abbrev pub NeverLacksRoom : Sizes → Barrier → History → List Call → Type 0
NeverLacksRoom z b j [] = Unit {0}
NeverLacksRoom z b j (c ∷ cs) = ((run_call z b j.store c).1 ≢ refused 23) × NeverLacksRoom z b (history_call z b j c) cs

-- after full the occupied slots hold exactly the records that tracing, in whatever order, does not leave white
abbrev pub ExactAfterFull : History → Type 0
ExactAfterFull j = (t : TraceState) → Traced j.book t → t.grey ≡ [] → (r : ℕ) → ((r < length j.book.records) × (has r t.white ≡ false)) ↔ ((q : ℕ) × (slice_index_or j.slot_owners q None ≡ Some r))

-- full finishes each cycle: as many scans as there are slots leave no slot grey, so that the cycle closes; the cycle that
-- was open first, and then the one that full opens
pub record FullFinishes (z : Sizes) (b : Barrier) (s : Store) : Type 0 where
  pub first : s.cycle ≡ true → (scan_and_close z.slots (empty_nursery z b s).store).cycle ≡ false
  pub second : (do_full z b s).0.cycle ≡ false

-- the sizes that a store may have
pub record InRange (z : Sizes) : Type 0 where
  pub slots : (1 ≤ z.slots) × (z.slots ≤ 16384)
  pub places : (1 ≤ z.places) × (z.places ≤ 1024)
  pub registers : (1 ≤ z.registers) × (z.registers ≤ 64)
  pub scans : (1 ≤ z.scans) × (z.scans ≤ 16384)
  pub links : z.links ≤ 8

-- the main promise of one list of calls, `before`, on a store opened new, and of the calls that follow it
pub record Promise (z : Sizes) (b : Barrier) (slots : List Record) (before : List Call) : Type 0 where
  pub faithful : Faithful z (history_run z b (new_history z slots) before)
  pub agrees : (c : Call) → Agrees z b (history_run z b (new_history z slots) before) c
  pub reclaimed : (c : Call) (cs : List Call) → Reclaimed z b (history_run z b (new_history z slots) before) c cs
  pub closes_in_time : (c : Call) (cs : List Call) → ClosesInTime z b (history_run z b (new_history z slots) before) c cs
  pub full_finishes : FullFinishes z b (history_run z b (new_history z slots) before).store
  pub exact_after_full : ExactAfterFull (history_call z b (history_run z b (new_history z slots) before) full)
  pub room : (L : ℕ) → LiveAtMost z b L (new_history z slots) before → room_for L z ≤ z.slots → NeverLacksRoom z b (new_history z slots) before
