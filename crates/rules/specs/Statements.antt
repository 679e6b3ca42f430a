-- The statements that hold of every run, each under the name by which a contract cites it.
use Rattle.std.specs.Prelude.{◌≡◌, ℕ, ◌≤◌, Bool, false, List, [], ◌∷◌, length, ◌≢◌}
use Rattle.ring.specs.Arcs.{has}
use Rattle.rules.specs.Rules.{Record, Barrier, Lawful, Sizes, Store, Call, refused, run_call, run_call_if_open}
use Rattle.rules.specs.Book.{Book, book_call}
use Rattle.rules.specs.Tracing.{TracingEnds, TracingExact}
use Rattle.rules.specs.History.{History, history_call, history_run, new_history}
use Rattle.rules.specs.Promise.{Counted, steps_in, OpensCycle, ClosedBy, LiveAtMost, NeverLacksRoom, InRange, Promise}

-- it holds of every run under barrier b: a store opened new with sizes in range over slots that hold any records, and
-- any list of calls on it
abbrev pub OfEveryRunUnder : Barrier → (Sizes → List Record → List Call → Type 0) → Type 0
OfEveryRunUnder b P = (z : Sizes) → InRange z → (slots : List Record) → length slots ≡ z.slots → (calls : List Call) → P z slots calls

-- it holds of every run under every lawful barrier
abbrev pub OfEveryRun : (Barrier → Sizes → List Record → List Call → Type 0) → Type 0
OfEveryRun P = (b : Barrier) → Lawful b → OfEveryRunUnder b (P b)

-- store, book and places after the calls
abbrev pub after : Barrier → Sizes → List Record → List Call → History
after b z slots calls = history_run z b (new_history z slots) calls

-- the main promise under one barrier, and under every lawful one
abbrev pub KeepsPromise : Barrier → Type 0
KeepsPromise b = OfEveryRunUnder b (λ z slots calls. Promise z b slots calls)

abbrev pub NothingInUseIsTakenBack : Type 0
NothingInUseIsTakenBack = (b : Barrier) → Lawful b → KeepsPromise b

-- the number of reachable records exists after every list of calls, and there is only one
abbrev pub ReachableRecordsAreCounted : Type 0
ReachableRecordsAreCounted = OfEveryRun (λ b z slots calls. (n : ℕ) × Counted (after b z slots calls).book n × ((m : ℕ) → Counted (after b z slots calls).book m → m ≡ n))

-- the basic tracing algorithm ends over every book, and what it leaves white is what is out of reach
abbrev pub TracingAlwaysEnds : Type 0
TracingAlwaysEnds = (b : Book) → TracingEnds b

abbrev pub TracingIsExact : Type 0
TracingIsExact = (b : Book) → TracingExact b

-- no write is ever refused for want of a note: a noted record occupies a slot and is noted once
abbrev pub NotesNeverRunOut : Type 0
NotesNeverRunOut = OfEveryRun (λ b z slots calls. (c : Call) → (run_call z b (after b z slots calls).store c).1 ≢ refused 24)

-- a cycle that opens with n records reachable closes within t steps, the one that opens it included, at k scans a step
abbrev pub ClosesWithin : ℕ → ℕ → ℕ → Type 0
ClosesWithin n k t = OfEveryRun (λ b z slots calls. z.scans ≡ k → (c : Call) (cs : List Call) → OpensCycle (after b z slots calls) c → Counted (after b z slots calls).book n → t ≤ steps_in (c ∷ cs) → ClosedBy z b (history_call z b (after b z slots calls) c) cs)

-- S slots suffice for L reachable records with Y nursery places and K scans a step: no make is refused for want of a slot
abbrev pub RoomSuffices : ℕ → ℕ → ℕ → ℕ → Type 0
RoomSuffices L Y K S = OfEveryRun (λ b z slots calls. z.places ≡ Y → z.scans ≡ K → S ≤ z.slots → LiveAtMost z b L (new_history z slots) calls → NeverLacksRoom z b (new_history z slots) calls)

-- a closed store refuses every call with 20 and stays as it is, and so does the book
abbrev pub ClosedStoresAgree : Type 0
ClosedStoresAgree = (z : Sizes) (b : Barrier) (s : Store) (k : Book) (c : Call) → (run_call_if_open false z b s c ≡ (s, refused 20)) × (book_call z k c (refused 20) ≡ (k, refused 20))

-- the refusals that an open store can answer
abbrev pub may_refuse : ℕ → Bool
may_refuse n = has n (3 ∷ (4 ∷ (5 ∷ (6 ∷ (21 ∷ (22 ∷ (23 ∷ [])))))))

-- some call of some run is refused with n
pub record Answered (n : ℕ) : Type 0 where
  pub barrier : Barrier
  pub lawful : Lawful barrier
  pub sizes : Sizes
  pub in_range : InRange sizes
  pub slots : List Record
  pub size : length slots ≡ sizes.slots
  pub calls : List Call
  pub call : Call
  pub answer : (run_call sizes barrier (after barrier sizes slots calls).store call).1 ≡ refused n
