-- The main promise at the tables of a store, for a list of calls on a store opened new.
use Rattle.std.specs.Prelude.{◌≡◌, ℕ, ◌≤◌, ◌⊎◌, List, [], ◌∷◌, ◌++◌, map, take, ◌≢◌, slice_index_or}
use Rattle.ring.specs.View.{LinkedRing}
use Rattle.rules.specs.Rules.{Record, Barrier, Sizes, refused, done, run_call}
use Rattle.rules.specs.Rules as rules
use Rattle.rules.specs.Book.{book_call}
use Rattle.rules.specs.History.{History, history_call, history_run, new_history}
use Rattle.rules.specs.Promise.{Faithful, LiveAtMost, room_for, Promise}
use Rattle.kinds.specs.declared.kind.Kind.{Ghosts}
use Rattle.heap.specs.declared.heap.Heap.{Heap}
use Rattle.heap.specs.declared.heap.tables.Tables.{Tables}
use Rattle.registers.specs.declared.sizes.Sizes.{Sizes as Asked}
use Rattle.heap.specs.Meaning.{meaning_of}
use Rattle.registers.specs.Opening.{natural}
use Rattle.heap.specs.Opening.{why_of}
use Rattle.registers.specs.State.{State, sizes_of}
use Rattle.heap.specs.State.{opened}
use Rattle.heap.specs.View.{contents, view}
use Rattle.heap.specs.Rows.{Rest}
use Rattle.store.specs.declared.call.Call.{Call}
use Rattle.store.specs.Calls.{Outcome, call_of, told_call, AllAnswered, after_all}

-- the book's answers to a list of calls, from the calls and what it takes from the store
abbrev pub book_answers : Sizes → Barrier → History → List rules.Call → List rules.Answer
book_answers z b j [] = []
book_answers z b j (c ∷ cs) = (book_call z j.book c (run_call z b j.store c).1).1 ∷ book_answers z b (history_call z b j c) cs

-- book and places of a history, with the store that the tables hold
abbrev pub at_tables : {X B : Type 0} → Ghosts X → Heap X B → History → History
at_tables g h j = record { store = contents g h; book = j.book; nursery_owners = j.nursery_owners; slot_owners = j.slot_owners }

-- what is promised of the tables h and the answers after a list of calls on a store opened new over some slots
pub record Promised {X B : Type 0} (g : Ghosts X) (b : Barrier) (z : Sizes) (slots : List Record) (calls : List rules.Call) (answers : List rules.Answer) (h : Heap X B) : Type 0 where
  -- each answer is the book's
  pub by_the_book : answers ≡ book_answers z b (new_history z slots) calls
  -- the tables hold the store that the rules define
  pub by_the_rules : contents g h ≡ (history_run z b (new_history z slots) calls).store
  -- the slots form one ring in the ring's tables, linked both ways: free, white, grey, black
  pub linked : LinkedRing h.area.ring
  -- each register stands for the book's word, and every reachable record has its place in the tables
  pub in_use : Faithful z (at_tables g h (history_run z b (new_history z slots) calls))
  -- a store made to size for L reachable records never lacks room
  pub room : (L : ℕ) → LiveAtMost z b L (new_history z slots) calls → room_for L z ≤ z.slots → (i : ℕ) → slice_index_or answers i (done []) ≢ refused 23
  -- after every front of the calls: places, answers, closing, room and full, whatever calls follow
  pub fronts : (before rest : List rules.Call) → before ++ rest ≡ calls → Promise z b slots before

-- the calls were made one after the other from state s on: their answers are added, and the tables are as they leave them
pub record Ran {X B : Type 0} (g : Ghosts X) (b : Barrier) (s : State) (calls : List (Call X)) (was is : List (Outcome X)) (h : Heap X B) : Type 0 where
  pub answers : List (Outcome X)
  pub added : is ≡ was ++ answers
  pub answered : AllAnswered g b s calls answers
  pub state : view g h ≡ after_all g b s calls

-- table places beyond the sizes hold what they held when the tables were lent; a closed store has no sizes
pub record Untouched {X B : Type 0} (t : Tables X) (h : Heap X B) : Type 0 where
  pub nursery_rest : Rest h.limits.places t.nursery.now h.nursery.now
  pub slots_rest : Rest h.limits.slots t.slots.now h.slots.now
  pub registers_rest : Rest h.limits.registers t.registers.now h.registers.now
  pub forward_rest : Rest h.limits.places t.forward.now h.forward.now
  pub notes_rest : Rest h.limits.slots t.notes.now h.notes.now
  pub next_rest : Rest h.limits.slots t.next.now h.area.ring.next
  pub previous_rest : Rest h.limits.slots t.previous.now h.area.ring.prev
  pub stamp_rest : Rest h.limits.slots t.stamp.now h.area.ring.stamp

-- the records that the slots have when the tables are lent, which may be any
abbrev pub slots_lent : {X : Type 0} → Ghosts X → Asked → Tables X → List Record
slots_lent g z t = map (meaning_of g) (take (natural z.slots) t.slots.now)

-- a run: a store is opened over the tables t, and all calls are made, or none where there is no memory for the answers
pub record RunOf {X B : Type 0} (g : Ghosts X) (b : Barrier) (z : Asked) (t : Tables X) (calls : List (Call X)) (has_memory : Type 0) (was is : List (Outcome X)) (h : Heap X B) : Type 0 where
  pub made : List (Call X)
  pub all_or_none : (made ≡ calls) ⊎ (made ≡ [])
  pub all_with_memory : has_memory → made ≡ calls
  pub ran : Ran g b (opened g z t) made was is h
  pub promised : why_of z t ≡ 0 → Promised g b (sizes_of g.count z) (slots_lent g z t) (map (call_of g) made) (map (told_call g) ran.answers) h
  pub untouched : Untouched t h
