-- Store and book side by side over a list of calls, with the history of places: which of the book's records each
-- nursery place and each slot holds, called its owner.
use Rattle.std.specs.Prelude.{◌≡◌, ℕ, ◌<◌, Bool, true, false, cond, List, [], ◌∷◌, ◌++◌, length, replicate, Some, None, Option, slice_index, slice_index_or, slice_set}
use Rattle.words.specs.declared.place.Place.{Place}
use Rattle.words.specs.declared.place.Place.TheVariants.{Young, Old}
use Rattle.rules.specs.Rules.{Record, Barrier, Sizes, Store, Call, load, empty, copy, make, read, write, fill, plain, same, look, tell, step, full, Answer, refused, done, gave, empty_nursery, run_call, new_store}
use Rattle.rules.specs.Book.{Book, new_book, book_call}

-- store, book, the record at each used nursery place, and the record at each slot, if it holds one
pub record History : Type 0 where
  pub store : Store
  pub book : Book
  pub nursery_owners : List ℕ
  pub slot_owners : List (Option ℕ)

-- place p holds record r
abbrev pub HoldsIn : List ℕ → List (Option ℕ) → Place → ℕ → Type 0
HoldsIn ns os (Young p) r = (p < length ns) × (slice_index ns p ≡ r)
HoldsIn ns os (Old q) r = slice_index_or os q None ≡ Some r

-- place p holds record r now
abbrev pub Holds : History → Place → ℕ → Type 0
Holds j = HoldsIn j.nursery_owners j.slot_owners

-- the slots that copying took get the records that were copied there: the first list has the owners of the nursery
-- places, the second the slot that each place's record was copied to
abbrev pub owners_after_copying : List ℕ → List (Option ℕ) → List (Option ℕ) → List (Option ℕ)
owners_after_copying [] fs owners = owners
owners_after_copying (r ∷ rs) [] owners = owners
owners_after_copying (r ∷ rs) (None ∷ fs) owners = owners_after_copying rs fs owners
owners_after_copying (r ∷ rs) (Some q ∷ fs) owners = owners_after_copying rs fs (slice_set owners q (Some r))

-- a free slot holds no record
abbrev pub owners_after_freeing : List ℕ → List (Option ℕ) → List (Option ℕ)
owners_after_freeing [] owners = owners
owners_after_freeing (q ∷ qs) owners = owners_after_freeing qs (slice_set owners q None)

-- whether a call was accepted
abbrev pub accepted : Answer → Bool
accepted (refused n) = false
accepted (done vs) = true
accepted (gave ps) = true

-- the slots' owners after a step or a full
abbrev pub owners_after_collection : Sizes → Barrier → History → Store → List (Option ℕ)
owners_after_collection z b j after = owners_after_freeing after.arcs.free (owners_after_copying j.nursery_owners (empty_nursery z b j.store).forward j.slot_owners)

-- the nursery's owners after a call: an accepted make puts the new record at the lowest unused place, and a collection
-- leaves the nursery empty
abbrev pub nursery_after : Call → Answer → History → List ℕ
nursery_after (make d p rs) a j = cond (accepted a) (j.nursery_owners ++ (length j.book.records ∷ [])) j.nursery_owners
nursery_after (load r v) a j = j.nursery_owners
nursery_after (empty r) a j = j.nursery_owners
nursery_after (copy d s) a j = j.nursery_owners
nursery_after (read d s k) a j = j.nursery_owners
nursery_after (write s k t) a j = j.nursery_owners
nursery_after (fill s p) a j = j.nursery_owners
nursery_after (plain s) a j = j.nursery_owners
nursery_after (same s t) a j = j.nursery_owners
nursery_after (look r) a j = j.nursery_owners
nursery_after tell a j = j.nursery_owners
nursery_after step a j = []
nursery_after full a j = []

-- the calls that collect; both count as steps
abbrev pub collects : Call → Bool
collects step = true
collects full = true
collects (load r v) = false
collects (empty r) = false
collects (copy d s) = false
collects (make d p rs) = false
collects (read d s k) = false
collects (write s k t) = false
collects (fill s p) = false
collects (plain s) = false
collects (same s t) = false
collects (look r) = false
collects tell = false

-- one call, made of the store and entered into the book
abbrev pub history_call : Sizes → Barrier → History → Call → History
history_call z b j c =
    let (s, a) = run_call z b j.store c in
    record {
      store = s;
      book = (book_call z j.book c a).0;
      nursery_owners = nursery_after c a j;
      slot_owners = cond (collects c) (owners_after_collection z b j s) j.slot_owners;
    }

-- a list of calls
abbrev pub history_run : Sizes → Barrier → History → List Call → History
history_run z b j [] = j
history_run z b j (c ∷ cs) = history_run z b (history_call z b j c) cs

-- a store opened new over slots that hold any records, and a new book; no place holds a record
abbrev pub new_history : Sizes → List Record → History
new_history z slots = record {
  store = new_store z slots;
  book = new_book z.registers;
  nursery_owners = [];
  slot_owners = replicate z.slots None;
}
