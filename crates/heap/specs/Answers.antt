-- The typed results of the calls, as the answers that the rules define: each case by its number and values.
use Rattle.std.specs.Prelude.{ℕ, ◌<◌, Bool, cond, ◌&&◌, List, [], ◌∷◌, length, ℤ, Some, None, Ok, Err, Option, Result, ◌==◌, nat_lt, slice_index}
use Rattle.words.specs.declared.place.Place.{Place}
use Rattle.words.specs.declared.place.Place.TheVariants.{Young, Old}
use Rattle.ring.specs.declared.arcs.Lengths.{Lengths}
use Rattle.rules.specs.Rules.{Sizes, Store, Answer, refused, gave, counts, in_range, index, all_in, place_in}
use Rattle.kinds.specs.declared.fault.StoreFault.TheVariants.{NoSuchRegister, NoSuchLink, WrongLinkCount, NoRecord, NurseryFull, NoRoom}
use Rattle.kinds.specs.declared.fault.StoreFault.{StoreFault}
use Rattle.kinds.specs.Faults.{store_refusal}
use Rattle.registers.specs.Answers.{ready_at, and_then}

-- make: the number of nursery records
abbrev pub told_count : Result ℕ StoreFault → Answer
told_count (Ok n) = counts (n ∷ [])
told_count (Err e) = refused (store_refusal e)

-- plain: the plain part p that the caller's record then has
abbrev pub told_plain : {U : Type 0} → List ℤ → Result U StoreFault → Answer
told_plain p (Ok u) = gave p
told_plain p (Err e) = refused (store_refusal e)

-- tell: the lengths of the arcs
abbrev pub told_lengths : Result Lengths StoreFault → Answer
told_lengths (Ok l) = counts (l.free ∷ (l.white ∷ (l.grey ∷ (l.black ∷ []))))
told_lengths (Err e) = refused (store_refusal e)

-- the index of a link, of n
abbrev pub link_index : ℕ → ℤ → Result ℕ StoreFault
link_index n k = cond (in_range k n) (Ok (index k)) (Err NoSuchLink)

-- where a record is, if it is anywhere
abbrev pub found_at : Option Place → Result Place StoreFault
found_at None = Err NoRecord
found_at (Some at) = Ok at

-- the place of the record in the register with index i, and in register r of an open store
abbrev pub held_place : Sizes → Store → ℕ → Result Place StoreFault
held_place z s i = found_at (place_in z (length s.nursery) (slice_index s.registers i))

abbrev pub record_place : Sizes → Store → ℤ → Result Place StoreFault
record_place z s r = cond (in_range r z.registers) (held_place z s (index r)) (Err NoSuchRegister)

abbrev pub open_record_place : {U : Type 0} → Result U StoreFault → Sizes → Store → ℤ → Result Place StoreFault
open_record_place status z s r = and_then (ready_at status) (record_place z s r)

-- link k of the record in register r: the record's place and the link's index
abbrev pub with_index : ℕ → Result Place StoreFault → Result (Place × ℕ) StoreFault
with_index n (Ok at) = Ok (at, n)
with_index n (Err e) = Err e

abbrev pub link_place : Sizes → Store → ℤ → ℤ → Result (Place × ℕ) StoreFault
link_place z s r k = cond (in_range r z.registers) (cond (in_range k z.links) (with_index (index k) (held_place z s (index r))) (Err NoSuchLink)) (Err NoSuchRegister)

-- a place of a store with so many used nursery places and slots
abbrev pub is_within : ℕ → ℕ → Place → Bool
is_within used slots (Young p) = nat_lt p used
is_within used slots (Old q) = nat_lt q slots

abbrev pub Within : ℕ → ℕ → Place → Type 0
Within used slots (Young p) = p < used
Within used slots (Old q) = q < slots

-- whether the nursery has a place more, and a nursery record more would still have a slot
abbrev pub room_at : Sizes → Store → Result (Unit {0}) StoreFault
room_at z s =
    cond (nat_lt (length s.nursery) z.places) (cond (nat_lt (length s.nursery) (length s.arcs.free)) (Ok tt) (Err NoRoom)) (Err NurseryFull)

-- the index of register d, if a record may be made for it of the registers rs; and of an open store
abbrev pub make_index : Sizes → Store → ℤ → List ℤ → Result ℕ StoreFault
make_index z s d rs =
    cond (in_range d z.registers && all_in rs z.registers)
    (cond (length rs == z.links) (and_then (room_at z s) (Ok (index d))) (Err WrongLinkCount))
    (Err NoSuchRegister)

abbrev pub open_make_index : {U : Type 0} → Result U StoreFault → Sizes → Store → ℤ → List ℤ → Result ℕ StoreFault
open_make_index status z s d rs = and_then (ready_at status) (make_index z s d rs)
