-- The invariant of store, book and places between calls, and what it says of what is reachable.
use Rattle.std.proofs.Common.{◌≡◌, ℕ, zero, suc, ◌+◌, ◌<◌, ◌≤◌, Bool, true, false, ltb, ◌⊎◌, List, [], length, get_or, replicate, Some, None, Option, sym, refl, ◌∙◌, inl, inr, arith}
use Rattle.words.specs.Words.{nothing, place_of}
use Rattle.words.specs.declared.place.Place.{Place}
use Rattle.words.specs.declared.place.Place.TheVariants.{Young, Old}
use Rattle.ring.specs.Arcs.{Arcs, has, ring_of, upto}
use Rattle.rules.specs.Rules.{Record, no_record, Sizes, record_in, record_at, is_young, in_store}
use Rattle.rules.specs.Book.{nil, ref, BookRecord, no_book_record, Reachable, held, linked}
use Rattle.rules.specs.History.{History, HoldsIn, Holds, new_history}
use Rattle.rules.specs.Promise.{LeadsTo, StandsForIn, StandsFor, NotFree, Placed, EverySlotOnce, Faithful}
use Rattle.std.proofs.lemmas.Bool.{cases_lt, true≢false, lt-ltb}
use Rattle.std.proofs.lemmas.List.{length-append, length-replicate, get_or_past}
use Rattle.ring.specs.Sound.{count}
use Rattle.ring.proofs.Chain.{count_append, count_has}
use Rattle.ring.proofs.Fresh.{count_upto, length_upto}
use Rattle.rules.proofs.Counting.{one_if}

-- a record at a place is the book's
pub record Match (H : Place → ℕ → Type 0) (n : ℕ) (x : Record) (y : BookRecord) : Type 0 where
  pub plain : x.plain ≡ y.plain
  pub size : length x.links ≡ n
  pub book_size : length y.links ≡ n
  pub links : (k : ℕ) → StandsForIn H (get_or x.links k 0) (get_or y.links k nil)

abbrev pub Fields : ℕ → List ℕ → List (Option ℕ) → List Record → List Record → List BookRecord → Type 0
Fields n ns os nursery slots records = (p : Place) (r : ℕ) → HoldsIn ns os p r → Match (HoldsIn ns os) n (record_in nursery slots p) (get_or records r no_book_record)

abbrev pub total : ℕ → Arcs → ℕ
total q a = count q a.free + (count q a.white + (count q a.grey + count q a.black))

-- each slot below S is on the ring once, and no other number is
pub record Ring (S : ℕ) (a : Arcs) : Type 0 where
  pub size : length a.free + (length a.white + (length a.grey + length a.black)) ≡ S
  pub each : (q : ℕ) → total q a ≡ one_if (ltb q S)

-- which record is where: all owners are different and among the m records of the book
pub record Owners (S m : ℕ) (free : List ℕ) (ns : List ℕ) (os : List (Option ℕ)) : Type 0 where
  pub size : length os ≡ S
  pub free_none : (q : ℕ) → has q free ≡ true → get_or os q None ≡ None
  pub none_free : (q : ℕ) → q < S → get_or os q None ≡ None → has q free ≡ true
  pub below : (p : Place) (r : ℕ) → HoldsIn ns os p r → r < m
  pub unique : (p p' : Place) (r : ℕ) → HoldsIn ns os p r → HoldsIn ns os p' r → p ≡ p'

-- every occupied slot with a nursery place among its links is noted, and noted slots are occupied
pub record Noted (os : List (Option ℕ)) (slots : List Record) (notes : List ℕ) : Type 0 where
  pub owned : (q : ℕ) → has q notes ≡ true → (r : ℕ) × (get_or os q None ≡ Some r)
  pub all : (q r k : ℕ) → get_or os q None ≡ Some r → is_young (place_of (get_or (get_or slots q no_record).links k 0)) ≡ true → has q notes ≡ true

-- the invariant: sizes, ring, room, owners, fields at every place that holds a record, registers and notes
pub record Inv (z : Sizes) (j : History) : Type 0 where
  pub regs_size : length j.store.registers ≡ z.registers
  pub book_regs_size : length j.book.registers ≡ z.registers
  pub nursery_size : length j.store.nursery ≡ length j.nursery_owners
  pub nursery_cap : length j.store.nursery ≤ z.places
  pub slots_size : length j.store.slots ≡ z.slots
  pub ring : Ring z.slots j.store.arcs
  pub quiet : j.store.cycle ≡ false → (j.store.arcs.white ≡ []) × (j.store.arcs.grey ≡ [])
  pub room : length j.store.nursery ≤ length j.store.arcs.free
  pub owners : Owners z.slots (length j.book.records) j.store.arcs.free j.nursery_owners j.slot_owners
  pub fields : Fields z.links j.nursery_owners j.slot_owners j.store.nursery j.store.slots j.book.records
  pub regs : (i : ℕ) → StandsFor j (get_or j.store.registers i 0) (get_or j.book.registers i nil)
  pub noted : Noted j.slot_owners j.store.slots j.store.notes
  pub noted_once : (q : ℕ) → count q j.store.notes ≤ one_if (ltb q z.slots)

-- what a word that stands for a record shows
pub place_from : (H : Place → ℕ → Type 0) (w r : ℕ) → StandsForIn H w (ref r) → (p : Place) × (place_of w ≡ Some p) × H p r
place_from H w r h = go (place_of w) refl h
  where
    go : (o : Option Place) → place_of w ≡ o → LeadsTo H o r → (p : Place) × (place_of w ≡ Some p) × H p r
    go None e h = absurd h
    go (Some p) e h = (p, e, h)

module _ (z : Sizes) (j : History) (inv : Inv z j) where
  -- a place that holds a record is within the store
  pub slot_below : (q r : ℕ) → get_or j.slot_owners q None ≡ Some r → q < z.slots
  slot_below q r h = by (cases_lt q z.slots)
    where
      by : (q < z.slots) ⊎ (z.slots ≤ q) → q < z.slots
      by (inl l) = l
      by (inr l) = let e : get_or j.slot_owners q None ≡ None = get_or_past j.slot_owners q None (omega (arith, inv.owners.size)) in let n : ◌≡◌ {A = ℕ} 0 1 = cc in absurd (omega arith)

  pub held_in : (p : Place) (r : ℕ) → Holds j p r → in_store z (length j.store.nursery) (Some p) ≡ Some p
  held_in (Young p) r h = rw (lt-ltb p (length j.store.nursery) (omega (arith, h.0, inv.nursery_size))) refl
  held_in (Old q) r h = rw (lt-ltb q z.slots (slot_below q r h)) refl

  pub placed : {r : ℕ} → Reachable j.book r → (p : Place) × Holds j p r
  placed {r} (held i e) =
      let h : StandsFor j (get_or j.store.registers i 0) (ref r) = rw e at (inv.regs i) in
      let w = place_from (Holds j) (get_or j.store.registers i 0) r h in (w.0, w.2)
  placed (linked {r = s} {t = t} k from e) =
      let (p, h) = placed from in
      let l : StandsFor j (get_or (record_at j.store p).links k 0) (ref t) = rw e at ((inv.fields p s h).links k) in
      let w = place_from (Holds j) (get_or (record_at j.store p).links k 0) t l in (w.0, w.2)

  not_free : (p : Place) (r : ℕ) → Holds j p r → NotFree j.store.arcs.free p
  not_free (Young p) r h = tt
  not_free (Old q) r h = go (has q j.store.arcs.free) refl
    where
      go : (t : Bool) → has q j.store.arcs.free ≡ t → t ≡ false
      go false e = refl
      go true e = let n : get_or j.slot_owners q None ≡ None = inv.owners.free_none q e in cc

  pub kept : (r : ℕ) → Reachable j.book r → Placed j r
  kept r way =
      let (p, h) = placed way in
      let m = inv.fields p r h in
      record { place = p; holds = h; only = λ p' h'. inv.owners.unique p' p r h' h; in_use = not_free p r h; same_plain = m.plain; same_count = m.size ∙ sym m.book_size; same_links = λ k _. m.links k }

  pub whole : EverySlotOnce z.slots (ring_of j.store.arcs)
  whole = record { size = simp length-append inv.ring.size; every = λ q l. count_has q _ (simp count_append (rw (inv.ring.each q, lt-ltb q z.slots l) (omega arith))) }

  pub faithful : Faithful z j
  faithful = record { registers = λ i _. inv.regs i; records = kept; ring = whole; nursery_fits = inv.nursery_cap; together = omega (arith, inv.room, inv.ring.size) }

-- a new store and an empty book
getD_same : {X : Type 0} (n i : ℕ) (d : X) → get_or (replicate n d) i d ≡ d
getD_same zero i d = refl
getD_same (suc n) zero d = refl
getD_same (suc n) (suc i) d = getD_same n i d

pub new_inv : (z : Sizes) (slots : List Record) → length slots ≡ z.slots → Inv z (new_history z slots)
new_inv z slots l = record {
  regs_size = length-replicate z.registers nothing;
  book_regs_size = length-replicate z.registers nil;
  nursery_size = refl;
  nursery_cap = omega arith;
  slots_size = l;
  ring = record { size = omega (arith, length_upto 0 z.slots); each = λ q. grind (arith, count_upto q z.slots) };
  quiet = λ _. (refl, refl);
  room = omega arith;
  owners = record {
    size = length-replicate z.slots None;
    free_none = λ q _. getD_same z.slots q None;
    none_free = λ q h _. count_has q (upto 0 z.slots) (grind (arith, count_upto q z.slots));
    below = λ p r h. absurd (no_place p r h);
    unique = λ p p' r h _. absurd (no_place p r h);
  };
  fields = λ p r h. absurd (no_place p r h);
  regs = λ i. rw (getD_same z.registers i nothing, getD_same z.registers i nil) refl;
  noted = record { owned = λ q h. absurd (true≢false (sym h)); all = λ q r k h. absurd (no_place (Old q) r h) };
  noted_once = λ q. omega arith;
}
  where
    no_place : (p : Place) (r : ℕ) → HoldsIn [] (replicate z.slots None) p r → ⊥
    no_place (Young p) r h = omega (arith, h.0)
    no_place (Old q) r h = let e : ◌≡◌ {A = Option ℕ} (get_or (replicate z.slots None) q None) None = getD_same z.slots q None in let k : ◌≡◌ {A = ℕ} 0 1 = cc in omega arith
