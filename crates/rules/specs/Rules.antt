-- The rules of the store: the state of an open store, and what each call leaves and answers.
-- A record is given by its meaning: its list of links and its plain part.
use Rattle.std.specs.Prelude.{◌≡◌, ℕ, zero, suc, ◌+◌, ◌%◌, Bool, true, false, cond, not, ◌&&◌, ◌⊎◌, List, [], ◌∷◌, ◌++◌, map, length, get_or, replicate, ℤ, pos, negsuc, Some, None, Option, ◌==◌, nat_le, nat_lt, slice_index, slice_index_or, slice_set}
use Rattle.words.specs.Words.{nothing, number_word, is_number, word_number, nursery_word, slot_word, place_of}
use Rattle.words.specs.declared.place.Place.{Place}
use Rattle.words.specs.declared.place.Place.TheVariants.{Young, Old}
use Rattle.ring.specs.Arcs.{Arcs, has, marked, take_slot, shade_slot, scan_slot, open_arcs, close_arcs, new_arcs}

-- a record's meaning: its links, each a 32-bit word, and its plain part
pub record Record : Type 0 where
  pub links : List ℕ
  pub plain : List ℤ

-- what a place outside a table reads as
abbrev pub no_record : Record
no_record = record { links = []; plain = [] }

-- a write barrier's answers: whether it rescans, and, for an unmarked (false) or marked (true) target,
-- whether it names the overwritten word and whether it names the new word
pub record Barrier : Type 0 where
  pub rescans : Bool
  pub names_old : Bool → Bool
  pub names_new : Bool → Bool

-- lawful: it names the overwritten word for every target, or it rescans and names the new word for every marked target
abbrev pub Lawful : Barrier → Type 0
Lawful b = ((m : Bool) → b.names_old m ≡ true) ⊎ ((b.rescans ≡ true) × (b.names_new true ≡ true))

-- the sizes of a store: slots of the old area, places of the nursery, registers, scans a step, links of a record
pub record Sizes : Type 0 where
  pub slots : ℕ
  pub places : ℕ
  pub registers : ℕ
  pub scans : ℕ
  pub links : ℕ

-- an open store: the words in the registers, the records at the used nursery places, the records of all slots,
-- the ring's arcs, the remembered set (the noted slots in order of noting), and whether a cycle is open
pub record Store : Type 0 where
  pub registers : List ℕ
  pub nursery : List Record
  pub slots : List Record
  pub arcs : Arcs
  pub notes : List ℕ
  pub cycle : Bool

-- a store with one of its parts replaced
abbrev pub with_registers : List ℕ → Store → Store
with_registers r s = record { registers = r; nursery = s.nursery; slots = s.slots; arcs = s.arcs; notes = s.notes; cycle = s.cycle }

abbrev pub with_nursery : List Record → Store → Store
with_nursery n s = record { registers = s.registers; nursery = n; slots = s.slots; arcs = s.arcs; notes = s.notes; cycle = s.cycle }

abbrev pub with_slots : List Record → Store → Store
with_slots o s = record { registers = s.registers; nursery = s.nursery; slots = o; arcs = s.arcs; notes = s.notes; cycle = s.cycle }

abbrev pub with_arcs : Arcs → Store → Store
with_arcs a s = record { registers = s.registers; nursery = s.nursery; slots = s.slots; arcs = a; notes = s.notes; cycle = s.cycle }

abbrev pub with_notes : List ℕ → Store → Store
with_notes n s = record { registers = s.registers; nursery = s.nursery; slots = s.slots; arcs = s.arcs; notes = n; cycle = s.cycle }

abbrev pub with_cycle : Bool → Store → Store
with_cycle c s = record { registers = s.registers; nursery = s.nursery; slots = s.slots; arcs = s.arcs; notes = s.notes; cycle = c }

-- the calls, with any whole numbers as arguments; a template is given by its plain part.
-- load r v, empty r, copy d s, make d template links, read d s k, write s k t, fill s template, plain s, same a b, look r
pub data Call : Type 0 where
  load : ℤ → ℤ → Call
  empty : ℤ → Call
  copy : ℤ → ℤ → Call
  make : ℤ → List ℤ → List ℤ → Call
  read : ℤ → ℤ → ℤ → Call
  write : ℤ → ℤ → ℤ → Call
  fill : ℤ → List ℤ → Call
  plain : ℤ → Call
  same : ℤ → ℤ → Call
  look : ℤ → Call
  tell : Call
  step : Call
  full : Call

-- what a call answers: a refusal's number, whole numbers, or the plain part of a record
pub data Answer : Type 0 where
  refused : ℕ → Answer
  done : List ℤ → Answer
  gave : List ℤ → Answer

-- whether a whole number is an index below n, and the index that it is
abbrev pub in_range : ℤ → ℕ → Bool
in_range (pos i) n = nat_lt i n
in_range (negsuc i) n = false

abbrev pub index : ℤ → ℕ
index (pos i) = i
index (negsuc i) = 0

-- whether all of them are
abbrev pub all_in : List ℤ → ℕ → Bool
all_in [] n = true
all_in (r ∷ rs) n = in_range r n && all_in rs n

-- unless a test holds, a call is refused and alters nothing; of several tests the first that fails decides
abbrev pub unless : Store → Bool → ℕ → Store × Answer → Store × Answer
unless s ok refusal rest = cond ok rest (s, refused refusal)

-- the word in a register, and a word put there
abbrev pub reg : Store → ℤ → ℕ
reg s r = slice_index s.registers (index r)

abbrev pub put : Store → ℤ → ℕ → Store
put s r w = with_registers (slice_set s.registers (index r) w) s

-- the record at a place, and a record put there
abbrev pub record_in : List Record → List Record → Place → Record
record_in nursery slots (Young p) = slice_index_or nursery p no_record
record_in nursery slots (Old q) = slice_index_or slots q no_record

abbrev pub record_at : Store → Place → Record
record_at s = record_in s.nursery s.slots

abbrev pub put_record : Store → Place → Record → Store
put_record s (Young p) r = with_nursery (slice_set s.nursery p r) s
put_record s (Old q) r = with_slots (slice_set s.slots q r) s

-- a record with link k, or with its plain part, replaced
abbrev pub with_link : Record → ℕ → ℕ → Record
with_link r k w = record { links = slice_set r.links k w; plain = r.plain }

abbrev pub with_plain : Record → List ℤ → Record
with_plain r p = record { links = r.links; plain = p }

-- shading a word: the slot that it leads to, if it leads to one
abbrev pub shade_place : Option Place → Arcs → Arcs
shade_place None a = a
shade_place (Some (Young p)) a = a
shade_place (Some (Old q)) a = shade_slot q a

abbrev pub shade : ℕ → Arcs → Arcs
shade w a = shade_place (place_of w) a

abbrev pub shade_all : List ℕ → Arcs → Arcs
shade_all [] a = a
shade_all (w ∷ ws) a = shade_all ws (shade w a)

-- whether a word leads to a nursery place
abbrev pub is_young : Option Place → Bool
is_young None = false
is_young (Some (Young p)) = true
is_young (Some (Old q)) = false

-- the word is shaded if it is named
abbrev pub shade_if : Bool → ℕ → Arcs → Arcs
shade_if named w a = cond named (shade w a) a

-- what the barrier shades: the overwritten word o first, then the new word w; m says whether the target is marked
abbrev pub barrier_shades : Barrier → Bool → ℕ → ℕ → Arcs → Arcs
barrier_shades b m o w a = shade_if (b.names_new m) w (shade_if (b.names_old m) o a)

-- a write of w into slot q needs a note if w is a nursery place and no note has q
abbrev pub needs_note : Store → ℕ → ℕ → Bool
needs_note s q w = is_young (place_of w) && not (has q s.notes)

-- link k of slot q, and that link replaced
abbrev pub link_at : List Record → ℕ → ℕ → ℕ
link_at slots q k = slice_index (get_or slots q no_record).links k

abbrev pub set_link : List Record → ℕ → ℕ → ℕ → List Record
set_link slots q k w = slice_set slots q (with_link (slice_index_or slots q no_record) k w)

-- a write of w into link k of slot q: while a cycle is open the barrier shades, then the record is noted if that is
-- needed, then the link is replaced
abbrev pub write_old : Barrier → Store → ℕ → ℕ → ℕ → Store
write_old b s q k w = record {
  registers = s.registers;
  nursery = s.nursery;
  slots = set_link s.slots q k w;
  arcs = cond s.cycle (barrier_shades b (marked s.arcs q) (link_at s.slots q k) w s.arcs) s.arcs;
  notes = cond (needs_note s q w) (s.notes ++ (q ∷ [])) s.notes;
  cycle = s.cycle;
}

-- emptying the nursery, under way: the store, for each nursery place the slot that its record was copied to,
-- and those slots in order of copying
pub record Evacuation : Type 0 where
  pub store : Store
  pub forward : List (Option ℕ)
  pub copied : List ℕ

-- the record of nursery place p is copied to a slot just taken, if there is one (there always is); the word of that slot
abbrev pub evacuate_into : ℕ → Option (ℕ × Arcs) → Evacuation → ℕ × Evacuation
evacuate_into p None c = (nothing, c)
evacuate_into p (Some t) c = (
  slot_word t.0,
  record {
    store = with_slots (slice_set c.store.slots t.0 (slice_index_or c.store.nursery p no_record)) (with_arcs t.1 c.store);
    forward = slice_set c.forward p (Some t.0);
    copied = c.copied ++ (t.0 ∷ []);
  },
)

-- a record that was copied before is not copied again
abbrev pub evacuate_to : ℕ → Option ℕ → Evacuation → ℕ × Evacuation
evacuate_to p (Some q) c = (slot_word q, c)
evacuate_to p None c = evacuate_into p (take_slot c.store.arcs) c

-- the word that takes the place of w: that of the slot of the record, if w is a used nursery place, else w itself
abbrev pub evacuated_place : Option Place → ℕ → Evacuation → ℕ × Evacuation
evacuated_place None w c = (w, c)
evacuated_place (Some (Old q)) w c = (w, c)
evacuated_place (Some (Young p)) w c = cond (nat_lt p (length c.forward)) (evacuate_to p (slice_index_or c.forward p None) c) (w, c)

abbrev pub evacuated : ℕ → Evacuation → ℕ × Evacuation
evacuated w c = evacuated_place (place_of w) w c

-- word w put into register i, or into link k of slot q; rescanning shades it too
abbrev pub put_register : Bool → ℕ → ℕ → Evacuation → Evacuation
put_register rescan i w c = record {
  store = with_arcs (shade_if rescan w c.store.arcs) (with_registers (slice_set c.store.registers i w) c.store);
  forward = c.forward;
  copied = c.copied;
}

abbrev pub put_link : Bool → ℕ → ℕ → ℕ → Evacuation → Evacuation
put_link rescan q k w c = record {
  store = with_arcs (shade_if rescan w c.store.arcs) (with_slots (set_link c.store.slots q k w) c.store);
  forward = c.forward;
  copied = c.copied;
}

-- register i is visited: its word is replaced by that of the evacuated record
abbrev pub visit_register : Bool → ℕ → Evacuation → Evacuation
visit_register rescan i c =
    let (w, c₁) = evacuated (slice_index c.store.registers i) c in put_register rescan i w c₁

-- n registers from i on, ascending
abbrev pub visit_registers : Bool → ℕ → ℕ → Evacuation → Evacuation
visit_registers rescan i zero c = c
visit_registers rescan i (suc n) c = visit_registers rescan (suc i) n (visit_register rescan i c)

-- link k of slot q is visited
abbrev pub visit_link : Bool → ℕ → ℕ → Evacuation → Evacuation
visit_link rescan q k c =
    let (w, c₁) = evacuated (link_at c.store.slots q k) c in put_link rescan q k w c₁

-- n links of slot q from k on, ascending
abbrev pub visit_links : Bool → ℕ → ℕ → ℕ → Evacuation → Evacuation
visit_links rescan q k zero c = c
visit_links rescan q k (suc n) c = visit_links rescan q (suc k) n (visit_link rescan q k c)

-- the links of noted records, in order of noting; n is the number of links of a record
abbrev pub visit_noted : ℕ → List ℕ → Evacuation → Evacuation
visit_noted n [] c = c
visit_noted n (q ∷ qs) c = visit_noted n qs (visit_links false q 0 n c)

-- the links of copied records, in order of copying; i of them have been visited, and the list may grow on the way
abbrev pub visit_copied : Bool → ℕ → ℕ → ℕ → Evacuation → Evacuation
visit_copied rescan n i zero c = c
visit_copied rescan n i (suc fuel) c =
    cond (nat_lt i (length c.copied)) (visit_copied rescan n (suc i) fuel (visit_links rescan (slice_index c.copied i) 0 n c)) c

-- whether visiting shades too
abbrev pub rescanning : Barrier → Store → Bool
rescanning b s = s.cycle && b.rescans

-- nothing is copied yet
abbrev pub begin_evacuation : Store → Evacuation
begin_evacuation s = record { store = s; forward = replicate (length s.nursery) None; copied = [] }

-- registers, noted records, copied records; no more records are copied than the nursery holds
abbrev pub visit_all : Sizes → Barrier → Store → Evacuation
visit_all z b s =
    visit_copied (rescanning b s) z.links 0 (length s.nursery)
    (visit_noted z.links s.notes
    (visit_registers (rescanning b s) 0 z.registers (begin_evacuation s)))

-- nursery and notes are then empty
abbrev pub nursery_emptied : Evacuation → Evacuation
nursery_emptied c = record { store = with_notes [] (with_nursery [] c.store); forward = c.forward; copied = c.copied }

-- the first part of step and of full
abbrev pub empty_nursery : Sizes → Barrier → Store → Evacuation
empty_nursery z b s = nursery_emptied (visit_all z b s)

-- opening a cycle: the black arc becomes the white arc, and the registers are shaded, ascending
abbrev pub open_cycle : Store → Store
open_cycle s = with_cycle true (with_arcs (shade_all s.registers (open_arcs s.arcs)) s)

-- scanning one slot: the last grey slot becomes the first black one, and its links are shaded, ascending
abbrev pub scan_taken : List Record → Option (ℕ × Arcs) → Option Arcs
scan_taken slots None = None
scan_taken slots (Some t) = Some (shade_all (get_or slots t.0 no_record).links t.1)

abbrev pub scan_one : List Record → Arcs → Option Arcs
scan_one slots a = scan_taken slots (scan_slot a)

-- slots are scanned until k were scanned or no slot is grey: the arcs then, and how many left the grey arc
abbrev pub scan_next : Option Arcs → (Arcs → Arcs × ℕ) → Arcs → Arcs × ℕ
scan_next None go a = (a, 0)
scan_next (Some t) go a = ((go t).0, suc (go t).1)

abbrev pub scan_upto : List Record → ℕ → Arcs → Arcs × ℕ
scan_upto slots zero a = (a, 0)
scan_upto slots (suc k) a = scan_next (scan_one slots a) (scan_upto slots k) a

-- whether a list is empty
abbrev pub is_empty : List ℕ → Bool
is_empty [] = true
is_empty (x ∷ xs) = false

-- with no slot grey the cycle closes, and how many slots that frees
abbrev pub close_if_done : Store → Store
close_if_done s = cond (is_empty s.arcs.grey) (with_cycle false (with_arcs (close_arcs s.arcs) s)) s

abbrev pub freed_by_close : Arcs → ℕ
freed_by_close a = cond (is_empty a.grey) (length a.white) 0

-- at most k scans, and then the close if no slot is grey; how many scans that makes and how many slots it frees
abbrev pub scan_and_close : ℕ → Store → Store
scan_and_close k s = close_if_done (with_arcs (scan_upto s.slots k s.arcs).0 s)

abbrev pub scans_made : ℕ → Store → ℕ
scans_made k s = (scan_upto s.slots k s.arcs).1

abbrev pub freed_after : ℕ → Store → ℕ
freed_after k s = freed_by_close (scan_upto s.slots k s.arcs).0

-- 1 for true, 0 for false
abbrev pub flag : Bool → ℕ
flag true = 1
flag false = 0

-- an answer of counts
abbrev pub counts : List ℕ → Answer
counts ns = done (map pos ns)

-- step: empties the nursery, opens a cycle if none is open, scans at most the store's number of scans, closes if no
-- slot is grey; it answers copied, scanned, freed and open
abbrev pub do_step : Sizes → Barrier → Store → Store × Answer
do_step z b s =
    let c : Evacuation = empty_nursery z b s in
    let s₁ : Store = cond s.cycle c.store (open_cycle c.store) in
    let s₂ : Store = scan_and_close z.scans s₁ in
    (s₂, counts (length c.copied ∷ (scans_made z.scans s₁ ∷ (freed_after z.scans s₁ ∷ (flag s₂.cycle ∷ [])))))

-- full: empties the nursery, finishes an open cycle, then opens and finishes another; no more slots are grey than there
-- are, so that the number of slots limits no scan; scanned and freed are sums over the call
abbrev pub do_full : Sizes → Barrier → Store → Store × Answer
do_full z b s =
    let c : Evacuation = empty_nursery z b s in
    let s₁ : Store = c.store in
    let s₂ : Store = cond s.cycle (scan_and_close z.slots s₁) s₁ in
    let scanned : ℕ = cond s.cycle (scans_made z.slots s₁) 0 in
    let freed : ℕ = cond s.cycle (freed_after z.slots s₁) 0 in
    let s₃ : Store = open_cycle s₂ in
    (scan_and_close z.slots s₃, counts (length c.copied ∷ ((scanned + scans_made z.slots s₃) ∷ ((freed + freed_after z.slots s₃) ∷ (0 ∷ [])))))

-- look at a word: 0 for nothing, 1 and the number, or 2 for a record
abbrev pub do_look : ℕ → Answer
do_look w =
    cond (w == 0) (counts (0 ∷ [])) (cond (w % 4 == 1) (done (pos 1 ∷ (word_number w ∷ []))) (counts (2 ∷ [])))

-- where a word leads with n nursery places used; a word that leads past them or past the slots leads nowhere
abbrev pub in_store : Sizes → ℕ → Option Place → Option Place
in_store z n None = None
in_store z n (Some (Young p)) = cond (nat_lt p n) (Some (Young p)) None
in_store z n (Some (Old q)) = cond (nat_lt q z.slots) (Some (Old q)) None

abbrev pub place_in : Sizes → ℕ → ℕ → Option Place
place_in z n w = in_store z n (place_of w)

-- a word that leads to no record is refused
abbrev pub with_place : Store → Option Place → (Place → Store × Answer) → Store × Answer
with_place s None go = (s, refused 21)
with_place s (Some p) go = go p

-- a call that answers no number
abbrev pub ok : Store → Store × Answer
ok s = (s, done [])

-- a write of w into link k of the record at a place
abbrev pub do_write : Sizes → Barrier → Store → ℕ → ℕ → Place → Store × Answer
do_write z b s k w (Young p) = ok (put_record s (Young p) (with_link (record_at s (Young p)) k w))
do_write z b s k w (Old q) =
    unless s (not (needs_note s q w && nat_le z.slots (length s.notes))) 24 (ok (write_old b s q k w))

-- the words in the registers of a list
abbrev pub links_from : Store → List ℤ → List ℕ
links_from s [] = []
links_from s (r ∷ rs) = reg s r ∷ links_from s rs

-- the one result of a call on an open store: the store after it, and the answer
abbrev pub run_call : Sizes → Barrier → Store → Call → Store × Answer
run_call z b s (load r v) =
    unless s (in_range r z.registers) 3 (unless s (is_number v) 4 (ok (put s r (number_word v))))
run_call z b s (empty r) = unless s (in_range r z.registers) 3 (ok (put s r nothing))
run_call z b s (copy d t) = unless s (in_range d z.registers && in_range t z.registers) 3 (ok (put s d (reg s t)))
run_call z b s (make d p rs) =
    unless s (in_range d z.registers && all_in rs z.registers) 3
    (unless s (length rs == z.links) 6
    (unless s (nat_lt (length s.nursery) z.places) 22
    (unless s (nat_lt (length s.nursery) (length s.arcs.free)) 23
    (put (with_nursery (s.nursery ++ (record { links = links_from s rs; plain = p } ∷ [])) s) d (nursery_word (length s.nursery)), counts (suc (length s.nursery) ∷ [])))))
run_call z b s (read d t k) =
    unless s (in_range d z.registers && in_range t z.registers) 3
    (unless s (in_range k z.links) 5
    (with_place s (place_in z (length s.nursery) (reg s t)) (λ p. ok (put s d (slice_index (record_at s p).links (index k))))))
run_call z b s (write d k t) =
    unless s (in_range d z.registers && in_range t z.registers) 3
    (unless s (in_range k z.links) 5
    (with_place s (place_in z (length s.nursery) (reg s d)) (do_write z b s (index k) (reg s t))))
run_call z b s (fill d p) =
    unless s (in_range d z.registers) 3
    (with_place s (place_in z (length s.nursery) (reg s d)) (λ at. ok (put_record s at (with_plain (record_at s at) p))))
run_call z b s (plain d) =
    unless s (in_range d z.registers) 3 (with_place s (place_in z (length s.nursery) (reg s d)) (λ at. (s, gave (record_at s at).plain)))
run_call z b s (same d t) =
    unless s (in_range d z.registers && in_range t z.registers) 3
    (s, counts (flag (reg s d == reg s t) ∷ []))
run_call z b s (look r) = unless s (in_range r z.registers) 3 (s, do_look (reg s r))
run_call z b s tell =
    (s, counts (length s.arcs.free ∷ (length s.arcs.white ∷ (length s.arcs.grey ∷ (length s.arcs.black ∷ [])))))
run_call z b s step = do_step z b s
run_call z b s full = do_full z b s

-- the one result of a call on any store: a closed one refuses every call with 20
abbrev pub run_call_if_open : Bool → Sizes → Barrier → Store → Call → Store × Answer
run_call_if_open open-now z b s c = unless s open-now 20 (run_call z b s c)

-- a store opened new over slots that hold any records
abbrev pub new_store : Sizes → List Record → Store
new_store z slots = record {
  registers = replicate z.registers nothing;
  nursery = [];
  slots = slots;
  arcs = new_arcs z.slots;
  notes = [];
  cycle = false;
}

-- snapshot does not rescan and always names the overwritten word
abbrev pub snapshot : Barrier
snapshot = record { rescans = false; names_old = λ m. true; names_new = λ m. false }

-- update rescans and names the new word for marked targets only
abbrev pub update : Barrier
update = record { rescans = true; names_old = λ m. false; names_new = λ m. m }
