-- Visits: a word is read, evacuated and put back; the loops over registers, links, notes and copied records.
use Rattle.std.proofs.Common.{◌≡◌, ℕ, zero, suc, ◌+◌, ◌-◌, ◌<◌, ◌≤◌, Bool, false, cond, List, map, length, get_or, take, drop, set, sym, refl, ap, ◌∙◌, add-one, arith}
use Rattle.std.proofs.lemmas.List.{drop_more, get_or-map, length-map}
use Rattle.std.proofs.lemmas.Bool.{lt-ltb, le-ltb}
use Rattle.kinds.specs.declared.kind.Kind.{Ghosts}
use Rattle.rules.specs.Rules.{Evacuation as Emptying, with_registers, with_slots, set_link, evacuated, begin_evacuation, visit_link, visit_links, visit_registers, visit_noted, visit_copied}
use Rattle.heap.specs.declared.evacuation.Evacuation.{Evacuation}
use Rattle.heap.specs.declared.rows.Note.{Note}
use Rattle.heap.specs.Meaning.{meaning_of}
use Rattle.heap.specs.Rows.{no_forward, no_note}
use Rattle.ring.specs.Sound.{Tables}
use Rattle.heap.specs.Evacuating.{shade_visited, store_over, visited}
use Rattle.heap.specs.Emptying.{emptying, Stage}
use Rattle.heap.proofs.Fronts.{front_at, length_front}
use Rattle.heap.proofs.Leaving.{beyond_refl, beyond_then}

pub stage_then : {X : Type 0} (a b c : Evacuation X) → Stage a b → Stage b c → Stage a c
stage_then a b c s t = record {
  same_slots = t.same_slots ∙ s.same_slots;
  same_forward = t.same_forward ∙ s.same_forward;
  same_area = t.same_area ∙ s.same_area;
  same_nursery = t.same_nursery ∙ s.same_nursery;
  moved = t.moved ∙ s.moved;
  slots_long = t.slots_long ∙ s.slots_long;
  forward_long = t.forward_long ∙ s.forward_long;
  ring_size = t.ring_size ∙ s.ring_size;
  beyond = beyond_then a.area.now.ring b.area.now.ring c.area.now.ring s.ring_size s.beyond t.beyond;
}

-- a word put into a register, or into a link of a slot
abbrev pub with_register : ℕ → ℕ → Emptying → Emptying
with_register i v c = record { store = with_registers (set c.store.registers i v) c.store; forward = c.forward; copied = c.copied }

abbrev pub with_slot_link : ℕ → ℕ → ℕ → Emptying → Emptying
with_slot_link q k v c = record { store = with_slots (set_link c.store.slots q k v) c.store; forward = c.forward; copied = c.copied }

-- a visit: word w is read, v is the word that takes its place, and it is shaded and put back
pub word_visited : (rescan : Bool) (put : ℕ → Emptying → Emptying) (held w v : ℕ) (c c₁ c₂ : Emptying) → w ≡ held → c₁ ≡ shade_visited rescan v (evacuated w c).1 → v ≡ (evacuated w c).0 → c₂ ≡ put v c₁ → c₂ ≡ put (evacuated held c).0 (shade_visited rescan (evacuated held c).0 (evacuated held c).1)
word_visited rescan put held w v c c₁ c₂ read state word write =
    write
    ∙ ap (put v) state
    ∙ ap (λ x. put x (shade_visited rescan x (evacuated w c).1)) word
    ∙ ap (λ x. put (evacuated x c).0 (shade_visited rescan (evacuated x c).0 (evacuated x c).1)) read

-- a loop of visits: i of n are done, and what is left of the rule, visit i (n − i), leads to what is to be shown
pub record Visiting {X : Type 0} (g : Ghosts X) (visit : ℕ → ℕ → Emptying → Emptying) (n i : ℕ) (was is : Evacuation X) : Type 0 where
  pub stage : Stage was is
  pub rest : (rs ns : List ℕ) → visit i (n - i) (emptying g rs ns is) ≡ visit 0 n (emptying g rs ns was)

-- one turn of such a loop, for an evacuation of any registers
pub turned : (visit : ℕ → ℕ → Emptying → Emptying) (n i : ℕ) (was at next : Emptying) → i < n → visit i (n - i) at ≡ visit 0 n was → ((m : ℕ) → visit i (suc m) at ≡ visit (suc i) m next) → visit (i + 1) (n - (i + 1)) next ≡ visit 0 n was
turned visit n i was at next low rest turn =
    let one_less : suc (n - (i + 1)) ≡ n - i = omega arith in
    ap (λ j. visit j (n - (i + 1)) next) (add-one i) ∙ sym (turn (n - (i + 1))) ∙ ap (λ m. visit i m at) one_less ∙ rest

pub visiting_more : {X : Type 0} (g : Ghosts X) (visit : ℕ → ℕ → Emptying → Emptying) (n i : ℕ) (was e is : Evacuation X) → i < n → Visiting g visit n i was e → Stage e is → ((rs ns : List ℕ) (m : ℕ) → visit i (suc m) (emptying g rs ns e) ≡ visit (suc i) m (emptying g rs ns is)) → Visiting g visit n (i + 1) was is
visiting_more g visit n i was e is low v s turn = record {
  stage = stage_then was e is v.stage s;
  rest = λ rs ns. turned visit n i (emptying g rs ns was) (emptying g rs ns e) (emptying g rs ns is) low (v.rest rs ns) (turn rs ns);
}

-- the noted records: those from the i-th on, however many
abbrev pub visit_notes : ℕ → List ℕ → ℕ → ℕ → Emptying → Emptying
visit_notes n notes i m c = visit_noted n (drop i notes) c

pub noted_turn : (n : ℕ) (notes : List Note) (i : ℕ) (c d : Emptying) → i < length notes → d ≡ visit_links false (get_or notes i no_note).slot 0 n c → visit_noted n (drop i (map (λ x. x.slot) notes)) c ≡ visit_noted n (drop (suc i) (map (λ x. x.slot) notes)) d
noted_turn n notes i c d low e =
    let slots = map (λ (x : Note). x.slot) notes in
    let slot_is : get_or slots i 0 ≡ (get_or notes i no_note).slot = get_or-map (λ (x : Note). x.slot) notes i no_note 0 low in
    ap (λ qs. visit_noted n qs c) (drop_more slots i 0 (omega (arith, low, length-map notes (λ (x : Note). x.slot))))
    ∙ ap (visit_noted n (drop (i + 1) slots)) (ap (λ q. visit_links false q 0 n c) slot_is ∙ sym e)
    ∙ ap (λ j. visit_noted n (drop j slots) d) (add-one i)

-- the copied records: as many are queued as were copied
pub queue_length : {X : Type 0} (g : Ghosts X) (rs ns : List ℕ) (e : Evacuation X) → e.copied ≤ length e.forward.now → length (emptying g rs ns e).copied ≡ e.copied
queue_length g rs ns e low = length_front (λ f. f.copied) e.copied e.forward.now low

pub copied_turn : {X : Type 0} (g : Ghosts X) (rescan : Bool) (i : ℕ) (e : Evacuation X) (rs ns : List ℕ) (d : Emptying) → e.copied ≤ length e.forward.now → i < e.copied → d ≡ visit_links rescan (get_or e.forward.now i no_forward).copied 0 g.count (emptying g rs ns e) → (m : ℕ) → visit_copied rescan g.count i (suc m) (emptying g rs ns e) ≡ visit_copied rescan g.count (suc i) m d
copied_turn g rescan i e rs ns d long low is m =
    let n = g.count in
    let c = emptying g rs ns e in
    let slot_is : get_or c.copied i 0 ≡ (get_or e.forward.now i no_forward).copied = front_at (λ f. f.copied) e.copied e.forward.now i no_forward 0 low long in
    ap (λ t. cond t (visit_copied rescan n (suc i) m (visit_links rescan (get_or c.copied i 0) 0 n c)) c) (lt-ltb i (length c.copied) (omega (arith, low, queue_length g rs ns e long)))
    ∙ ap (visit_copied rescan n (suc i) m) (ap (λ q. visit_links rescan q 0 n c) slot_is ∙ sym is)

pub copied_end : (rescan : Bool) (n i m : ℕ) (c : Emptying) → length c.copied ≤ i → c ≡ visit_copied rescan n i m c
copied_end rescan n i zero c high = refl
copied_end rescan n i (suc m) c high =
    ap (λ t. cond t (visit_copied rescan n (suc i) m (visit_links rescan (get_or c.copied i 0) 0 n c)) c) (sym (le-ltb i (length c.copied) high))

-- the three visits, one after the other
pub visited_all : {X : Type 0} (g : Ghosts X) (rescan : Bool) (registers rs : List ℕ) (ns : List ℕ) (nursery slots : List X) (ring : Tables) (c : Emptying) (d e f : Evacuation X) → e.nursery.now ≡ nursery
    → c ≡ begin_evacuation (store_over g registers nursery slots ns ring)
    → emptying g rs ns d ≡ visit_registers rescan 0 (length registers) c
    → emptying g rs ns e ≡ visit_noted g.count ns (emptying g rs ns d)
    → emptying g rs ns f ≡ visit_copied rescan g.count 0 (length e.nursery.now) (emptying g rs ns e)
    → emptying g rs ns f ≡ visited rescan g.count (store_over g registers nursery slots ns ring)
visited_all g rescan registers rs ns nursery slots ring c d e f same start first second third =
    third
    ∙ ap (λ k. visit_copied rescan g.count 0 k (emptying g rs ns e)) (ap length same ∙ sym (length-map nursery (meaning_of g)))
    ∙ ap (visit_copied rescan g.count 0 (length (map (meaning_of g) nursery)))
    (second ∙ ap (visit_noted g.count ns) (first ∙ ap (visit_registers rescan 0 (length registers)) start))
