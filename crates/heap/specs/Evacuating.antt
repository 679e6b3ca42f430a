-- The nursery while it is emptied: what the rules say of it, and what always holds of it.
use Rattle.std.specs.Prelude.{◌≡◌, ℕ, ◌+◌, ◌<◌, ◌≤◌, Bool, List, map, length, Some, slice_index_or}
use Rattle.ring.specs.Sound.{Tables}
use Rattle.ring.specs.View.{arcs_of, slots_of, is_open_of}
use Rattle.rules.specs.Rules.{Store, Evacuation as Emptying, with_arcs, shade_if, begin_evacuation, visit_registers, visit_noted, visit_copied}
use Rattle.kinds.specs.declared.kind.Kind.{Ghosts}
use Rattle.heap.specs.Meaning.{meaning_of}
use Rattle.heap.specs.declared.rows.Forward.{Forward}
use Rattle.heap.specs.declared.rows.Note.{Note}
use Rattle.heap.specs.Rows.{unmoved, no_forward, no_note}

-- each note row has one of n slots
abbrev pub SlotsBelow : ℕ → List Note → Type 0
SlotsBelow n notes = (i : ℕ) → i < length notes → (slice_index_or notes i no_note).slot < n

-- there is a free slot for each record that is not copied yet, and rows in use lead to slots
pub record Underway (places slots : ℕ) (forward : List Forward) (ring : Tables) (copied : ℕ) : Type 0 where
  pub rows : length forward ≡ places
  pub ring_size : slots_of ring ≡ slots
  pub few_slots : slots ≤ 16384
  pub few_places : places ≤ 1024
  pub waiting : unmoved (map (λ f. f.target) forward) ≤ length (arcs_of ring).free
  pub moved : copied + unmoved (map (λ f. f.target) forward) ≤ places
  pub targets : (p q : ℕ) → (slice_index_or forward p no_forward).target ≡ Some q → q < slots
  pub queued : (i : ℕ) → i < copied → (slice_index_or forward i no_forward).copied < slots

-- a visited word is shaded if the visit rescans
abbrev pub shade_visited : Bool → ℕ → Emptying → Emptying
shade_visited rescan w c = record { store = with_arcs (shade_if rescan w c.store.arcs) c.store; forward = c.forward; copied = c.copied }

-- the store in these tables: registers, nursery, slots, noted slots and ring
abbrev pub store_over : {X : Type 0} → Ghosts X → List ℕ → List X → List X → List ℕ → Tables → Store
store_over g registers nursery slots notes ring = record {
  registers = registers;
  nursery = map (meaning_of g) nursery;
  slots = map (meaning_of g) slots;
  arcs = arcs_of ring;
  notes = notes;
  cycle = is_open_of ring;
}

-- emptying the nursery of a store: registers, noted records and copied records are visited
abbrev pub visited : Bool → ℕ → Store → Emptying
visited rescan n s =
    visit_copied rescan n 0 (length s.nursery) (visit_noted n s.notes (visit_registers rescan 0 (length s.registers) (begin_evacuation s)))
