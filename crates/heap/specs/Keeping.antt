-- What always holds of a heap.
use Rattle.std.specs.Prelude.{◌≡◌, ℕ, ◌<◌, ◌≤◌, List, length, slice_index_or}
use Rattle.ring.specs.Sound.{Tables}
use Rattle.ring.specs.View.{arcs_of, slots_of, Fine}
use Rattle.registers.specs.declared.sizes.Limits.{Limits}
use Rattle.heap.specs.declared.rows.Note.{Note}
use Rattle.heap.specs.Rows.{no_note}

-- the slot of note row i, and the index in note row q
abbrev pub noted_slot : List Note → ℕ → ℕ
noted_slot notes i = (slice_index_or notes i no_note).slot

abbrev pub noted_index : List Note → ℕ → ℕ
noted_index notes q = (slice_index_or notes q no_note).index

-- the remembered set: each of the first n rows has one of the slots, and that slot's row says which row it is
abbrev pub Remembered : ℕ → ℕ → List Note → Type 0
Remembered slots n notes = (i : ℕ) → i < n → (noted_slot notes i < slots) × (noted_index notes (noted_slot notes i) ≡ i)

-- each table has as many places as its size asks for, the ring has as many slots, and there is a free slot for each nursery record
pub record Kept (limits : Limits) (nursery slots registers forward : ℕ) (notes : List Note) (ring : Tables) (used noted : ℕ) : Type 0 where
  pub registers_long : limits.registers ≤ registers
  pub nursery_long : limits.places ≤ nursery
  pub slots_long : limits.slots ≤ slots
  pub forward_long : limits.places ≤ forward
  pub notes_long : limits.slots ≤ length notes
  pub fine : Fine ring
  pub ring_size : slots_of ring ≡ limits.slots
  pub used_low : used ≤ limits.places
  pub noted_low : noted ≤ limits.slots
  pub remembered : Remembered limits.slots noted notes
  pub few_slots : limits.slots ≤ 16384
  pub few_places : limits.places ≤ 1024
  pub room : used ≤ length (arcs_of ring).free
