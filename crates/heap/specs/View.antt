-- What the tables of a heap hold, as a state of the rules, and what no call alters of them.
use Rattle.std.specs.Prelude.{◌≡◌, take}
use Rattle.ring.specs.View.{arcs_of, slots_of, is_open_of, Beyond}
use Rattle.rules.specs.Rules.{Sizes, Store}
use Rattle.kinds.specs.declared.kind.Kind.{Ghosts}
use Rattle.heap.specs.declared.heap.Heap.{Heap}
use Rattle.registers.specs.Answers.{told_why}
use Rattle.heap.specs.Meaning.{meaning_of}
use Rattle.heap.specs.Rows.{front, Rest}
use Rattle.registers.specs.State.{State, sizes_in}

-- registers, used nursery places, slots, arcs and notes
abbrev pub contents : {X B : Type 0} → Ghosts X → Heap X B → Store
contents g h = record {
  registers = take h.limits.registers h.registers.now;
  nursery = front (meaning_of g) h.used h.nursery.now;
  slots = front (meaning_of g) h.limits.slots h.slots.now;
  arcs = arcs_of h.area.ring;
  notes = front (λ n. n.slot) h.noted h.notes.now;
  cycle = is_open_of h.area.ring;
}

abbrev pub sizes_of_heap : {X B : Type 0} → Ghosts X → Heap X B → Sizes
sizes_of_heap g h = sizes_in g.count h.limits

abbrev pub view : {X B : Type 0} → Ghosts X → Heap X B → State
view g h = record { why = told_why h.status; sizes = sizes_of_heap g h; store = contents g h }

-- what no call alters: sizes, status and barrier, and the table places beyond the sizes
pub record Frame {X B : Type 0} (was is : Heap X B) : Type 0 where
  pub same_limits : is.limits ≡ was.limits
  pub same_status : is.status ≡ was.status
  pub same_barrier : is.barrier ≡ was.barrier
  pub registers_rest : Rest was.limits.registers was.registers.now is.registers.now
  pub nursery_rest : Rest was.limits.places was.nursery.now is.nursery.now
  pub slots_rest : Rest was.limits.slots was.slots.now is.slots.now
  pub forward_rest : Rest was.limits.places was.forward.now is.forward.now
  pub notes_rest : Rest was.limits.slots was.notes.now is.notes.now
  pub same_slots : slots_of is.area.ring ≡ slots_of was.area.ring
  pub ring_rest : Beyond was.area.ring is.area.ring
