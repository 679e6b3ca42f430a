-- What the table of a heap of registers alone holds, as a state of the rules.
use Rattle.std.specs.Prelude.{◌≡◌, false, [], take, drop}
use Rattle.ring.specs.Arcs.{new_arcs}
use Rattle.registers.specs.declared.heap.Heap.{Heap}
use Rattle.registers.specs.Answers.{told_why}
use Rattle.registers.specs.State.{State, sizes_in, link_count}

-- the registers are the first R places of their table; nursery, old area and notes are empty, and every slot is free
abbrev pub view : {B : Type 0} → Heap B → State
view h = record {
  why = told_why h.status;
  sizes = sizes_in link_count h.limits;
  store = record {
    registers = take h.limits.registers h.registers.now;
    nursery = [];
    slots = [];
    arcs = new_arcs h.limits.slots;
    notes = [];
    cycle = false;
  };
}

-- table places beyond the sizes hold what they held
abbrev pub Beyond : {B : Type 0} → Heap B → Heap B → Type 0
Beyond h k = drop h.limits.registers k.registers.now ≡ drop h.limits.registers h.registers.now
