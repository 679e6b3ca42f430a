-- What opening leaves of the lent tables.
use Rattle.std.specs.Prelude.{◌≡◌}
use Rattle.heap.specs.declared.heap.Heap.{Heap}
use Rattle.heap.specs.declared.heap.tables.Tables.{Tables}
use Rattle.heap.specs.Rows.{Rest}

-- records, forwarding rows and note rows are as they were; registers and ring tables are so from the sizes on,
-- which is everywhere where the store is closed, since its sizes are 0
pub record Lent {X B : Type 0} (t : Tables X) (h : Heap X B) : Type 0 where
  pub nursery_same : h.nursery.now ≡ t.nursery.now
  pub slots_same : h.slots.now ≡ t.slots.now
  pub forward_same : h.forward.now ≡ t.forward.now
  pub notes_same : h.notes.now ≡ t.notes.now
  pub registers_rest : Rest h.limits.registers t.registers.now h.registers.now
  pub next_rest : Rest h.limits.slots t.next.now h.area.ring.next
  pub previous_rest : Rest h.limits.slots t.previous.now h.area.ring.prev
  pub stamp_rest : Rest h.limits.slots t.stamp.now h.area.ring.stamp
