use Rattle.std.proofs.Common.{map, take, refl, ap, ◌∙◌, arith}
use Rattle.heap.specs.Evacuating.{store_over}
use Rattle.heap.proofs.Framing.{rest_cut}
use Rattle.heap.proofs.SameCycle.{visited_cycle}
use Rattle.heap.proofs.heap.Heap.empty_nursery.Goals as goal

pub returns-clause-frame : goal.returns-clause-frame
returns-clause-frame g c =
    let h = c.args.self.now in
    let k = h.kept in
    let used = c.take-used.result in
    let noted = c.take-noted.result in
    let left = c.evacuate_all.ensures in
    record {
      same_limits = refl;
      same_status = refl;
      same_barrier = refl;
      registers_rest = rest_cut h.limits.registers h.limits.registers h.registers.now _ (omega arith) k.registers_long left.registers_long;
      nursery_rest = rest_cut used h.limits.places h.nursery.now (take used h.nursery.now) (omega (arith, k.used_low, c.take-used.ensures)) (omega (arith, k.used_low, k.nursery_long, c.take-used.ensures)) refl;
      slots_rest = rest_cut h.limits.slots h.limits.slots h.slots.now _ (omega arith) k.slots_long left.slots_long;
      forward_rest = rest_cut used h.limits.places h.forward.now _ (omega (arith, k.used_low, c.take-used.ensures)) (omega (arith, k.used_low, k.forward_long, c.take-used.ensures)) left.forward_long;
      notes_rest = rest_cut noted h.limits.slots h.notes.now (take noted h.notes.now) (omega (arith, k.noted_low, c.take-noted.ensures)) (omega (arith, k.noted_low, k.notes_long, c.take-noted.ensures)) refl;
      same_slots = left.ring_size;
      ring_rest = left.beyond;
    }

pub returns-clause-cycle : goal.returns-clause-cycle
returns-clause-cycle g c =
    let h = c.args.self.now in
    let s = store_over g.T.Kind (take h.limits.registers h.registers.now) (take c.take-used.result h.nursery.now) (take h.limits.slots h.slots.now) (map (λ n. n.slot) (take c.take-noted.result h.notes.now)) h.area.ring in
    ap (λ t. t.cycle) c.evacuate_all.ensures.state ∙ visited_cycle c.if-is_open.rescan g.T.Kind.count s
