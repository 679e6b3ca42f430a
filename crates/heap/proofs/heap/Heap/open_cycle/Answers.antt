use Rattle.std.proofs.Common.{length, take, refl, ap, ◌∙◌, arith}
use Rattle.std.proofs.lemmas.List.{take-append-drop}
use Rattle.ring.specs.View.{arcs_of, is_open_of}
use Rattle.heap.proofs.Keeps.{free_opened, free_shaded, kept_ring}
use Rattle.heap.proofs.heap.Heap.open_cycle.Goals as goal

pub invariant_of-self-then-open_cycle : goal.invariant_of-self-then-open_cycle
invariant_of-self-then-open_cycle g c =
    let h = c.args.self.now in
    let opened = c.open_cycle.ensures.left in
    let shaded = c.shade_words.ensures in
    let ws = take h.limits.registers h.registers.now in
    record {
      kept = kept_ring h.limits _ _ _ _ _ h.notes.now h.area.ring c.shade_words.new.self.ring h.used h.noted h.kept
          (ap length (take-append-drop h.limits.registers h.registers.now))
          c.shade_words.new.self.counted.fine
          (shaded.slots_kept ∙ opened.slots_kept)
          (omega (arith, ap (λ a. length a.free) shaded.arcs_are, free_shaded ws (arcs_of c.open_cycle.new.self.ring), ap (λ a. length a.free) opened.arcs_are, free_opened (is_open_of h.area.ring) (arcs_of h.area.ring)));
    }
