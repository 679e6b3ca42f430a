use Rattle.std.proofs.Common.{length, take, refl, ap, ◌∙◌, arith}
use Rattle.ring.specs.View.{arcs_of}
use Rattle.heap.proofs.Cycles.{scanned_low}
use Rattle.heap.proofs.Keeps.{free_scanned, free_shaded, kept_ring}
use Rattle.heap.proofs.heap.Heap.scan_one.Goals as goal

pub links_of-links-requires : goal.links_of-links-requires
links_of-links-requires g c =
    let h = c.args.self.now in
    record { within = scanned_low h.area.ring c.scan.new.self.ring c.in-Some.q h.limits.slots _ h.kept.ring_size c.in-Some.ensures.answer c.scan.ensures.left }

pub invariant_of-self-2 : goal.invariant_of-self-2
invariant_of-self-2 g c =
    let h = c.args.self.now in
    let scanned = c.scan.ensures.left in
    let shaded = c.shade_words.ensures in
    record {
      kept = kept_ring h.limits _ _ _ _ _ h.notes.now h.area.ring c.shade_words.new.self.ring h.used h.noted h.kept
          refl
          c.shade_words.new.self.counted.fine
          (shaded.slots_kept ∙ scanned.slots_kept)
          (omega (arith, ap (λ a. length a.free) shaded.arcs_are, free_shaded (take c.link_count.result c.links_of-links.result) (arcs_of c.scan.new.self.ring), ap (λ a. length a.free) scanned.arcs_are, free_scanned (arcs_of h.area.ring)));
    }
