use Rattle.std.proofs.Common.{length, map}
use Rattle.heap.specs.Emptying.{emptying}
use Rattle.heap.proofs.Visits.{visit_notes, visiting_more, noted_turn}
use Rattle.heap.proofs.evacuation.Evacuation.visit_noted.Goals as goal

pub loop-note-preserved : goal.loop-note-preserved
loop-note-preserved g c =
    let notes = c.args.notes.now in
    let i = c.loop-note.note-index in
    visiting_more g.T.Kind (visit_notes g.T.Kind.count (map (λ n. n.slot) notes)) (length notes) i c.args.self.now c.loop-note.self c.visit_links.new.self c.loop-note-test.true c.loop-note.invariant c.visit_links.ensures.stage
    (λ rs ns m. noted_turn g.T.Kind.count notes i (emptying g.T.Kind rs ns c.loop-note.self) (emptying g.T.Kind rs ns c.visit_links.new.self) c.loop-note-test.true (c.visit_links.ensures.state rs ns))
