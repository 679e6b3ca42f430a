use Rattle.std.proofs.Common.{length, map}
use Rattle.heap.proofs.Visits.{Visiting, visit_notes}
use Rattle.heap.proofs.evacuation.Evacuation.visit_noted.Given as goal

abbrev pub invariant-loop-note : goal.invariant-loop-note
invariant-loop-note g l = Visiting g.T.Kind (visit_notes g.T.Kind.count (map (λ n. n.slot) l.notes)) (length l.notes) l.note-index l.initial.self l.self
