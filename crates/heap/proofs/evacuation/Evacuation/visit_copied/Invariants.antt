use Rattle.std.proofs.Common.{◌-◌, length}
use Rattle.rules.specs.Rules.{visit_copied}
use Rattle.heap.proofs.Visits.{Visiting}
use Rattle.heap.proofs.evacuation.Evacuation.visit_copied.Given as goal

abbrev pub invariant-loop-i : goal.invariant-loop-i
invariant-loop-i g l = Visiting g.T.Kind (visit_copied l.rescan g.T.Kind.count) (length l.initial.self.nursery.now) l.i l.initial.self l.self

abbrev pub decreases-loop-i : goal.decreases-loop-i
decreases-loop-i g l = length l.initial.self.nursery.now - l.i
