use Rattle.rules.specs.Rules.{visit_links}
use Rattle.heap.proofs.Visits.{Visiting}
use Rattle.heap.proofs.evacuation.Evacuation.visit_links.Given as goal

abbrev pub invariant-loop-k : goal.invariant-loop-k
invariant-loop-k g l = Visiting g.T.Kind (visit_links l.rescan l.q) g.T.Kind.count l.k l.initial.self l.self
