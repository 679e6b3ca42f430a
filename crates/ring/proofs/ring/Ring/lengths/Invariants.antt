use Rattle.ring.specs.Inside.{tables}
use Rattle.ring.proofs.Tell.{Told}
use Rattle.ring.proofs.ring.Ring.lengths.Given as goal

abbrev pub invariant-loop : goal.invariant-loop
invariant-loop l = Told (tables l.self-inside) l.counter l.x l.counted
