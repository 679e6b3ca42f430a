use Rattle.std.proofs.Common.{arith}
use Rattle.ring.specs.Inside.{tables}
use Rattle.ring.specs.View.{arcs_of}
use Rattle.ring.proofs.Around.{next_none}
use Rattle.ring.proofs.ring.Ring.next_slot.Goals as goal

pub returns-else-q-self : goal.returns-else-q-self
unfolding arcs_of
returns-else-q-self c = rw (← c.self.view_is) (next_none (tables c.self.inside) c.self.invariant c.args.q (omega arith))
