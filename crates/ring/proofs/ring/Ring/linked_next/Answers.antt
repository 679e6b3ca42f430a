use Rattle.ring.specs.Inside.{tables}
use Rattle.ring.specs.View.{arcs_of}
use Rattle.ring.proofs.Around.{next_some}
use Rattle.ring.proofs.Bounds.{in_next}
use Rattle.ring.proofs.ring.Ring.linked_next.Goals as goal

pub bounds-self-inside-q : goal.bounds-self-inside-q
bounds-self-inside-q c = in_next (tables c.self.inside) c.self.invariant c.args.q (rw (← c.self.view_is) at c.requires).slot

pub returns : goal.returns
unfolding arcs_of
returns c = rw (← c.self.view_is) (next_some (tables c.self.inside) c.self.invariant c.args.q (rw (← c.self.view_is) at c.requires).slot)
