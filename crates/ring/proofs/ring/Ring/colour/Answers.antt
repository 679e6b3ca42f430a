use Rattle.std.proofs.Common.{arith}
use Rattle.ring.specs.Inside.{tables}
use Rattle.ring.specs.View.{arcs_of}
use Rattle.ring.proofs.Colours.{colour_none}
use Rattle.ring.proofs.ring.Ring.colour.Goals as goal

pub returns-else-q-self : goal.returns-else-q-self
unfolding arcs_of
returns-else-q-self c =
    let r = colour_none (tables c.self.inside) c.self.invariant c.args.q (omega arith) in
    rw (← c.self.view_is) (record { sound = c.self.invariant; value = r.0; one = r.1 })
