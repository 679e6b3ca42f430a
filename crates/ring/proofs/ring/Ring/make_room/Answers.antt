use Rattle.std.proofs.Common.{refl, subst}
use Rattle.ring.specs.Inside.{tables}
use Rattle.ring.specs.View.{arcs_of, Leaves}
use Rattle.ring.proofs.Frame.{stays}
use Rattle.ring.proofs.ring.Ring.make_room.Goals as goal

pub returns-else-self-clause-left : goal.returns-else-self-clause-left
returns-else-self-clause-left c =
    let t = tables c.self.inside in
    rw (← c.self.view_is) (subst (Leaves t t (arcs_of t)) (rw (← c.self.view_is) at c.requires).shut (stays t c.self.invariant _ refl))
