use Rattle.std.proofs.Common.{Some, subst}
use Rattle.ring.specs.Inside.{tables}
use Rattle.ring.specs.Laws.{OneArc}
use Rattle.ring.specs.Sound.{Tables}
use Rattle.ring.specs.View.{arcs_of, slots_of}
use Rattle.ring.proofs.Bounds.{in_stamp}
use Rattle.ring.proofs.Colours.{colour_some}
use Rattle.ring.proofs.ring.Ring.stamped_colour.Goals as goal

pub bounds-self-inside-x : goal.bounds-self-inside-x
bounds-self-inside-x c = in_stamp (tables c.self.inside) c.self.invariant c.args.x (rw (← c.self.view_is) at c.requires).slot

pub returns : goal.returns
unfolding arcs_of
returns c =
    let e = c.of_stamp.ensures in
    let r = colour_some (tables c.self.inside) c.self.invariant c.args.x (rw (← c.self.view_is) at c.requires).slot c.of_stamp.result e in
    record {
      stamp = rw (← c.self.view_is) e;
      value = rw (← c.self.view_is) r.0;
      one = subst (λ (t : Tables). OneArc (slots_of t) c.args.x (arcs_of t) (Some c.of_stamp.result)) c.self.view_is r.1;
    }
