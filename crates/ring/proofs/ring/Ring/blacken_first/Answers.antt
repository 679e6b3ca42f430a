use Rattle.std.proofs.Common.{refl}
use Rattle.ring.specs.Inside.{tables}
use Rattle.ring.specs.View.{arcs_of}
use Rattle.ring.proofs.Bounds.{in_stamp, in_next}
use Rattle.ring.proofs.Frame.{same_kept, set_kept, left_as}
use Rattle.ring.proofs.Steps.{took, first_free_in, take_done}
use Rattle.ring.proofs.ring.Ring.blacken_first.Goals as goal

pub bounds-self-inside-h : goal.bounds-self-inside-h
unfolding arcs_of
bounds-self-inside-h c =
    let t = tables c.self.inside in
    in_stamp t c.self.invariant c.args.h (first_free_in t c.self.invariant c.args.h (rw (← c.self.view_is) at c.requires).first)

pub bounds-self-inside-h-2 : goal.bounds-self-inside-h-2
unfolding arcs_of
bounds-self-inside-h-2 c =
    let t = tables c.self.inside in
    in_next t c.self.invariant c.args.h (first_free_in t c.self.invariant c.args.h (rw (← c.self.view_is) at c.requires).first)

pub invariant_of-self : goal.invariant_of-self
unfolding arcs_of
invariant_of-self c = (take_done (tables c.self.inside) c.self.invariant c.args.h (rw (← c.self.view_is) at c.requires).first).0

pub returns : goal.returns
unfolding arcs_of
returns c =
    let t = tables c.self.inside in
    let h = c.args.h in
    let first = (rw (← c.self.view_is) at c.requires).first in
    let d = take_done t c.self.invariant h first in
    rw (← c.self.view_is) (record {
      sound = d.0;
      left = left_as t (took t h) _ d.0 d.1 refl (record {
        next_kept = same_kept t.slots t.next;
        previous_kept = same_kept t.slots t.prev;
        stamp_kept = set_kept t.slots t.stamp t.stamp h t.epoch (first_free_in t c.self.invariant h first) (same_kept t.slots t.stamp);
      });
    })
