use Rattle.std.proofs.Common.{refl}
use Rattle.ring.specs.Inside.{tables}
use Rattle.ring.specs.View.{arcs_of}
use Rattle.ring.proofs.Bounds.{in_stamp}
use Rattle.ring.proofs.Frame.{same_kept, set_kept, left_as}
use Rattle.ring.proofs.Scan.{scanned_at, last_grey_in, scan_done}
use Rattle.ring.proofs.ring.Ring.blacken_last.Goals as goal

pub bounds-self-inside-x : goal.bounds-self-inside-x
unfolding arcs_of
bounds-self-inside-x c =
    let t = tables c.self.inside in
    in_stamp t c.self.invariant c.args.x (last_grey_in t c.self.invariant c.args.x (rw (← c.self.view_is) at c.requires).last)

pub invariant_of-self : goal.invariant_of-self
unfolding arcs_of
invariant_of-self c = (scan_done (tables c.self.inside) c.self.invariant c.args.x (rw (← c.self.view_is) at c.requires).last).0

pub returns : goal.returns
unfolding arcs_of
returns c =
    let t = tables c.self.inside in
    let x = c.args.x in
    let last = (rw (← c.self.view_is) at c.requires).last in
    let d = scan_done t c.self.invariant x last in
    rw (← c.self.view_is) (record {
      sound = d.0;
      left = left_as t (scanned_at t x) _ d.0 d.1 refl (record {
        next_kept = same_kept t.slots t.next;
        previous_kept = same_kept t.slots t.prev;
        stamp_kept = set_kept t.slots t.stamp t.stamp x t.epoch (last_grey_in t c.self.invariant x last) (same_kept t.slots t.stamp);
      });
    })
