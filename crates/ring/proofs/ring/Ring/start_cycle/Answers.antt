use Rattle.std.proofs.Common.{sym, ap, ◌∙◌}
use Rattle.std.proofs.lemmas.Bool.{cond-false}
use Rattle.ring.specs.Arcs.{open_arcs}
use Rattle.ring.specs.Inside.{tables}
use Rattle.ring.specs.View.{arcs_of, is_open_of}
use Rattle.ring.proofs.Frame.{left_as}
use Rattle.ring.proofs.Turn.{opens, open_done}
use Rattle.ring.proofs.ring.Ring.start_cycle.Goals as goal

pub invariant_of-self : goal.invariant_of-self
unfolding arcs_of
invariant_of-self c =
    let m = rw (← c.self.view_is) at c.make_room.ensures in
    (open_done (tables c.self.inside) c.self.invariant m.left.open_is m.room).0

pub returns : goal.returns
unfolding arcs_of
returns c =
    let r = c.args.self.now in
    let t = tables c.self.inside in
    let m = rw (← c.self.view_is) at c.make_room.ensures in
    let d = open_done t c.self.invariant m.left.open_is m.room in
    let b = m.left.beyond in
    record {
      sound = d.0;
      left = left_as r (opens t) _ d.0 (d.1 ∙ (ap open_arcs m.left.arcs_are ∙ sym (cond-false (is_open_of r) (arcs_of r) (open_arcs (arcs_of r)) c.requires.shut))) m.left.slots_kept (record {
        next_kept = b.next_kept;
        previous_kept = b.previous_kept;
        stamp_kept = b.stamp_kept;
      });
    }
