use Rattle.std.proofs.Common.{refl, subst}
use Rattle.std.proofs.lemmas.Bool.{not-false}
use Rattle.ring.specs.Calls.{is_none, closed_arcs}
use Rattle.ring.specs.Inside.{tables}
use Rattle.ring.specs.View.{arcs_of, Leaves}
use Rattle.ring.proofs.Frame.{same_kept, left_as}
use Rattle.ring.proofs.Turn.{closes, close_done}
use Rattle.ring.proofs.ring.Ring.end_cycle.Goals as goal

pub invariant_of-self : goal.invariant_of-self
unfolding arcs_of
invariant_of-self c =
    let t = tables c.self.inside in
    let r = rw (← c.self.view_is) at c.requires in
    (close_done t c.self.invariant r.live (not-false (is_none (arcs_of t).grey) r.scanned)).0

pub returns : goal.returns
unfolding arcs_of
returns c =
    let t = tables c.self.inside in
    let r = rw (← c.self.view_is) at c.requires in
    let d = close_done t c.self.invariant r.live (not-false (is_none (arcs_of t).grey) r.scanned) in
    rw (← c.self.view_is) (record {
      sound = d.0;
      answer = d.1;
      left = subst (Leaves t (closes t) (closed_arcs t.cycle (arcs_of t))) d.3 (left_as t (closes t) _ d.0 d.2 refl (record { next_kept = same_kept _ _; previous_kept = same_kept _ _; stamp_kept = same_kept _ _ }));
    })
