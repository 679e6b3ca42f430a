use Rattle.std.proofs.Common.{◌≡◌, ℕ, ◌<◌, cond, eqb, get_or, refl, subst, arith, rules}
use Rattle.ring.specs.Inside.{tables}
use Rattle.ring.specs.View.{arcs_of, Leaves}
use Rattle.ring.proofs.Frame.{same_kept, left_as}
use Rattle.ring.proofs.Held.{held}
use Rattle.ring.proofs.Turn.{renewed, renew_done}
use Rattle.ring.proofs.ring.Ring.renew.Goals as goal

pub set_each-requires-clause-room : goal.set_each-requires-clause-room
set_each-requires-clause-room c = (held (tables c.self.inside) c.self.invariant).stamp_long

pub invariant_of-self : goal.invariant_of-self
unfolding arcs_of
invariant_of-self c =
    let t = tables c.self.inside in
    let st = c.set_each.new.table in
    let renewed_each : (k : ℕ) → k < t.slots → get_or st k 0 ≡ cond (eqb (get_or t.stamp k 0) t.epoch) 2 0 = λ k l. let p = c.set_each.ensures.set k l in search rules in
    let long = (held t c.self.invariant).stamp_long in
    (renew_done t st c.self.invariant (rw (← c.self.view_is) at c.requires).shut (omega (arith, long)) renewed_each).0

pub returns : goal.returns
unfolding arcs_of
returns c =
    let t = tables c.self.inside in
    let st = c.set_each.new.table in
    let renewed_each : (k : ℕ) → k < t.slots → get_or st k 0 ≡ cond (eqb (get_or t.stamp k 0) t.epoch) 2 0 = λ k l. let p = c.set_each.ensures.set k l in search rules in
    let long = (held t c.self.invariant).stamp_long in
    let shut = (rw (← c.self.view_is) at c.requires).shut in
    let d = renew_done t st c.self.invariant shut (omega (arith, long)) renewed_each in
    rw (← c.self.view_is) (record {
      sound = d.0;
      left = subst (Leaves t (renewed t st) (arcs_of t)) shut (left_as t (renewed t st) _ d.0 d.1 refl (record {
        next_kept = same_kept t.slots t.next;
        previous_kept = same_kept t.slots t.prev;
        stamp_kept = record { rest = c.set_each.ensures.beyond; long = c.set_each.auto.table };
      }));
      reset = refl;
    })
