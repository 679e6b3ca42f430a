use Rattle.std.proofs.Common.{◌≡◌, ℕ, ◌+◌, ◌<◌, true, length, get_or, sym, refl, subst, arith}
use Rattle.std.proofs.lemmas.List.{length-set}
use Rattle.ring.specs.Arcs.{has}
use Rattle.ring.specs.Laws.{KeepsOrder}
use Rattle.ring.specs.Sound.{Tables, arcs}
use Rattle.ring.specs.Inside.{tables}
use Rattle.ring.specs.View.{arcs_of, Fine}
use Rattle.ring.proofs.Bounds.{in_stamp, in_prev, in_next, grey_in, links_in, grey_fits, set_in}
use Rattle.ring.proofs.Carry.{nx1}
use Rattle.ring.proofs.Frame.{same_kept, set_kept, left_as}
use Rattle.ring.proofs.Order.{keeps_order}
use Rattle.ring.proofs.Shade.{shaded_near, carried, white_slot, shade_done_near, shade_done_far}
use Rattle.ring.proofs.ring.Ring.make_grey.Goals as goal

-- The slot before the grey arc.
before_grey : (t : Tables) → Fine t → (q : ℕ) → q < t.slots → get_or t.prev t.grey 0 < t.slots
before_grey t s q l = (links_in t s t.grey (grey_in t s (λ e. omega arith))).1

-- The slot that follows z once q is unlinked.
after_unlinked : (t : Tables) → Fine t → (q z : ℕ) → q < t.slots → z < t.slots → get_or (nx1 t.next t.prev q z) z 0 < t.slots
after_unlinked t s q z l lz =
    let li = links_in t s q l in
    set_in t.next t.slots (get_or t.prev q 0) (get_or t.next q 0) z (in_next t s (get_or t.prev q 0) li.1) li.0 (links_in t s z lz).0

-- The places at which a white slot q is unlinked and linked in again.
record Near (t : Tables) (q : ℕ) : Type 0 where
  grey_prev : t.grey < length t.prev
  q_stamp : q < length t.stamp
  q_prev : q < length t.prev
  q_next : q < length t.next
  p_next : get_or t.prev q 0 < length t.next
  n_prev : get_or t.next q 0 < length t.prev
  z_next : get_or t.prev t.grey 0 < length t.next
  y_prev : get_or (nx1 t.next t.prev q (get_or t.prev t.grey 0)) (get_or t.prev t.grey 0) 0 < length t.prev

near : (t : Tables) → Fine t → (q : ℕ) → true ≡ has q (arcs_of t).white → Near t q
unfolding arcs_of
near t s q white =
    let l = white_slot t s q (sym white) in
    let li = links_in t s q l in
    let z = get_or t.prev t.grey 0 in
    let lz = before_grey t s q l in
    record {
      grey_prev = in_prev t s t.grey (grey_in t s (λ e. omega arith));
      q_stamp = in_stamp t s q l;
      q_prev = in_prev t s q l;
      q_next = in_next t s q l;
      p_next = in_next t s (get_or t.prev q 0) li.1;
      n_prev = in_prev t s (get_or t.next q 0) li.0;
      z_next = in_next t s z lz;
      y_prev = in_prev t s (get_or (nx1 t.next t.prev q z) z 0) (after_unlinked t s q z l lz);
    }

pub bounds-self-inside-self-inside : goal.bounds-self-inside-self-inside
bounds-self-inside-self-inside c = (near (tables c.self.inside) c.self.invariant c.args.q (rw (← c.self.view_is) at c.requires).white).grey_prev

pub overflow_add-self : goal.overflow_add-self
overflow_add-self c = grey_fits (tables c.self.inside) c.self.invariant

pub bounds-self-inside-q : goal.bounds-self-inside-q
bounds-self-inside-q c = (near (tables c.self.inside) c.self.invariant c.args.q (rw (← c.self.view_is) at c.requires).white).q_stamp

pub invariant_of-self : goal.invariant_of-self
unfolding arcs_of
invariant_of-self c = (shade_done_near (tables c.self.inside) c.self.invariant c.args.q (sym (rw (← c.self.view_is) at c.requires).white) c.if-z-q.true).0

pub returns-then-z-q : goal.returns-then-z-q
unfolding arcs_of
returns-then-z-q c =
    let t = tables c.self.inside in
    let q = c.args.q in
    let white = sym (rw (← c.self.view_is) at c.requires).white in
    let l = white_slot t c.self.invariant q white in
    let d = shade_done_near t c.self.invariant q white c.if-z-q.true in
    rw (← c.self.view_is) (record {
      sound = d.0;
      left = left_as t (shaded_near t q) _ d.0 d.1 refl (record {
        next_kept = same_kept t.slots t.next;
        previous_kept = same_kept t.slots t.prev;
        stamp_kept = set_kept t.slots t.stamp t.stamp q (t.epoch + 1) l (same_kept t.slots t.stamp);
      });
      order = subst (KeepsOrder q (arcs t)) (sym d.1) (keeps_order q (arcs t));
    })

pub bounds-self-inside-q-2 : goal.bounds-self-inside-q-2
bounds-self-inside-q-2 c = (near (tables c.self.inside) c.self.invariant c.args.q (rw (← c.self.view_is) at c.requires).white).q_prev

pub bounds-self-inside-q-3 : goal.bounds-self-inside-q-3
bounds-self-inside-q-3 c = (near (tables c.self.inside) c.self.invariant c.args.q (rw (← c.self.view_is) at c.requires).white).q_next

pub bounds-self-inside-p : goal.bounds-self-inside-p
bounds-self-inside-p c = (near (tables c.self.inside) c.self.invariant c.args.q (rw (← c.self.view_is) at c.requires).white).p_next

pub bounds-self-inside-n : goal.bounds-self-inside-n
bounds-self-inside-n c = (near (tables c.self.inside) c.self.invariant c.args.q (rw (← c.self.view_is) at c.requires).white).n_prev

pub bounds-self-inside-z : goal.bounds-self-inside-z
bounds-self-inside-z c = simp length-set (near (tables c.self.inside) c.self.invariant c.args.q (rw (← c.self.view_is) at c.requires).white).z_next

pub bounds-self-inside-z-2 : goal.bounds-self-inside-z-2
bounds-self-inside-z-2 c = simp length-set (near (tables c.self.inside) c.self.invariant c.args.q (rw (← c.self.view_is) at c.requires).white).z_next

pub bounds-self-inside-q-4 : goal.bounds-self-inside-q-4
bounds-self-inside-q-4 c = simp length-set (near (tables c.self.inside) c.self.invariant c.args.q (rw (← c.self.view_is) at c.requires).white).q_prev

pub bounds-self-inside-q-5 : goal.bounds-self-inside-q-5
bounds-self-inside-q-5 c = simp length-set (near (tables c.self.inside) c.self.invariant c.args.q (rw (← c.self.view_is) at c.requires).white).q_next

pub bounds-self-inside-y : goal.bounds-self-inside-y
bounds-self-inside-y c = simp length-set (near (tables c.self.inside) c.self.invariant c.args.q (rw (← c.self.view_is) at c.requires).white).y_prev

pub overflow_add-self-2 : goal.overflow_add-self-2
overflow_add-self-2 c = grey_fits (tables c.self.inside) c.self.invariant

pub bounds-self-inside-q-6 : goal.bounds-self-inside-q-6
bounds-self-inside-q-6 c = (near (tables c.self.inside) c.self.invariant c.args.q (rw (← c.self.view_is) at c.requires).white).q_stamp

pub invariant_of-self-2 : goal.invariant_of-self-2
unfolding arcs_of
invariant_of-self-2 c =
    (shade_done_far (tables c.self.inside) c.self.invariant c.args.q c.instead-self-inside.result c.instead-self-inside-2.result (sym (rw (← c.self.view_is) at c.requires).white) c.if-z-q.false c.instead-self-inside.ensures c.instead-self-inside-2.ensures).0

pub returns : goal.returns
unfolding arcs_of
returns c =
    let t = tables c.self.inside in
    let s = c.self.invariant in
    let q = c.args.q in
    let white = sym (rw (← c.self.view_is) at c.requires).white in
    let l = white_slot t s q white in
    let z = get_or t.prev t.grey 0 in
    let lz = before_grey t s q l in
    let li = links_in t s q l in
    let ly = after_unlinked t s q z l lz in
    let y = get_or (nx1 t.next t.prev q z) z 0 in
    let n = get_or t.next q 0 in
    let p = get_or t.prev q 0 in
    let u = carried t q z c.instead-self-inside.result c.instead-self-inside-2.result in
    let d = shade_done_far t s q c.instead-self-inside.result c.instead-self-inside-2.result white c.if-z-q.false c.instead-self-inside.ensures c.instead-self-inside-2.ensures in
    rw (← c.self.view_is) (record {
      sound = d.0;
      left = left_as t u _ d.0 d.1 refl (record {
        next_kept = set_kept t.slots t.next _ q y l (set_kept t.slots t.next _ z q lz (set_kept t.slots t.next t.next p n li.1 (same_kept t.slots t.next)));
        previous_kept = set_kept t.slots t.prev _ y q ly (set_kept t.slots t.prev _ q z l (set_kept t.slots t.prev t.prev n p li.0 (same_kept t.slots t.prev)));
        stamp_kept = set_kept t.slots t.stamp t.stamp q (t.epoch + 1) l (same_kept t.slots t.stamp);
      });
      order = subst (KeepsOrder q (arcs t)) (sym d.1) (keeps_order q (arcs t));
    })
