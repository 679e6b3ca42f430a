use Rattle.std.proofs.Common.{◌≡◌, ℕ, ◌+◌, ◌-◌, ◌<◌, cond, eqb, get_or, refl, arith, rules}
use Rattle.ring.specs.View.{arcs_of}
use Rattle.ring.proofs.Around.{tables_linked}
use Rattle.ring.proofs.Fresh.{blank, new_done}
use Rattle.ring.proofs.ring.Ring.begin.Goals as goal

pub invariant_of-result : goal.invariant_of-result
invariant_of-result c =
    let linked : (k : ℕ) → k < c.args.slots → get_or c.set_each.new.table k 0 ≡ cond (eqb (k + 1) c.args.slots) 0 (k + 1) = λ k l. let p = c.set_each.ensures.set k l in search rules in
    let back : (k : ℕ) → k < c.args.slots → get_or c.set_each-2.new.table k 0 ≡ cond (eqb k 0) (c.args.slots - 1) (k - 1) = λ k l. let p = c.set_each-2.ensures.set k l in search rules in
    let clear : (k : ℕ) → k < c.args.slots → get_or c.set_each-3.new.table k 0 ≡ 0 = λ k l. let p = c.set_each-3.ensures.set k l in search rules in
    let t = blank c.set_each.new.table c.set_each-2.new.table c.set_each-3.new.table c.args.slots c.args.epoch in
    let r = new_done c.set_each.new.table c.set_each-2.new.table c.set_each-3.new.table c.args.slots c.args.epoch c.requires.started c.requires.room (omega arith) (omega arith) (omega arith) linked back clear in
    r.0

pub returns : goal.returns
unfolding arcs_of
returns c =
    let linked : (k : ℕ) → k < c.args.slots → get_or c.set_each.new.table k 0 ≡ cond (eqb (k + 1) c.args.slots) 0 (k + 1) = λ k l. let p = c.set_each.ensures.set k l in search rules in
    let back : (k : ℕ) → k < c.args.slots → get_or c.set_each-2.new.table k 0 ≡ cond (eqb k 0) (c.args.slots - 1) (k - 1) = λ k l. let p = c.set_each-2.ensures.set k l in search rules in
    let clear : (k : ℕ) → k < c.args.slots → get_or c.set_each-3.new.table k 0 ≡ 0 = λ k l. let p = c.set_each-3.ensures.set k l in search rules in
    let t = blank c.set_each.new.table c.set_each-2.new.table c.set_each-3.new.table c.args.slots c.args.epoch in
    let r = new_done c.set_each.new.table c.set_each-2.new.table c.set_each-3.new.table c.args.slots c.args.epoch c.requires.started c.requires.room (omega arith) (omega arith) (omega arith) linked back clear in
    record {
      sound = r.0;
      closed = refl;
      linked = tables_linked t r.0;
      begun = record {
        slots_are = refl;
        arcs_are = r.1;
        next_kept = record { rest = c.set_each.ensures.beyond; long = c.set_each.auto.table };
        previous_kept = record { rest = c.set_each-2.ensures.beyond; long = c.set_each-2.auto.table };
        stamp_kept = record { rest = c.set_each-3.ensures.beyond; long = c.set_each-3.auto.table };
      };
    }
