use Rattle.std.proofs.Common.{◌≡◌, subst, arith, rules}
use Rattle.ring.specs.declared.arcs.Lengths.{Lengths}
use Rattle.ring.specs.Inside.{tables}
use Rattle.ring.specs.View.{arcs_of}
use Rattle.ring.proofs.Bounds.{in_next}
use Rattle.ring.proofs.Tell.{Told, told_none, told_more, told_le, told_all, told_sum}
use Rattle.ring.proofs.ring.Ring.lengths.Goals as goal

pub loop-init : goal.loop-init
loop-init c =
    let none : Lengths = record { free = 0; white = 0; grey = 0; black = 0 } in
    let zero : none ≡ c.default-counted.result = search rules in
    subst (Told (tables c.self.inside) 0 c.self.inside.head) zero (told_none (tables c.self.inside) c.self.invariant)

pub add-requires : goal.add-requires
add-requires c =
    let b = told_le (tables c.self.inside) c.loop.counter c.loop.x c.loop.counted c.loop.invariant in
    let l = c.loop-test.true in
    record { free = omega arith; white = omega arith; grey = omega arith; black = omega arith }

pub bounds-self-inside-x : goal.bounds-self-inside-x
bounds-self-inside-x c = in_next (tables c.self.inside) c.self.invariant c.loop.x (c.loop.invariant.low (λ e. omega arith))

pub loop-preserved : goal.loop-preserved
loop-preserved c =
    let e = rw (← c.self.view_is) at c.stamped_colour.ensures in
    told_more (tables c.self.inside) c.self.invariant c.loop.counter c.loop.x c.loop.counted c.add.new.self c.stamped_colour.result c.loop.invariant c.loop-test.true e.stamp c.add.ensures

pub returns : goal.returns
unfolding arcs_of
returns c =
    let t = tables c.self.inside in
    let e = told_all t c.loop.counter c.loop.x c.loop.counted c.loop.invariant (omega arith) in
    rw (← c.self.view_is) (record { value = e; sum = told_sum t c.self.invariant c.loop.counted e })
