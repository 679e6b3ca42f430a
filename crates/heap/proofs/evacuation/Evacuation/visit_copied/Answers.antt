use Rattle.std.proofs.Common.{◌-◌, length, ap, ◌∙◌, arith}
use Rattle.rules.specs.Rules.{visit_copied}
use Rattle.heap.specs.Emptying.{emptying}
use Rattle.heap.proofs.Visits.{visiting_more, queue_length, copied_turn, copied_end}
use Rattle.heap.proofs.evacuation.Evacuation.visit_copied.Goals as goal

pub loop-i-preserved : goal.loop-i-preserved
loop-i-preserved g c =
    let i = c.loop-i.i in
    let e = c.loop-i.self in
    let n = c.args.self.now.nursery.now in
    visiting_more g.T.Kind (visit_copied c.args.rescan g.T.Kind.count) (length n) i c.args.self.now e c.visit_links.new.self (omega (arith, c.loop-i-test.true, e.underway.moved, ap length c.loop-i.invariant.stage.same_nursery)) c.loop-i.invariant c.visit_links.ensures.stage
    (λ rs ns m. copied_turn g.T.Kind c.args.rescan i e rs ns (emptying g.T.Kind rs ns c.visit_links.new.self) (omega (arith, e.underway.moved, e.underway.rows)) c.loop-i-test.true (c.visit_links.ensures.state rs ns) m)

pub returns-clause-state : goal.returns-clause-state
returns-clause-state g c rs ns =
    let e = c.loop-i.self in
    let i = c.loop-i.i in
    let last = emptying g.T.Kind rs ns e in
    copied_end c.args.rescan g.T.Kind.count i (length c.args.self.now.nursery.now - i) last (omega (arith, c.loop-i-test.false, queue_length g.T.Kind rs ns e (omega (arith, e.underway.moved, e.underway.rows)))) ∙ c.loop-i.invariant.rest rs ns
