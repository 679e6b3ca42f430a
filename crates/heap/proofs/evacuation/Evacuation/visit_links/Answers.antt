use Rattle.std.proofs.Common.{suc, sym, ap, arith}
use Rattle.rules.specs.Rules.{visit_links}
use Rattle.heap.proofs.Visits.{visiting_more}
use Rattle.heap.proofs.evacuation.Evacuation.visit_links.Goals as goal

pub loop-k-preserved : goal.loop-k-preserved
loop-k-preserved g c =
    let k = c.loop-k.k in
    visiting_more g.T.Kind (visit_links c.args.rescan c.args.q) g.T.Kind.count k c.args.self.now c.loop-k.self c.visit_link.new.self (omega (arith, c.loop-k-test.true, c.link_count-k-end.ensures)) c.loop-k.invariant c.visit_link.ensures.stage
    (λ rs ns m. ap (visit_links c.args.rescan c.args.q (suc k) m) (sym (c.visit_link.ensures.state rs ns)))
