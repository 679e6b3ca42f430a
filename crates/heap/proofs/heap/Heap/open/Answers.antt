use Rattle.std.proofs.Common.{◌∙◌, rules}
use Rattle.registers.proofs.Opens.{limits_or_none, status_left}
use Rattle.heap.proofs.Opens.{opens}
use Rattle.heap.proofs.heap.Heap.open.Goals as goal

pub returns-clause-state : goal.returns-clause-state
returns-clause-state g c =
    let r = c.limits_for-asked.result in
    let l_is = limits_or_none r _ c.unwrap_or_default-limits.result (λ x h. search rules) c.unwrap_or_default-limits.ensures in
    let o = opens g.T.Kind c.args.sizes c.args.tables r c.unwrap_or_default-limits.result c.map-status.result c.limits_for-asked.ensures l_is (status_left r _ c.map-status.result c.map-status.ensures.cases) in
    c.over.ensures.state ∙ o.state
