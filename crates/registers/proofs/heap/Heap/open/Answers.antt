use Rattle.std.proofs.Common.{length, rules}
use Rattle.registers.proofs.Opens.{limits_or_none, status_left, registers_low, filled, opened_over}
use Rattle.registers.proofs.heap.Heap.open.Goals as goal

pub returns-clause-state : goal.returns-clause-state
returns-clause-state g c =
    let z = c.args.sizes in
    let table = c.args.registers.now in
    let r = c.over-asked.result in
    let l = c.unwrap_or_default-limits.result in
    let s = c.map.result in
    let l_is = limits_or_none r _ l (λ x h. search rules) c.unwrap_or_default-limits.ensures in
    let s_is = status_left r _ s c.map.ensures.cases in
    let low = registers_low z (length table) r l c.over-asked.ensures l_is in
    rw (filled l.registers table c.fill.new.self 0 low c.fill.ensures.len (c.fill.ensures.after (λ y h. h))).front (opened_over z (length table) r l s c.over-asked.ensures l_is s_is)
