use Rattle.std.proofs.Common.{◌<◌, length, ap, arith}
use Rattle.rules.specs.Rules.{with_slots, with_link}
use Rattle.heap.specs.Emptying.{emptying}
use Rattle.heap.proofs.Meanings.{same_record, record_put}
use Rattle.heap.proofs.Visits.{with_slot_link, word_visited}
use Rattle.heap.proofs.evacuation.Evacuation.visit_link.Goals as goal

pub returns-clause-state : goal.returns-clause-state
returns-clause-state g c rs ns =
    let q = c.args.q in
    let k = c.args.k in
    let v = c.visit-v.result in
    let before = emptying g.T.Kind rs ns c.args.self.now in
    let after = emptying g.T.Kind rs ns c.visit-v.new.self in
    let low : q < length c.visit-v.new.self.slots.now = omega (arith, c.requires.within, c.visit-v.ensures.stage.slots_long) in
    word_visited c.args.rescan (with_slot_link q k) _ c.link_of-w.result v before after _
    (c.link_of-w.ensures rs ns) (c.visit-v.ensures.state rs ns) (c.visit-v.ensures.word rs ns)
    (ap (λ ss. record { store = with_slots ss after.store; forward = after.forward; copied = after.copied })
    (record_put g.T.Kind c.visit-v.new.self.slots.now q c.index-slots-q.result c.set_link.new.self (λ r. with_link r k v) low (same_record _ _ c.set_link.ensures.linked c.set_link.ensures.kept)))
