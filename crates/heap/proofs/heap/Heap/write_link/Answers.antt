use Rattle.std.proofs.Common.{◌<◌, sym, ap, ◌∙◌, subst, arith}
use Rattle.rules.specs.Rules.{record_at, put_record, with_nursery, with_slots, with_link}
use Rattle.heap.specs.Answers.{Within}
use Rattle.heap.specs.View.{contents}
use Rattle.heap.proofs.Meanings.{same_record, record_set}
use Rattle.heap.proofs.heap.Heap.write_link.Goals as goal

pub returns-in-Young-clause-left : goal.returns-in-Young-clause-left
returns-in-Young-clause-left g c =
    let k = g.T.Kind in
    let h = c.args.self.now in
    let s = contents k h in
    let p = c.in-Young.p in
    let low : p < h.used = subst (Within h.used h.limits.slots) c.in-Young.is c.requires.within in
    (ap (λ rs. with_nursery rs s)
    (record_set k h.used h.nursery.now p c.index-nursery-p.result c.set_link.new.self (λ r. with_link r c.args.k c.args.w) low (omega (arith, h.kept.used_low, h.kept.nursery_long)) (same_record _ _ c.set_link.ensures.linked c.set_link.ensures.kept)))
    ∙ ap (λ at. put_record s at (with_link (record_at s at) c.args.k c.args.w)) (sym c.in-Young.is)

pub returns-in-Old-clause-left : goal.returns-in-Old-clause-left
returns-in-Old-clause-left g c =
    let k = g.T.Kind in
    let h = c.args.self.now in
    let s = contents k h in
    let q = c.in-Old.q in
    let low : q < h.limits.slots = subst (Within h.used h.limits.slots) c.in-Old.is c.requires.within in
    (ap (λ rs. with_slots rs s)
    (record_set k h.limits.slots h.slots.now q c.index-slots-q.result c.set_link-in-Old.new.self (λ r. with_link r c.args.k c.args.w) low h.kept.slots_long (same_record _ _ c.set_link-in-Old.ensures.linked c.set_link-in-Old.ensures.kept)))
    ∙ ap (λ at. put_record s at (with_link (record_at s at) c.args.k c.args.w)) (sym c.in-Old.is)
