use Rattle.std.proofs.Common.{◌<◌, sym, ap, ◌∙◌, subst, arith}
use Rattle.rules.specs.Rules.{record_at, put_record, with_nursery, with_slots, with_plain}
use Rattle.heap.specs.Answers.{Within}
use Rattle.registers.specs.State.{with_store}
use Rattle.heap.specs.View.{view, contents}
use Rattle.heap.proofs.Meanings.{same_record, record_set}
use Rattle.heap.proofs.heap.Heap.fill_at.Goals as goal

pub returns-in-Young-clause-state : goal.returns-in-Young-clause-state
returns-in-Young-clause-state g c =
    let k = g.T.Kind in
    let h = c.args.self.now in
    let s = contents k h in
    let p = c.in-Young.p in
    let t = k.plain c.args.template.now in
    let low : p < h.used = subst (Within h.used h.limits.slots) c.in-Young.is (c.requires).within in
    (ap (λ rs. with_store (view k h) (with_nursery rs s))
    (record_set k h.used h.nursery.now p c.index-nursery-p.result c.fill.new.one (λ r. with_plain r t) low (omega (arith, h.kept.used_low, h.kept.nursery_long)) (same_record _ _ c.fill.ensures.links c.fill.ensures.plain))
    ∙ ap (λ at. with_store (view k h) (put_record s at (with_plain (record_at s at) t))) (sym c.in-Young.is))

pub returns-in-Old-clause-state : goal.returns-in-Old-clause-state
returns-in-Old-clause-state g c =
    let k = g.T.Kind in
    let h = c.args.self.now in
    let s = contents k h in
    let q = c.in-Old.q in
    let t = k.plain c.args.template.now in
    let low : q < h.limits.slots = subst (Within h.used h.limits.slots) c.in-Old.is (c.requires).within in
    (ap (λ rs. with_store (view k h) (with_slots rs s))
    (record_set k h.limits.slots h.slots.now q c.index-slots-q.result c.fill-in-Old.new.one (λ r. with_plain r t) low h.kept.slots_long (same_record _ _ c.fill-in-Old.ensures.links c.fill-in-Old.ensures.plain))
    ∙ ap (λ at. with_store (view k h) (put_record s at (with_plain (record_at s at) t))) (sym c.in-Old.is))
