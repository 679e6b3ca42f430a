use Rattle.std.proofs.Common.{◌≡◌, ◌+◌, ◌<◌, length, get_or, refl, sym, ◌∙◌, ap, subst, length-set, arith, rules}
use Rattle.ring.specs.View.{arcs_of}
use Rattle.words.specs.Words.{slot_word}
use Rattle.heap.specs.Emptying.{emptying}
use Rattle.heap.specs.Evacuating.{Underway}
use Rattle.heap.proofs.Evacuations.{row_to, row_queued}
use Rattle.heap.proofs.Copying.{forwarded, room, row_long, queue_long, taken_low, copied_under, copied_more, copied_state, copied_word}
use Rattle.heap.proofs.evacuation.Evacuation.copy_record.Goals as goal

pub offset_bounds-self-q : goal.offset_bounds-self-q
offset_bounds-self-q g c =
    let e = c.args.self.now in
    let low : c.in-Some.q < length e.slots.now = omega (arith, taken_low e.area.now.ring c.in-Some.q e.area.now.counted.fine c.in-Some.ensures, e.underway.ring_size) in
    search (rules, low)

pub bounds-self-q : goal.bounds-self-q
bounds-self-q g c =
    let e = c.args.self.now in
    omega (arith, taken_low e.area.now.ring c.in-Some.q e.area.now.counted.fine c.in-Some.ensures, e.underway.ring_size)

pub invariant_of-self-3 : goal.invariant_of-self-3
invariant_of-self-3 g c =
    let e = c.args.self.now in
    let p = c.args.p in
    let q = c.in-Some.q in
    let low = taken_low e.area.now.ring q e.area.now.counted.fine c.in-Some.ensures in
    record {
      underway =
          subst (λ n. Underway (length e.nursery.now) n (row_to e.forward.now p q) e.area.now.ring e.copied) (sym (length-set e.slots.now q (get_or e.nursery.now p c.index-self-p.result)))
          (forwarded _ _ e.forward.now e.area.now.ring e.copied p q e.underway c.requires.used c.requires.unmoved (omega (arith, low, e.underway.ring_size)));
    }

pub bounds-self-self : goal.bounds-self-self
bounds-self-self g c =
    let e = c.args.self.now in
    omega (arith, room _ _ _ _ _ c.args.p e.underway c.requires.used c.requires.unmoved, e.underway.rows, row_long e.forward.now c.args.p c.in-Some.q)

pub invariant_of-self-4 : goal.invariant_of-self-4
invariant_of-self-4 g c =
    let e = c.args.self.now in
    let p = c.args.p in
    let q = c.in-Some.q in
    let low = taken_low e.area.now.ring q e.area.now.counted.fine c.in-Some.ensures in
    record {
      underway =
          subst (λ n. Underway (length e.nursery.now) n (row_queued (row_to e.forward.now p q) e.copied q) c.take.new.self.ring (e.copied + 1)) (sym (length-set e.slots.now q (get_or e.nursery.now p c.index-self-p.result)))
          (copied_under _ _ e.forward.now e.area.now.ring c.take.new.self.ring _ e.copied p q e.underway c.requires.used c.requires.unmoved (omega (arith, low, e.underway.ring_size)) c.in-Some.ensures c.take.ensures.left);
    }

pub unwrap-requires : goal.unwrap-requires
unwrap-requires g c =
    let e = c.args.self.now in
    let low : c.in-Some.q < 16384 = omega (arith, taken_low e.area.now.ring c.in-Some.q e.area.now.counted.fine c.in-Some.ensures, e.underway.ring_size, e.underway.few_slots) in
    search (rules, low)

pub returns : goal.returns
returns g c =
    let e = c.args.self.now in
    let p = c.args.p in
    let q = c.in-Some.q in
    let a = arcs_of e.area.now.ring in
    let left = c.take.ensures.left in
    let there = room _ _ _ _ _ p e.underway c.requires.used c.requires.unmoved in
    let word : c.unwrap.result ≡ slot_word q = search rules in
    record {
      stage = record {
        same_slots = refl;
        same_forward = refl;
        same_area = refl;
        same_nursery = refl;
        moved = copied_more e.forward.now e.copied p q (omega (arith, c.requires.used, e.underway.rows)) c.requires.unmoved;
        slots_long = length-set e.slots.now q (get_or e.nursery.now p c.index-self-p.result);
        forward_long = queue_long e.forward.now p e.copied q;
        ring_size = left.slots_kept;
        beyond = left.beyond;
      };
      state = λ rs ns. copied_state g.T.Kind rs ns e.nursery.now e.slots.now _ e.forward.now e.area.now.ring c.take.new.self.ring e.copied p q c.index-self-p.result c.requires.used (omega (arith, there, e.underway.rows)) c.in-Some.ensures left refl;
      word = λ rs ns. word ∙ copied_word p q a (emptying g.T.Kind rs ns e) c.in-Some.ensures;
    }
