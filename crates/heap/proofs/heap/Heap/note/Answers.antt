use Rattle.std.proofs.Common.{ap, arith}
use Rattle.rules.specs.Rules.{with_notes}
use Rattle.heap.specs.View.{contents}
use Rattle.heap.proofs.Remembering.{rows_noted, noted_more, rows_rest}
use Rattle.heap.proofs.heap.Heap.note.Goals as goal

pub invariant_of-self-2 : goal.invariant_of-self-2
invariant_of-self-2 g c =
    let h = c.args.self.now in
    let k = h.kept in
    let q = c.args.q in
    let n = h.noted in
    let rest = rows_rest h.limits.slots n q h.notes.now c.requires.room c.requires.within in
    record {
      kept = record {
        registers_long = k.registers_long;
        nursery_long = k.nursery_long;
        slots_long = k.slots_long;
        forward_long = k.forward_long;
        notes_long = omega (arith, rest.size, k.notes_long);
        fine = k.fine;
        ring_size = k.ring_size;
        used_low = k.used_low;
        noted_low = omega (arith, c.requires.room);
        remembered = rows_noted h.limits.slots n q h.notes.now k.remembered (omega (arith, c.requires.room, k.notes_long)) (omega (arith, c.requires.within, k.notes_long)) c.requires.within c.requires.fresh;
        few_slots = k.few_slots;
        few_places = k.few_places;
        room = k.room;
      };
    }

pub returns-clause-left : goal.returns-clause-left
returns-clause-left g c =
    let h = c.args.self.now in
    ap (λ ms. with_notes ms (contents g.T.Kind h))
    (noted_more h.noted c.args.q h.notes.now (omega (arith, c.requires.room, h.kept.notes_long)) (omega (arith, c.requires.within, h.kept.notes_long)))
