use Rattle.std.proofs.Common.{arith}
use Rattle.heap.proofs.Remembering.{noted_then, noted_else}
use Rattle.heap.proofs.heap.Heap.is_noted.Goals as goal

pub returns-then-i-self : goal.returns-then-i-self
returns-then-i-self g c =
    let h = c.args.self.now in
    noted_then c.args.q h.limits.slots h.noted h.notes.now h.kept.remembered (omega (arith, h.kept.noted_low, h.kept.notes_long)) c.if-i-self.true

pub returns-else-i-self : goal.returns-else-i-self
returns-else-i-self g c =
    let h = c.args.self.now in
    noted_else c.args.q h.limits.slots h.noted h.notes.now h.kept.remembered (omega (arith, h.kept.noted_low, h.kept.notes_long)) c.if-i-self.false
