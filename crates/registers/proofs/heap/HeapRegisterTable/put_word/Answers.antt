use Rattle.std.proofs.Math.Seq.{take-set-lt}
use Rattle.registers.proofs.heap.HeapRegisterTable.put_word.Goals as goal

pub returns-clause-state : goal.returns-clause-state
returns-clause-state g c =
    rw (take-set-lt c.args.self.now.limits.registers c.args.self.now.registers.now c.args.i c.args.w c.requires.low)
