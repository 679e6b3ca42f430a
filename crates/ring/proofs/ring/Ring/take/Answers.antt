use Rattle.ring.proofs.Frame.{stays}
use Rattle.ring.proofs.Steps.{take_not}
use Rattle.ring.proofs.ring.Ring.take.Goals as goal

pub returns-in_err-h-clause-left : goal.returns-in_err-h-clause-left
returns-in_err-h-clause-left c = stays c.args.self.now c.in_err-h.ensures.sound _ (take_not _ c.in_err-h.ensures.taken)
