use Rattle.ring.proofs.Frame.{stays}
use Rattle.ring.proofs.Scan.{scan_not}
use Rattle.ring.proofs.ring.Ring.scan.Goals as goal

pub returns-in_err-x-clause-left : goal.returns-in_err-x-clause-left
returns-in_err-x-clause-left c = stays c.args.self.now c.in_err-x.ensures.sound _ (scan_not _ c.in_err-x.ensures.value)
