use Rattle.std.proofs.Common.{refl}
use Rattle.heap.specs.View.{contents}
use Rattle.heap.proofs.Finishing.{finish_shut}
use Rattle.heap.proofs.heap.Heap.finish_cycle.Goals as goal

pub returns-clause-shut : goal.returns-clause-shut
returns-clause-shut g c = finish_shut g.T.Kind c.args.self.now (contents g.T.Kind c.scan_and_close.new.self) c.scan_and_close.ensures.left
