use Rattle.std.proofs.Common.{ap, ◌∙◌}
use Rattle.registers.specs.State.{after}
use Rattle.heap.specs.View.{view}
use Rattle.store.proofs.Answering.{write_passed}
use Rattle.store.proofs.store.Store.write.Goals as goal

pub returns-clause-state : goal.returns-clause-state
returns-clause-state g c =
    c.write.ensures.state ∙ ap (after g.B.Barrier.answers (view g.T.Kind c.args.self.now.heap)) (write_passed c.args.s c.args.k c.args.t c.ranges.s c.ranges.k c.ranges.t)
