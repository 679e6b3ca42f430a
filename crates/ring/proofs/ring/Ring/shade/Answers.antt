use Rattle.std.proofs.Common.{sym, ◌∙◌}
use Rattle.ring.proofs.Frame.{stays}
use Rattle.ring.proofs.Shade.{shade_not}
use Rattle.ring.proofs.ring.Ring.shade.Goals as goal

pub returns-else-moves-clause-left : goal.returns-else-moves-clause-left
returns-else-moves-clause-left c =
    stays c.args.self.now c.is_white-moves.ensures.sound _ (shade_not c.args.q _ (sym c.is_white-moves.ensures.value ∙ c.if-moves.false))
