-- By the main promise the figure suffices.
use Rattle.std.proofs.Common.{◌≡◌, arith}
use Rattle.std.proofs.lemmas.Grind.{common_steps}
use Rattle.rules.specs.Planning.{slots_needed}
use Rattle.rules.proofs.Statements.{room_suffices}
use Rattle.rules.proofs.planning.slots_needed.Goals as goal

pub returns-clause-suffices : goal.returns-clause-suffices
returns-clause-suffices c =
    let value : c.with_nurseries.result ≡ slots_needed c.args.l c.args.y c.args.k = grind (arith, common_steps) in
    room_suffices c.args.l c.args.y c.args.k c.with_nurseries.result value
