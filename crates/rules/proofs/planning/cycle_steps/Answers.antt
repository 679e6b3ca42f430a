-- One division gives the figure, and by the main promise a cycle closes within it.
use Rattle.std.proofs.Common.{◌≡◌, arith}
use Rattle.std.proofs.lemmas.Grind.{common_steps}
use Rattle.rules.specs.Planning.{cycle_steps_of}
use Rattle.rules.proofs.Figures.{div_ceil_is_divide_up}
use Rattle.rules.proofs.Statements.{closes_within, reachable_records_are_counted}
use Rattle.rules.proofs.planning.cycle_steps.Goals as goal

pub returns : goal.returns
returns c =
    let value : c.then.result ≡ cycle_steps_of c.args.n c.args.k = grind (arith, common_steps, div_ceil_is_divide_up) in
    record { value = value; closes = closes_within c.args.n c.args.k c.then.result value; counted = reachable_records_are_counted }
