-- The list is exact: each of its refusals comes in some run, and no other in any.
use Rattle.rules.proofs.Answered.{refusals_exact}
use Rattle.rules.proofs.Statements.{notes_never_run_out}
use Rattle.rules.proofs.refusal.may_refuse.Goals as goal

pub returns-clause-exact : goal.returns-clause-exact
returns-clause-exact c = refusals_exact c.args.number c.is_listed.result c.is_listed.ensures

pub returns-clause-notes : goal.returns-clause-notes
returns-clause-notes c = notes_never_run_out
