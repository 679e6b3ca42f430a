use Rattle.lines.proofs.Spelled.{taken_as_spelled}
use Rattle.lines.proofs.request.parse_line.Goals as goal

pub returns-then-not-is_good_line-clause-spelled : goal.returns-then-not-is_good_line-clause-spelled
returns-then-not-is_good_line-clause-spelled g c = taken_as_spelled g.C.CommandSet.commands g.met.C.CommandSet.texts

pub returns-in_err-command-clause-spelled : goal.returns-in_err-command-clause-spelled
returns-in_err-command-clause-spelled g c = taken_as_spelled g.C.CommandSet.commands g.met.C.CommandSet.texts

pub returns-in_err-a-clause-spelled : goal.returns-in_err-a-clause-spelled
returns-in_err-a-clause-spelled g c = taken_as_spelled g.C.CommandSet.commands g.met.C.CommandSet.texts

pub returns-in_err-b-clause-spelled : goal.returns-in_err-b-clause-spelled
returns-in_err-b-clause-spelled g c = taken_as_spelled g.C.CommandSet.commands g.met.C.CommandSet.texts

pub returns-in_err-c-clause-spelled : goal.returns-in_err-c-clause-spelled
returns-in_err-c-clause-spelled g c = taken_as_spelled g.C.CommandSet.commands g.met.C.CommandSet.texts

pub returns-clause-spelled : goal.returns-clause-spelled
returns-clause-spelled g c = taken_as_spelled g.C.CommandSet.commands g.met.C.CommandSet.texts
