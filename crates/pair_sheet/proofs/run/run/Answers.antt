use Rattle.pair_sheet.proofs.Promised.{sheet_promise}
use Rattle.pair_sheet.proofs.run.run.Goals as goal

pub returns-clause-promise : goal.returns-clause-promise
returns-clause-promise c = sheet_promise c.args.input.now
