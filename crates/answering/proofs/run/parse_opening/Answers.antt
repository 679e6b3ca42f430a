use Rattle.std.proofs.Common.{◌≡◌, Ok, rules}
use Rattle.answering.specs.Runs.{barrier_of}
use Rattle.answering.specs.Sheets.{opening, sizes_asked}
use Rattle.answering.proofs.Runs.{opening_reply}
use Rattle.answering.proofs.run.parse_opening.Goals as goal

pub returns-clause-reply : goal.returns-clause-reply
returns-clause-reply g c =
    let q = c.in_ok-request.request in
    let b = barrier_of c.in_ok-barrier.barrier in
    let z = sizes_asked q.a q.b q.c in
    let law = g.met.T.Sheet.asked c.args.text.now in
    let asked : g.T.Sheet.rules.asked c.args.text.now ≡ Ok (opening b z) = search rules in
    let reply = opening_reply g.T.Sheet.rules c.args.text.now b z asked in
    search rules
