use Rattle.std.proofs.Common.{◌≡◌, length, ◌++◌, vec_items, ap, ◌∙◌}
use Rattle.registers.specs.State.{State}
use Rattle.lines.specs.Lines.{lines}
use Rattle.answering.specs.Runs.{written_after}
use Rattle.answering.specs.Sheets.{state_opened, reply_opened}
use Rattle.answering.proofs.Runs.{answered_same}
use Rattle.pair_sheet.specs.Pairs.{held, pairs_opened}
use Rattle.pair_sheet.specs.Sheets.{rules}
use Rattle.pair_sheet.proofs.Pairs.{opened_is}
use Rattle.pair_sheet.proofs.run.PairSheetNewStore.run_on_new.Goals as goal

pub returns : goal.returns
returns g c =
    let z = c.args.sizes in
    let s = c.args.session.now in
    let v = held c.open-store.result.heap in
    let l = c.lend.ensures in
    let n = c.new-memory.ensures in
    let o : v ≡ pairs_opened z =
    c.open-store.ensures.state
    ∙ opened_is z c.lend.result (ap length (l.nursery ∙ n.nursery)) (l.slots ∙ n.slots) (ap length (l.registers ∙ n.registers)) (ap length (l.forward ∙ n.forward)) (ap length (l.notes ∙ n.notes)) (ap length (l.next ∙ n.next)) (ap length (l.previous ∙ n.previous)) (ap length (l.stamp ∙ n.stamp)) in
    let after = λ (x : State). vec_items s.out ++ written_after rules (reply_opened x) (state_opened g.B.Barrier.answers x) s.number (lines s.rest.now) in
    answered_same rules c.run_new.result (after v) (after (pairs_opened z)) s c.run_new.new.session (ap after o) c.run_new.ensures
