use Rattle.std.proofs.Common.{◌≡◌, Err, sym, ap, ◌∙◌, w64, SFits, rules}
use Rattle.rules.specs.Rules.{write, refused}
use Rattle.kinds.specs.Faults.{store_refusal}
use Rattle.registers.specs.Answers.{told_done}
use Rattle.registers.specs.State.{after, answer}
use Rattle.answering.specs.declared.fault.SheetFault.TheVariants.{Store}
use Rattle.answering.specs.Runs.{row_of_result}
use Rattle.answering.specs.Sheets.{running, reply_of, row_of_reply, state_after_order, reply_to_order}
use Rattle.pair_sheet.specs.Pairs.{held}
use Rattle.pair_sheet.specs.Sheets.{order, rules as pair_rules}
use Rattle.pair_sheet.proofs.Called.{refusal_row, write_passed}
use Rattle.pair_sheet.proofs.calls.StorePairSheetStorePairSheet.perform.Goals as goal

pub returns-in_err-write-in-Write-clause-state : goal.returns-in_err-write-in-Write-clause-state
returns-in_err-write-in-Write-clause-state g c =
    let q = c.args.request in
    let b = g.B.Barrier.answers in
    let s = held c.args.self.now.heap in
    let fa : SFits w64 q.a = search rules in
    let fb : SFits w64 q.b = search rules in
    let fc : SFits w64 q.c = search rules in
    let left : running b (held c.write.new.self.heap) ≡ running b (after b s (write q.a q.b q.c)) = ap (running b) (c.write.ensures.state ∙ ap (after b s) (write_passed q.a q.b q.c fa fb fc)) in
    left ∙ sym (ap (λ w. state_after_order pair_rules (running b s) (order w q.a q.b q.c)) c.in-Write.is)

pub returns-in_err-write-in-Write-clause-reply : goal.returns-in_err-write-in-Write-clause-reply
returns-in_err-write-in-Write-clause-reply g c n =
    let q = c.args.request in
    let b = g.B.Barrier.answers in
    let s = held c.args.self.now.heap in
    let e = c.in_err-write-in-Write.field-0.0 in
    let fa : SFits w64 q.a = search rules in
    let fb : SFits w64 q.b = search rules in
    let fc : SFits w64 q.c = search rules in
    let told : refused (store_refusal e) ≡ answer b s (write q.a q.b q.c) = ap told_done (sym c.in_err-write-in-Write.was) ∙ c.write.ensures.told ∙ ap (answer b s) (write_passed q.a q.b q.c fa fb fc) in
    let value : c.from_residual-in_err-write-in-Write.result ≡ Err (Store e) = search rules in
    ap (row_of_result n) value ∙ refusal_row e n ∙ ap (λ a. row_of_reply n (reply_of a)) told ∙ sym (ap (λ w. row_of_reply n (reply_to_order pair_rules (running b s) (order w q.a q.b q.c))) c.in-Write.is)
