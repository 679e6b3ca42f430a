use Rattle.std.proofs.Common.{◌≡◌, sym, ap, ◌∙◌, w64, SFits, rules}
use Rattle.rules.specs.Rules.{write}
use Rattle.registers.specs.State.{after, answer}
use Rattle.heap.specs.View.{view}
use Rattle.store.specs.Calls.{call_of}
use Rattle.store.proofs.Answering.{write_passed}
use Rattle.store.proofs.store.Store.call.Goals as goal

pub returns-in-Write-clause-state : goal.returns-in-Write-clause-state
returns-in-Write-clause-state g c =
    let d = c.in-Write.s in
    let k = c.in-Write.k in
    let t = c.in-Write.t in
    let fits_d : SFits w64 d = search rules in
    let fits_k : SFits w64 k = search rules in
    let fits_t : SFits w64 t = search rules in
    let asked : call_of g.T.Kind c.args.call.now ≡ write d k t = ap (call_of g.T.Kind) c.in-Write.is in
    c.write.ensures.state ∙ ap (after g.B.Barrier.answers (view g.T.Kind c.args.self.now.heap)) (write_passed d k t fits_d fits_k fits_t ∙ sym asked)

pub returns-in-Write-clause-answer : goal.returns-in-Write-clause-answer
returns-in-Write-clause-answer g c =
    let s = view g.T.Kind c.args.self.now.heap in
    let d = c.in-Write.s in
    let k = c.in-Write.k in
    let t = c.in-Write.t in
    let fits_d : SFits w64 d = search rules in
    let fits_k : SFits w64 k = search rules in
    let fits_t : SFits w64 t = search rules in
    let asked : call_of g.T.Kind c.args.call.now ≡ write d k t = ap (call_of g.T.Kind) c.in-Write.is in
    let told = c.write.ensures.told ∙ ap (answer g.B.Barrier.answers s) (write_passed d k t fits_d fits_k fits_t ∙ sym asked) in
    search (rules, told)
