use Rattle.std.proofs.Common.{refl, ◌∙◌}
use Rattle.kinds.specs.declared.fault.StoreFault.TheVariants.{NoSuchRegister}
use Rattle.rules.specs.Rules.{write, do_write, index}
use Rattle.heap.specs.View.{view}
use Rattle.heap.proofs.Accepted.{index_tells, open_after, open_answer}
use Rattle.heap.proofs.Collections.{write_run, written_is}
use Rattle.heap.proofs.Refusing.{register_taken, link_taken}
use Rattle.heap.proofs.heap.Heap.write.Goals as goal

pub returns-clause-state : goal.returns-clause-state
returns-clause-state g c =
    let h = c.args.self.now in
    let s = view g.T.Kind h in
    let b = g.B.Barrier.answers in
    let call = write c.args.s c.args.k c.args.t in
    let at = c.in_ok-at.at in
    let n = c.in_ok-at.n in
    let w = c.word_in-w.result in
    let (now_open, is) = register_taken h.status h.limits.registers c.args.t c.in_ok-i.i c.ranges.t c.in_ok-i.ensures in
    let (t_in, (t_is, t_low)) = index_tells NoSuchRegister h.limits.registers c.args.t c.in_ok-i.i c.ranges.t is in
    let l = link_taken s.sizes s.store c.args.s c.args.k at n c.ranges.s c.ranges.k c.in_ok-at.ensures.place in
    let run = write_run s.sizes b s.store c.args.s c.args.k c.args.t (index c.args.s) _ l.register_in t_in l.link_in refl l.found ∙ written_is s.sizes b s.store c.args.k c.args.t n c.in_ok-i.i w at l.index_is t_is c.word_in-w.ensures in
    c.write_at.ensures.state ∙ open_after b s call (do_write s.sizes b s.store n w at).0 (do_write s.sizes b s.store n w at).1 now_open run

pub returns-clause-told : goal.returns-clause-told
returns-clause-told g c =
    let h = c.args.self.now in
    let s = view g.T.Kind h in
    let b = g.B.Barrier.answers in
    let call = write c.args.s c.args.k c.args.t in
    let at = c.in_ok-at.at in
    let n = c.in_ok-at.n in
    let w = c.word_in-w.result in
    let (now_open, is) = register_taken h.status h.limits.registers c.args.t c.in_ok-i.i c.ranges.t c.in_ok-i.ensures in
    let (t_in, (t_is, t_low)) = index_tells NoSuchRegister h.limits.registers c.args.t c.in_ok-i.i c.ranges.t is in
    let l = link_taken s.sizes s.store c.args.s c.args.k at n c.ranges.s c.ranges.k c.in_ok-at.ensures.place in
    let run = write_run s.sizes b s.store c.args.s c.args.k c.args.t (index c.args.s) _ l.register_in t_in l.link_in refl l.found ∙ written_is s.sizes b s.store c.args.k c.args.t n c.in_ok-i.i w at l.index_is t_is c.word_in-w.ensures in
    c.write_at.ensures.told ∙ open_answer b s call (do_write s.sizes b s.store n w at).0 (do_write s.sizes b s.store n w at).1 now_open run
