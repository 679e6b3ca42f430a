use Rattle.std.proofs.Common.{refl}
use Rattle.kinds.specs.declared.fault.StoreFault.TheVariants.{NoSuchRegister}
use Rattle.rules.specs.Rules.{read, index}
use Rattle.heap.specs.View.{view}
use Rattle.heap.proofs.Accepted.{index_tells, read_run}
use Rattle.heap.proofs.Refusing.{register_taken, link_refuses}
use Rattle.heap.proofs.heap.Heap.read.Goals as goal

pub returns-in_err-at-clause-state : goal.returns-in_err-at-clause-state
returns-in_err-at-clause-state g c =
    let h = c.args.self.now in
    let s = view g.T.Kind h in
    let (now_open, is) = register_taken h.status h.limits.registers c.args.d c.in_ok-i.i c.ranges.d c.in_ok-i.ensures in
    let (d_in, (d_is, d_low)) = index_tells NoSuchRegister h.limits.registers c.args.d c.in_ok-i.i c.ranges.d is in
    (link_refuses g.B.Barrier.answers s (read c.args.d c.args.s c.args.k) c.args.s c.args.k _ c.ranges.s c.ranges.k now_open c.in_err-at.ensures.place (λ out. rw (d_in, out)) (λ ins out. rw (d_in, ins, out)) (λ ins k_in none. read_run s.sizes g.B.Barrier.answers s.store c.args.d c.args.s c.args.k (index c.args.s) _ d_in ins k_in refl none)).state
