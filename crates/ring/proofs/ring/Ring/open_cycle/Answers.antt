use Rattle.std.proofs.Common.{sym, subst}
use Rattle.std.proofs.lemmas.Bool.{cond-true}
use Rattle.ring.specs.Arcs.{open_arcs}
use Rattle.ring.specs.Calls.{opened_arcs}
use Rattle.ring.specs.Inside.{tables}
use Rattle.ring.specs.View.{arcs_of, is_open_of, Leaves}
use Rattle.ring.proofs.Frame.{stays}
use Rattle.ring.proofs.ring.Ring.open_cycle.Goals as goal

pub returns-else-opens-clause-left : goal.returns-else-opens-clause-left
returns-else-opens-clause-left c =
    let t = tables c.self.inside in
    let a = arcs_of t in
    let o = is_open_of t in
    rw (← c.self.view_is) (subst (Leaves t t (opened_arcs o a)) c.if-opens.false (stays t c.self.invariant _ (sym (cond-true o a (open_arcs a) c.if-opens.false))))
