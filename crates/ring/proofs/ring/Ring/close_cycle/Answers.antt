use Rattle.std.proofs.Common.{◌≡◌, false, ◌⊎◌, sym, ◌∙◌, subst, inl, inr}
use Rattle.std.proofs.lemmas.Bool.{not-true, not-false}
use Rattle.ring.specs.Calls.{is_none, closed_arcs}
use Rattle.ring.specs.Inside.{tables}
use Rattle.ring.specs.View.{arcs_of, is_open_of, Leaves}
use Rattle.ring.proofs.Frame.{stays}
use Rattle.ring.proofs.Turn.{close_not}
use Rattle.ring.proofs.ring.Ring.close_cycle.Goals.{then-self, else-self}
use Rattle.ring.proofs.ring.Ring.close_cycle.Goals as goal

pub returns-else-closes-clause-left : goal.returns-else-closes-clause-left
returns-else-closes-clause-left c =
    let t = tables c.self.inside in
    let o = is_open_of t in
    let a = arcs_of t in
    let why : (o ≡ false) ⊎ (is_none a.grey ≡ false) = elim c.if-self.branch [
      | then-self w ↦ inr (not-true (is_none a.grey) (sym (rw (← c.self.view_is) at w.has_grey.ensures) ∙ not-false w.has_grey.result (sym w.closes-is ∙ c.if-closes.false)))
      | else-self w ↦ inl w.if-self.false
    ] in
    let n = close_not o a why in
    rw (← c.self.view_is) (subst (Leaves t t (closed_arcs o a)) n.2 (stays t c.self.invariant _ n.1))
