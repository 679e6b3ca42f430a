use Rattle.std.proofs.Common.{◌≡◌, Some, sym, ◌∙◌, subst, arith}
use Rattle.ring.specs.declared.arcs.Colour.TheVariants.{Free}
use Rattle.ring.specs.Inside.{tables}
use Rattle.ring.specs.Laws.{OneArc}
use Rattle.ring.specs.Sound.{Tables, code, arcs}
use Rattle.ring.specs.View.{arcs_of, slots_of}
use Rattle.ring.proofs.Bounds.{head_in}
use Rattle.ring.proofs.Colours.{colour_tested}
use Rattle.ring.proofs.Steps.{head_by, head_none, taken_first}
use Rattle.ring.proofs.ring.Ring.first_free.Goals as goal

pub returns-in_err-colour : goal.returns-in_err-colour
unfolding arcs_of
returns-in_err-colour c =
    let t = tables c.self.inside in
    let told = rw (← c.self.view_is) at c.in_err-colour.ensures in
    let none : t.slots ≡ 0 = grind (arith, told.one.0, head_in t c.self.invariant) in
    let e = c.from_residual.ensures ∙ sym (head_none t c.self.invariant none) in
    rw (← c.self.view_is) (record { sound = c.self.invariant; value = e; taken = e ∙ sym (taken_first (arcs t)) })

pub returns : goal.returns
unfolding arcs_of code
returns c =
    let t = tables c.self.inside in
    let k = c.in_ok-colour.field-0 in
    let one = subst (λ (r : Tables). OneArc (slots_of r) t.head (arcs_of r) (Some k)) (sym c.self.view_is) c.in_ok-colour.ensures.one in
    let r = colour_tested t c.self.invariant t.head k Free c.eq.result (rw (← c.self.view_is) at c.in_ok-colour.ensures.value) one c.eq.ensures in
    let e = c.then_some.ensures ∙ head_by t c.self.invariant (omega (arith, r.0)) c.eq.result r.1 in
    rw (← c.self.view_is) (record { sound = c.self.invariant; value = e; taken = e ∙ sym (taken_first (arcs t)) })
