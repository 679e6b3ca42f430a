use Rattle.std.proofs.Common.{◌≡◌, is_some, Some, sym, ap, ◌∙◌, subst, inl, arith}
use Rattle.ring.specs.declared.arcs.Colour.TheVariants.{Grey}
use Rattle.ring.specs.Inside.{tables}
use Rattle.ring.specs.Laws.{OneArc}
use Rattle.ring.specs.Sound.{Tables, code, arcs}
use Rattle.ring.specs.View.{arcs_of, slots_of}
use Rattle.ring.proofs.Bounds.{in_prev, black_in, links_in}
use Rattle.ring.proofs.Colours.{colour_tested}
use Rattle.ring.proofs.Scan.{last_grey_by, last_grey_none, scanned_some}
use Rattle.ring.proofs.ring.Ring.last_grey.Goals as goal

pub returns-in_err-x : goal.returns-in_err-x
unfolding arcs_of
returns-in_err-x c =
    let t = tables c.self.inside in
    let s = c.self.invariant in
    let none : t.slots ≡ 0 = grind (arith, c.in_err-x.ensures.lookup.3, black_in t s, in_prev t s t.black) in
    let e = c.from_residual.ensures ∙ last_grey_none t s (inl none) in
    rw (← c.self.view_is) (record { sound = s; value = e; some = ap is_some e ∙ scanned_some (arcs t) })

pub returns-in_err-colour : goal.returns-in_err-colour
unfolding arcs_of
returns-in_err-colour c =
    let t = tables c.self.inside in
    let s = c.self.invariant in
    let told = rw (← c.self.view_is) at c.in_err-colour.ensures in
    let none : t.slots ≡ 0 = grind (arith, told.one.0, c.in_ok-x.ensures.lookup.4 (omega arith) 0, black_in t s, links_in t s t.black) in
    let e = c.from_residual-in_err-colour.ensures ∙ last_grey_none t s (inl none) in
    rw (← c.self.view_is) (record { sound = s; value = e; some = ap is_some e ∙ scanned_some (arcs t) })

pub returns : goal.returns
unfolding arcs_of code
returns c =
    let t = tables c.self.inside in
    let x = c.in_ok-x.field-0.now in
    let k = c.in_ok-colour.field-0 in
    let one = subst (λ (r : Tables). OneArc (slots_of r) x (arcs_of r) (Some k)) (sym c.self.view_is) c.in_ok-colour.ensures.one in
    let r = colour_tested t c.self.invariant x k Grey c.eq.result (rw (← c.self.view_is) at c.in_ok-colour.ensures.value) one c.eq.ensures in
    let here = c.in_ok-x.ensures.lookup.4 (omega arith) 0 in
    let e = c.then_some.ensures ∙ rw here (last_grey_by t c.self.invariant (omega (arith, r.0)) c.eq.result (rw here at r.1)) in
    rw (← c.self.view_is) (record { sound = c.self.invariant; value = e; some = ap is_some e ∙ scanned_some (arcs t) })
