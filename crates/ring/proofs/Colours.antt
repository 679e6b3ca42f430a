-- In which arc a slot stands, by its colour.
use denote.Enum.Bare.{sameb, same_true, same_false}
use Rattle.std.proofs.Common.{◌≡◌, ℕ, ◌<◌, ◌≤◌, Bool, true, false, eqb, get_or, Some, None, sym, refl, ap, ◌∙◌, subst, ⊎_elim, arith, rules}
use Rattle.std.proofs.lemmas.Bool.{cases_lt, eq-eqb, ne_eqb}
use Rattle.ring.specs.contracts.arcs.Colour.{the_type}
use Rattle.ring.specs.declared.arcs.Colour.{Colour}
use Rattle.ring.specs.declared.arcs.Colour.TheVariants.{Free, White, Grey, Black}
use Rattle.ring.specs.Arcs.{Arcs, has, ring_of}
use Rattle.ring.specs.Calls.{colour_in}
use Rattle.ring.specs.Laws.{Stands, OneArc}
use Rattle.ring.specs.Sound.{Tables, stamp_colour, code, stamp_code, code_at, count, Coloured, arcs, Holds}
use Rattle.ring.specs.View.{Fine}
use Rattle.ring.proofs.Chain.{count_has, count_hasnt}
use Rattle.ring.proofs.Held.{held}
use Rattle.ring.proofs.Steps.{inside, there, tally}

-- ---- the colour with a number

from_code_0 : (c : Colour) → code c ≡ 0 → c ≡ Free
unfolding code
from_code_0 Free e = refl
from_code_0 White e = absurd (omega arith)
from_code_0 Grey e = absurd (omega arith)
from_code_0 Black e = absurd (omega arith)

from_code_1 : (c : Colour) → code c ≡ 1 → c ≡ White
unfolding code
from_code_1 Free e = absurd (omega arith)
from_code_1 White e = refl
from_code_1 Grey e = absurd (omega arith)
from_code_1 Black e = absurd (omega arith)

from_code_2 : (c : Colour) → code c ≡ 2 → c ≡ Grey
unfolding code
from_code_2 Free e = absurd (omega arith)
from_code_2 White e = absurd (omega arith)
from_code_2 Grey e = refl
from_code_2 Black e = absurd (omega arith)

from_code_3 : (c : Colour) → code c ≡ 3 → c ≡ Black
unfolding code
from_code_3 Free e = absurd (omega arith)
from_code_3 White e = absurd (omega arith)
from_code_3 Grey e = absurd (omega arith)
from_code_3 Black e = refl

same_code : (a b : Colour) → code a ≡ code b → a ≡ b
unfolding code
same_code a Free e = from_code_0 a e
same_code a White e = from_code_1 a e
same_code a Grey e = from_code_2 a e
same_code a Black e = from_code_3 a e

-- A test of two colours compares their numbers.
equal_codes : (r : Bool) (a b : Colour) → r ≡ sameb the_type a b → r ≡ eqb (code a) (code b)
equal_codes true a b e = sym (eq-eqb (code a) (code b) (ap code (same_true the_type (search rules) a b (sym e))))
equal_codes false a b e = sym (ne_eqb (code a) (code b) (λ n. same_false the_type a b (sym e) (same_code a b n)))

-- ---- a slot stands in the arc of its colour

-- A slot with a colour stands in the arc of that colour alone.
abbrev pub Placed : ℕ → Arcs → Colour → Type 0
Placed q a Free = Stands q a true false false false
Placed q a White = Stands q a false true false false
Placed q a Grey = Stands q a false false true false
Placed q a Black = Stands q a false false false true

standing : (q : ℕ) (a : Arcs) (f w g b : Bool) → has q a.free ≡ f → has q a.white ≡ w → has q a.grey ≡ g → has q a.black ≡ b → Stands q a f w g b
standing q a f w g b ef ew eg eb = record { in_free = ef; in_white = ew; in_grey = eg; in_black = eb }

module _ (t : Tables) (a : Arcs) (h : Holds t a) (q : ℕ) where
  slot_placed : q < t.slots → Placed q a (stamp_colour t.cycle t.epoch (get_or t.stamp q 0))
  unfolding Coloured code_at stamp_code
  slot_placed l =
      let c = stamp_colour t.cycle t.epoch (get_or t.stamp q 0) in
      let one = there t a h q l in
      let sum = tally t a h q in
      ⊎_elim (λ i. subst (Placed q a) (sym (from_code_0 c (h.frees q i))) (standing q a true false false false (count_has q a.free i) (count_hasnt q a.white (omega arith)) (count_hasnt q a.grey (omega arith)) (count_hasnt q a.black (omega arith))))
      (λ z₀. ⊎_elim (λ i. subst (Placed q a) (sym (from_code_1 c (h.whites q i))) (standing q a false true false false (count_hasnt q a.free (omega arith)) (count_has q a.white i) (count_hasnt q a.grey (omega arith)) (count_hasnt q a.black (omega arith))))
      (λ z₁. ⊎_elim (λ i. subst (Placed q a) (sym (from_code_2 c (h.greys q i))) (standing q a false false true false (count_hasnt q a.free (omega arith)) (count_hasnt q a.white (omega arith)) (count_has q a.grey i) (count_hasnt q a.black (omega arith))))
      (λ z₂.
      let i : 0 < count q a.black = omega arith in
      subst (Placed q a) (sym (from_code_3 c (h.blacks q i))) (standing q a false false false true (count_hasnt q a.free (omega arith)) (count_hasnt q a.white (omega arith)) (count_hasnt q a.grey (omega arith)) (count_has q a.black i)))
      (cases_lt 0 (count q a.grey)))
      (cases_lt 0 (count q a.white)))
      (cases_lt 0 (count q a.free))

  nowhere : t.slots ≤ q → Stands q a false false false false
  nowhere l =
      let z : count q (ring_of a) ≡ 0 = ⊎_elim (λ i. absurd (omega (arith, inside t a h q i))) (λ i. omega arith) (cases_lt 0 (count q (ring_of a))) in
      let sum = tally t a h q in
      standing q a false false false false (count_hasnt q a.free (omega arith)) (count_hasnt q a.white (omega arith)) (count_hasnt q a.grey (omega arith)) (count_hasnt q a.black (omega arith))

-- ---- the colour that the arcs say

colour_placed : (q : ℕ) (a : Arcs) (c : Colour) → Placed q a c → Some c ≡ colour_in q a
colour_placed q a Free p = rw p.in_free
colour_placed q a White p = rw (p.in_free, p.in_white)
colour_placed q a Grey p = rw (p.in_free, p.in_white, p.in_grey)
colour_placed q a Black p = rw (p.in_free, p.in_white, p.in_grey, p.in_black)

one_arc : (n q : ℕ) (a : Arcs) (c : Colour) → q < n → Placed q a c → OneArc n q a (Some c)
one_arc n q a Free l p = (l, p)
one_arc n q a White l p = (l, p)
one_arc n q a Grey l p = (l, p)
one_arc n q a Black l p = (l, p)

-- A colour that the stamp of a slot means.
pub colour_some : (t : Tables) → Fine t → (q : ℕ) → q < t.slots → (c : Colour) → c ≡ stamp_colour t.cycle t.epoch (get_or t.stamp q 0) → (Some c ≡ colour_in q (arcs t)) × OneArc t.slots q (arcs t) (Some c)
colour_some t s q l c e =
    let p : Placed q (arcs t) c = subst (Placed q (arcs t)) (sym e) (slot_placed t (arcs t) (held t s) q l) in
    (colour_placed q (arcs t) c p, one_arc t.slots q (arcs t) c l p)

pub colour_none : (t : Tables) → Fine t → (q : ℕ) → t.slots ≤ q → (None ≡ colour_in q (arcs t)) × OneArc t.slots q (arcs t) None
colour_none t s q l =
    let p = nowhere t (arcs t) (held t s) q l in
    ((rw (p.in_free, p.in_white, p.in_grey, p.in_black)), (l, p))

-- A number with a colour is a slot.
coloured_in : (n q : ℕ) (a : Arcs) (c : Colour) → OneArc n q a (Some c) → q < n
coloured_in n q a Free o = o.0
coloured_in n q a White o = o.0
coloured_in n q a Grey o = o.0
coloured_in n q a Black o = o.0

-- A test of a slot's colour tests the code of its stamp.
pub colour_tested : (t : Tables) → Fine t → (q : ℕ) (c d : Colour) (b : Bool) → Some c ≡ colour_in q (arcs t) → OneArc t.slots q (arcs t) (Some c) → b ≡ sameb the_type c d → (q < t.slots) × (b ≡ eqb (code_at t.cycle t.epoch t.stamp q) (code d))
unfolding code_at stamp_code
colour_tested t s q c d b e o y =
    let l = coloured_in t.slots q (arcs t) c o in
    let stamped = stamp_colour t.cycle t.epoch (get_or t.stamp q 0) in
    let same : Some c ≡ Some stamped = e ∙ sym (colour_some t s q l stamped refl).0 in
    (l, equal_codes b c d y ∙ ap (λ z. eqb (code z) (code d)) (let k : c ≡ stamped = cc in k))
