-- Opening: the limits and the status of a heap over lent tables, and what it then holds.
use Rattle.std.proofs.Common.{◌≡◌, ℕ, ◌≤◌, Bool, true, false, cond, ◌&&◌, leb, ℤ, pos, negsuc, Ok, Err, Result, sym, refl, ap, ◌∙◌, subst, arith}
use Rattle.std.proofs.lemmas.Bool.{and_parts}
use Rattle.std.proofs.lemmas.Bool.Decides.{nat_tests}
use Rattle.kinds.specs.declared.fault.StoreFault.{StoreFault}
use Rattle.kinds.specs.declared.fault.StoreFault.TheVariants.{SizeOutOfRange, TableShort}
use Rattle.kinds.specs.declared.kind.Kind.{Ghosts}
use Rattle.registers.specs.declared.sizes.Sizes.{Sizes}
use Rattle.registers.specs.declared.sizes.Limits.{Limits}
use Rattle.registers.specs.Answers.{told_why}
use Rattle.registers.specs.Opening.{from_one_to, natural, sizes_in_range, limits_asked}
use Rattle.registers.specs.State.{sizes_in}
use Rattle.registers.proofs.Opens.{limits_in, status_of}
use Rattle.heap.specs.declared.heap.tables.Tables.{Tables}
use Rattle.heap.specs.Opening.{tables_long, long_for, limits_over}
use Rattle.heap.specs.State.{opened, state_over}

-- each size is at most its greatest value
one_to_low : (n : ℕ) (v : ℤ) → from_one_to n v ≡ true → natural v ≤ n
one_to_low n (pos v) h = let low = (and_parts (leb 1 v) (leb v n) h).1 in grind (arith, nat_tests)
one_to_low n (negsuc v) h = absurd (let z : ◌≡◌ {A = ℕ} 0 1 = cc in omega arith)

asked_low : (z : Sizes) → sizes_in_range z ≡ true → (natural z.slots ≤ 16384) × (natural z.places ≤ 1024)
asked_low z ins =
    let (slots, rest) = and_parts (from_one_to 16384 z.slots) (from_one_to 1024 z.places && (from_one_to 64 z.registers && from_one_to 16384 z.scans)) ins in
    let places = (and_parts (from_one_to 1024 z.places) (from_one_to 64 z.registers && from_one_to 16384 z.scans) rest).0 in
    (one_to_low 16384 z.slots slots, one_to_low 1024 z.places places)

-- the tables are long enough for the limits, and over them is what opening leaves
pub record Opens {X : Type 0} (g : Ghosts X) (z : Sizes) (t : Tables X) (l : Limits) (s : Result (Unit {0}) StoreFault) : Type 0 where
  pub long : tables_long l.slots l.places l.registers t ≡ true
  pub slots : l.slots ≤ 16384
  pub places : l.places ≤ 1024
  pub state : state_over g (told_why s) (sizes_in g.count l) t ≡ opened g z t

-- the limits, by the test of the sizes and that of the tables
abbrev limits_by : Sizes → Bool → Bool → Result Limits StoreFault
limits_by z a b = cond a (cond b (Ok (limits_asked z)) (Err TableShort)) (Err SizeOutOfRange)

zero_low : (n : ℕ) → leb 0 n ≡ true
zero_low n = grind (arith, nat_tests)

none_long : {X : Type 0} (t : Tables X) → tables_long 0 0 0 t ≡ true
none_long t = simp zero_low

opens_by : {X : Type 0} (g : Ghosts X) (z : Sizes) (t : Tables X) (a b : Bool) → sizes_in_range z ≡ a → long_for z t ≡ b → Opens g z t (limits_in (limits_by z a b)) (status_of (limits_by z a b))
opens_by g z t true true e f = let low = asked_low z e in record { long = f; slots = low.0; places = low.1; state = rw (e, f) }
opens_by g z t true false e f = record { long = none_long t; slots = omega arith; places = omega arith; state = rw (e, f) }
opens_by g z t false b e f = record { long = none_long t; slots = omega arith; places = omega arith; state = rw e }

pub opens : {X : Type 0} (g : Ghosts X) (z : Sizes) (t : Tables X) (r : Result Limits StoreFault) (l : Limits) (s : Result (Unit {0}) StoreFault) → r ≡ limits_over z t → l ≡ limits_in r → s ≡ status_of r → Opens g z t l s
opens g z t r l s r_is l_is s_is =
    let by = opens_by g z t (sizes_in_range z) (long_for z t) refl refl in
    subst (λ x. Opens g z t x s) (sym (l_is ∙ ap limits_in r_is)) (subst (Opens g z t (limits_in (limits_over z t))) (sym (s_is ∙ ap status_of r_is)) by)
