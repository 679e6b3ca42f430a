-- Shading moves white slots to grey and does nothing else.
use Rattle.std.proofs.Common.{◌≡◌, ℕ, zero, suc, ◌+◌, ◌≤◌, Bool, true, false, cond, ltb, List, [], ◌∷◌, length, get_or, Some, None, Option, refl, ◌∙◌, arith}
use Rattle.words.specs.Words.{place_of}
use Rattle.words.specs.declared.place.Place.{Place}
use Rattle.words.specs.declared.place.Place.TheVariants.{Young, Old}
use Rattle.ring.specs.Arcs.{Arcs, has, without, shade_slot}
use Rattle.rules.specs.Rules.{Barrier, shade, shade_place, shade_all, shade_if, barrier_shades}
use Rattle.ring.specs.Sound.{count}
use Rattle.ring.proofs.Chain.{hit_same, one_most}
use Rattle.rules.proofs.Counting.{hasnt_count, count_without, length_without, length_by_counts}
use Rattle.rules.proofs.Invariant.{Ring, total}

pub record Shaded (a a' : Arcs) : Type 0 where
  pub free : a'.free ≡ a.free
  pub black : a'.black ≡ a.black
  pub white : (q : ℕ) → count q a'.white ≤ count q a.white
  pub grey : (q : ℕ) → count q a'.white + count q a'.grey ≡ count q a.white + count q a.grey
  pub size : length a'.white + length a'.grey ≡ length a.white + length a.grey

pub shaded_refl : (a : Arcs) → Shaded a a
shaded_refl a = record { free = refl; black = refl; white = λ q. omega arith; grey = λ q. refl; size = refl }

pub shaded_trans : {a a' a'' : Arcs} → Shaded a a' → Shaded a' a'' → Shaded a a''
shaded_trans s t = record { free = t.free ∙ s.free; black = t.black ∙ s.black; white = λ q. omega (arith, s.white q, t.white q); grey = λ q. t.grey q ∙ s.grey q; size = t.size ∙ s.size }

pub shaded_slot : (q : ℕ) (a : Arcs) → Shaded a (shade_slot q a)
shaded_slot q a = go (has q a.white) refl
  where
    go : (t : Bool) → has q a.white ≡ t → Shaded a (cond t (record { free = a.free; white = without q a.white; grey = q ∷ a.grey; black = a.black }) a)
    go false e = shaded_refl a
    go true e = record { free = refl; black = refl; white = λ r. omega (arith, count_without q r a.white e); grey = λ r. omega (arith, count_without q r a.white e); size = omega (arith, length_without q a.white e) }

pub shaded_place : (p : Option Place) (a : Arcs) → Shaded a (shade_place p a)
shaded_place None a = shaded_refl a
shaded_place (Some (Young p)) a = shaded_refl a
shaded_place (Some (Old q)) a = shaded_slot q a

pub shaded : (w : ℕ) (a : Arcs) → Shaded a (shade w a)
shaded w a = shaded_place (place_of w) a

pub shaded_if : (t : Bool) (w : ℕ) (a : Arcs) → Shaded a (shade_if t w a)
shaded_if true w a = shaded w a
shaded_if false w a = shaded_refl a

pub shaded_all : (ws : List ℕ) (a : Arcs) → Shaded a (shade_all ws a)
shaded_all [] a = shaded_refl a
shaded_all (w ∷ ws) a = shaded_trans (shaded w a) (shaded_all ws (shade w a))

pub shaded_barrier : (b : Barrier) (m : Bool) (o w : ℕ) (a : Arcs) → Shaded a (barrier_shades b m o w a)
shaded_barrier b m o w a = shaded_trans (shaded_if (b.names_old m) o a) (shaded_if (b.names_new m) w (shade_if (b.names_old m) o a))

pub shaded_ring : {S : ℕ} {a a' : Arcs} → Shaded a a' → Ring S a → Ring S a'
shaded_ring {S} {a} {a'} s g = record { size = rw (s.free, s.black) (omega (arith, g.size, s.size)); each = λ q. rw (s.free, s.black) (omega (arith, g.each q, s.grey q)) }

-- on a ring nothing stands twice
pub ring_once : {S : ℕ} {a : Arcs} → Ring S a → (q : ℕ) → total q a ≤ 1
ring_once {S} {a} g q = omega (arith, g.each q, one_most (ltb q S))

-- what was shaded is white no more
pub shade_slot_white : (q : ℕ) (a : Arcs) → count q a.white ≤ 1 → count q (shade_slot q a).white ≡ 0
shade_slot_white q a h = go (has q a.white) refl
  where
    go : (t : Bool) → has q a.white ≡ t → count q (cond t (record { free = a.free; white = without q a.white; grey = q ∷ a.grey; black = a.black }) a).white ≡ 0
    go true e = omega (arith, count_without q q a.white e, hit_same q)
    go false e = hasnt_count q a.white e

pub shade_white : (w q : ℕ) (a : Arcs) → place_of w ≡ Some (Old q) → count q a.white ≤ 1 → count q (shade w a).white ≡ 0
shade_white w q a e h = rw e (shade_slot_white q a h)

-- each of the words shaded leads to no white slot
pub shade_all_white : (ws : List ℕ) (k q : ℕ) (a : Arcs) → place_of (get_or ws k 0) ≡ Some (Old q) → count q a.white ≤ 1 → count q (shade_all ws a).white ≡ 0
shade_all_white [] k q a e h = let z : ◌≡◌ {A = ℕ} 0 1 = cc in absurd (omega arith)
shade_all_white (w ∷ ws) zero q a e h = omega (arith, (shaded_all ws (shade w a)).white q, shade_white w q a e h)
shade_all_white (w ∷ ws) (suc k) q a e h = shade_all_white ws k q (shade w a) e (omega (arith, (shaded w a).white q))

pub shaded_write : (b : Barrier) (t : Bool) (m : Bool) (o w : ℕ) (a : Arcs) → Shaded a (cond t (barrier_shades b m o w a) a)
shaded_write b true m o w a = shaded_barrier b m o w a
shaded_write b false m o w a = shaded_refl a

-- the grey arc only grows
pub shaded_grey : {a a' : Arcs} → Shaded a a' → length a.grey ≤ length a'.grey
shaded_grey {a} {a'} s = omega (arith, s.size, length_by_counts a'.white a.white s.white)
