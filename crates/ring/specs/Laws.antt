-- Laws of the arcs.
use Rattle.std.specs.Prelude.{◌≡◌, ℕ, ◌<◌, ◌≤◌, Bool, true, false, List, ◌∷◌, ◌++◌, Some, None, Option}
use Rattle.ring.specs.declared.arcs.Colour.{Colour}
use Rattle.ring.specs.declared.arcs.Colour.TheVariants.{Free, White, Grey, Black}
use Rattle.ring.specs.Arcs.{Arcs, has}

-- In which arcs a slot stands.
pub record Stands (q : ℕ) (a : Arcs) (free white grey black : Bool) : Type 0 where
  pub in_free : has q a.free ≡ free
  pub in_white : has q a.white ≡ white
  pub in_grey : has q a.grey ≡ grey
  pub in_black : has q a.black ≡ black

-- A slot of the ring stands in exactly one arc, and its colour says in which; a number without a colour is no slot of
-- the ring and stands in none.
abbrev pub OneArc : ℕ → ℕ → Arcs → Option Colour → Type 0
OneArc slots q a (Some Free) = (q < slots) × Stands q a true false false false
OneArc slots q a (Some White) = (q < slots) × Stands q a false true false false
OneArc slots q a (Some Grey) = (q < slots) × Stands q a false false true false
OneArc slots q a (Some Black) = (q < slots) × Stands q a false false false true
OneArc slots q a None = (slots ≤ q) × Stands q a false false false false

-- Shading a slot leaves the free and the black arc. A white slot is taken out of the white arc, whose other slots keep
-- their order, and put before the grey ones. Any other number leaves all arcs.
pub record KeepsOrder (q : ℕ) (was is : Arcs) : Type 0 where
  pub free_kept : is.free ≡ was.free
  pub black_kept : is.black ≡ was.black
  pub grey_grows : has q was.white ≡ true → is.grey ≡ q ∷ was.grey
  pub white_parts : has q was.white ≡ true →
      (front : List ℕ) × (back : List ℕ) × (was.white ≡ front ++ q ∷ back) × (is.white ≡ front ++ back)
  pub others : has q was.white ≡ false → is ≡ was
