-- The counts of an area.
use Rattle.std.specs.Prelude.{◌≡◌, ℕ, ◌+◌, ◌<◌, ◌^◌, Bool, cond, length}
use Rattle.ring.specs.Arcs.{Arcs}
use Rattle.ring.specs.Calls.{may_close}
use Rattle.ring.specs.Sound.{Tables}
use Rattle.ring.specs.View.{Fine, arcs_of, slots_of}

-- the counts are those of the arcs: every slot that is not free is occupied
pub record Counted (r : Tables) (occupied white : ℕ) : Type 0 where
  pub fine : Fine r
  pub few : slots_of r < 2 ^ 32
  pub occupied_is : occupied + length (arcs_of r).free ≡ slots_of r
  pub white_is : white ≡ length (arcs_of r).white

-- how many slots a close frees, of a cycle that is open or not as o says
abbrev pub freed_number : Bool → Arcs → ℕ
freed_number o a = cond (may_close o a) (length a.white) 0
