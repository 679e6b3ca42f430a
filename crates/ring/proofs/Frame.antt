-- What a call leaves of the tables beyond the slots.
use Rattle.std.proofs.Common.{◌≡◌, ℕ, ◌<◌, List, set, refl, ◌∙◌}
use Rattle.std.proofs.lemmas.List.{length-set, drop-set-lt}
use Rattle.ring.specs.Arcs.{Arcs}
use Rattle.ring.specs.Sound.{Tables}
use Rattle.ring.specs.View.{arcs_of, is_open_of, Fine, Kept, Beyond, Leaves}
use Rattle.ring.proofs.Around.{tables_linked}

-- A table that stays, and one with a write at a slot.
pub same_kept : (n : ℕ) (xs : List ℕ) → Kept n xs xs
same_kept n xs = record { rest = refl; long = refl }

pub set_kept : (n : ℕ) (was is : List ℕ) (i v : ℕ) → i < n → Kept n was is → Kept n was (set is i v)
set_kept n was is i v l k = record { rest = drop-set-lt n is i v l ∙ k.rest; long = length-set is i v ∙ k.long }

-- What a call leaves: tables that hold the arcs a.
pub left_as : (t u : Tables) (a : Arcs) → Fine u → arcs_of u ≡ a → u.slots ≡ t.slots → Beyond t u → Leaves t u a u.cycle
unfolding arcs_of
left_as t u a s e n b = record { arcs_are = e; open_is = refl; slots_kept = n; linked = tables_linked u s; beyond = b }

-- A ring that a call leaves as it is.
pub stays : (t : Tables) → Fine t → (a : Arcs) → arcs_of t ≡ a → Leaves t t a (is_open_of t)
stays t s a e =
    left_as t t a s e refl (record { next_kept = same_kept _ _; previous_kept = same_kept _ _; stamp_kept = same_kept _ _ })
