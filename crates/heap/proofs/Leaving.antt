-- What calls leave of a ring, one after the other.
use Rattle.std.proofs.Common.{◌≡◌, ℕ, Bool, List, refl, ◌∙◌, subst}
use Rattle.ring.specs.Arcs.{Arcs}
use Rattle.ring.specs.Sound.{Tables}
use Rattle.ring.specs.View.{Fine, Leaves, arcs_of, is_open_of, slots_of, Kept, Beyond}
use Rattle.ring.proofs.Facts.{fine_linked}

pub beyond_refl : (r : Tables) → Beyond r r
beyond_refl r = record {
  next_kept = record { rest = refl; long = refl };
  previous_kept = record { rest = refl; long = refl };
  stamp_kept = record { rest = refl; long = refl };
}

kept_then : (n : ℕ) (a b c : List ℕ) → Kept n a b → Kept n b c → Kept n a c
kept_then n a b c k l = record { rest = l.rest ∙ k.rest; long = l.long ∙ k.long }

pub beyond_then : (r s u : Tables) → slots_of s ≡ slots_of r → Beyond r s → Beyond s u → Beyond r u
beyond_then r s u e k l =
    record {
      next_kept = kept_then (slots_of r) r.next s.next u.next k.next_kept (subst (λ n. Kept n s.next u.next) e l.next_kept);
      previous_kept = kept_then (slots_of r) r.prev s.prev u.prev k.previous_kept (subst (λ n. Kept n s.prev u.prev) e l.previous_kept);
      stamp_kept = kept_then (slots_of r) r.stamp s.stamp u.stamp k.stamp_kept (subst (λ n. Kept n s.stamp u.stamp) e l.stamp_kept);
    }

pub leaves_refl : (r : Tables) (a : Arcs) (o : Bool) → Fine r → arcs_of r ≡ a → is_open_of r ≡ o → Leaves r r a o
leaves_refl r a o f arcs_are open_is = record { arcs_are = arcs_are; open_is = open_is; slots_kept = refl; linked = fine_linked r f; beyond = beyond_refl r }

pub leaves_then : (r s t : Tables) (a b : Arcs) (o p : Bool) → Leaves r s a o → Leaves s t b p → Leaves r t b p
leaves_then r s t a b o p f g = record {
  arcs_are = g.arcs_are;
  open_is = g.open_is;
  slots_kept = g.slots_kept ∙ f.slots_kept;
  linked = g.linked;
  beyond = beyond_then r s t f.slots_kept f.beyond g.beyond;
}

pub leaves_to : (r s : Tables) (a b : Arcs) (o p : Bool) → Leaves r s a o → a ≡ b → o ≡ p → Leaves r s b p
leaves_to r s a b o p f arcs_are open_is = record { arcs_are = f.arcs_are ∙ arcs_are; open_is = f.open_is ∙ open_is; slots_kept = f.slots_kept; linked = f.linked; beyond = f.beyond }
