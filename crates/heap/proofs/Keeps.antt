-- What always holds of a heap goes on to hold when its ring moves on.
use Rattle.std.proofs.Common.{◌≡◌, ℕ, ◌≤◌, Bool, true, false, cond, List, [], ◌∷◌, ◌++◌, length, refl, ap, ◌∙◌, subst, arith, length-append, sym}
use Rattle.ring.specs.Arcs.{Arcs, scan_from}
use Rattle.ring.specs.Calls.{left_by, opened_arcs, may_close, scanned_arcs, closed_arcs}
use Rattle.ring.specs.Sound.{Tables}
use Rattle.ring.specs.View.{Fine, Leaves, arcs_of, slots_of}
use Rattle.rules.specs.Rules.{shade, shade_all}
use Rattle.rules.proofs.Shading.{shaded_all}
use Rattle.registers.specs.declared.sizes.Limits.{Limits}
use Rattle.heap.specs.declared.rows.Note.{Note}
use Rattle.heap.specs.Keeping.{Kept}

-- no step but a take makes the free arc shorter
pub free_opened : (o : Bool) (a : Arcs) → length (opened_arcs o a).free ≡ length a.free
free_opened true a = refl
free_opened false a = refl

pub free_scanned : (a : Arcs) → length (scanned_arcs a).free ≡ length a.free
free_scanned a = go a.grey
  where
    go : (gs : List ℕ) → length (left_by a (scan_from gs a)).free ≡ length a.free
    go [] = refl
    go (x ∷ xs) = refl

pub free_shaded : (ws : List ℕ) (a : Arcs) → length (shade_all ws a).free ≡ length a.free
free_shaded ws a = ap length (shaded_all ws a).free

pub kept_ring : (l : Limits) (n s r r' f : ℕ) (ms : List Note) (t t' : Tables) (u m : ℕ) → Kept l n s r f ms t u m → r' ≡ r → Fine t' → slots_of t' ≡ slots_of t → length (arcs_of t).free ≤ length (arcs_of t').free → Kept l n s r' f ms t' u m
kept_ring l n s r r' f ms t t' u m k long fine size free = record {
  registers_long = omega (arith, k.registers_long, long);
  nursery_long = k.nursery_long;
  slots_long = k.slots_long;
  forward_long = k.forward_long;
  notes_long = k.notes_long;
  fine = fine;
  ring_size = size ∙ k.ring_size;
  used_low = k.used_low;
  noted_low = k.noted_low;
  remembered = k.remembered;
  few_slots = k.few_slots;
  few_places = k.few_places;
  room = omega (arith, k.room, free);
}
