-- Scanning: which slot, and one scan after another.
use Rattle.std.proofs.Common.{◌≡◌, ℕ, suc, ◌+◌, ◌<◌, Bool, true, eqb, List, [], ◌∷◌, ◌++◌, map, length, get_or, take, is_some, Some, None, Option, unwrap_or, sym, refl, ap, ◌∙◌, arith}
use Rattle.std.proofs.lemmas.List.{get_or-take, take-map}
use Rattle.std.proofs.lemmas.Bool.{eq-eqb, or_left, false≢true}
use Rattle.ring.specs.Arcs.{Arcs, has, ring_of, scan_from, split_last}
use Rattle.ring.specs.Calls.{moved_slot, left_by, scanned_slot, scanned_arcs}
use Rattle.ring.specs.View.{Leaves, arcs_of, slots_of}
use Rattle.ring.specs.Sound.{Tables}
use Rattle.rules.specs.Rules.{Store, no_record, with_arcs, scan_one, scan_next, scan_upto, scans_made}
use Rattle.kinds.specs.declared.kind.Kind.{Ghosts}
use Rattle.heap.specs.Meaning.{meaning_of}
use Rattle.heap.specs.Scans.{scans_one, scanned_one, scanned_upto}
use Rattle.heap.specs.Rows.{front}
use Rattle.heap.proofs.Evacuations.{has_right}
use Rattle.heap.proofs.Slots.{linked_below}

-- it stands in the ring, and the free and the white arc stay
scanned_black : (gs : List ℕ) (a : Arcs) (q : ℕ) → Some q ≡ moved_slot (scan_from gs a) → has q (left_by a (scan_from gs a)).black ≡ true
scanned_black [] a q e = absurd (let z : ◌≡◌ {A = ℕ} 0 1 = cc in omega arith)
scanned_black (x ∷ xs) a q e =
    let same : q ≡ (split_last x xs).1 = cc in
    or_left (eqb (split_last x xs).1 q) (has q a.black) (eq-eqb (split_last x xs).1 q (sym same))

pub scanned_in_ring : (a : Arcs) (q : ℕ) → Some q ≡ scanned_slot a → has q (ring_of (scanned_arcs a)) ≡ true
scanned_in_ring a q e =
    let b = scanned_arcs a in
    has_right q b.free (b.white ++ (b.grey ++ b.black))
    (has_right q b.white (b.grey ++ b.black)
    (has_right q b.grey b.black (scanned_black a.grey a q e)))

pub scanned_low : (r s : Tables) (q n : ℕ) (o : Bool) → slots_of r ≡ n → Some q ≡ scanned_slot (arcs_of r) → Leaves r s (scanned_arcs (arcs_of r)) o → q < n
scanned_low r s q n o size e leaves =
    let in_ring : has q (ring_of (arcs_of s)) ≡ true = ap (λ a. has q (ring_of a)) leaves.arcs_are ∙ scanned_in_ring (arcs_of r) q e in
    let low : q < slots_of s = linked_below s.next s.prev (slots_of s) q (ring_of (arcs_of s)) leaves.linked in_ring in
    omega (arith, low, leaves.slots_kept, size)

-- many scans: one and the rest, or none where no slot is grey
pub scan_more : (n : ℕ) (s t : Store) → scans_one s ≡ true → t ≡ scanned_one s → (scanned_upto n t ≡ scanned_upto (suc n) s) × (suc (scans_made n t) ≡ scans_made (suc n) s)
scan_more n s t some e = (ap (scanned_upto n) e ∙ go (scan_one s.slots s.arcs) some, ap (λ x. suc (scans_made n x)) e ∙ made (scan_one s.slots s.arcs) some)
  where
    go : (o : Option Arcs) → is_some o ≡ true → with_arcs (scan_upto s.slots n (unwrap_or o s.arcs)).0 s ≡ with_arcs (scan_next o (scan_upto s.slots n) s.arcs).0 s
    go None h = absurd (false≢true h)
    go (Some a) h = refl

    made : (o : Option Arcs) → is_some o ≡ true → suc (scan_upto s.slots n (unwrap_or o s.arcs)).1 ≡ (scan_next o (scan_upto s.slots n) s.arcs).1
    made None h = absurd (false≢true h)
    made (Some a) h = refl
