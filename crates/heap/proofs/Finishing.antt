-- As many scans as there are slots leave no slot grey, so that a cycle closes after them.
use Rattle.std.proofs.Common.{◌≡◌, ℕ, zero, suc, ◌+◌, ◌≤◌, false, cond, List, [], ◌∷◌, ◌++◌, length, get_or, refl, ap, ◌∙◌, arith}
use Rattle.std.proofs.lemmas.List.{length-append}
use Rattle.ring.specs.Arcs.{Arcs, split_last, scan_from, close_arcs}
use Rattle.ring.specs.View.{arcs_of, slots_of, Fine, LinkedRing}
use Rattle.ring.proofs.Facts.{fine_linked}
use Rattle.rules.specs.Rules.{Record, Store, no_record, with_arcs, with_cycle, shade_all, scan_taken, scan_next, scan_upto, scan_and_close, is_empty}
use Rattle.rules.proofs.Counting.{length_split_last}
use Rattle.rules.proofs.Shading.{shaded_all}
use Rattle.ring.specs.Sound.{Tables}
use Rattle.kinds.specs.declared.kind.Kind.{Ghosts}
use Rattle.heap.specs.declared.heap.Heap.{Heap}
use Rattle.heap.specs.View.{contents}

-- the slots that a scan can still reach
abbrev unscanned : Arcs → ℕ
unscanned a = length a.white + length a.grey

-- a scan of the last grey slot, where x and xs are grey, and the links of its record
abbrev scanned : List Record → Arcs → ℕ → List ℕ → Arcs
scanned slots a x xs = shade_all (get_or slots (split_last x xs).1 no_record).links (record { free = a.free; white = a.white; grey = (split_last x xs).0; black = (split_last x xs).1 ∷ a.black })

-- leaves one slot less to scan
fewer : (slots : List Record) (a : Arcs) (x : ℕ) (xs : List ℕ) → a.grey ≡ x ∷ xs → suc (unscanned (scanned slots a x xs)) ≡ unscanned a
fewer slots a x xs e =
    omega (arith, (shaded_all (get_or slots (split_last x xs).1 no_record).links (record { free = a.free; white = a.white; grey = (split_last x xs).0; black = (split_last x xs).1 ∷ a.black })).size, length_split_last x xs, ap length e)

none_left : (xs : List ℕ) → length xs ≤ 0 → xs ≡ []
none_left [] h = refl
none_left (x ∷ xs) h = absurd (omega arith)

-- enough scans leave no slot grey
none_grey : (slots : List Record) (k : ℕ) (a : Arcs) → unscanned a ≤ k → (scan_upto slots k a).0.grey ≡ []
none_grey slots zero a h = none_left a.grey (omega arith)
none_grey slots (suc k) a h = go a.grey refl (none_grey slots k)
  where
    go : (gs : List ℕ) → a.grey ≡ gs → ((b : Arcs) → unscanned b ≤ k → (scan_upto slots k b).0.grey ≡ []) → (scan_next (scan_taken slots (scan_from gs a)) (scan_upto slots k) a).0.grey ≡ []
    go [] e more = e
    go (x ∷ xs) e more = more (scanned slots a x xs) (omega (arith, fewer slots a x xs e))

-- the cycle closes
closes : (s : Store) (k : ℕ) → unscanned s.arcs ≤ k → (scan_and_close k s).cycle ≡ false
closes s k h =
    let t = with_arcs (scan_upto s.slots k s.arcs).0 s in
    ap (λ gs. (cond (is_empty gs) (with_cycle false (with_arcs (close_arcs t.arcs) t)) t).cycle) (none_grey s.slots k s.arcs h)

-- no more slots are white or grey than there are
few_unscanned : (r : Tables) → Fine r → unscanned (arcs_of r) ≤ slots_of r
few_unscanned r f =
    let a = arcs_of r in
    let linked : LinkedRing r = fine_linked r f in
    let size : length (a.free ++ (a.white ++ (a.grey ++ a.black))) ≡ slots_of r = linked.size in
    let sum : length a.free + (length a.white + (length a.grey + length a.black)) ≡ slots_of r = simp length-append at size in
    omega (arith, sum)

-- with as many scans as a heap has slots
pub finish_shut : {X B : Type 0} (g : Ghosts X) (h : Heap X B) (s : Store) → s ≡ scan_and_close h.limits.slots (contents g h) → s.cycle ≡ false
finish_shut g h s left = ap (λ t. t.cycle) left ∙ closes (contents g h) h.limits.slots (omega (arith, few_unscanned h.area.ring h.kept.fine, h.kept.ring_size))
