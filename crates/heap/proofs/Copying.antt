-- Copying a record: its row leads to the slot, the slot is queued, and it leaves the free arc.
use Rattle.std.proofs.Common.{◌≡◌, ℕ, zero, suc, ◌+◌, ◌<◌, ◌≤◌, Bool, true, List, [], ◌∷◌, ◌++◌, map, length, get_or, set, replicate, Some, None, Option, sym, refl, ap, ◌∙◌, subst, arith, length-set, eqb, eq-eqb}
use Rattle.std.proofs.lemmas.List.{map-set, get_or-map, length-map}
use Rattle.std.proofs.lemmas.Bool.{or_left}
use Rattle.words.specs.Words.{slot_word}
use Rattle.kinds.specs.declared.kind.Kind.{Ghosts}
use Rattle.rules.specs.Rules.{Record, Evacuation as Emptying, no_record, begin_evacuation, evacuate_into}
use Rattle.heap.specs.Meaning.{meaning_of}
use Rattle.ring.specs.Arcs.{Arcs, has, ring_of, take_slot}
use Rattle.ring.specs.Calls.{taken_slot, taken_arcs}
use Rattle.ring.specs.Sound.{Tables}
use Rattle.ring.specs.View.{Fine, Leaves, arcs_of, slots_of, is_open_of}
use Rattle.ring.proofs.Facts.{fine_linked}
use Rattle.heap.specs.declared.rows.Forward.{Forward}
use Rattle.heap.specs.Evacuating.{Underway}
use Rattle.heap.specs.Rows.{front, unmoved, no_forward}
use Rattle.heap.proofs.Evacuations.{row_to, row_queued, forwarded_targets, forwarded_queue, no_targets, unmoved_all, targets_set, target_same, copied_same, queued_set, unmoved_less, taken}
use Rattle.heap.proofs.Slots.{linked_below}

abbrev pub targets_of : List Forward → List (Option ℕ)
targets_of fs = map (λ f. f.target) fs

-- how many rows there are
pub row_long : (fs : List Forward) (p q : ℕ) → length (row_to fs p q) ≡ length fs
row_long fs p q = length-set fs p _

pub queue_long : (fs : List Forward) (p c q : ℕ) → length (row_queued (row_to fs p q) c q) ≡ length fs
queue_long fs p c q = length-set (row_to fs p q) c _ ∙ row_long fs p q

-- a row that leads to no slot yet
pub wanting : (fs : List Forward) (p q : ℕ) → p < length fs → (get_or fs p no_forward).target ≡ None → unmoved (targets_of (row_to fs p q)) + 1 ≡ unmoved (targets_of fs)
wanting fs p q low none =
    let at : get_or (targets_of fs) p None ≡ None = get_or-map (λ (f : Forward). f.target) fs p no_forward None low ∙ none in
    ap (λ ts. unmoved ts + 1) (map-set (λ (f : Forward). f.target) fs p _) ∙ unmoved_less (targets_of fs) p q (omega (arith, low, length-map fs (λ (f : Forward). f.target))) at

-- a slot to be taken is one of the ring
first_stands : (fs : List ℕ) (w g b : List ℕ) (q : ℕ) → Some q ≡ taken_slot (record { free = fs; white = w; grey = g; black = b }) → has q (ring_of (record { free = fs; white = w; grey = g; black = b })) ≡ true
first_stands [] w g b q e = absurd (let z : ◌≡◌ {A = Option ℕ} (Some q) None = e in let k : ◌≡◌ {A = ℕ} 0 1 = cc in omega arith)
first_stands (x ∷ xs) w g b q e =
    let is : q ≡ x = (let z : ◌≡◌ {A = Option ℕ} (Some q) (Some x) = e in cc) in
    or_left (eqb x q) (has q (xs ++ (w ++ (g ++ b)))) (eq-eqb x q (sym is))

pub taken_low : (r : Tables) (q : ℕ) → Fine r → Some q ≡ taken_slot (arcs_of r) → q < slots_of r
taken_low r q f e =
    let a = arcs_of r in
    linked_below r.next r.prev (slots_of r) q (ring_of a) (fine_linked r f) (first_stands a.free a.white a.grey a.black q e)

pub forwarded : (n s : ℕ) (fs : List Forward) (r : Tables) (c p q : ℕ) → Underway n s fs r c → p < n → (get_or fs p no_forward).target ≡ None → q < s → Underway n s (row_to fs p q) r c
forwarded n s fs r c p q u low none slot =
    let less = wanting fs p q (omega (arith, low, u.rows)) none in
    record {
      rows = length-set fs p _ ∙ u.rows;
      ring_size = u.ring_size;
      few_slots = u.few_slots;
      few_places = u.few_places;
      waiting = omega (arith, less, u.waiting);
      moved = omega (arith, less, u.moved);
      targets = targets_set s fs p q _ refl slot u.targets;
      queued = λ i l. subst (λ v. v < s) (sym (copied_same fs p _ refl i)) (u.queued i l);
    }

pub room : (n s : ℕ) (fs : List Forward) (r : Tables) (c p : ℕ) → Underway n s fs r c → p < n → (get_or fs p no_forward).target ≡ None → c < n
room n s fs r c p u low none = omega (arith, wanting fs p 0 (omega (arith, low, u.rows)) none, u.moved)

pub copied_more : (fs : List Forward) (c p q : ℕ) → p < length fs → (get_or fs p no_forward).target ≡ None → (c + 1) + unmoved (targets_of (row_queued (row_to fs p q) c q)) ≡ c + unmoved (targets_of fs)
copied_more fs c p q low none =
    omega (arith, wanting fs p q low none, ap unmoved (forwarded_targets fs p c q ∙ sym (map-set (λ (f : Forward). f.target) fs p (record { target = Some q; copied = (get_or fs p no_forward).copied }))))

pub copied_under : (n s : ℕ) (fs : List Forward) (r t : Tables) (o : Bool) (c p q : ℕ) → Underway n s fs r c → p < n → (get_or fs p no_forward).target ≡ None → q < s → Some q ≡ taken_slot (arcs_of r) → Leaves r t (taken_arcs (arcs_of r)) o → Underway n s (row_queued (row_to fs p q) c q) t (c + 1)
copied_under n s fs r t o c p q u low none slot e left =
    let v = forwarded n s fs r c p q u low none slot in
    let rs = row_to fs p q in
    let less = wanting fs p q (omega (arith, low, u.rows)) none in
    let same : unmoved (targets_of (row_queued rs c q)) ≡ unmoved (targets_of rs) = ap unmoved (forwarded_targets fs p c q ∙ sym (map-set (λ (f : Forward). f.target) fs p _)) in
    let free = (taken (arcs_of r) q e).free_less in
    let free_is : length (arcs_of t).free ≡ length (taken_arcs (arcs_of r)).free = ap (λ a. length a.free) left.arcs_are in
    record {
      rows = length-set rs c _ ∙ v.rows;
      ring_size = left.slots_kept ∙ u.ring_size;
      few_slots = u.few_slots;
      few_places = u.few_places;
      waiting = omega (arith, less, same, free, free_is, u.waiting);
      moved = omega (arith, less, same, u.moved);
      targets = λ k x h. v.targets k x (sym (target_same rs c _ refl k) ∙ h);
      queued = queued_set s rs c _ slot (omega (arith, v.rows, room n s fs r c p u low none)) v.queued;
    }

-- the parts of an evacuation
abbrev pub of_parts : List ℕ → List Record → List Record → Arcs → List ℕ → Bool → List (Option ℕ) → List ℕ → Emptying
of_parts r n s a m c f q = record { store = record { registers = r; nursery = n; slots = s; arcs = a; notes = m; cycle = c }; forward = f; copied = q }

same_parts : (r r' : List ℕ) (n n' s s' : List Record) (a a' : Arcs) (m m' : List ℕ) (c c' : Bool) (f f' : List (Option ℕ)) (q q' : List ℕ) → r ≡ r' → n ≡ n' → s ≡ s' → a ≡ a' → m ≡ m' → c ≡ c' → f ≡ f' → q ≡ q' → of_parts r n s a m c f q ≡ of_parts r' n' s' a' m' c' f' q'
same_parts r r' n n' s s' a a' m m' c c' f f' q q' e₁ e₂ e₃ e₄ e₅ e₆ e₇ e₈ =
    ap (λ x. of_parts x n s a m c f q) e₁ ∙ (ap (λ x. of_parts r' x s a m c f q) e₂ ∙ (ap (λ x. of_parts r' n' x a m c f q) e₃ ∙ (ap (λ x. of_parts r' n' s' x m c f q) e₄
    ∙ (ap (λ x. of_parts r' n' s' a' x c f q) e₅ ∙ (ap (λ x. of_parts r' n' s' a' m' x f q) e₆ ∙ (ap (λ x. of_parts r' n' s' a' m' c' x q) e₇ ∙ ap (λ x. of_parts r' n' s' a' m' c' f' x) e₈))))))

abbrev pub emptied : {X : Type 0} → Ghosts X → List ℕ → List ℕ → List X → List X → List Forward → Tables → ℕ → Emptying
emptied g rs ns nursery slots fs r c = of_parts rs (map (meaning_of g) nursery) (map (meaning_of g) slots) (arcs_of r) ns (is_open_of r) (targets_of fs) (front (λ f. f.copied) c fs)

pub copied_state : {X : Type 0} (g : Ghosts X) (rs ns : List ℕ) (nursery slots slots' : List X) (fs : List Forward) (r t : Tables) (c p q : ℕ) (x : X) → p < length nursery → c < length fs → Some q ≡ taken_slot (arcs_of r) → Leaves r t (taken_arcs (arcs_of r)) (is_open_of r) → slots' ≡ set slots q (get_or nursery p x)
    → emptied g rs ns nursery slots' (row_queued (row_to fs p q) c q) t (c + 1) ≡ (evacuate_into p (take_slot (arcs_of r)) (emptied g rs ns nursery slots fs r c)).1
copied_state g rs ns nursery slots slots' fs r t c p q x low room e left put =
    let records : map (meaning_of g) slots' ≡ set (map (meaning_of g) slots) q (get_or (map (meaning_of g) nursery) p no_record) =
    ap (map (meaning_of g)) put ∙ map-set (meaning_of g) slots q _ ∙ ap (set (map (meaning_of g) slots) q) (sym (get_or-map (meaning_of g) nursery p x no_record low)) in
    same_parts _ _ _ _ _ _ _ _ _ _ _ _ _ _ _ _ refl refl records left.arcs_are refl left.open_is (forwarded_targets fs p c q) (forwarded_queue fs p c q room)
    ∙ ap (λ z. (evacuate_into p z (emptied g rs ns nursery slots fs r c)).1) (sym (taken (arcs_of r) q e).is_taken)

pub copied_word : (p q : ℕ) (a : Arcs) (c : Emptying) → Some q ≡ taken_slot a → slot_word q ≡ (evacuate_into p (take_slot a) c).0
copied_word p q a c e = ap (λ z. (evacuate_into p z c).0) (sym (taken a q e).is_taken)

-- nothing is copied yet
pub begun_under : (n s : ℕ) (fs : List Forward) (r : Tables) → length fs ≡ n → fs ≡ replicate n no_forward → slots_of r ≡ s → s ≤ 16384 → n ≤ 1024 → n ≤ length (arcs_of r).free → Underway n s fs r 0
begun_under n s fs r rows blank size few_slots few_places room =
    let none : unmoved (targets_of fs) ≡ n = ap (λ z. unmoved (targets_of z)) blank ∙ ap unmoved (no_targets n) ∙ unmoved_all n in
    record {
      rows = rows;
      ring_size = size;
      few_slots = few_slots;
      few_places = few_places;
      waiting = omega (arith, none, room);
      moved = omega (arith, none);
      targets = λ p q h. absurd (let z : ◌≡◌ {A = Option ℕ} None (Some q) = sym (blank_target n p) ∙ ap (λ z. (get_or z p no_forward).target) (sym blank) ∙ h in let k : ◌≡◌ {A = ℕ} 0 1 = cc in omega arith);
      queued = λ i l. absurd (omega arith);
    }
  where
    blank_target : (n p : ℕ) → (get_or (replicate n no_forward) p no_forward).target ≡ None
    blank_target zero p = refl
    blank_target (suc n) zero = refl
    blank_target (suc n) (suc p) = blank_target n p

pub begun_state : {X : Type 0} (g : Ghosts X) (rs ns : List ℕ) (nursery slots : List X) (fs : List Forward) (r : Tables) → fs ≡ replicate (length nursery) no_forward → emptied g rs ns nursery slots fs r 0 ≡ begin_evacuation (emptied g rs ns nursery slots fs r 0).store
begun_state g rs ns nursery slots fs r blank =
    ap (λ z. of_parts rs (map (meaning_of g) nursery) (map (meaning_of g) slots) (arcs_of r) ns (is_open_of r) z [])
    (ap targets_of blank ∙ no_targets (length nursery) ∙ ap (λ n. replicate n None) (sym (length-map nursery (meaning_of g))))

-- rows that were filled with a row that leads nowhere
pub blank_rows : (fs : List Forward) (x : Forward) (m n : ℕ) → (x.target ≡ None) × (x.copied ≡ 0) → fs ≡ replicate m x → m ≡ n → fs ≡ replicate n no_forward
blank_rows fs x m n blank filled size =
    let row : ◌≡◌ {A = Forward} x no_forward = ap (λ t. record { target = t; copied = x.copied }) blank.0 ∙ ap (λ k. record { target = None; copied = k }) blank.1 in
    filled ∙ ap (λ y. replicate m y) row ∙ ap (λ k. replicate k no_forward) size
