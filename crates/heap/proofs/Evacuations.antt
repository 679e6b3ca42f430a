-- Evacuation: the forwarding table, row by row.
use Rattle.std.proofs.Common.{◌≡◌, ℕ, zero, suc, ◌+◌, ◌-◌, ◌<◌, ◌≤◌, Bool, true, false, ◌||◌, eqb, List, [], ◌∷◌, ◌++◌, map, length, get_or, take, drop, set, replicate, Some, None, Option, sym, refl, ap, ◌∙◌, subst, arith, length-set, eq-eqb}
use Rattle.std.proofs.lemmas.List.{map-set}
use Rattle.ring.specs.Arcs.{Arcs, has, ring_of, take_slot}
use Rattle.ring.specs.Calls.{taken_slot, taken_arcs}
use Rattle.heap.specs.declared.rows.Forward.{Forward}
use Rattle.heap.specs.Rows.{front, no_forward, unmoved}
use Rattle.heap.proofs.Fronts.{front_push}

-- a write that leaves the meaning of the entry
pub front_same : {X Y : Type 0} (f : X → Y) (n : ℕ) (xs : List X) (i : ℕ) (x d : X) → f x ≡ f (get_or xs i d) → front f n (set xs i x) ≡ front f n xs
front_same f zero xs i x d e = refl
front_same f (suc n) [] i x d e = refl
front_same f (suc n) (y ∷ ys) zero x d e = ap (λ z. z ∷ map f (take n ys)) e
front_same f (suc n) (y ∷ ys) (suc i) x d e = ap (λ zs. f y ∷ zs) (front_same f n ys i x d e)

pub map_same : {X Y : Type 0} (f : X → Y) (xs : List X) (i : ℕ) (x d : X) → f x ≡ f (get_or xs i d) → map f (set xs i x) ≡ map f xs
map_same f [] i x d e = refl
map_same f (y ∷ ys) zero x d e = ap (λ z. z ∷ map f ys) e
map_same f (y ∷ ys) (suc i) x d e = ap (λ zs. f y ∷ zs) (map_same f ys i x d e)

pub no_targets : (n : ℕ) → map (λ (r : Forward). r.target) (replicate n no_forward) ≡ replicate n None
no_targets zero = refl
no_targets (suc n) = ap (λ fs. None ∷ fs) (no_targets n)

-- row p leads to slot q, and row i has q as the i-th slot taken
abbrev pub row_to : List Forward → ℕ → ℕ → List Forward
row_to xs p q = set xs p (record { target = Some q; copied = (get_or xs p no_forward).copied })

abbrev pub row_queued : List Forward → ℕ → ℕ → List Forward
row_queued xs i q = set xs i (record { target = (get_or xs i no_forward).target; copied = q })

pub forwarded_targets : (xs : List Forward) (p i q : ℕ) → map (λ (f : Forward). f.target) (row_queued (row_to xs p q) i q) ≡ set (map (λ (f : Forward). f.target) xs) p (Some q)
forwarded_targets xs p i q =
    map_same (λ (f : Forward). f.target) (row_to xs p q) i _ no_forward refl ∙ map-set (λ (f : Forward). f.target) xs p _

pub forwarded_queue : (xs : List Forward) (p i q : ℕ) → i < length xs → front (λ f. f.copied) (i + 1) (row_queued (row_to xs p q) i q) ≡ front (λ f. f.copied) i xs ++ (q ∷ [])
forwarded_queue xs p i q h =
    front_push (λ f. f.copied) i (row_to xs p q) _ (omega (arith, length-set xs p (record { target = Some q; copied = (get_or xs p no_forward).copied })))
    ∙ ap (λ qs. qs ++ (q ∷ [])) (front_same (λ f. f.copied) i xs p _ no_forward refl)

-- rows of which one was set
pub targets_set : (s : ℕ) (fs : List Forward) (p q : ℕ) (x : Forward) → x.target ≡ Some q → q < s → ((k t : ℕ) → (get_or fs k no_forward).target ≡ Some t → t < s) → (k t : ℕ) → (get_or (set fs p x) k no_forward).target ≡ Some t → t < s
targets_set s [] p q x is low h k t e = h k t e
targets_set s (f ∷ fs) zero q x is low h zero t e = let same : ◌≡◌ {A = Option ℕ} (Some t) (Some q) = sym e ∙ is in let z : t ≡ q = cc in omega (arith, z, low)
targets_set s (f ∷ fs) zero q x is low h (suc k) t e = h (suc k) t e
targets_set s (f ∷ fs) (suc p) q x is low h zero t e = h zero t e
targets_set s (f ∷ fs) (suc p) q x is low h (suc k) t e = targets_set s fs p q x is low (λ j u g. h (suc j) u g) k t e

pub target_same : (fs : List Forward) (p : ℕ) (x : Forward) → x.target ≡ (get_or fs p no_forward).target → (k : ℕ) → (get_or (set fs p x) k no_forward).target ≡ (get_or fs k no_forward).target
target_same [] p x e k = refl
target_same (f ∷ fs) zero x e zero = e
target_same (f ∷ fs) zero x e (suc k) = refl
target_same (f ∷ fs) (suc p) x e zero = refl
target_same (f ∷ fs) (suc p) x e (suc k) = target_same fs p x e k

pub copied_same : (fs : List Forward) (p : ℕ) (x : Forward) → x.copied ≡ (get_or fs p no_forward).copied → (k : ℕ) → (get_or (set fs p x) k no_forward).copied ≡ (get_or fs k no_forward).copied
copied_same [] p x e k = refl
copied_same (f ∷ fs) zero x e zero = e
copied_same (f ∷ fs) zero x e (suc k) = refl
copied_same (f ∷ fs) (suc p) x e zero = refl
copied_same (f ∷ fs) (suc p) x e (suc k) = copied_same fs p x e k

pub queued_set : (s : ℕ) (fs : List Forward) (i : ℕ) (x : Forward) → x.copied < s → i < length fs → ((j : ℕ) → j < i → (get_or fs j no_forward).copied < s) → (j : ℕ) → j < i + 1 → (get_or (set fs i x) j no_forward).copied < s
queued_set s [] i x low long h j e = absurd (omega arith)
queued_set s (f ∷ fs) zero x low long h zero e = low
queued_set s (f ∷ fs) zero x low long h (suc j) e = absurd (omega arith)
queued_set s (f ∷ fs) (suc i) x low long h zero e = h zero (omega arith)
queued_set s (f ∷ fs) (suc i) x low long h (suc j) e = queued_set s fs i x low (omega arith) (λ k l. h (suc k) (omega arith)) j (omega arith)

-- a record copied: one less wants a slot
pub unmoved_less : (fs : List (Option ℕ)) (p q : ℕ) → p < length fs → get_or fs p None ≡ None → unmoved (set fs p (Some q)) + 1 ≡ unmoved fs
unmoved_less [] p q h e = absurd (omega arith)
unmoved_less (None ∷ fs) zero q h e = omega arith
unmoved_less (Some x ∷ fs) zero q h e = absurd (let z : ◌≡◌ {A = Option ℕ} (Some x) None = e in let k : ◌≡◌ {A = ℕ} 0 1 = cc in omega arith)
unmoved_less (None ∷ fs) (suc p) q h e = omega (arith, unmoved_less fs p q (omega arith) e)
unmoved_less (Some x ∷ fs) (suc p) q h e = unmoved_less fs p q (omega arith) e

pub unmoved_all : (n : ℕ) → unmoved (replicate n None) ≡ n
unmoved_all zero = refl
unmoved_all (suc n) = ap suc (unmoved_all n)

-- a slot in the second part of a list
pub has_right : (q : ℕ) (xs ys : List ℕ) → has q ys ≡ true → has q (xs ++ ys) ≡ true
has_right q [] ys h = h
has_right q (x ∷ xs) ys h = go (has_right q xs ys h) (eqb x q)
  where
    go : has q (xs ++ ys) ≡ true → (t : Bool) → (t || has q (xs ++ ys)) ≡ true
    go rest true = refl
    go rest false = rest

-- taking slot q from the arcs a
pub record Taken (a : Arcs) (q : ℕ) : Type 0 where
  pub is_taken : take_slot a ≡ Some (q, taken_arcs a)
  pub free_less : length (taken_arcs a).free + 1 ≡ length a.free
  pub same_white : (taken_arcs a).white ≡ a.white
  pub stands : has q (ring_of (taken_arcs a)) ≡ true

taken_from : (fs : List ℕ) (w g b : List ℕ) (q : ℕ) → Some q ≡ taken_slot (record { free = fs; white = w; grey = g; black = b }) → Taken (record { free = fs; white = w; grey = g; black = b }) q
taken_from [] w g b q e = absurd (let z : ◌≡◌ {A = Option ℕ} (Some q) None = e in let k : ◌≡◌ {A = ℕ} 0 1 = cc in omega arith)
taken_from (x ∷ xs) w g b q e =
    let is : q ≡ x = (let z : ◌≡◌ {A = Option ℕ} (Some q) (Some x) = e in cc) in
    record {
      is_taken = ap (λ y. Some (y, record { free = xs; white = w; grey = g; black = b ++ (x ∷ []) })) (sym is);
      free_less = omega arith;
      same_white = refl;
      stands = has_right q xs _ (has_right q w _ (has_right q g _ (has_right q b (x ∷ []) (subst (λ t. (t || false) ≡ true) (sym (eq-eqb x q (sym is))) refl))));
    }

pub taken : (a : Arcs) (q : ℕ) → Some q ≡ taken_slot a → Taken a q
taken a q e = taken_from a.free a.white a.grey a.black q e
