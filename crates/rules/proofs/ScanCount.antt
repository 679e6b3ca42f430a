-- How far an open cycle has come: after m steps m times K slots are scanned, and all are of records reachable at the opening.
use Rattle.std.proofs.Common.{◌≡◌, ℕ, suc, ◌+◌, ◌-◌, ◌*◌, ◌/◌, ◌<◌, ◌≤◌, true, eqb, ◌⊎◌, List, [], ◌∷◌, ◌++◌, length, get_or, Some, None, Option, sym, refl, ap, ◌∙◌, subst, inl, inr, mul-le-mul_left, arith}
use Rattle.words.specs.declared.place.Place.{Place}
use Rattle.words.specs.declared.place.Place.TheVariants.{Young, Old}
use Rattle.ring.specs.Arcs.{Arcs, has, without, marked, open_arcs}
use Rattle.rules.specs.Rules.{Barrier, Lawful, Sizes, visit_all, link_at}
use Rattle.rules.specs.Book.{Book, Reachable}
use Rattle.rules.specs.History.{History}
use Rattle.rules.specs.Promise.{Counted, cycle_steps}
use Rattle.std.proofs.lemmas.Bool.{cases_lt, true≢false, or_right}
use Rattle.std.proofs.lemmas.List.{length-append, append_assoc}
use Rattle.ring.specs.Sound.{count}
use Rattle.ring.proofs.Chain.{hit_other, count_append, has_count, count_has}
use Rattle.rules.proofs.Counting.{count_self, count_without, length_without, has_self}
use Rattle.rules.proofs.Invariant.{Inv}
use Rattle.rules.proofs.Effects.{put_history, make_history, link_young, link_old, fill_history, Effect, stay, puts, makes, writes_young, writes_old, fills}
use Rattle.rules.proofs.Shading.{Shaded, shaded_refl, shaded_all, shaded_write, shaded_grey, ring_once}
use Rattle.rules.proofs.Evacuating.{some_is}
use Rattle.rules.proofs.EmptyNursery.{after_copying}
use Rattle.rules.proofs.OpenCycle.{Good, Open, Marks}
use Rattle.rules.proofs.Scanning.{arcs_history, owner_of, Front}
use Rattle.rules.proofs.Closing.{opened}
use Rattle.rules.proofs.Steps.{StepWants, ShutWants, Emptier}

-- slots of different owners, each in the list ys: no more of them than ys is long
fits : (xs ys : List ℕ) (os : List (Option ℕ)) → ((q q' r : ℕ) → get_or os q None ≡ Some r → get_or os q' None ≡ Some r → q ≡ q') → ((q : ℕ) → count q xs ≤ 1) → ((q : ℕ) → has q xs ≡ true → (r : ℕ) × (get_or os q None ≡ Some r) × (has r ys ≡ true)) → length xs ≤ length ys
fits [] ys os once distinct own = omega arith
fits (q ∷ qs) ys os once distinct own =
    let (r, h, m) = own q (has_self q qs) in
    omega (arith, length_without r ys m, fits qs (without r ys) os once (λ s. omega (arith, distinct s)) (λ s k. rest r h m s k (own s (or_right (eqb q s) (has s qs) k))))
  where
    rest : (r : ℕ) → get_or os q None ≡ Some r → has r ys ≡ true → (s : ℕ) → has s qs ≡ true → (t : ℕ) × (get_or os s None ≡ Some t) × (has t ys ≡ true) → (t : ℕ) × (get_or os s None ≡ Some t) × (has t (without r ys) ≡ true)
    rest r h m s k (t, f, g) = (t, f, count_has t (without r ys) (omega (arith, count_without r t ys m, has_count t ys g, hit_other t r (λ e. apart (sym e)))))
      where
        apart : r ≡ t → ⊥
        apart e = let same : q ≡ s = once q s r h (f ∙ ap Some (sym e)) in omega (arith, distinct q, count_self q qs, has_count q qs (subst (λ x. has x qs ≡ true) (sym same) k))

-- an open cycle after m steps: the black arc is what was scanned, m times K slots of records from before the opening, and
-- what was copied since the opening; some slot is grey
pub record Paced (z : Sizes) (b₀ : Book) (m : ℕ) (j : History) : Type 0 where
  pub scanned : List ℕ
  pub copied : List ℕ
  pub black : j.store.arcs.black ≡ scanned ++ copied
  pub size : length scanned ≡ m * z.scans
  pub few : length copied + z.places ≤ m * z.places
  pub scanned_old : (q : ℕ) → has q scanned ≡ true → (r : ℕ) → get_or j.slot_owners q None ≡ Some r → r < length b₀.records
  pub grey : 0 < length j.store.arcs.grey

good_old : (b₀ : Book) (r : ℕ) → Good b₀ r → r < length b₀.records → Reachable b₀ r
good_old b₀ r (inl y) l = y
good_old b₀ r (inr m) l = absurd (omega arith)

old_once : (z : Sizes) (j : History) → Inv z j → (q q' r : ℕ) → get_or j.slot_owners q None ≡ Some r → get_or j.slot_owners q' None ≡ Some r → q ≡ q'
old_once z j inv q q' r h h' = let e : Old q ≡ Old q' = inv.owners.unique (Old q) (Old q') r h h' in cc

-- marked slots of records from before the opening: no more than were reachable then
pub reach_bound : (z : Sizes) (b₀ : Book) (j : History) → Inv z j → Marks b₀ j.nursery_owners j.slot_owners j.store.arcs → (xs : List ℕ) → ((q : ℕ) → count q xs ≤ count q j.store.arcs.grey + count q j.store.arcs.black) → ((q : ℕ) → has q xs ≡ true → (r : ℕ) → get_or j.slot_owners q None ≡ Some r → r < length b₀.records) → (n : ℕ) → Counted b₀ n → length xs ≤ n
reach_bound z b₀ j inv marks xs among olds n c = subst (λ k. length xs ≤ k) c.size (fits xs c.records j.slot_owners (old_once z j inv) (λ q. omega (arith, among q, ring_once inv.ring q)) own)
  where
    own : (q : ℕ) → has q xs ≡ true → (r : ℕ) × (get_or j.slot_owners q None ≡ Some r) × (has r c.records ≡ true)
    own q h =
        let l : 0 < count q j.store.arcs.grey + count q j.store.arcs.black = omega (arith, has_count q xs h, among q) in
        let (r, k) = owner_of z j inv q (omega arith) in
        (r, k, c.all r (good_old b₀ r (marks.marked q r k l) (olds q h r k)))

pub paced_bound : (z : Sizes) (b : Barrier) (lawful : Lawful b) (b₀ : Book) (m : ℕ) (j : History) → Inv z j → Open b lawful b₀ j → Paced z b₀ m j → (n : ℕ) → Counted b₀ n → m * z.scans < n
paced_bound z b lawful b₀ m j inv o p n c = omega (arith, p.size, p.grey, length-append p.scanned j.store.arcs.grey, reach_bound z b₀ j inv o.marks (p.scanned ++ j.store.arcs.grey) (λ q. omega (arith, count_append q p.scanned j.store.arcs.grey, ap (count q) p.black, count_append q p.scanned p.copied)) olds n c)
  where
    olds : (q : ℕ) → has q (p.scanned ++ j.store.arcs.grey) ≡ true → (r : ℕ) → get_or j.slot_owners q None ≡ Some r → r < length b₀.records
    olds q h r k = go (cases_lt 0 (count q p.scanned))
      where
        go : (0 < count q p.scanned) ⊎ (count q p.scanned ≤ 0) → r < length b₀.records
        go (inl l) = p.scanned_old q (count_has q p.scanned l) r k
        go (inr l) = o.marks.unscanned q r k (omega (arith, has_count q (p.scanned ++ j.store.arcs.grey) h, count_append q p.scanned j.store.arcs.grey))

-- effects
paced_shaded : (z : Sizes) (b₀ : Book) (m : ℕ) (j j' : History) → Shaded j.store.arcs j'.store.arcs → j'.slot_owners ≡ j.slot_owners → Paced z b₀ m j → Paced z b₀ m j'
paced_shaded z b₀ m j j' s e p = record { scanned = p.scanned; copied = p.copied; black = s.black ∙ p.black; size = p.size; few = p.few; scanned_old = λ q h r k. p.scanned_old q h r (subst (λ os. get_or os q None ≡ Some r) e k); grey = omega (arith, p.grey, shaded_grey s) }

pub effect_paced : (z : Sizes) (b : Barrier) (b₀ : Book) (m : ℕ) (j j' : History) → Effect z b j j' → Paced z b₀ m j → Paced z b₀ m j'
effect_paced z b b₀ m j j' (stay) p = p
effect_paced z b b₀ m j j' (puts i w x s o) p = paced_shaded z b₀ m j (put_history j i w x) (shaded_refl j.store.arcs) refl p
effect_paced z b b₀ m j j' (makes i x y r f g) p = paced_shaded z b₀ m j (make_history j i x y) (shaded_refl j.store.arcs) refl p
effect_paced z b b₀ m j j' (writes_young n r k w x h y s o) p = paced_shaded z b₀ m j (link_young j n r k w x) (shaded_refl j.store.arcs) refl p
effect_paced z b b₀ m j j' (writes_old q r k w x h y s o) p = paced_shaded z b₀ m j (link_old b j q r k w x) (shaded_write b j.store.cycle (marked j.store.arcs q) (link_at j.store.slots q k) w j.store.arcs) refl p
effect_paced z b b₀ m j j' (fills n r pl h) p = go n
  where
    go : (n : Place) → Paced z b₀ m (fill_history j n r pl)
    go (Young n) = paced_shaded z b₀ m j (fill_history j (Young n) r pl) (shaded_refl j.store.arcs) refl p
    go (Old q) = paced_shaded z b₀ m j (fill_history j (Old q) r pl) (shaded_refl j.store.arcs) refl p

-- still open after a step: one more step
abbrev pub PacedIf : Sizes → Book → ℕ → History → Type 0
PacedIf z b₀ m j = j.store.cycle ≡ true → Paced z b₀ m j

pub made_all : {n : ℕ} {a a' : Arcs} (f : Front n a a') → 0 < length a'.grey → length f.new ≡ n
made_all {n} {a} {a'} f l = go f.made
  where
    go : (a'.grey ≡ []) ⊎ (length f.new ≡ n) → length f.new ≡ n
    go (inl e) = absurd (omega (arith, ap length e))
    go (inr e) = e

-- the black arc after a step of an open cycle
module _ (z : Sizes) (b : Barrier) (lawful : Lawful b) (b₀ : Book) (m : ℕ) (j : History) (inv : Inv z j) (p : Paced z b₀ m j) (os' : List (Option ℕ)) (e : Emptier z b j os') (o' : Open b lawful b₀ (after_copying (visit_all z b j.store) j.book os')) (k : ℕ) (a' : Arcs) (f : Front k (visit_all z b j.store).store.arcs a') where
  abbrev copied_now : List ℕ
  copied_now = (visit_all z b j.store).copied

  pub after_black : a'.black ≡ (f.new ++ p.scanned) ++ (p.copied ++ copied_now)
  after_black = f.black ∙ ap (λ xs. f.new ++ xs) (e.black ∙ ap (λ xs. xs ++ copied_now) p.black ∙ append_assoc p.scanned p.copied copied_now) ∙ sym (append_assoc f.new p.scanned (p.copied ++ copied_now))

  pub after_old : (q : ℕ) → has q (f.new ++ p.scanned) ≡ true → (r : ℕ) → get_or os' q None ≡ Some r → r < length b₀.records
  after_old q h r i = olds (cases_lt 0 (count q f.new))
    where
      olds : (0 < count q f.new) ⊎ (count q f.new ≤ 0) → r < length b₀.records
      olds (inl y) = o'.marks.unscanned q r i (f.from q (count_has q f.new y))
      olds (inr y) =
          let in_scanned : 0 < count q p.scanned = omega (arith, has_count q (f.new ++ p.scanned) h, count_append q f.new p.scanned) in
          let (t, g) = owner_of z j inv q (omega (arith, ap (count q) p.black, count_append q p.scanned p.copied)) in
          let same : t ≡ r = some_is (e.more q t g) i in
          subst (λ n. n < length b₀.records) same (p.scanned_old q (count_has q p.scanned in_scanned) t g)

  pub after_few : length (p.copied ++ copied_now) ≤ m * z.places
  after_few = simp length-append (omega (arith, p.few, e.few))

pub step_paced : (z : Sizes) (b : Barrier) (lawful : Lawful b) (b₀ : Book) (m : ℕ) (j : History) → Inv z j → Paced z b₀ m j → StepWants (PacedIf z b₀ (suc m)) z b lawful b₀ j
step_paced z b lawful b₀ m j inv p = record { from = λ os' e o'. record { if_open = λ a' s l _. paced os' e o' a' s.front l; if_closed = λ a' s l y. absurd (true≢false (sym y)) } }
  where
    paced : (os' : List (Option ℕ)) (e : Emptier z b j os') (o' : Open b lawful b₀ (after_copying (visit_all z b j.store) j.book os')) (a' : Arcs) (f : Front z.scans (visit_all z b j.store).store.arcs a') → 0 < length a'.grey → Paced z b₀ (suc m) (arcs_history (after_copying (visit_all z b j.store) j.book os') a')
    paced os' e o' a' f l = record {
      scanned = f.new ++ p.scanned;
      copied = p.copied ++ (visit_all z b j.store).copied;
      black = after_black z b lawful b₀ m j inv p os' e o' z.scans a' f;
      size = simp length-append (omega (arith, made_all f l, p.size));
      few = omega (arith, after_few z b lawful b₀ m j inv p os' e o' z.scans a' f);
      scanned_old = after_old z b lawful b₀ m j inv p os' e o' z.scans a' f;
      grey = l;
    }

pub first_paced : (z : Sizes) (b : Barrier) (lawful : Lawful b) (j : History) → ShutWants (PacedIf z j.book 1) z b lawful j z.scans
first_paced z b lawful j = record { from = λ os' e o'. record { if_open = λ a' s l _. paced os' o' a' s.front l; if_closed = λ a' s l y. absurd (true≢false (sym y)) } }
  where
    paced : (os' : List (Option ℕ)) (o' : Open b lawful j.book (opened (after_copying (visit_all z b j.store) j.book os'))) (a' : Arcs) (f : Front z.scans (opened (after_copying (visit_all z b j.store) j.book os')).store.arcs a') → 0 < length a'.grey → Paced z j.book 1 (arcs_history (opened (after_copying (visit_all z b j.store) j.book os')) a')
    paced os' o' a' f l = record {
      scanned = f.new;
      copied = [];
      black = f.black ∙ ap (λ xs. f.new ++ xs) (shaded_all (visit_all z b j.store).store.registers (open_arcs (visit_all z b j.store).store.arcs)).black;
      size = omega (arith, made_all f l);
      few = omega arith;
      scanned_old = λ q h r k. o'.marks.unscanned q r k (f.from q h);
      grey = l;
    }

-- what rounding up gives
pub cycle_steps_bound : (n k m : ℕ) → 1 ≤ k → cycle_steps n k ≤ m → n ≤ m * k
cycle_steps_bound n k m l h =
    let q = (n + (k - 1)) / k in
    let le : q ≤ m = omega arith in
    let prod : k * q ≤ k * m = mul-le-mul_left k le in
    omega arith
