-- Emptying the nursery keeps what holds while a cycle is open.
use Rattle.std.proofs.Common.{◌≡◌, ℕ, suc, ◌+◌, ◌<◌, ◌≤◌, Bool, true, false, eqb, ◌⊎◌, List, [], ◌∷◌, ◌++◌, length, get_or, drop, set, Some, None, Option, sym, refl, ap, ◌∙◌, subst, inl, inr, arith, drop-cons}
use Rattle.words.specs.Words.{place_of}
use Rattle.words.specs.declared.place.Place.TheVariants.{Old}
use Rattle.ring.specs.Arcs.{Arcs, has}
use Rattle.rules.specs.Rules.{Barrier, Lawful, Sizes, Evacuation, shade_if, link_at, set_link, put_register, put_link, rescanning, begin_evacuation, visit_all}
use Rattle.rules.specs.Book.{nil, ref, Book, Reachable}
use Rattle.rules.specs.History.{History, HoldsIn}
use Rattle.rules.specs.Promise.{StandsForIn}
use Rattle.std.proofs.lemmas.Bool.{cases_eq, true≢false, or_cases, eqb-true, and_from}
use Rattle.std.proofs.lemmas.List.{append-nil, drop_all}
use Rattle.ring.specs.Sound.{count}
use Rattle.ring.proofs.Chain.{has_count, count_append}
use Rattle.rules.proofs.Counting.{count_other}
use Rattle.rules.proofs.Standing.{link_at_cases}
use Rattle.rules.proofs.Invariant.{Inv}
use Rattle.rules.proofs.Shading.{Shaded, shaded_if, ring_once}
use Rattle.rules.proofs.Evacuating.{Evacuating, Fine, todo_push, has_push_more, has_push_self}
use Rattle.rules.proofs.Copying.{copied_to, taken, q_once, split, slot_other, copy_more}
use Rattle.rules.proofs.Visiting.{Carried, Came}
use Rattle.rules.proofs.EmptyNursery.{Ground, copied_black, ground_copy, ground_register, ground_link, after_copying, Emptied, emptied}
use Rattle.rules.proofs.OpenCycle.{Good, NonWhite, NotBlack, link_of, Marks, SnapshotKeeps, BarrierKeeps, Open, snap_shaded, marks_if, good_word}

-- no black slot but one still to be visited leads to a white one
abbrev pub NoneBut : ℕ → Evacuation → Type 0
NoneBut i c = (q k t : ℕ) → 0 < count q c.store.arcs.black → place_of (link_at c.store.slots q k) ≡ Some (Old t) → (count t c.store.arcs.white ≡ 0) ⊎ (has q (drop i c.copied) ≡ true)

abbrev pub KindMid : (b : Barrier) → Lawful b → Book → Book → ℕ → Evacuation → List (Option ℕ) → Type 0
KindMid b (inl l) b₀ bk i c os = SnapshotKeeps b₀ bk os c.store.arcs
KindMid b (inr l) b₀ bk i c os = NoneBut i c

pub record OpenMid (b : Barrier) (lawful : Lawful b) (b₀ : Book) (j : History) (i : ℕ) (c : Evacuation) (os : List (Option ℕ)) : Type 0 where
  pub ground : Ground j.store j.slot_owners c os
  pub marks : Marks b₀ j.nursery_owners os c.store.arcs
  pub kind : KindMid b lawful b₀ j.book i c os

module _ (z : Sizes) (b : Barrier) (lawful : Lawful b) (b₀ : Book) (j : History) (inv : Inv z j) (o : Open b lawful b₀ j) where
  abbrev E : ℕ → Evacuation → List (Option ℕ) → Type 0
  E = OpenMid b lawful b₀ j

  abbrev ns : List ℕ
  ns = j.nursery_owners

  abbrev bk : Book
  bk = j.book

  -- the copy
  module _ (front : List ℕ) (i : ℕ) (c : Evacuation) (os : List (Option ℕ)) (mid : Evacuating z ns bk E front i c os) (p q : ℕ) (qs : List ℕ) (first : c.store.arcs.free ≡ q ∷ qs) (within : p < length ns) (not_evacuated : get_or c.forward p None ≡ None) where
    abbrev a : Arcs
    a = c.store.arcs

    abbrev r : ℕ
    r = get_or ns p 0

    abbrev os' : List (Option ℕ)
    os' = set os q (Some r)

    sp : (s t : ℕ) → get_or os' s None ≡ Some t → ((s ≡ q) × (t ≡ r)) ⊎ ((s ≡ q → ⊥) × (get_or os s None ≡ Some t))
    sp = split z ns bk E front i c os mid p q qs first within not_evacuated

    q_only_free : (count q a.white ≡ 0) × (count q a.grey ≡ 0)
    q_only_free = let e = q_once z ns bk E front i c os mid p q qs first within not_evacuated in let l = ring_once mid.ring q in (omega arith, omega arith)

    new_good : length b₀.records ≤ r
    new_good = mid.extra.marks.nursery_new p r (within, refl)

    black_other : (s : ℕ) → (s ≡ q → ⊥) → count s (a.black ++ (q ∷ [])) ≡ count s a.black
    black_other s n = omega (arith, count_append s a.black (q ∷ []), count_other s q [] (λ e. n (sym e)))

    copy_marks : Marks b₀ ns os' (taken a q qs)
    copy_marks = record { marked = λ s t h l. mark s t l (sp s t h); unscanned = λ s t h l. scan s t l (sp s t h); nursery_new = mid.extra.marks.nursery_new }
      where
        mark : (s t : ℕ) → 0 < count s a.grey + count s (a.black ++ (q ∷ [])) → ((s ≡ q) × (t ≡ r)) ⊎ ((s ≡ q → ⊥) × (get_or os s None ≡ Some t)) → Good b₀ t
        mark s t l (inl e) = inr (omega (arith, new_good, e.1))
        mark s t l (inr e) = mid.extra.marks.marked s t e.1 (omega (arith, black_other s e.0))

        scan : (s t : ℕ) → 0 < count s a.white + count s a.grey → ((s ≡ q) × (t ≡ r)) ⊎ ((s ≡ q → ⊥) × (get_or os s None ≡ Some t)) → t < length b₀.records
        scan s t l (inl e) = absurd (omega (arith, subst (λ n. 0 < count n a.white + count n a.grey) e.0 l, q_only_free.0, q_only_free.1))
        scan s t l (inr e) = mid.extra.marks.unscanned s t e.1 l

    copy_snap : SnapshotKeeps b₀ bk os c.store.arcs → SnapshotKeeps b₀ bk os' (taken a q qs)
    copy_snap n = record { kept = λ t y. let (s, h) = n.kept t y in (s, copy_more z ns bk E front i c os mid p q qs first within not_evacuated (Old s) t h); held = λ m t e. white t (n.held m t e); linked = λ s k t y e. go s k t y (n.linked s k t y e) }
      where
        white : (t : ℕ) → NonWhite os a t → NonWhite os' (taken a q qs) t
        white t f s h = by (sp s t h)
          where
            by : ((s ≡ q) × (t ≡ r)) ⊎ ((s ≡ q → ⊥) × (get_or os s None ≡ Some t)) → count s a.white ≡ 0
            by (inl e) = ap (λ n. count n a.white) e.0 ∙ q_only_free.0
            by (inr e) = f s e.1

        black : (t : ℕ) → Reachable b₀ t → NotBlack os a t → NotBlack os' (taken a q qs) t
        black t y f s h = by (sp s t h)
          where
            by : ((s ≡ q) × (t ≡ r)) ⊎ ((s ≡ q → ⊥) × (get_or os s None ≡ Some t)) → count s (a.black ++ (q ∷ [])) ≡ 0
            by (inl e) = absurd (omega (arith, new_good, e.1, o.bounded t y))
            by (inr e) = black_other s e.0 ∙ f s e.1

        go : (s k t : ℕ) → Reachable b₀ s → NonWhite os a t ⊎ (NotBlack os a s × (link_of bk s k ≡ ref t)) → NonWhite os' (taken a q qs) t ⊎ (NotBlack os' (taken a q qs) s × (link_of bk s k ≡ ref t))
        go s k t y (inl f) = inl (white t f)
        go s k t y (inr f) = inr (black s y f.0, f.1)

    copy_none : NoneBut i c → NoneBut i (copied_to p q qs c)
    copy_none n s k t l e = by (cases_eq s q)
      where
        left : drop i (c.copied ++ (q ∷ [])) ≡ drop i c.copied ++ (q ∷ [])
        left = todo_push [] i c.copied q mid.visited

        to_left : (s : ℕ) → has s (drop i c.copied ++ (q ∷ [])) ≡ true → has s (drop i (c.copied ++ (q ∷ []))) ≡ true
        to_left s h = subst (λ xs. has s xs ≡ true) (sym left) h

        wider : (count t a.white ≡ 0) ⊎ (has s (drop i c.copied) ≡ true) → (count t a.white ≡ 0) ⊎ (has s (drop i (c.copied ++ (q ∷ []))) ≡ true)
        wider (inl f) = inl f
        wider (inr f) = inr (to_left s (has_push_more s q (drop i c.copied) f))

        by : (s ≡ q) ⊎ (s ≡ q → ⊥) → (count t a.white ≡ 0) ⊎ (has s (drop i (c.copied ++ (q ∷ []))) ≡ true)
        by (inl f) = inr (to_left s (subst (λ x. has x (drop i c.copied ++ (q ∷ [])) ≡ true) (sym f) (has_push_self q (drop i c.copied))))
        by (inr f) = wider (n s k t (omega (arith, black_other s f)) (ap (λ x. place_of (get_or x.links k 0)) (sym (slot_other z ns bk E front i c os mid p q qs first within not_evacuated s f)) ∙ e))

    copy_kind : (l : Lawful b) → KindMid b l b₀ bk i c os → KindMid b l b₀ bk i (copied_to p q qs c) os'
    copy_kind (inl l) n = copy_snap n
    copy_kind (inr l) n = copy_none n

    open_copy : E i (copied_to p q qs c) os'
    open_copy = record { ground = ground_copy j.store j.slot_owners c os mid.extra.ground p q qs r first (omega (arith, mid.forward_size)) not_evacuated; marks = copy_marks; kind = copy_kind lawful mid.extra.kind }

  rescan_quiet : (again : Bool) → j.store.cycle ≡ false → again ≡ false
  rescan_quiet again e = absurd (true≢false (sym o.cycle ∙ e))

  shade_none : (again : Bool) (w i : ℕ) (c c' : Evacuation) → c'.store.arcs ≡ shade_if again w c.store.arcs → c'.copied ≡ c.copied → ((q k t : ℕ) → 0 < count q c.store.arcs.black → place_of (link_at c'.store.slots q k) ≡ Some (Old t) → (count t c.store.arcs.white ≡ 0) ⊎ (has q (drop i c.copied) ≡ true)) → NoneBut i c'
  shade_none again w i c c' e d n q k t l h = go (n q k t (subst (λ f. 0 < count q f) (ap (λ x. x.black) e ∙ s.black) l) h)
    where
      s : Shaded c.store.arcs (shade_if again w c.store.arcs)
      s = shaded_if again w c.store.arcs

      go : (count t c.store.arcs.white ≡ 0) ⊎ (has q (drop i c.copied) ≡ true) → (count t c'.store.arcs.white ≡ 0) ⊎ (has q (drop i c'.copied) ≡ true)
      go (inl f) = inl (ap (λ x. count t x.white) e ∙ omega (arith, s.white t))
      go (inr f) = inr (subst (λ xs. has q (drop i xs) ≡ true) (sym d) f)

  open_register : (again : Bool) (front : List ℕ) (i : ℕ) (c : Evacuation) (os : List (Option ℕ)) → Evacuating z ns bk E front i c os → (k w : ℕ) → StandsForIn (HoldsIn ns os) w (get_or bk.registers k nil) → E i (put_register again k w c) os
  open_register again front i c os mid k w s = record {
    ground = ground_register j.store j.slot_owners again (rescan_quiet again) c os mid.extra.ground k w;
    marks = marks_if again w (λ _. good_word b₀ ns os w (get_or bk.registers k nil) s (λ t e. o.book.regs k t e)) mid.extra.marks;
    kind = go lawful mid.extra.kind;
  }
    where
      go : (l : Lawful b) → KindMid b l b₀ bk i c os → KindMid b l b₀ bk i (put_register again k w c) os
      go (inl l) n = snap_shaded (shaded_if again w c.store.arcs) n
      go (inr l) n = shade_none again w i c (put_register again k w c) refl refl n

  open_link : (again : Bool) (front : List ℕ) (i : ℕ) (c : Evacuation) (os : List (Option ℕ)) → Evacuating z ns bk E front i c os → (q r k w : ℕ) → (again ≡ true → has q c.copied ≡ true) → get_or os q None ≡ Some r → StandsForIn (HoldsIn ns os) w (link_of bk r k) → Came (link_at c.store.slots q k) w c → E i (put_link again q k w c) os
  open_link again front i c os mid q r k w y h s came = record {
    ground = ground_link j.store j.slot_owners again (rescan_quiet again) c os mid.extra.ground q k w;
    marks = marks_if again w (λ e. good_word b₀ ns os w (link_of bk r k) s (λ t f. o.book.links r k t (mid.extra.marks.marked q r h (omega (arith, has_count q c.store.arcs.black (copied_black mid.extra.ground q (y e))))) f)) mid.extra.marks;
    kind = go lawful mid.extra.kind;
  }
    where
      at : NoneBut i c → (s m t : ℕ) → 0 < count s c.store.arcs.black → place_of (link_at (set_link c.store.slots q k w) s m) ≡ Some (Old t) → (link_at (set_link c.store.slots q k w) s m ≡ link_at c.store.slots s m) ⊎ ((s ≡ q) × (m ≡ k) × (link_at (set_link c.store.slots q k w) s m ≡ w)) → (count t c.store.arcs.white ≡ 0) ⊎ (has s (drop i c.copied) ≡ true)
      at n s m t l e (inl f) = n s m t l (ap place_of (sym f) ∙ e)
      at n s m t l e (inr f) = by came
        where
          w_to : place_of w ≡ Some (Old t)
          w_to = ap place_of (sym f.2) ∙ e

          by : Came (link_at c.store.slots q k) w c → (count t c.store.arcs.white ≡ 0) ⊎ (has s (drop i c.copied) ≡ true)
          by (inl g) = n s m t l (ap (λ x. place_of (link_at c.store.slots x m)) f.0 ∙ ap (λ x. place_of (link_at c.store.slots q x)) f.1 ∙ ap place_of (sym g) ∙ w_to)
          by (inr g) = let same : Some (Old g.0) ≡ Some (Old t) = sym g.1 ∙ w_to in let t_is : g.0 ≡ t = cc in inl (subst (λ x. count x c.store.arcs.white ≡ 0) t_is (omega (arith, ring_once mid.ring g.0, has_count g.0 c.store.arcs.black (copied_black mid.extra.ground g.0 g.2))))

      go : (l : Lawful b) → KindMid b l b₀ bk i c os → KindMid b l b₀ bk i (put_link again q k w c) os
      go (inl l) n = snap_shaded (shaded_if again w c.store.arcs) n
      go (inr l) n = shade_none again w i c (put_link again q k w c) refl refl (λ s m t p e. at n s m t p e (link_at_cases c.store.slots q k w s m))

  open_done : (i : ℕ) (c : Evacuation) (os : List (Option ℕ)) → Evacuating z ns bk E [] i c os → i < length c.copied → ((k : ℕ) → Fine (rescanning b j.store) c.store.arcs (link_at c.store.slots (get_or c.copied i 0) k)) → E (suc i) c os
  open_done i c os mid l fine = record { ground = mid.extra.ground; marks = mid.extra.marks; kind = go lawful mid.extra.kind }
    where
      first : drop i c.copied ≡ get_or c.copied i 0 ∷ drop (suc i) c.copied
      first = drop-cons c.copied i 0 l

      narrow : b.rescans ≡ true → NoneBut i c → NoneBut (suc i) c
      narrow again n q k t p e = by (n q k t p e)
        where
          rescans : rescanning b j.store ≡ true
          rescans = and_from j.store.cycle b.rescans o.cycle again

          at : (eqb (get_or c.copied i 0) q ≡ true) ⊎ (has q (drop (suc i) c.copied) ≡ true) → (count t c.store.arcs.white ≡ 0) ⊎ (has q (drop (suc i) c.copied) ≡ true)
          at (inr f) = inr f
          at (inl f) = inl ((fine k).unwhite rescans t (ap (λ x. place_of (link_at c.store.slots x k)) (eqb-true (get_or c.copied i 0) q f) ∙ e))

          by : (count t c.store.arcs.white ≡ 0) ⊎ (has q (drop i c.copied) ≡ true) → (count t c.store.arcs.white ≡ 0) ⊎ (has q (drop (suc i) c.copied) ≡ true)
          by (inl f) = inl f
          by (inr f) = at (or_cases (eqb (get_or c.copied i 0) q) (has q (drop (suc i) c.copied)) (subst (λ xs. has q xs ≡ true) first f))

      go : (l : Lawful b) → KindMid b l b₀ bk i c os → KindMid b l b₀ bk (suc i) c os
      go (inl l) n = n
      go (inr l) n = narrow l.0 n

  pub carried : Carried z ns bk E (rescanning b j.store)
  carried = record {
    on_copy = open_copy;
    on_register = λ front i c os mid k w s. open_register (rescanning b j.store) front i c os mid k w s;
    on_link = λ front i c os mid again q r k w y h s came. open_link again front i c os mid q r k w (λ e. (y e).1) h s came;
    on_done = open_done;
  }

  pub start : E 0 (begin_evacuation j.store) j.slot_owners
  start = record {
    ground = record { cycle = refl; quiet = inv.quiet; from = λ q. inl refl; black = sym (append-nil j.store.arcs.black); free = omega arith };
    marks = o.marks;
    kind = go lawful o.kind;
  }
    where
      go : (l : Lawful b) → BarrierKeeps b l b₀ j → KindMid b l b₀ bk 0 (begin_evacuation j.store) j.slot_owners
      go (inl l) n = n
      go (inr l) n = λ q k t p e. inl (n.black q k t p e)

  pub open_emptied : Emptied z b j inv E carried start (λ i c os e. e.ground) (visit_all z b j.store)
  open_emptied = emptied z b j inv E carried start (λ i c os e. e.ground)

  pub open_after : (c : Evacuation) (e : Emptied z b j inv E carried start (λ i c os e. e.ground) c) → Open b lawful b₀ (after_copying c j.book e.os')
  open_after c e = record {
    cycle = e.mid.extra.ground.cycle ∙ o.cycle;
    bounded = o.bounded;
    book = o.book;
    marks = record { marked = e.mid.extra.marks.marked; unscanned = e.mid.extra.marks.unscanned; nursery_new = λ p r h. absurd (omega (arith, h.0)) };
    kind = go lawful e.mid.extra.kind;
  }
    where
      go : (l : Lawful b) → KindMid b l b₀ bk (length c.copied) c e.os' → BarrierKeeps b l b₀ (after_copying c j.book e.os')
      go (inl l) n = n
      go (inr l) n = record { black = λ q k t p f. by q t (n q k t p f) }
        where
          by : (q t : ℕ) → (count t c.store.arcs.white ≡ 0) ⊎ (has q (drop (length c.copied) c.copied) ≡ true) → count t c.store.arcs.white ≡ 0
          by q t (inl f) = f
          by q t (inr f) = absurd (true≢false (sym (subst (λ xs. has q xs ≡ true) (drop_all (length c.copied) c.copied (omega arith)) f)))
