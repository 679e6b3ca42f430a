-- Opening a cycle, and closing it with nothing grey.
use Rattle.std.proofs.Common.{◌≡◌, ℕ, zero, suc, ◌<◌, ◌≤◌, Bool, true, false, cond, ◌||◌, eqb, ◌⊎◌, List, [], ◌∷◌, ◌++◌, length, get_or, set, Some, None, Option, sym, refl, ap, ◌∙◌, subst, inl, inr, arith}
use Rattle.words.specs.Words.{place_of}
use Rattle.words.specs.declared.place.Place.{Place}
use Rattle.words.specs.declared.place.Place.TheVariants.{Young, Old}
use Rattle.ring.specs.Arcs.{Arcs, has, open_arcs, close_arcs}
use Rattle.rules.specs.Rules.{Barrier, Lawful, Sizes, with_arcs, with_cycle, shade_all, link_at, open_cycle}
use Rattle.rules.specs.Book.{BookWord, nil, num, ref, no_book_record, Book, Reachable, held, linked}
use Rattle.rules.specs.History.{History, HoldsIn, Holds, owners_after_freeing}
use Rattle.rules.specs.Promise.{LeadsTo, StandsForIn, StandsFor}
use Rattle.std.proofs.lemmas.Bool.{cases_lt, true≢false, lt-ltb, eqb-true, eqb-false}
use Rattle.std.proofs.lemmas.List.{length-append, length-set, get_or-set_other, get_or_past}
use Rattle.ring.specs.Sound.{count}
use Rattle.ring.proofs.Chain.{count_append, has_count, count_hasnt}
use Rattle.rules.proofs.Counting.{one_if, hasnt_count}
use Rattle.rules.proofs.Standing.{place_of_number}
use Rattle.rules.proofs.Invariant.{Fields, Ring, Inv, place_from, placed}
use Rattle.rules.proofs.Shading.{Shaded, shaded_all, shaded_ring, shade_all_white, ring_once}
use Rattle.rules.proofs.Evacuating.{none_some, some_is, some_within}
use Rattle.rules.proofs.OpenCycle.{Good, NonWhite, NotBlack, link_of, ClosedUnder, Marks, SnapshotKeeps, BarrierKeeps, Open, marks_all, good_word}
use Rattle.rules.proofs.Scanning.{owner_of}

-- the registers lead to no white slot
abbrev pub RegsClear : History → Type 0
RegsClear j = (k t : ℕ) → place_of (get_or j.store.registers k 0) ≡ Some (Old t) → count t j.store.arcs.white ≡ 0

abbrev pub opened : History → History
opened j = record { store = open_cycle j.store; book = j.book; nursery_owners = j.nursery_owners; slot_owners = j.slot_owners }

module _ (z : Sizes) (b : Barrier) (lawful : Lawful b) (j : History) (inv : Inv z j) (no_young : j.nursery_owners ≡ []) (shut : j.store.cycle ≡ false) where
  abbrev a₀ : Arcs
  a₀ = open_arcs j.store.arcs

  abbrev a₁ : Arcs
  a₁ = shade_all j.store.registers a₀

  was_quiet : (j.store.arcs.white ≡ []) × (j.store.arcs.grey ≡ [])
  was_quiet = inv.quiet shut

  no_place : (p r : ℕ) → Holds j (Young p) r → ⊥
  no_place p r h = omega (arith, h.0, ap length no_young)

  ring₀ : Ring z.slots a₀
  ring₀ = record { size = omega (arith, inv.ring.size, ap length was_quiet.0, ap length was_quiet.1); each = λ q. omega (arith, inv.ring.each q, ap (count q) was_quiet.0, ap (count q) was_quiet.1) }

  shades : Shaded a₀ a₁
  shades = shaded_all j.store.registers a₀

  pub opened_inv : Inv z (opened j)
  opened_inv = record {
    regs_size = inv.regs_size;
    book_regs_size = inv.book_regs_size;
    nursery_size = inv.nursery_size;
    nursery_cap = inv.nursery_cap;
    slots_size = inv.slots_size;
    ring = shaded_ring shades ring₀;
    quiet = λ e. absurd (true≢false e);
    room = rw shades.free inv.room;
    owners = rw shades.free inv.owners;
    fields = inv.fields;
    regs = inv.regs;
    noted = inv.noted;
    noted_once = inv.noted_once;
  }

  pub opened_clear : RegsClear (opened j)
  opened_clear k t e = shade_all_white j.store.registers k t a₀ e (omega (arith, ring_once ring₀ t))

  self : ClosedUnder j.book j.book
  self = record { longer = omega arith; regs = λ i t e. inl (held i e); links = λ r k t g e. go r k t g e }
    where
      go : (r k t : ℕ) → Good j.book r → link_of j.book r k ≡ ref t → Good j.book t
      go r k t (inl y) e = inl (linked k y e)
      go r k t (inr l) e = let h : nil ≡ ref t = sym (ap (λ v. get_or v.links k nil) (get_or_past j.book.records r no_book_record l)) ∙ e in let n : ◌≡◌ {A = ℕ} 0 1 = cc in absurd (omega arith)

  marks₁ : Marks j.book j.nursery_owners j.slot_owners a₁
  marks₁ = marks_all j.store.registers a₀ (λ k. good_word j.book j.nursery_owners j.slot_owners (get_or j.store.registers k 0) (get_or j.book.registers k nil) (inv.regs k) (λ t e. inl (held k e))) (record { marked = λ q r h l. absurd (omega arith); unscanned = λ q r h l. inv.owners.below (Old q) r h; nursery_new = λ p r h. absurd (no_place p r h) })

  old_place : (r : ℕ) → Reachable j.book r → (q : ℕ) × (get_or j.slot_owners q None ≡ Some r)
  old_place r y = let (p, h) = placed z j inv y in go p h
    where
      go : (p : Place) → Holds j p r → (q : ℕ) × (get_or j.slot_owners q None ≡ Some r)
      go (Young p) h = absurd (no_place p r h)
      go (Old q) h = (q, h)

  opened_kind : (l : Lawful b) → BarrierKeeps b l j.book (opened j)
  opened_kind (inl l) = record { kept = old_place; held = in_register; linked = λ r k t y e. inr (λ q h. ap (count q) shades.black, e) }
    where
      in_register : (i t : ℕ) → get_or j.book.registers i nil ≡ ref t → NonWhite j.slot_owners a₁ t
      in_register i t e q h =
          let (p, f, k) = place_from (Holds j) (get_or j.store.registers i 0) t (subst (λ v. StandsFor j (get_or j.store.registers i 0) v) e (inv.regs i)) in
          opened_clear i q (f ∙ ap Some (inv.owners.unique p (Old q) t k h))
  opened_kind (inr l) = record { black = λ q k t p e. absurd (omega (arith, ap (count q) shades.black)) }

  pub opened_open : Open b lawful j.book (opened j)
  opened_open = record { cycle = refl; bounded = λ r y. let (p, h) = placed z j inv y in inv.owners.below p r h; book = self; marks = marks₁; kind = opened_kind lawful }

-- a free slot holds no record
set_none : (os : List (Option ℕ)) (s : ℕ) → get_or (set os s None) s None ≡ None
set_none [] s = refl
set_none (o ∷ os) zero = refl
set_none (o ∷ os) (suc s) = set_none os s

pub owners_after_freeing_at : (free : List ℕ) (os : List (Option ℕ)) (q : ℕ) → get_or (owners_after_freeing free os) q None ≡ cond (has q free) None (get_or os q None)
owners_after_freeing_at [] os q = refl
owners_after_freeing_at (s ∷ free) os q = owners_after_freeing_at free (set os s None) q ∙ go (eqb s q) refl (has q free)
  where
    go : (t : Bool) → eqb s q ≡ t → (u : Bool) → cond u None (get_or (set os s None) q None) ≡ cond (t || u) None (get_or os q None)
    go true e true = refl
    go false e true = refl
    go true e false = subst (λ n. get_or (set os s None) n None ≡ None) (eqb-true s q e) (set_none os s)
    go false e false = get_or-set_other os s q None None (λ f. eqb-false s q e (sym f))

pub owners_after_freeing_size : (free : List ℕ) (os : List (Option ℕ)) → length (owners_after_freeing free os) ≡ length os
owners_after_freeing_size [] os = refl
owners_after_freeing_size (s ∷ free) os = owners_after_freeing_size free (set os s None) ∙ length-set os s None

-- closing
abbrev pub closed_owners : History → List (Option ℕ)
closed_owners j = owners_after_freeing (close_arcs j.store.arcs).free j.slot_owners

abbrev pub closed : History → History
closed j = record { store = with_cycle false (with_arcs (close_arcs j.store.arcs) j.store); book = j.book; nursery_owners = j.nursery_owners; slot_owners = closed_owners j }

-- no black slot leads to a white one
abbrev pub BlackClear : History → Type 0
BlackClear j = (q k t : ℕ) → 0 < count q j.store.arcs.black → place_of (link_at j.store.slots q k) ≡ Some (Old t) → count t j.store.arcs.white ≡ 0

module _ (z : Sizes) (j : History) (inv : Inv z j) (no_nursery : j.store.nursery ≡ []) (no_notes : j.store.notes ≡ []) (no_grey : j.store.arcs.grey ≡ []) (regs_clear : RegsClear j) (black_clear : BlackClear j) where
  abbrev a : Arcs
  a = j.store.arcs

  abbrev os : List (Option ℕ)
  os = j.slot_owners

  abbrev os' : List (Option ℕ)
  os' = closed_owners j

  -- a record that still has a slot had it before, and the slot is black
  pub still_black : (q r : ℕ) → get_or os' q None ≡ Some r → (get_or os q None ≡ Some r) × (0 < count q a.black)
  still_black q r h = go (has q (a.free ++ a.white)) refl (sym (owners_after_freeing_at (a.free ++ a.white) os q) ∙ h)
    where
      go : (t : Bool) → has q (a.free ++ a.white) ≡ t → cond t None (get_or os q None) ≡ Some r → (get_or os q None ≡ Some r) × (0 < count q a.black)
      go true e f = absurd (none_some refl f)
      go false e f = (f, omega (arith, hasnt_count q (a.free ++ a.white) e, count_append q a.free a.white, inv.ring.each q, ap (count q) no_grey, ap one_if (lt-ltb q z.slots (omega (arith, inv.owners.size, some_within os q r f)))))

  -- a record in a slot that is not white keeps it
  pub stays : (q r : ℕ) → get_or os q None ≡ Some r → count q a.white ≡ 0 → get_or os' q None ≡ Some r
  stays q r h w = owners_after_freeing_at (a.free ++ a.white) os q ∙ ap (λ t. cond t None (get_or os q None)) (count_hasnt q (a.free ++ a.white) (omega (arith, count_append q a.free a.white, not_free))) ∙ h
    where
      not_free : count q a.free ≡ 0
      not_free = hasnt_count q a.free (go (has q a.free) refl)
        where
          go : (t : Bool) → has q a.free ≡ t → t ≡ false
          go false e = refl
          go true e = absurd (none_some (inv.owners.free_none q e) h)

  no_young_place : (p : ℕ) → p < length j.nursery_owners → ⊥
  no_young_place p h = omega (arith, ap length no_nursery, inv.nursery_size)

  stands_after : (w : ℕ) (x : BookWord) → StandsFor j w x → ((t : ℕ) → place_of w ≡ Some (Old t) → count t a.white ≡ 0) → StandsForIn (HoldsIn j.nursery_owners os') w x
  stands_after w nil s c = s
  stands_after w (num v) s c = s
  stands_after w (ref r) s c = go (place_of w) s c
    where
      go : (o : Option Place) → LeadsTo (Holds j) o r → ((t : ℕ) → o ≡ Some (Old t) → count t a.white ≡ 0) → LeadsTo (HoldsIn j.nursery_owners os') o r
      go None s c = s
      go (Some (Young p)) s c = s
      go (Some (Old q)) s c = stays q r s (c q refl)

  pub closed_inv : Inv z (closed j)
  closed_inv = record {
    regs_size = inv.regs_size;
    book_regs_size = inv.book_regs_size;
    nursery_size = inv.nursery_size;
    nursery_cap = inv.nursery_cap;
    slots_size = inv.slots_size;
    ring = record { size = omega (arith, inv.ring.size, length-append a.free a.white); each = λ q. omega (arith, inv.ring.each q, count_append q a.free a.white) };
    quiet = λ _. (refl, no_grey);
    room = omega (arith, ap length no_nursery);
    owners = record { size = owners_after_freeing_size (a.free ++ a.white) os ∙ inv.owners.size; free_none = free_none; none_free = none_free; below = below; unique = unique };
    fields = fields;
    regs = λ k. stands_after (get_or j.store.registers k 0) (get_or j.book.registers k nil) (inv.regs k) (regs_clear k);
    noted = record { owned = λ q h. absurd (true≢false (sym (subst (λ xs. has q xs ≡ true) no_notes h))); all = λ q r k h y. inv.noted.all q r k (still_black q r h).0 y };
    noted_once = inv.noted_once;
  }
    where
      free_none : (q : ℕ) → has q (a.free ++ a.white) ≡ true → get_or os' q None ≡ None
      free_none q h = owners_after_freeing_at (a.free ++ a.white) os q ∙ ap (λ t. cond t None (get_or os q None)) h

      none_free : (q : ℕ) → q < z.slots → get_or os' q None ≡ None → has q (a.free ++ a.white) ≡ true
      none_free q l h = go (has q (a.free ++ a.white)) refl (sym (owners_after_freeing_at (a.free ++ a.white) os q) ∙ h)
        where
          go : (t : Bool) → has q (a.free ++ a.white) ≡ t → cond t None (get_or os q None) ≡ None → t ≡ true
          go true e f = refl
          go false e f = absurd (omega (arith, has_count q a.free (inv.owners.none_free q l f), hasnt_count q (a.free ++ a.white) e, count_append q a.free a.white))

      below : (p : Place) (r : ℕ) → HoldsIn j.nursery_owners os' p r → r < length j.book.records
      below (Young p) r h = inv.owners.below (Young p) r h
      below (Old q) r h = inv.owners.below (Old q) r (still_black q r h).0

      back : (p : Place) (r : ℕ) → HoldsIn j.nursery_owners os' p r → Holds j p r
      back (Young p) r h = h
      back (Old q) r h = (still_black q r h).0

      unique : (p p' : Place) (r : ℕ) → HoldsIn j.nursery_owners os' p r → HoldsIn j.nursery_owners os' p' r → p ≡ p'
      unique p p' r h h' = inv.owners.unique p p' r (back p r h) (back p' r h')

      fields : Fields z.links j.nursery_owners os' j.store.nursery j.store.slots j.book.records
      fields (Young p) r h = absurd (no_young_place p h.0)
      fields (Old q) r h =
          let (h₀, l) = still_black q r h in
          let m = inv.fields (Old q) r h₀ in
          record { plain = m.plain; size = m.size; book_size = m.book_size; links = λ k. stands_after (link_at j.store.slots q k) (link_of j.book r k) (m.links k) (λ t e. black_clear q k t l e) }

-- an open cycle with nothing grey: what is good is not white
module _ (z : Sizes) (b : Barrier) (b₀ : Book) (j : History) (inv : Inv z j) (no_grey : j.store.arcs.grey ≡ []) (book : ClosedUnder b₀ j.book) (marks : Marks b₀ j.nursery_owners j.slot_owners j.store.arcs) (snap : SnapshotKeeps b₀ j.book j.slot_owners j.store.arcs) where
  owned_free : (q r : ℕ) → get_or j.slot_owners q None ≡ Some r → count q j.store.arcs.free ≡ 0
  owned_free q r h = hasnt_count q j.store.arcs.free (go (has q j.store.arcs.free) refl)
    where
      go : (t : Bool) → has q j.store.arcs.free ≡ t → t ≡ false
      go false e = refl
      go true e = absurd (none_some (inv.owners.free_none q e) h)

  reach_nonwhite : {t : ℕ} → Reachable b₀ t → NonWhite j.slot_owners j.store.arcs t
  reach_nonwhite {t} (held i e) = snap.held i t e
  reach_nonwhite {t} (linked {r = r} k y e) = go (snap.linked r k t y e) (reach_nonwhite y) (snap.kept r y)
    where
      go : NonWhite j.slot_owners j.store.arcs t ⊎ (NotBlack j.slot_owners j.store.arcs r × (link_of j.book r k ≡ ref t)) → NonWhite j.slot_owners j.store.arcs r → (q : ℕ) × (get_or j.slot_owners q None ≡ Some r) → NonWhite j.slot_owners j.store.arcs t
      go (inl f) w s = f
      go (inr f) w s = absurd (omega (arith, w s.0 s.1, f.0 s.0 s.1, ap (count s.0) no_grey, owned_free s.0 r s.1, inv.ring.each s.0, ap one_if (lt-ltb s.0 z.slots (omega (arith, inv.owners.size, some_within j.slot_owners s.0 r s.1)))))

  good_nonwhite : (t : ℕ) → Good b₀ t → (q : ℕ) → get_or j.slot_owners q None ≡ Some t → count q j.store.arcs.white ≡ 0
  good_nonwhite t (inl y) q h = reach_nonwhite y q h
  good_nonwhite t (inr l) q h = go (cases_lt 0 (count q j.store.arcs.white))
    where
      go : (0 < count q j.store.arcs.white) ⊎ (count q j.store.arcs.white ≤ 0) → count q j.store.arcs.white ≡ 0
      go (inl m) = absurd (omega (arith, marks.unscanned q t h (omega arith)))
      go (inr m) = omega arith

  word_clear : (w : ℕ) (x : BookWord) → StandsFor j w x → ((t : ℕ) → x ≡ ref t → Good b₀ t) → (q : ℕ) → place_of w ≡ Some (Old q) → count q j.store.arcs.white ≡ 0
  word_clear w nil s g q e = absurd (none_some (ap place_of s) e)
  word_clear w (num v) s g q e = absurd (none_some (ap place_of s.0 ∙ place_of_number v) e)
  word_clear w (ref t) s g q e =
      let (p, f, k) = place_from (Holds j) w t s in
      let same : p ≡ Old q = some_is f e in
      good_nonwhite t (g t refl) q (subst (λ P. Holds j P t) same k)

  pub snap_regs : RegsClear j
  snap_regs k t e = word_clear (get_or j.store.registers k 0) (get_or j.book.registers k nil) (inv.regs k) (λ s f. book.regs k s f) t e

  pub snap_black : BlackClear j
  snap_black q k t l e =
      let (r, h) = owner_of z j inv q (omega arith) in
      word_clear (link_at j.store.slots q k) (link_of j.book r k) ((inv.fields (Old q) r h).links k) (λ s f. book.links r k s (marks.marked q r h (omega arith)) f) t e

-- so whichever the barrier, with the registers clear after a rescan
pub ready_to_close : (z : Sizes) (b : Barrier) (lawful : Lawful b) (b₀ : Book) (j : History) → Inv z j → Open b lawful b₀ j → j.store.arcs.grey ≡ [] → (b.rescans ≡ true → RegsClear j) → RegsClear j × BlackClear j
ready_to_close z b lawful b₀ j inv o no_grey again = go lawful o.kind
  where
    go : (l : Lawful b) → BarrierKeeps b l b₀ j → RegsClear j × BlackClear j
    go (inl l) n = (snap_regs z b b₀ j inv no_grey o.book o.marks n, snap_black z b b₀ j inv no_grey o.book o.marks n)
    go (inr l) n = (again l.0, n.black)

-- and what then has a place is good
pub closed_good : (z : Sizes) (b : Barrier) (lawful : Lawful b) (b₀ : Book) (j : History) (inv : Inv z j) → Open b lawful b₀ j → j.store.nursery ≡ [] → j.store.notes ≡ [] → j.store.arcs.grey ≡ [] → RegsClear j → BlackClear j → (p : Place) (r : ℕ) → Holds (closed j) p r → Good b₀ r
closed_good z b lawful b₀ j inv o e n g c d (Young p) r h = inr (o.marks.nursery_new p r h)
closed_good z b lawful b₀ j inv o e n g c d (Old q) r h = let (k, l) = still_black z j inv e n g c d q r h in o.marks.marked q r k (omega arith)
