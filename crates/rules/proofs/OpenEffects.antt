-- Every effect keeps what holds while a cycle is open.
use Rattle.std.proofs.Common.{◌≡◌, ℕ, ◌<◌, ◌≤◌, Bool, true, ◌⊎◌, List, [], ◌∷◌, length, get_or, set, ℤ, Some, Option, sym, refl, ap, ◌∙◌, subst, inl, inr, arith}
use Rattle.words.specs.Words.{place_of}
use Rattle.words.specs.declared.place.Place.{Place}
use Rattle.words.specs.declared.place.Place.TheVariants.{Young, Old}
use Rattle.ring.specs.Arcs.{Arcs, has, marked}
use Rattle.rules.specs.Rules.{Record, no_record, Barrier, Lawful, Sizes, with_plain, shade_if, barrier_shades, link_at, set_link}
use Rattle.rules.specs.Book.{BookWord, nil, ref, BookRecord, no_book_record, Book, book_record, Reachable}
use Rattle.rules.specs.History.{History, Holds}
use Rattle.rules.specs.Promise.{StandsFor}
use Rattle.std.proofs.lemmas.Bool.{or_right}
use Rattle.std.proofs.lemmas.List.{get_or_append_left}
use Rattle.ring.specs.Sound.{count}
use Rattle.ring.proofs.Chain.{count_has}
use Rattle.rules.proofs.Standing.{getD_set_cases, link_at_cases}
use Rattle.rules.proofs.Invariant.{Inv}
use Rattle.rules.proofs.Effects.{Source, put_history, make_history, link_young, link_old, link_book, fill_history, Ready, Effect, stay, puts, makes, writes_young, writes_old, fills}
use Rattle.rules.proofs.Shading.{Shaded, shaded_if, shaded_barrier, shade_white, ring_once}
use Rattle.rules.proofs.EffectsKeep.{holds_push}
use Rattle.rules.proofs.OpenCycle.{NonWhite, NotBlack, link_of, ClosedUnder, good_reach, Marks, SnapshotKeeps, NoBlackToWhite, BarrierKeeps, Open, nonwhite_shaded, notblack_shaded, marks_if, good_word, shaded_word, closed_under_puts, closed_under_record, closed_under_links, closed_under_makes}

snap_book : {b₀ b b' : Book} {os : List (Option ℕ)} {a : Arcs} → ((r k t : ℕ) → Reachable b₀ r → link_of b r k ≡ ref t → link_of b' r k ≡ ref t) → SnapshotKeeps b₀ b os a → SnapshotKeeps b₀ b' os a
snap_book {b₀} {b} {b'} {os} {a} f n = record { kept = n.kept; held = n.held; linked = λ r k t w e. go r k t w (n.linked r k t w e) }
  where
    go : (r k t : ℕ) → Reachable b₀ r → NonWhite os a t ⊎ (NotBlack os a r × (link_of b r k ≡ ref t)) → NonWhite os a t ⊎ (NotBlack os a r × (link_of b' r k ≡ ref t))
    go r k t w (inl x) = inl x
    go r k t w (inr x) = inr (x.0, f r k t w x.1)

link_book_cases : (b : Book) (r k : ℕ) (x : BookWord) (s m : ℕ) → (link_of (link_book b r k x) s m ≡ link_of b s m) ⊎ ((s ≡ r) × (m ≡ k))
link_book_cases b r k x s m = go (getD_set_cases b.records r s y no_book_record)
  where
    y : BookRecord
    y = record { links = set (book_record b r).links k x; plain = (book_record b r).plain }

    go : (get_or (set b.records r y) s no_book_record ≡ get_or b.records s no_book_record) ⊎ ((s ≡ r) × (get_or (set b.records r y) s no_book_record ≡ y)) → (get_or (get_or (set b.records r y) s no_book_record).links m nil ≡ link_of b s m) ⊎ ((s ≡ r) × (m ≡ k))
    go (inl e) = inl (ap (λ v. get_or v.links m nil) e)
    go (inr e) = at (getD_set_cases (book_record b r).links k m x nil)
      where
        at : (get_or (set (book_record b r).links k x) m nil ≡ link_of b r m) ⊎ ((m ≡ k) × (get_or (set (book_record b r).links k x) m nil ≡ x)) → (get_or (get_or (set b.records r y) s no_book_record).links m nil ≡ link_of b s m) ⊎ ((s ≡ r) × (m ≡ k))
        at (inl f) = inl (ap (λ v. get_or v.links m nil) e.1 ∙ f ∙ ap (λ n. link_of b n m) (sym e.0))
        at (inr f) = inr (e.0, f.0)

module _ (z : Sizes) (b : Barrier) (lawful : Lawful b) (b₀ : Book) (j : History) (inv : Inv z j) (o : Open b lawful b₀ j) where
  -- where arcs, slots and owners are as they were
  same_kind : (j' : History) (l : Lawful b) → BarrierKeeps b l b₀ j → j'.slot_owners ≡ j.slot_owners → j'.store.arcs ≡ j.store.arcs → ((q k : ℕ) → link_at j'.store.slots q k ≡ link_at j.store.slots q k) → ((r k t : ℕ) → Reachable b₀ r → link_of j.book r k ≡ ref t → link_of j'.book r k ≡ ref t) → BarrierKeeps b l b₀ j'
  same_kind j' (inl l) n e f g h = rw (e, f) (snap_book h n)
  same_kind j' (inr l) n e f g h = rw (e, f) (record { black = λ q k t p w. n.black q k t p (ap place_of (sym (g q k)) ∙ w) })

  open_puts : (i w : ℕ) (x : BookWord) → Source j x → Open b lawful b₀ (put_history j i w x)
  open_puts i w x s = record { cycle = o.cycle; bounded = o.bounded; book = closed_under_puts b₀ j o.book i x s; marks = o.marks; kind = same_kind (put_history j i w x) lawful o.kind refl refl (λ q k. refl) (λ r k t w e. e) }

  open_makes : (i : ℕ) (x : Record) (y : BookRecord) → Ready j z.links x y → Open b lawful b₀ (make_history j i x y)
  open_makes i x y ready = record {
    cycle = o.cycle;
    bounded = o.bounded;
    book = closed_under_makes b₀ j o.book i z.links x y ready;
    marks = record { marked = o.marks.marked; unscanned = o.marks.unscanned; nursery_new = λ p r h. young_one p r (holds_push j.nursery_owners j.slot_owners (length j.book.records) (Young p) r h) };
    kind = same_kind (make_history j i x y) lawful o.kind refl refl (λ q k. refl) (λ r k t w e. ap (λ v. get_or v.links k nil) (get_or_append_left j.book.records (y ∷ []) no_book_record r (omega (arith, o.bounded r w, o.book.longer))) ∙ e);
  }
    where
      young_one : (p r : ℕ) → Holds j (Young p) r ⊎ ((Young p ≡ Young (length j.nursery_owners)) × (r ≡ length j.book.records)) → length b₀.records ≤ r
      young_one p r (inl h) = o.marks.nursery_new p r h
      young_one p r (inr h) = omega (arith, h.1, o.book.longer)

  open_young : (p r k w : ℕ) (x : BookWord) → Holds j (Young p) r → Source j x → Open b lawful b₀ (link_young j p r k w x)
  open_young p r k w x h s = record {
    cycle = o.cycle;
    bounded = o.bounded;
    book = closed_under_links b₀ j o.book r k x s;
    marks = o.marks;
    kind = same_kind (link_young j p r k w x) lawful o.kind refl refl (λ q m. refl) (λ r' m t way e. go r' m t way e (link_book_cases j.book r k x r' m));
  }
    where
      go : (r' m t : ℕ) → Reachable b₀ r' → link_of j.book r' m ≡ ref t → (link_of (link_book j.book r k x) r' m ≡ link_of j.book r' m) ⊎ ((r' ≡ r) × (m ≡ k)) → link_of (link_book j.book r k x) r' m ≡ ref t
      go r' m t way e (inl f) = f ∙ e
      go r' m t way e (inr f) = absurd (omega (arith, o.bounded r' way, f.0, o.marks.nursery_new p r h))

  open_fill : (p : Place) (r : ℕ) (pl : List ℤ) → Open b lawful b₀ (fill_history j p r pl)
  open_fill p r pl = go p
    where
      same_links : (s m : ℕ) → link_of (fill_history j p r pl).book s m ≡ link_of j.book s m
      same_links s m = by (getD_set_cases j.book.records r s (record { links = (book_record j.book r).links; plain = pl }) no_book_record)
        where
          by : (get_or (set j.book.records r (record { links = (book_record j.book r).links; plain = pl })) s no_book_record ≡ get_or j.book.records s no_book_record) ⊎ ((s ≡ r) × (get_or (set j.book.records r (record { links = (book_record j.book r).links; plain = pl })) s no_book_record ≡ record { links = (book_record j.book r).links; plain = pl })) → link_of (fill_history j p r pl).book s m ≡ link_of j.book s m
          by (inl e) = ap (λ v. get_or v.links m nil) e
          by (inr e) = ap (λ v. get_or v.links m nil) e.1 ∙ ap (λ n. link_of j.book n m) (sym e.0)

      book : ClosedUnder b₀ (fill_history j p r pl).book
      book = closed_under_record b₀ j o.book r (record { links = (book_record j.book r).links; plain = pl }) (λ k t g e. o.book.links r k t g e)

      slot_links : (q s k : ℕ) → link_at (set j.store.slots q (with_plain (get_or j.store.slots q no_record) pl)) s k ≡ link_at j.store.slots s k
      slot_links q s k = by (getD_set_cases j.store.slots q s (with_plain (get_or j.store.slots q no_record) pl) no_record)
        where
          by : (get_or (set j.store.slots q (with_plain (get_or j.store.slots q no_record) pl)) s no_record ≡ get_or j.store.slots s no_record) ⊎ ((s ≡ q) × (get_or (set j.store.slots q (with_plain (get_or j.store.slots q no_record) pl)) s no_record ≡ with_plain (get_or j.store.slots q no_record) pl)) → link_at (set j.store.slots q (with_plain (get_or j.store.slots q no_record) pl)) s k ≡ link_at j.store.slots s k
          by (inl e) = ap (λ v. get_or v.links k 0) e
          by (inr e) = ap (λ v. get_or v.links k 0) e.1 ∙ ap (λ n. link_at j.store.slots n k) (sym e.0)

      go : (p : Place) → Open b lawful b₀ (fill_history j p r pl)
      go (Young p) = record { cycle = o.cycle; bounded = o.bounded; book = book; marks = o.marks; kind = same_kind (fill_history j (Young p) r pl) lawful o.kind refl refl (λ q k. refl) (λ s k t w e. same_links s k ∙ e) }
      go (Old q) = record { cycle = o.cycle; bounded = o.bounded; book = book; marks = o.marks; kind = same_kind (fill_history j (Old q) r pl) lawful o.kind refl refl (slot_links q) (λ s k t w e. same_links s k ∙ e) }

  -- a write into an old record
  module _ (q r k w : ℕ) (x : BookWord) (h : Holds j (Old q) r) (way : Reachable j.book r) (stands : StandsFor j w x) (source : Source j x) where
    abbrev was : ℕ
    was = link_at j.store.slots q k

    abbrev a : Arcs
    a = j.store.arcs

    abbrev m : Bool
    m = marked a q

    abbrev a₁ : Arcs
    a₁ = shade_if (b.names_old m) was a

    abbrev a' : Arcs
    a' = barrier_shades b m was w a

    old_marks : Marks b₀ j.nursery_owners j.slot_owners a'
    old_marks =
        marks_if (b.names_new m) w (λ _. good_word b₀ j.nursery_owners j.slot_owners w x stands (λ t e. good_reach o.book (source t e)))
        (marks_if (b.names_old m) was (λ _. good_word b₀ j.nursery_owners j.slot_owners was (link_of j.book r k) ((inv.fields (Old q) r h).links k) (λ t e. o.book.links r k t (good_reach o.book way) e))
        o.marks)

    shades : Shaded a a'
    shades = shaded_barrier b m was w a

    old_white : (t : ℕ) → b.names_old m ≡ true → link_of j.book r k ≡ ref t → NonWhite j.slot_owners a' t
    old_white t n e = nonwhite_shaded j.slot_owners t (shaded_if (b.names_new m) w a₁) (subst (λ u. NonWhite j.slot_owners (shade_if u was a) t) (sym n) (shaded_word j.nursery_owners j.slot_owners a was t inv.owners.unique (λ s. omega (arith, ring_once inv.ring s)) (subst (λ v. StandsFor j was v) e ((inv.fields (Old q) r h).links k))))

    old_snap : ((u : Bool) → b.names_old u ≡ true) → SnapshotKeeps b₀ j.book j.slot_owners a → SnapshotKeeps b₀ (link_book j.book r k x) j.slot_owners a'
    old_snap always n = record { kept = n.kept; held = λ i t e. nonwhite_shaded j.slot_owners t shades (n.held i t e); linked = λ s i t y e. go s i t (link_book_cases j.book r k x s i) (n.linked s i t y e) }
      where
        go : (s i t : ℕ) → (link_of (link_book j.book r k x) s i ≡ link_of j.book s i) ⊎ ((s ≡ r) × (i ≡ k)) → NonWhite j.slot_owners a t ⊎ (NotBlack j.slot_owners a s × (link_of j.book s i ≡ ref t)) → NonWhite j.slot_owners a' t ⊎ (NotBlack j.slot_owners a' s × (link_of (link_book j.book r k x) s i ≡ ref t))
        go s i t f (inl g) = inl (nonwhite_shaded j.slot_owners t shades g)
        go s i t (inl f) (inr g) = inr (notblack_shaded j.slot_owners s shades g.0, f ∙ g.1)
        go s i t (inr f) (inr g) = inl (old_white t (always m) (ap (λ n. link_of j.book n k) (sym f.0) ∙ ap (λ n. link_of j.book s n) (sym f.1) ∙ g.1))

    old_none : b.names_new true ≡ true → NoBlackToWhite j.slot_owners j.store.slots a → NoBlackToWhite j.slot_owners (set_link j.store.slots q k w) a'
    old_none new n = record { black = λ s i t l e. go s i t (subst (λ f. 0 < count s f) shades.black l) e (link_at_cases j.store.slots q k w s i) }
      where
        now_new : 0 < count q a.black → b.names_new m ≡ true
        now_new l = ap b.names_new (or_right (has q a.grey) (has q a.black) (count_has q a.black l)) ∙ new

        go : (s i t : ℕ) → 0 < count s a.black → place_of (link_at (set_link j.store.slots q k w) s i) ≡ Some (Old t) → (link_at (set_link j.store.slots q k w) s i ≡ link_at j.store.slots s i) ⊎ ((s ≡ q) × (i ≡ k) × (link_at (set_link j.store.slots q k w) s i ≡ w)) → count t a'.white ≡ 0
        go s i t l e (inl f) = omega (arith, n.black s i t l (ap place_of (sym f) ∙ e), shades.white t)
        go s i t l e (inr f) = subst (λ u. count t (shade_if u w a₁).white ≡ 0) (sym (now_new (subst (λ v. 0 < count v a.black) f.0 l))) (shade_white w t a₁ (ap place_of (sym f.2) ∙ e) (omega (arith, ring_once inv.ring t, (shaded_if (b.names_old m) was a).white t)))

    old_kind : (l : Lawful b) → BarrierKeeps b l b₀ j → BarrierKeeps b l b₀ (record { store = record { registers = j.store.registers; nursery = j.store.nursery; slots = set_link j.store.slots q k w; arcs = a'; notes = (link_old b j q r k w x).store.notes; cycle = j.store.cycle }; book = link_book j.book r k x; nursery_owners = j.nursery_owners; slot_owners = j.slot_owners })
    old_kind (inl l) n = old_snap l n
    old_kind (inr l) n = old_none l.1 n

    open_old : Open b lawful b₀ (link_old b j q r k w x)
    open_old = subst (λ arcs. Open b lawful b₀ (record { store = record { registers = j.store.registers; nursery = j.store.nursery; slots = set_link j.store.slots q k w; arcs = arcs; notes = (link_old b j q r k w x).store.notes; cycle = j.store.cycle }; book = link_book j.book r k x; nursery_owners = j.nursery_owners; slot_owners = j.slot_owners })) (sym arcs_are) (record { cycle = o.cycle; bounded = o.bounded; book = closed_under_links b₀ j o.book r k x source; marks = old_marks; kind = old_kind lawful o.kind })
      where
        arcs_are : (link_old b j q r k w x).store.arcs ≡ a'
        arcs_are = rw o.cycle refl

pub effect_open : (z : Sizes) (b : Barrier) (lawful : Lawful b) (b₀ : Book) (j j' : History) → Effect z b j j' → Inv z j → Open b lawful b₀ j → Open b lawful b₀ j'
effect_open z b lawful b₀ j j' (stay) inv o = o
effect_open z b lawful b₀ j j' (puts i w x s y) inv o = open_puts z b lawful b₀ j inv o i w x y
effect_open z b lawful b₀ j j' (makes i x y r f g) inv o = open_makes z b lawful b₀ j inv o i x y r
effect_open z b lawful b₀ j j' (writes_young p r k w x h _ s y) inv o = open_young z b lawful b₀ j inv o p r k w x h y
effect_open z b lawful b₀ j j' (writes_old q r k w x h way s y) inv o = open_old z b lawful b₀ j inv o q r k w x h way s y
effect_open z b lawful b₀ j j' (fills p r pl h) inv o = open_fill z b lawful b₀ j inv o p r pl
