-- Each effect keeps the invariant.
use Rattle.std.proofs.Common.{◌≡◌, ℕ, ◌+◌, ◌<◌, ◌≤◌, Bool, true, false, cond, not, ◌&&◌, ltb, ◌⊎◌, List, [], ◌∷◌, ◌++◌, length, get_or, set, ℤ, Some, None, Option, sym, refl, ap, ◌∙◌, subst, inl, inr, arith}
use Rattle.words.specs.Words.{nursery_word, place_of}
use Rattle.words.specs.declared.place.Place.{Place}
use Rattle.words.specs.declared.place.Place.TheVariants.{Young, Old}
use Rattle.ring.specs.Arcs.{has, marked}
use Rattle.rules.specs.Rules.{Record, no_record, Barrier, Sizes, record_in, with_link, with_plain, is_young, needs_note, barrier_shades, link_at, set_link}
use Rattle.rules.specs.Book.{BookWord, nil, ref, BookRecord, no_book_record}
use Rattle.rules.specs.History.{History, HoldsIn, Holds}
use Rattle.rules.specs.Promise.{StandsForIn, StandsFor}
use Rattle.std.proofs.lemmas.Bool.{cases_eq, cases_lt, both_ways, lt-ltb}
use Rattle.std.proofs.lemmas.List.{length-append, length-set, get_or_append_left, get_or_at, get_or-set_same, get_or-set_other}
use Rattle.ring.specs.Sound.{count}
use Rattle.ring.proofs.Chain.{count_append, has_count, count_has}
use Rattle.rules.proofs.Counting.{one_if, has_self, hasnt_count, count_self, count_other}
use Rattle.rules.proofs.Standing.{link_at_cases, getD_set_cases, set_both, stands_more, stands_place, place_of_nursery}
use Rattle.rules.proofs.Invariant.{Match, Fields, Noted, Inv, slot_below}
use Rattle.rules.proofs.Effects.{put_history, make_history, link_young, link_old, fill_history, Ready, Effect, stay, puts, makes, writes_young, writes_old, fills}
use Rattle.rules.proofs.Shading.{Shaded, shaded_refl, shaded_barrier, shaded_ring}

pub match_more : {H K : Place → ℕ → Type 0} {n : ℕ} {x : Record} {y : BookRecord} → ((p : Place) (r : ℕ) → H p r → K p r) → Match H n x y → Match K n x y
match_more {H} {K} {n} {x} {y} f m = record { plain = m.plain; size = m.size; book_size = m.book_size; links = λ k. stands_more H K f (get_or x.links k 0) (get_or y.links k nil) (m.links k) }

pub match_link : {H : Place → ℕ → Type 0} {n : ℕ} {x : Record} {y : BookRecord} (k w : ℕ) (v : BookWord) → StandsForIn H w v → Match H n x y → Match H n (with_link x k w) (record { links = set y.links k v; plain = y.plain })
match_link {H} {n} {x} {y} k w v s m = record {
  plain = m.plain;
  size = length-set x.links k w ∙ m.size;
  book_size = length-set y.links k v ∙ m.book_size;
  links = set_both (StandsForIn H) x.links y.links 0 nil (m.size ∙ sym m.book_size) m.links k w v s;
}

pub match_plain : {H : Place → ℕ → Type 0} {n : ℕ} {x : Record} {y : BookRecord} (pl : List ℤ) → Match H n x y → Match H n (with_plain x pl) (record { links = y.links; plain = pl })
match_plain pl m = record { plain = refl; size = m.size; book_size = m.book_size; links = m.links }

pub functional : (ns : List ℕ) (os : List (Option ℕ)) (p : Place) (r t : ℕ) → HoldsIn ns os p r → HoldsIn ns os p t → r ≡ t
functional ns os (Young n) r t a c = sym a.1 ∙ c.1
functional ns os (Old q) r t a c = cc

-- a write at the one place of record r, in store and book
pub fields_set : (n : ℕ) (ns : List ℕ) (os : List (Option ℕ)) (nursery slots nursery' slots' : List Record) (records : List BookRecord) (P : Place) (r : ℕ) (x : Record) (y : BookRecord) → Fields n ns os nursery slots records → ((p p' : Place) (t : ℕ) → HoldsIn ns os p t → HoldsIn ns os p' t → p ≡ p') → HoldsIn ns os P r → r < length records → record_in nursery' slots' P ≡ x → ((p : Place) → (p ≡ P → ⊥) → record_in nursery' slots' p ≡ record_in nursery slots p) → Match (HoldsIn ns os) n x y → Fields n ns os nursery' slots' (set records r y)
fields_set n ns os nursery slots nursery' slots' records P r x y f unique h l same other m p t k = go (cases_eq t r)
  where
    go : (t ≡ r) ⊎ (t ≡ r → ⊥) → Match (HoldsIn ns os) n (record_in nursery' slots' p) (get_or (set records r y) t no_book_record)
    go (inl e) =
        let here : p ≡ P = unique p P r (rw e at k) h in
        rw (here, same, e, get_or-set_same records r y no_book_record l) m
    go (inr e) =
        let away : p ≡ P → ⊥ = λ here. e (functional ns os P t r (rw here at k) h) in
        rw (other p away, get_or-set_other records r t y no_book_record e) (f p t k)

young_other : (nursery slots : List Record) (n : ℕ) (x : Record) (p : Place) → (p ≡ Young n → ⊥) → record_in (set nursery n x) slots p ≡ record_in nursery slots p
young_other nursery slots n x (Young m) h = get_or-set_other nursery n m x no_record (λ e. h (ap Young e))
young_other nursery slots n x (Old q) h = refl

old_other : (nursery slots : List Record) (n : ℕ) (x : Record) (p : Place) → (p ≡ Old n → ⊥) → record_in nursery (set slots n x) p ≡ record_in nursery slots p
old_other nursery slots n x (Young m) h = refl
old_other nursery slots n x (Old q) h = get_or-set_other slots n q x no_record (λ e. h (ap Old e))

-- one more record in the nursery
pub holds_more : (ns : List ℕ) (os : List (Option ℕ)) (m : ℕ) (p : Place) (r : ℕ) → HoldsIn ns os p r → HoldsIn (ns ++ (m ∷ [])) os p r
holds_more ns os m (Young p) r h = (simp length-append (omega (arith, h.0)), get_or_append_left ns (m ∷ []) 0 p h.0 ∙ h.1)
holds_more ns os m (Old q) r h = h

pub holds_push : (ns : List ℕ) (os : List (Option ℕ)) (m : ℕ) (p : Place) (r : ℕ) → HoldsIn (ns ++ (m ∷ [])) os p r → HoldsIn ns os p r ⊎ ((p ≡ Young (length ns)) × (r ≡ m))
holds_push ns os m (Old q) r h = inl h
holds_push ns os m (Young p) r h = go (cases_lt p (length ns))
  where
    l : p < length ns + 1
    l = simp length-append at h.0

    go : (p < length ns) ⊎ (length ns ≤ p) → ((p < length ns) × (get_or ns p 0 ≡ r)) ⊎ ((Young p ≡ Young (length ns)) × (r ≡ m))
    go (inl k) = inl (k, sym (get_or_append_left ns (m ∷ []) 0 p k) ∙ h.1)
    go (inr k) = let e : length ns ≡ p = omega (arith, l) in inr (ap Young (sym e), sym h.1 ∙ get_or_at ns m [] 0 p e)

module _ (z : Sizes) (b : Barrier) (j : History) (inv : Inv z j) where
  puts_inv : (i w : ℕ) (x : BookWord) → StandsFor j w x → Inv z (put_history j i w x)
  puts_inv i w x s = record {
    regs_size = length-set j.store.registers i w ∙ inv.regs_size;
    book_regs_size = length-set j.book.registers i x ∙ inv.book_regs_size;
    nursery_size = inv.nursery_size;
    nursery_cap = inv.nursery_cap;
    slots_size = inv.slots_size;
    ring = inv.ring;
    quiet = inv.quiet;
    room = inv.room;
    owners = inv.owners;
    fields = inv.fields;
    regs = set_both (StandsFor j) j.store.registers j.book.registers 0 nil (inv.regs_size ∙ sym inv.book_regs_size) inv.regs i w x s;
    noted = inv.noted;
    noted_once = inv.noted_once;
  }

  young_inv : (p r k w : ℕ) (x : BookWord) → Holds j (Young p) r → StandsFor j w x → Inv z (link_young j p r k w x)
  young_inv p r k w x h s =
      let m = match_link k w x s (inv.fields (Young p) r h) in
      let l : p < length j.store.nursery = omega (arith, h.0, inv.nursery_size) in
      record {
        regs_size = inv.regs_size;
        book_regs_size = inv.book_regs_size;
        nursery_size = length-set j.store.nursery p _ ∙ inv.nursery_size;
        nursery_cap = simp length-set inv.nursery_cap;
        slots_size = inv.slots_size;
        ring = inv.ring;
        quiet = inv.quiet;
        room = simp length-set inv.room;
        owners = simp length-set inv.owners;
        fields = fields_set z.links j.nursery_owners j.slot_owners j.store.nursery j.store.slots _ _ j.book.records (Young p) r _ _ inv.fields inv.owners.unique h (inv.owners.below (Young p) r h) (get_or-set_same j.store.nursery p _ no_record l) (young_other j.store.nursery j.store.slots p _) m;
        regs = inv.regs;
        noted = inv.noted;
        noted_once = inv.noted_once;
      }

  -- slot q's record with another link
  young_after : (q k w s t m : ℕ) → get_or j.slot_owners s None ≡ Some t → is_young (place_of (link_at (set_link j.store.slots q k w) s m)) ≡ true → (has s j.store.notes ≡ true) ⊎ ((s ≡ q) × (is_young (place_of w) ≡ true))
  young_after q k w s t m o y = go (link_at_cases j.store.slots q k w s m)
    where
      go : (link_at (set_link j.store.slots q k w) s m ≡ link_at j.store.slots s m) ⊎ ((s ≡ q) × (m ≡ k) × (link_at (set_link j.store.slots q k w) s m ≡ w)) → (has s j.store.notes ≡ true) ⊎ ((s ≡ q) × (is_young (place_of w) ≡ true))
      go (inl e) = inl (inv.noted.all s t m o (rw e at y))
      go (inr e) = inr (e.0, rw e.2 at y)

  noted_link : (q r k w : ℕ) → get_or j.slot_owners q None ≡ Some r → Noted j.slot_owners (set_link j.store.slots q k w) (cond (needs_note j.store q w) (j.store.notes ++ (q ∷ [])) j.store.notes)
  noted_link q r k w h = record {
    owned = λ s e. owned (needs_note j.store q w) s e;
    all = λ s t m o y. all (is_young (place_of w)) refl (has q j.store.notes) refl s (young_after q k w s t m o y);
  }
    where
      push_cases : (s : ℕ) → has s (j.store.notes ++ (q ∷ [])) ≡ true → (has s j.store.notes ≡ true) ⊎ (q ≡ s)
      push_cases s e = grind (arith, has_count s (j.store.notes ++ (q ∷ [])) e, count_append s j.store.notes (q ∷ []), cases_eq q s, count_has s j.store.notes)

      owned : (t : Bool) (s : ℕ) → has s (cond t (j.store.notes ++ (q ∷ [])) j.store.notes) ≡ true → (r : ℕ) × (get_or j.slot_owners s None ≡ Some r)
      owned false s e = inv.noted.owned s e
      owned true s e = by (push_cases s e)
        where
          by : (has s j.store.notes ≡ true) ⊎ (q ≡ s) → (r : ℕ) × (get_or j.slot_owners s None ≡ Some r)
          by (inl f) = inv.noted.owned s f
          by (inr f) = (r, rw f at h)

      all : (t : Bool) → is_young (place_of w) ≡ t → (u : Bool) → has q j.store.notes ≡ u → (s : ℕ) → (has s j.store.notes ≡ true) ⊎ ((s ≡ q) × (is_young (place_of w) ≡ true)) → has s (cond (t && not u) (j.store.notes ++ (q ∷ [])) j.store.notes) ≡ true
      all false e u f s (inl g) = g
      all false e u f s (inr g) = absurd (both_ways (is_young (place_of w)) e g.1)
      all true e true f s (inl g) = g
      all true e true f s (inr g) = subst (λ x. has x j.store.notes ≡ true) (sym g.0) f
      all true e false f s (inl g) = has_left s g
        where
          has_left : (s : ℕ) → has s j.store.notes ≡ true → has s (j.store.notes ++ (q ∷ [])) ≡ true
          has_left s g = count_has s (j.store.notes ++ (q ∷ [])) (omega (arith, has_count s j.store.notes g, count_append s j.store.notes (q ∷ [])))
      all true e false f s (inr g) = subst (λ x. has x (j.store.notes ++ (q ∷ [])) ≡ true) (sym g.0) (count_has q (j.store.notes ++ (q ∷ [])) (omega (arith, count_append q j.store.notes (q ∷ []), has_count q (q ∷ []) (has_self q []))))

  once_link : (q r w : ℕ) → get_or j.slot_owners q None ≡ Some r → (s : ℕ) → count s (cond (needs_note j.store q w) (j.store.notes ++ (q ∷ [])) j.store.notes) ≤ one_if (ltb s z.slots)
  once_link q r w h s = go (is_young (place_of w)) (has q j.store.notes) refl
    where
      go : (t u : Bool) → has q j.store.notes ≡ u → count s (cond (t && not u) (j.store.notes ++ (q ∷ [])) j.store.notes) ≤ one_if (ltb s z.slots)
      go false u e = inv.noted_once s
      go true true e = inv.noted_once s
      go true false e = rw (count_append s j.store.notes (q ∷ [])) (by (cases_eq q s))
        where
          here : count q j.store.notes + count q (q ∷ []) ≤ one_if (ltb q z.slots)
          here = rw (lt-ltb q z.slots (slot_below z j inv q r h)) (omega (arith, hasnt_count q j.store.notes e, count_self q []))

          by : (q ≡ s) ⊎ (q ≡ s → ⊥) → count s j.store.notes + count s (q ∷ []) ≤ one_if (ltb s z.slots)
          by (inl k) = subst (λ x. count x j.store.notes + count x (q ∷ []) ≤ one_if (ltb x z.slots)) k here
          by (inr k) = omega (arith, count_other s q [] k, inv.noted_once s)

  in_slots : (q r : ℕ) → get_or j.slot_owners q None ≡ Some r → q < length j.store.slots
  in_slots q r h = omega (arith, slot_below z j inv q r h, inv.slots_size)

  old_inv : (q r k w : ℕ) (x : BookWord) → Holds j (Old q) r → StandsFor j w x → Inv z (link_old b j q r k w x)
  old_inv q r k w x h s =
      let m = match_link k w x s (inv.fields (Old q) r h) in
      let l : q < length j.store.slots = in_slots q r h in
      record {
        regs_size = inv.regs_size;
        book_regs_size = inv.book_regs_size;
        nursery_size = inv.nursery_size;
        nursery_cap = inv.nursery_cap;
        slots_size = length-set j.store.slots q _ ∙ inv.slots_size;
        ring = shaded_ring shades inv.ring;
        quiet = quiet;
        room = rw shades.free inv.room;
        owners = rw shades.free (simp length-set inv.owners);
        fields = fields_set z.links j.nursery_owners j.slot_owners j.store.nursery j.store.slots _ _ j.book.records (Old q) r _ _ inv.fields inv.owners.unique h (inv.owners.below (Old q) r h) (get_or-set_same j.store.slots q _ no_record l) (old_other j.store.nursery j.store.slots q _) m;
        regs = inv.regs;
        noted = noted_link q r k w h;
        noted_once = once_link q r w h;
      }
    where
      arcs_shaded : (t : Bool) → Shaded j.store.arcs (cond t (barrier_shades b (marked j.store.arcs q) (link_at j.store.slots q k) w j.store.arcs) j.store.arcs)
      arcs_shaded true = shaded_barrier b (marked j.store.arcs q) (link_at j.store.slots q k) w j.store.arcs
      arcs_shaded false = shaded_refl j.store.arcs

      shades : Shaded j.store.arcs (link_old b j q r k w x).store.arcs
      shades = arcs_shaded j.store.cycle

      quiet : j.store.cycle ≡ false → ((link_old b j q r k w x).store.arcs.white ≡ []) × ((link_old b j q r k w x).store.arcs.grey ≡ [])
      quiet e = rw e (inv.quiet e)

  fill_inv : (p : Place) (r : ℕ) (pl : List ℤ) → Holds j p r → Inv z (fill_history j p r pl)
  fill_inv (Young p) r pl h =
      let m = match_plain pl (inv.fields (Young p) r h) in
      let l : p < length j.store.nursery = omega (arith, h.0, inv.nursery_size) in
      record {
        regs_size = inv.regs_size;
        book_regs_size = inv.book_regs_size;
        nursery_size = length-set j.store.nursery p _ ∙ inv.nursery_size;
        nursery_cap = simp length-set inv.nursery_cap;
        slots_size = inv.slots_size;
        ring = inv.ring;
        quiet = inv.quiet;
        room = simp length-set inv.room;
        owners = simp length-set inv.owners;
        fields = fields_set z.links j.nursery_owners j.slot_owners j.store.nursery j.store.slots _ _ j.book.records (Young p) r _ _ inv.fields inv.owners.unique h (inv.owners.below (Young p) r h) (get_or-set_same j.store.nursery p _ no_record l) (young_other j.store.nursery j.store.slots p _) m;
        regs = inv.regs;
        noted = inv.noted;
        noted_once = inv.noted_once;
      }
  fill_inv (Old q) r pl h =
      let m = match_plain pl (inv.fields (Old q) r h) in
      let l : q < length j.store.slots = in_slots q r h in
      record {
        regs_size = inv.regs_size;
        book_regs_size = inv.book_regs_size;
        nursery_size = inv.nursery_size;
        nursery_cap = inv.nursery_cap;
        slots_size = length-set j.store.slots q _ ∙ inv.slots_size;
        ring = inv.ring;
        quiet = inv.quiet;
        room = inv.room;
        owners = simp length-set inv.owners;
        fields = fields_set z.links j.nursery_owners j.slot_owners j.store.nursery j.store.slots _ _ j.book.records (Old q) r _ _ inv.fields inv.owners.unique h (inv.owners.below (Old q) r h) (get_or-set_same j.store.slots q _ no_record l) (old_other j.store.nursery j.store.slots q _) m;
        regs = inv.regs;
        noted = record { owned = inv.noted.owned; all = λ s t k o y. inv.noted.all s t k o (rw (same_links s k) at y) };
        noted_once = inv.noted_once;
      }
    where
      same_links : (s k : ℕ) → link_at (set j.store.slots q (with_plain (get_or j.store.slots q no_record) pl)) s k ≡ link_at j.store.slots s k
      same_links s k = by (getD_set_cases j.store.slots q s (with_plain (get_or j.store.slots q no_record) pl) no_record)
        where
          by : (get_or (set j.store.slots q (with_plain (get_or j.store.slots q no_record) pl)) s no_record ≡ get_or j.store.slots s no_record) ⊎ ((s ≡ q) × (get_or (set j.store.slots q (with_plain (get_or j.store.slots q no_record) pl)) s no_record ≡ with_plain (get_or j.store.slots q no_record) pl)) → link_at (set j.store.slots q (with_plain (get_or j.store.slots q no_record) pl)) s k ≡ link_at j.store.slots s k
          by (inl e) = ap (λ x. get_or x.links k 0) e
          by (inr e) = ap (λ x. get_or x.links k 0) e.1 ∙ ap (λ n. link_at j.store.slots n k) (sym e.0)

  make_inv : (i : ℕ) (x : Record) (y : BookRecord) → Ready j z.links x y → length j.store.nursery < z.places → length j.store.nursery < length j.store.arcs.free → Inv z (make_history j i x y)
  make_inv i x y ready fits room = record {
    regs_size = length-set j.store.registers i _ ∙ inv.regs_size;
    book_regs_size = length-set j.book.registers i _ ∙ inv.book_regs_size;
    nursery_size = simp length-append (omega (arith, inv.nursery_size));
    nursery_cap = simp length-append (omega arith);
    slots_size = inv.slots_size;
    ring = inv.ring;
    quiet = inv.quiet;
    room = simp length-append (omega arith);
    owners = record {
      size = inv.owners.size;
      free_none = inv.owners.free_none;
      none_free = inv.owners.none_free;
      below = λ p r h. simp length-append (below p r (split p r h));
      unique = λ p p' r h h'. unique p p' r (split p r h) (split p' r h');
    };
    fields = λ p r h. fields p r (split p r h);
    regs = set_both K j.store.registers j.book.registers 0 nil (inv.regs_size ∙ sym inv.book_regs_size) (λ k. stands_more (Holds j) H' more (get_or j.store.registers k 0) (get_or j.book.registers k nil) (inv.regs k)) i (nursery_word (length j.store.nursery)) (ref m) (stands_place H' (nursery_word (length j.store.nursery)) (Young (length j.store.nursery)) m (place_of_nursery (length j.store.nursery)) new_place);
    noted = inv.noted;
    noted_once = inv.noted_once;
  }
    where
      m : ℕ
      m = length j.book.records

      H' : Place → ℕ → Type 0
      H' = HoldsIn (j.nursery_owners ++ (m ∷ [])) j.slot_owners

      K : ℕ → BookWord → Type 0
      K = StandsForIn H'

      more : (p : Place) (r : ℕ) → Holds j p r → H' p r
      more = holds_more j.nursery_owners j.slot_owners m

      new_place : H' (Young (length j.store.nursery)) m
      new_place = (simp length-append (omega (arith, inv.nursery_size)), get_or_at j.nursery_owners m [] 0 (length j.store.nursery) (sym inv.nursery_size))

      split : (p : Place) (r : ℕ) → H' p r → Holds j p r ⊎ ((p ≡ Young (length j.nursery_owners)) × (r ≡ m))
      split = holds_push j.nursery_owners j.slot_owners m

      below : (p : Place) (r : ℕ) → Holds j p r ⊎ ((p ≡ Young (length j.nursery_owners)) × (r ≡ m)) → r < m + 1
      below p r (inl h) = omega (arith, inv.owners.below p r h)
      below p r (inr h) = omega (arith, h.1)

      unique : (p p' : Place) (r : ℕ) → Holds j p r ⊎ ((p ≡ Young (length j.nursery_owners)) × (r ≡ m)) → Holds j p' r ⊎ ((p' ≡ Young (length j.nursery_owners)) × (r ≡ m)) → p ≡ p'
      unique p p' r (inl h) (inl h') = inv.owners.unique p p' r h h'
      unique p p' r (inl h) (inr h') = absurd (omega (arith, inv.owners.below p r h, h'.1))
      unique p p' r (inr h) (inl h') = absurd (omega (arith, inv.owners.below p' r h', h.1))
      unique p p' r (inr h) (inr h') = h.0 ∙ sym h'.0

      rec_same : (p : Place) (r : ℕ) → Holds j p r → record_in (j.store.nursery ++ (x ∷ [])) j.store.slots p ≡ record_in j.store.nursery j.store.slots p
      rec_same (Young p) r h = get_or_append_left j.store.nursery (x ∷ []) no_record p (omega (arith, h.0, inv.nursery_size))
      rec_same (Old q) r h = refl

      fields : (p : Place) (r : ℕ) → Holds j p r ⊎ ((p ≡ Young (length j.nursery_owners)) × (r ≡ m)) → Match H' z.links (record_in (j.store.nursery ++ (x ∷ [])) j.store.slots p) (get_or (j.book.records ++ (y ∷ [])) r no_book_record)
      fields p r (inl h) = rw (rec_same p r h, get_or_append_left j.book.records (y ∷ []) no_book_record r (inv.owners.below p r h)) (match_more more (inv.fields p r h))
      fields p r (inr h) = rw (h.0, h.1, get_or_at j.store.nursery x [] no_record (length j.nursery_owners) inv.nursery_size, get_or_at j.book.records y [] no_book_record m refl) (match_more more (record { plain = ready.plain; size = ready.size; book_size = ready.book_size; links = ready.links }))

-- so every effect keeps the invariant
pub effect_inv : (z : Sizes) (b : Barrier) (j j' : History) → Effect z b j j' → Inv z j → Inv z j'
effect_inv z b j j' (stay) inv = inv
effect_inv z b j j' (puts i w x s o) inv = puts_inv z b j inv i w x s
effect_inv z b j j' (makes i x y r f g) inv = make_inv z b j inv i x y r f g
effect_inv z b j j' (writes_young p r k w x h _ s o) inv = young_inv z b j inv p r k w x h s
effect_inv z b j j' (writes_old q r k w x h _ s o) inv = old_inv z b j inv q r k w x h s
effect_inv z b j j' (fills p r pl h) inv = fill_inv z b j inv p r pl h
