-- One nursery record copied into the first free slot.
use Rattle.std.proofs.Common.{◌≡◌, ℕ, suc, ◌+◌, ◌<◌, Bool, true, false, eqb, ltb, ◌⊎◌, List, [], ◌∷◌, ◌++◌, length, get_or, set, Some, None, Option, sym, refl, ap, ◌∙◌, subst, inl, inr, arith}
use Rattle.words.specs.Words.{place_of}
use Rattle.words.specs.declared.place.Place.{Place}
use Rattle.words.specs.declared.place.Place.TheVariants.{Young, Old}
use Rattle.ring.specs.Arcs.{Arcs, has}
use Rattle.rules.specs.Rules.{no_record, Sizes, Evacuation, is_young, link_at, evacuate_into}
use Rattle.rules.specs.Book.{nil, no_book_record, Book}
use Rattle.rules.specs.History.{HoldsIn}
use Rattle.std.proofs.lemmas.Bool.{cases_eq, ltb-true}
use Rattle.std.proofs.lemmas.List.{length-append, length-set, get_or-set_same, get_or-set_other}
use Rattle.ring.specs.Sound.{count}
use Rattle.ring.proofs.Chain.{count_append, has_count, count_has}
use Rattle.rules.proofs.Counting.{one_if, count_self, count_other}
use Rattle.rules.proofs.Standing.{stands_more, getD_set_cases}
use Rattle.rules.proofs.Invariant.{Match, Fields, Ring, Noted, total}
use Rattle.rules.proofs.Shading.{ring_once}
use Rattle.rules.proofs.EffectsKeep.{match_more}
use Rattle.rules.proofs.Evacuating.{Evacuating, nones_set, none_some, some_is, has_push_cases, has_push_more, has_push_self, todo, todo_push}

abbrev pub taken : Arcs → ℕ → List ℕ → Arcs
taken a q qs = record { free = qs; white = a.white; grey = a.grey; black = a.black ++ (q ∷ []) }

abbrev pub copied_to : ℕ → ℕ → List ℕ → Evacuation → Evacuation
copied_to p q qs c = (evacuate_into p (Some (q, taken c.store.arcs q qs)) c).1

pub ring_below : {S : ℕ} {a : Arcs} → Ring S a → (q : ℕ) → 0 < total q a → q < S
ring_below {S} {a} g q h = go (ltb q S) refl (g.each q)
  where
    go : (t : Bool) → ltb q S ≡ t → total q a ≡ one_if t → q < S
    go true e k = ltb-true q S e
    go false e k = absurd (omega arith)

module _ (z : Sizes) (ns : List ℕ) (bk : Book) (E : ℕ → Evacuation → List (Option ℕ) → Type 0) (front : List ℕ) (i : ℕ) (c : Evacuation) (os : List (Option ℕ)) (mid : Evacuating z ns bk E front i c os) (p q : ℕ) (qs : List ℕ) (first : c.store.arcs.free ≡ q ∷ qs) (within : p < length ns) (not_evacuated : get_or c.forward p None ≡ None) where
  abbrev r : ℕ
  r = get_or ns p 0

  abbrev c' : Evacuation
  c' = copied_to p q qs c

  abbrev os' : List (Option ℕ)
  os' = set os q (Some r)

  counts : (s : ℕ) → count s c.store.arcs.free ≡ one_if (eqb s q) + count s qs
  counts s = ap (count s) first

  pub q_once : count q c.store.arcs.free ≡ suc (count q qs)
  q_once = counts q ∙ count_self q qs

  q_free : has q c.store.arcs.free ≡ true
  q_free = count_has q c.store.arcs.free (omega (arith, q_once))

  q_below : q < z.slots
  q_below = ring_below mid.ring q (omega (arith, q_once))

  pub q_none : get_or os q None ≡ None
  q_none = mid.free_none q q_free

  q_away : (s : ℕ) → has s qs ≡ true → s ≡ q → ⊥
  q_away s h e = omega (arith, ring_once mid.ring q, q_once, has_count q qs (subst (λ x. has x qs ≡ true) e h))

  pub at_q : get_or os' q None ≡ Some r
  at_q = get_or-set_same os q (Some r) None (omega (arith, mid.size, q_below))

  at_other : (s : ℕ) → (s ≡ q → ⊥) → get_or os' s None ≡ get_or os s None
  at_other s n = get_or-set_other os q s (Some r) None n

  -- each record keeps its place
  pub copy_more : (P : Place) (t : ℕ) → HoldsIn ns os P t → HoldsIn ns os' P t
  copy_more (Young m) t h = h
  copy_more (Old s) t h = at_other s (λ e. none_some q_none (subst (λ x. get_or os x None ≡ Some t) e h)) ∙ h

  -- and each record that has a place had it before, or is the one that was copied
  pub split : (s t : ℕ) → get_or os' s None ≡ Some t → ((s ≡ q) × (t ≡ r)) ⊎ ((s ≡ q → ⊥) × (get_or os s None ≡ Some t))
  split s t h = go (cases_eq s q)
    where
      go : (s ≡ q) ⊎ (s ≡ q → ⊥) → ((s ≡ q) × (t ≡ r)) ⊎ ((s ≡ q → ⊥) × (get_or os s None ≡ Some t))
      go (inl e) = inl (e, some_is (subst (λ x. get_or os' x None ≡ Some t) e h) at_q)
      go (inr n) = inr (n, sym (at_other s n) ∙ h)

  here : HoldsIn ns os (Young p) r
  here = (within, refl)

  not_old : (s : ℕ) → get_or os s None ≡ Some r → ⊥
  not_old s h = none_some not_evacuated (mid.both p s r here h)

  below' : (P : Place) (t : ℕ) → HoldsIn ns os' P t → t < length bk.records
  below' (Young m) t h = mid.below (Young m) t h
  below' (Old s) t h = go (split s t h)
    where
      go : ((s ≡ q) × (t ≡ r)) ⊎ ((s ≡ q → ⊥) × (get_or os s None ≡ Some t)) → t < length bk.records
      go (inl e) = subst (λ x. x < length bk.records) (sym e.1) (mid.below (Young p) r here)
      go (inr e) = mid.below (Old s) t e.1

  once' : (s s' t : ℕ) → get_or os' s None ≡ Some t → get_or os' s' None ≡ Some t → s ≡ s'
  once' s s' t h h' = go (split s t h) (split s' t h')
    where
      go : ((s ≡ q) × (t ≡ r)) ⊎ ((s ≡ q → ⊥) × (get_or os s None ≡ Some t)) → ((s' ≡ q) × (t ≡ r)) ⊎ ((s' ≡ q → ⊥) × (get_or os s' None ≡ Some t)) → s ≡ s'
      go (inl e) (inl f) = e.0 ∙ sym f.0
      go (inl e) (inr f) = absurd (not_old s' (f.1 ∙ ap Some e.1))
      go (inr e) (inl f) = absurd (not_old s (e.1 ∙ ap Some f.1))
      go (inr e) (inr f) = mid.old_once s s' t e.1 f.1

  forward_p : get_or (set c.forward p (Some q)) p None ≡ Some q
  forward_p = get_or-set_same c.forward p (Some q) None (omega (arith, mid.forward_size, within))

  forwarded' : (m s : ℕ) → get_or (set c.forward p (Some q)) m None ≡ Some s → get_or os' s None ≡ Some (get_or ns m 0)
  forwarded' m s h = go (cases_eq m p)
    where
      go : (m ≡ p) ⊎ (m ≡ p → ⊥) → get_or os' s None ≡ Some (get_or ns m 0)
      go (inl e) = let k : q ≡ s = some_is forward_p (subst (λ x. get_or (set c.forward p (Some q)) x None ≡ Some s) e h) in subst (λ x. get_or os' x None ≡ Some (get_or ns m 0)) k (at_q ∙ ap (λ x. Some (get_or ns x 0)) (sym e))
      go (inr n) = copy_more (Old s) (get_or ns m 0) (mid.forwarded m s (sym (get_or-set_other c.forward p m (Some q) None n) ∙ h))

  in_copied' : (m s : ℕ) → get_or (set c.forward p (Some q)) m None ≡ Some s → has s (c.copied ++ (q ∷ [])) ≡ true
  in_copied' m s h = go (getD_set_cases c.forward p m (Some q) None)
    where
      go : (get_or (set c.forward p (Some q)) m None ≡ get_or c.forward m None) ⊎ ((m ≡ p) × (get_or (set c.forward p (Some q)) m None ≡ Some q)) → has s (c.copied ++ (q ∷ [])) ≡ true
      go (inl e) = has_push_more s q c.copied (mid.in_copied m s (sym e ∙ h))
      go (inr e) = let k : q ≡ s = some_is e.1 h in subst (λ x. has x (c.copied ++ (q ∷ [])) ≡ true) k (has_push_self q c.copied)

  both' : (m s t : ℕ) → HoldsIn ns os (Young m) t → get_or os' s None ≡ Some t → get_or (set c.forward p (Some q)) m None ≡ Some s
  both' m s t h k = go (split s t k)
    where
      go : ((s ≡ q) × (t ≡ r)) ⊎ ((s ≡ q → ⊥) × (get_or os s None ≡ Some t)) → get_or (set c.forward p (Some q)) m None ≡ Some s
      go (inl e) = let f : m ≡ p = mid.young_once m p r (h.0, h.1 ∙ e.1) here in subst (λ x. get_or (set c.forward p (Some q)) x None ≡ Some s) (sym f) (forward_p ∙ ap Some (sym e.0))
      go (inr e) =
          let f : get_or c.forward m None ≡ Some s = mid.both m s t h e.1 in
          get_or-set_other c.forward p m (Some q) None (λ g. none_some not_evacuated (subst (λ x. get_or c.forward x None ≡ Some s) g f)) ∙ f

  pub slot_q : get_or c'.store.slots q no_record ≡ get_or c.store.nursery p no_record
  slot_q = get_or-set_same c.store.slots q (get_or c.store.nursery p no_record) no_record (omega (arith, mid.slots_size, q_below))

  pub slot_other : (s : ℕ) → (s ≡ q → ⊥) → get_or c'.store.slots s no_record ≡ get_or c.store.slots s no_record
  slot_other s n = get_or-set_other c.store.slots q s (get_or c.store.nursery p no_record) no_record n

  pub slot_kept : (s t : ℕ) → get_or os s None ≡ Some t → get_or c'.store.slots s no_record ≡ get_or c.store.slots s no_record
  slot_kept s t h = slot_other s (λ e. none_some q_none (subst (λ x. get_or os x None ≡ Some t) e h))

  fields' : Fields z.links ns os' c.store.nursery c'.store.slots bk.records
  fields' (Young m) t h = match_more copy_more (mid.fields (Young m) t h)
  fields' (Old s) t h = go (split s t h)
    where
      go : ((s ≡ q) × (t ≡ r)) ⊎ ((s ≡ q → ⊥) × (get_or os s None ≡ Some t)) → Match (HoldsIn ns os') z.links (get_or c'.store.slots s no_record) (get_or bk.records t no_book_record)
      go (inl e) = rw (e.0, slot_q, e.1) (match_more copy_more (mid.fields (Young p) r here))
      go (inr e) = rw (slot_other s e.0) (match_more copy_more (mid.fields (Old s) t e.1))

  noted' : Noted os' c'.store.slots (todo front i c.copied ++ (q ∷ []))
  noted' = record { owned = λ s h. owned s (has_push_cases s q (todo front i c.copied) h); all = λ s t k h y. all s t k y (split s t h) }
    where
      owned : (s : ℕ) → (has s (todo front i c.copied) ≡ true) ⊎ (s ≡ q) → (t : ℕ) × (get_or os' s None ≡ Some t)
      owned s (inl h) = let (t, k) = mid.noted.owned s h in (t, copy_more (Old s) t k)
      owned s (inr e) = (r, subst (λ x. get_or os' x None ≡ Some r) (sym e) at_q)

      all : (s t k : ℕ) → is_young (place_of (link_at c'.store.slots s k)) ≡ true → ((s ≡ q) × (t ≡ r)) ⊎ ((s ≡ q → ⊥) × (get_or os s None ≡ Some t)) → has s (todo front i c.copied ++ (q ∷ [])) ≡ true
      all s t k y (inl e) = subst (λ x. has x (todo front i c.copied ++ (q ∷ [])) ≡ true) (sym e.0) (has_push_self q (todo front i c.copied))
      all s t k y (inr e) = has_push_more s q (todo front i c.copied) (mid.noted.all s t k e.1 (subst (λ x. is_young (place_of (get_or x.links k 0)) ≡ true) (slot_other s e.0) y))

  none_free' : (s : ℕ) → s < z.slots → get_or os' s None ≡ None → has s qs ≡ true
  none_free' s l h = go (cases_eq s q)
    where
      go : (s ≡ q) ⊎ (s ≡ q → ⊥) → has s qs ≡ true
      go (inl e) = absurd (none_some (subst (λ x. get_or os' x None ≡ None) e h) at_q)
      go (inr n) = count_has s qs (omega (arith, has_count s c.store.arcs.free (mid.none_free s l (sym (at_other s n) ∙ h)), ap (count s) first, count_other s q qs (λ e. n (sym e))))

  pub copy_mid : E i c' os' → Evacuating z ns bk E front i c' os'
  copy_mid extra = record {
    regs_size = mid.regs_size;
    nursery_size = mid.nursery_size;
    slots_size = length-set c.store.slots q _ ∙ mid.slots_size;
    ring = record {
      size = simp length-append (omega (arith, mid.ring.size, ap length first));
      each = λ s. simp count_append (omega (arith, mid.ring.each s, counts s));
    };
    size = length-set os q _ ∙ mid.size;
    free_none = λ s h. at_other s (q_away s h) ∙ mid.free_none s (count_has s c.store.arcs.free (omega (arith, counts s, has_count s qs h)));
    none_free = none_free';
    below = below';
    young_once = mid.young_once;
    old_once = once';
    forward_size = length-set c.forward p _ ∙ mid.forward_size;
    forwarded = forwarded';
    in_copied = in_copied';
    both = both';
    fields = fields';
    regs = λ k. stands_more (HoldsIn ns os) (HoldsIn ns os') copy_more (get_or c.store.registers k 0) (get_or bk.registers k nil) (mid.regs k);
    room = omega (arith, mid.room, ap length first, nones_set c.forward p q (omega (arith, mid.forward_size, within)) not_evacuated);
    counted = simp length-append (omega (arith, mid.counted, nones_set c.forward p q (omega (arith, mid.forward_size, within)) not_evacuated));
    visited = simp length-append (omega (arith, mid.visited));
    noted = rw (todo_push front i c.copied q mid.visited) noted';
    extra = extra;
  }
