-- The nursery emptied: the invariant holds again, the nursery is empty, and the history of places is as defined.
use Rattle.std.proofs.Common.{◌≡◌, ℕ, zero, suc, ◌+◌, ◌<◌, ◌≤◌, Bool, true, false, ◌⊎◌, List, [], ◌∷◌, ◌++◌, length, get_or, drop, set, replicate, Some, None, Option, sym, refl, ap, ◌∙◌, subst, inl, inr, arith}
use lib.ListN.{length-replicate}
use Rattle.words.specs.Words.{place_of}
use Rattle.words.specs.declared.place.Place.{Place}
use Rattle.words.specs.declared.place.Place.TheVariants.{Young, Old}
use Rattle.ring.specs.Arcs.{Arcs, has}
use Rattle.rules.specs.Rules.{Barrier, Sizes, Store, Evacuation, is_young, link_at, shade_if, put_register, put_link, visit_registers, visit_noted, visit_copied, rescanning, begin_evacuation, visit_all, nursery_emptied}
use Rattle.rules.specs.Book.{BookWord, nil, num, ref, no_book_record, Book}
use Rattle.rules.specs.History.{History, HoldsIn, Holds, owners_after_copying}
use Rattle.rules.specs.Promise.{LeadsTo, StandsForIn}
use Rattle.std.proofs.lemmas.Bool.{cases_eq, cases_lt, true≢false}
use Rattle.std.proofs.lemmas.List.{append-nil, append_assoc, length-append, length-set, get_or-set_same, get_or-set_other, get_or_past, drop_all, ext_get_or}
use Rattle.ring.proofs.Chain.{count_append, has_count, count_has}
use Rattle.rules.proofs.Invariant.{Fields, Noted, Inv}
use Rattle.rules.proofs.Shading.{shaded_if}
use Rattle.rules.proofs.Evacuating.{Evacuating, Fine, fine_less, fine_same, fine_nothing, nones_all, some_within, none_some, some_is}
use Rattle.rules.proofs.Copying.{copied_to}
use Rattle.rules.proofs.Visiting.{Carried, RegsDone, registers_ok, Went, noted_ok, copied_ok}

-- what emptying leaves alone, and where the owners come from
pub record Ground (s₀ : Store) (os₀ : List (Option ℕ)) (c : Evacuation) (os : List (Option ℕ)) : Type 0 where
  pub cycle : c.store.cycle ≡ s₀.cycle
  pub quiet : s₀.cycle ≡ false → (c.store.arcs.white ≡ []) × (c.store.arcs.grey ≡ [])
  pub from : (q : ℕ) → (get_or os q None ≡ get_or os₀ q None) ⊎ ((p : ℕ) × (get_or c.forward p None ≡ Some q))
  pub black : c.store.arcs.black ≡ s₀.arcs.black ++ c.copied
  pub free : length c.store.arcs.free + length c.copied ≡ length s₀.arcs.free

pub copied_black : {s₀ : Store} {os₀ : List (Option ℕ)} {c : Evacuation} {os : List (Option ℕ)} → Ground s₀ os₀ c os → (q : ℕ) → has q c.copied ≡ true → has q c.store.arcs.black ≡ true
copied_black {s₀} {os₀} {c} {os} g q h = subst (λ xs. has q xs ≡ true) (sym g.black) (count_has q (s₀.arcs.black ++ c.copied) (omega (arith, count_append q s₀.arcs.black c.copied, has_count q c.copied h)))

module _ (s₀ : Store) (os₀ : List (Option ℕ)) where
  pub ground_copy : (c : Evacuation) (os : List (Option ℕ)) → Ground s₀ os₀ c os → (p q : ℕ) (qs : List ℕ) (r : ℕ) → c.store.arcs.free ≡ q ∷ qs → p < length c.forward → get_or c.forward p None ≡ None → Ground s₀ os₀ (copied_to p q qs c) (set os q (Some r))
  ground_copy c os g p q qs r first l e = record { cycle = g.cycle; quiet = g.quiet; from = from; black = ap (λ xs. xs ++ (q ∷ [])) g.black ∙ append_assoc s₀.arcs.black c.copied (q ∷ []); free = simp length-append (omega (arith, g.free, ap length first)) }
    where
      here : get_or (set c.forward p (Some q)) p None ≡ Some q
      here = get_or-set_same c.forward p (Some q) None l

      from : (s : ℕ) → (get_or (set os q (Some r)) s None ≡ get_or os₀ s None) ⊎ ((m : ℕ) × (get_or (set c.forward p (Some q)) m None ≡ Some s))
      from s = go (cases_eq s q) (g.from s)
        where
          go : (s ≡ q) ⊎ (s ≡ q → ⊥) → (get_or os s None ≡ get_or os₀ s None) ⊎ ((m : ℕ) × (get_or c.forward m None ≡ Some s)) → (get_or (set os q (Some r)) s None ≡ get_or os₀ s None) ⊎ ((m : ℕ) × (get_or (set c.forward p (Some q)) m None ≡ Some s))
          go (inl k) f = inr (p, here ∙ ap Some (sym k))
          go (inr n) (inl f) = inl (get_or-set_other os q s (Some r) None n ∙ f)
          go (inr n) (inr f) = inr (f.0, get_or-set_other c.forward p f.0 (Some q) None (λ k. none_some e (subst (λ x. get_or c.forward x None ≡ Some s) k f.1)) ∙ f.1)

  shade_quiet : (again : Bool) (w : ℕ) (a : Arcs) → (s₀.cycle ≡ false → again ≡ false) → (s₀.cycle ≡ false → (a.white ≡ []) × (a.grey ≡ [])) → s₀.cycle ≡ false → ((shade_if again w a).white ≡ []) × ((shade_if again w a).grey ≡ [])
  shade_quiet false w a r g e = g e
  shade_quiet true w a r g e = absurd (true≢false (r e))

  pub ground_register : (again : Bool) → (s₀.cycle ≡ false → again ≡ false) → (c : Evacuation) (os : List (Option ℕ)) → Ground s₀ os₀ c os → (k w : ℕ) → Ground s₀ os₀ (put_register again k w c) os
  ground_register again r c os g k w = record { cycle = g.cycle; quiet = shade_quiet again w c.store.arcs r g.quiet; from = g.from; black = (shaded_if again w c.store.arcs).black ∙ g.black; free = subst (λ f. length f + length c.copied ≡ length s₀.arcs.free) (sym (shaded_if again w c.store.arcs).free) g.free }

  pub ground_link : (again : Bool) → (s₀.cycle ≡ false → again ≡ false) → (c : Evacuation) (os : List (Option ℕ)) → Ground s₀ os₀ c os → (q k w : ℕ) → Ground s₀ os₀ (put_link again q k w c) os
  ground_link again r c os g q k w = record { cycle = g.cycle; quiet = shade_quiet again w c.store.arcs r g.quiet; from = g.from; black = (shaded_if again w c.store.arcs).black ∙ g.black; free = subst (λ f. length f + length c.copied ≡ length s₀.arcs.free) (sym (shaded_if again w c.store.arcs).free) g.free }

-- the history of places is what the copying left
pub owners_after_copying_is : (rs : List ℕ) (fs owners os : List (Option ℕ)) → length fs ≡ length rs → ((p q : ℕ) → get_or fs p None ≡ Some q → get_or os q None ≡ Some (get_or rs p 0)) → ((q : ℕ) → (get_or os q None ≡ get_or owners q None) ⊎ ((p : ℕ) × (get_or fs p None ≡ Some q))) → length os ≡ length owners → (q : ℕ) → get_or (owners_after_copying rs fs owners) q None ≡ get_or os q None
owners_after_copying_is [] [] owners os l to from z q = go (from q)
  where
    go : (get_or os q None ≡ get_or owners q None) ⊎ ((p : ℕ) × (None ≡ Some q)) → get_or owners q None ≡ get_or os q None
    go (inl e) = sym e
    go (inr e) = absurd (none_some refl e.1)
owners_after_copying_is [] (f ∷ fs) owners os l to from z q = absurd (omega arith)
owners_after_copying_is (r ∷ rs) [] owners os l to from z q = absurd (omega arith)
owners_after_copying_is (r ∷ rs) (None ∷ fs) owners os l to from z q = owners_after_copying_is rs fs owners os (omega arith) (λ p s h. to (suc p) s h) (λ s. shift s (from s)) z q
  where
    shift : (s : ℕ) → (get_or os s None ≡ get_or owners s None) ⊎ ((p : ℕ) × (get_or (None ∷ fs) p None ≡ Some s)) → (get_or os s None ≡ get_or owners s None) ⊎ ((p : ℕ) × (get_or fs p None ≡ Some s))
    shift s (inl e) = inl e
    shift s (inr e) = at e.0 e.1
      where
        at : (p : ℕ) → get_or (None ∷ fs) p None ≡ Some s → (get_or os s None ≡ get_or owners s None) ⊎ ((p : ℕ) × (get_or fs p None ≡ Some s))
        at zero h = absurd (none_some refl h)
        at (suc p) h = inr (p, h)
owners_after_copying_is (r ∷ rs) (Some t ∷ fs) owners os l to from z q = owners_after_copying_is rs fs (set owners t (Some r)) os (omega arith) (λ p s h. to (suc p) s h) (λ s. shift s (cases_eq s t) (from s)) (z ∙ sym (length-set owners t (Some r))) q
  where
    at_t : get_or os t None ≡ Some r
    at_t = to 0 t refl

    shift : (s : ℕ) → (s ≡ t) ⊎ (s ≡ t → ⊥) → (get_or os s None ≡ get_or owners s None) ⊎ ((p : ℕ) × (get_or (Some t ∷ fs) p None ≡ Some s)) → (get_or os s None ≡ get_or (set owners t (Some r)) s None) ⊎ ((p : ℕ) × (get_or fs p None ≡ Some s))
    shift s (inl e) f = inl (ap (λ x. get_or os x None) e ∙ at_t ∙ sym (get_or-set_same owners t (Some r) None (omega (arith, z, some_within os t r at_t))) ∙ ap (λ x. get_or (set owners t (Some r)) x None) (sym e))
    shift s (inr n) (inl e) = inl (e ∙ sym (get_or-set_other owners t s (Some r) None n))
    shift s (inr n) (inr e) = at e.0 e.1
      where
        at : (p : ℕ) → get_or (Some t ∷ fs) p None ≡ Some s → (get_or os s None ≡ get_or (set owners t (Some r)) s None) ⊎ ((p : ℕ) × (get_or fs p None ≡ Some s))
        at zero h = absurd (n (sym (some_is refl h)))
        at (suc p) h = inr (p, h)

-- a word that is no nursery place stands for the same without the nursery
pub stands_old : (ns : List ℕ) (os : List (Option ℕ)) (w : ℕ) (x : BookWord) → is_young (place_of w) ≡ false → StandsForIn (HoldsIn ns os) w x → StandsForIn (HoldsIn [] os) w x
stands_old ns os w nil e h = h
stands_old ns os w (num v) e h = h
stands_old ns os w (ref r) e h = go (place_of w) e h
  where
    go : (o : Option Place) → is_young o ≡ false → LeadsTo (HoldsIn ns os) o r → LeadsTo (HoldsIn [] os) o r
    go None e h = h
    go (Some (Young p)) e h = absurd (true≢false e)
    go (Some (Old q)) e h = h

abbrev pub after_copying : Evacuation → Book → List (Option ℕ) → History
after_copying c bk os = record { store = (nursery_emptied c).store; book = bk; nursery_owners = []; slot_owners = os }

module _ (z : Sizes) (b : Barrier) (j : History) (inv : Inv z j) (E : ℕ → Evacuation → List (Option ℕ) → Type 0) (carried : Carried z j.nursery_owners j.book E (rescanning b j.store)) (start : E 0 (begin_evacuation j.store) j.slot_owners) (ground : (i : ℕ) (c : Evacuation) (os : List (Option ℕ)) → E i c os → Ground j.store j.slot_owners c os) where
  abbrev ns : List ℕ
  ns = j.nursery_owners

  none_yet : (n p q : ℕ) → get_or (replicate n None) p None ≡ Some q → ⊥
  none_yet zero p q h = none_some refl h
  none_yet (suc n) zero q h = none_some refl h
  none_yet (suc n) (suc p) q h = none_yet n p q h

  apart : (p q : ℕ) → Young p ≡ Old q → ⊥
  apart p q e = let k : ◌≡◌ {A = ℕ} 0 1 = cc in omega arith

  first_mid : Evacuating z ns j.book E j.store.notes 0 (begin_evacuation j.store) j.slot_owners
  first_mid = record {
    regs_size = inv.regs_size;
    nursery_size = inv.nursery_size;
    slots_size = inv.slots_size;
    ring = inv.ring;
    size = inv.owners.size;
    free_none = inv.owners.free_none;
    none_free = inv.owners.none_free;
    below = inv.owners.below;
    young_once = λ p p' r h h'. let e : Young p ≡ Young p' = inv.owners.unique (Young p) (Young p') r h h' in cc;
    old_once = λ q q' r h h'. let e : Old q ≡ Old q' = inv.owners.unique (Old q) (Old q') r h h' in cc;
    forward_size = length-replicate (length j.store.nursery) None ∙ inv.nursery_size;
    forwarded = λ p q h. absurd (none_yet (length j.store.nursery) p q h);
    in_copied = λ p q h. absurd (none_yet (length j.store.nursery) p q h);
    both = λ p q r h k. absurd (apart p q (inv.owners.unique (Young p) (Old q) r h k));
    fields = inv.fields;
    regs = inv.regs;
    room = omega (arith, nones_all (length j.store.nursery), inv.room);
    counted = omega (arith, nones_all (length j.store.nursery), inv.nursery_size);
    visited = omega arith;
    noted = rw append-nil inv.noted;
    extra = start;
  }

  pub record Emptied (c : Evacuation) : Type 0 where
    pub os' : List (Option ℕ)
    pub mid : Evacuating z ns j.book E [] (length c.copied) c os'
    pub more : (P : Place) (t : ℕ) → Holds j P t → HoldsIn ns os' P t
    pub fine : (k : ℕ) → Fine (rescanning b j.store) c.store.arcs (get_or c.store.registers k 0)

  join : (c₁ c₂ c₃ : Evacuation) (r : RegsDone z ns j.book E (rescanning b j.store) carried j.store.notes 0 j.slot_owners z.registers c₁) (n : Went z ns j.book E (rescanning b j.store) carried [] 0 c₁ r.os' c₂) → Went z ns j.book E (rescanning b j.store) carried [] (length c₃.copied) c₂ n.os' c₃ → Emptied c₃
  join c₁ c₂ c₃ r n w = record { os' = w.os'; mid = w.mid; more = λ P t h. w.more P t (n.more P t (r.more P t h)); fine = λ k. go k (cases_lt k z.registers) }
    where
      go : (k : ℕ) → (k < z.registers) ⊎ (z.registers ≤ k) → Fine (rescanning b j.store) c₃.store.arcs (get_or c₃.store.registers k 0)
      go k (inl l) = fine_same (ap (λ rs. get_or rs k 0) (w.registers ∙ n.registers)) (fine_less (λ t. omega (arith, n.white t, w.white t)) (r.fine k l))
      go k (inr l) = fine_same (get_or_past c₃.store.registers k 0 (omega (arith, w.mid.regs_size))) (fine_nothing (rescanning b j.store) c₃.store.arcs)

  pub emptied : Emptied (visit_all z b j.store)
  emptied =
      let rescan = rescanning b j.store in
      let r = registers_ok z ns j.book E rescan carried z.registers 0 j.store.notes 0 (begin_evacuation j.store) j.slot_owners first_mid (omega arith) (λ m l. absurd (omega arith)) in
      let c₁ = visit_registers rescan 0 z.registers (begin_evacuation j.store) in
      let n = noted_ok z ns j.book E rescan carried j.store.notes c₁ r.os' r.mid in
      let c₂ = visit_noted z.links j.store.notes c₁ in
      let w = (copied_ok z ns j.book E rescan carried (length j.store.nursery) 0 c₂ n.os' n.mid (omega (arith, inv.nursery_size))).went in
      join c₁ c₂ (visit_copied rescan z.links 0 (length j.store.nursery) c₂) r n w

  -- what the whole visit leaves
  pub done_inv : (c : Evacuation) (e : Emptied c) → Inv z (after_copying c j.book e.os')
  done_inv c e =
      let m = e.mid in
      let g = ground (length c.copied) c e.os' m.extra in
      let nothing_left : drop (length c.copied) c.copied ≡ [] = drop_all (length c.copied) c.copied (omega arith) in
      let clean : Noted e.os' c.store.slots [] = subst (λ xs. Noted e.os' c.store.slots xs) nothing_left m.noted in
      record {
        regs_size = m.regs_size;
        book_regs_size = inv.book_regs_size;
        nursery_size = refl;
        nursery_cap = omega arith;
        slots_size = m.slots_size;
        ring = m.ring;
        quiet = λ h. g.quiet (sym g.cycle ∙ h);
        room = omega arith;
        owners = record { size = m.size; free_none = m.free_none; none_free = m.none_free; below = below; unique = unique };
        fields = fields clean;
        regs = λ k. stands_old ns e.os' (get_or c.store.registers k 0) (get_or j.book.registers k nil) (e.fine k).settled (m.regs k);
        noted = clean;
        noted_once = λ q. omega arith;
      }
    where
      below : (p : Place) (r : ℕ) → HoldsIn [] e.os' p r → r < length j.book.records
      below (Young p) r h = absurd (omega (arith, h.0))
      below (Old q) r h = e.mid.below (Old q) r h

      unique : (p p' : Place) (r : ℕ) → HoldsIn [] e.os' p r → HoldsIn [] e.os' p' r → p ≡ p'
      unique (Young p) p' r h h' = absurd (omega (arith, h.0))
      unique (Old q) (Young p) r h h' = absurd (omega (arith, h'.0))
      unique (Old q) (Old q') r h h' = ap Old (e.mid.old_once q q' r h h')

      settled : Noted e.os' c.store.slots [] → (q r k : ℕ) → get_or e.os' q None ≡ Some r → is_young (place_of (link_at c.store.slots q k)) ≡ false
      settled n q r k h = go (is_young (place_of (link_at c.store.slots q k))) refl
        where
          go : (t : Bool) → is_young (place_of (link_at c.store.slots q k)) ≡ t → t ≡ false
          go false y = refl
          go true y = absurd (true≢false (sym (n.all q r k h y)))

      fields : Noted e.os' c.store.slots [] → Fields z.links [] e.os' [] c.store.slots j.book.records
      fields n (Young p) r h = absurd (omega (arith, h.0))
      fields n (Old q) r h = let f = e.mid.fields (Old q) r h in record { plain = f.plain; size = f.size; book_size = f.book_size; links = λ k. stands_old ns e.os' (link_at c.store.slots q k) (get_or (get_or j.book.records r no_book_record).links k nil) (settled n q r k h) (f.links k) }

  pub done_owners : (c : Evacuation) (e : Emptied c) → owners_after_copying ns c.forward j.slot_owners ≡ e.os'
  done_owners c e =
      let m = e.mid in
      let g = ground (length c.copied) c e.os' m.extra in
      ext_get_or None (owners_after_copying ns c.forward j.slot_owners) e.os' (settle_size ns c.forward j.slot_owners ∙ inv.owners.size ∙ sym m.size) (λ q _. owners_after_copying_is ns c.forward j.slot_owners e.os' m.forward_size m.forwarded g.from (m.size ∙ sym inv.owners.size) q)
    where
      settle_size : (rs : List ℕ) (fs owners : List (Option ℕ)) → length (owners_after_copying rs fs owners) ≡ length owners
      settle_size [] fs owners = refl
      settle_size (r ∷ rs) [] owners = refl
      settle_size (r ∷ rs) (None ∷ fs) owners = settle_size rs fs owners
      settle_size (r ∷ rs) (Some q ∷ fs) owners = settle_size rs fs (set owners q (Some r)) ∙ length-set owners q (Some r)
