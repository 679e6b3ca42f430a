-- Visiting registers and links: each nursery word is replaced by that of its record's slot, and what holds meanwhile is kept.
use Rattle.std.proofs.Common.{◌≡◌, ℕ, zero, suc, ◌+◌, ◌<◌, ◌≤◌, Bool, true, false, cond, eqb, ltb, ◌⊎◌, List, [], ◌∷◌, length, get_or, drop, set, Some, None, Option, sym, refl, ap, ◌∙◌, subst, inl, inr, arith, drop-cons}
use Rattle.words.specs.Words.{slot_word, place_of}
use Rattle.words.specs.declared.place.Place.{Place}
use Rattle.words.specs.declared.place.Place.TheVariants.{Young, Old}
use Rattle.ring.specs.Arcs.{has, take_from}
use Rattle.rules.specs.Rules.{Record, no_record, Sizes, Evacuation, is_young, link_at, set_link, with_link, shade_if, evacuate_into, evacuate_to, evacuated_place, evacuated, put_register, put_link, visit_register, visit_registers, visit_link, visit_links, visit_noted, visit_copied}
use Rattle.rules.specs.Book.{BookWord, nil, num, ref, BookRecord, no_book_record, Book}
use Rattle.rules.specs.History.{HoldsIn}
use Rattle.rules.specs.Promise.{LeadsTo, StandsForIn}
use Rattle.std.proofs.lemmas.Bool.{cases_eq, cases_lt, true≢false, both_ways, ltb-true, ltb-false, lt-ltb, eqb-true, or_right, or_cases}
use Rattle.std.proofs.lemmas.List.{length-append, length-set, get_or-set_same, get_or-set_other, get_or_past, get_or_append_left, drop_more}
use Rattle.ring.specs.Sound.{count}
use Rattle.rules.proofs.Counting.{has_self}
use Rattle.rules.proofs.Standing.{getD_set_cases, link_at_cases, set_left, place_of_slot, place_of_number}
use Rattle.rules.proofs.Invariant.{Match, Fields, Noted}
use Rattle.rules.proofs.Shading.{shaded_if, shaded_ring, shade_white, ring_once}
use Rattle.rules.proofs.Evacuating.{Evacuating, Fine, fine_less, fine_same, fine_nothing, nones, nones_set, some_within, none_some, some_is, has_push_self, has_push_more, todo}
use Rattle.rules.proofs.Copying.{copied_to, copy_mid, copy_more, slot_kept}

-- what a step of the visit may put in: the word that was there, or that of a copy
abbrev pub Came : ℕ → ℕ → Evacuation → Type 0
Came w w' c = (w' ≡ w) ⊎ ((t : ℕ) × (place_of w' ≡ Some (Old t)) × (has t c.copied ≡ true))

-- the steps of the visit that must keep E
pub record Carried (z : Sizes) (ns : List ℕ) (bk : Book) (E : ℕ → Evacuation → List (Option ℕ) → Type 0) (rescan : Bool) : Type 0 where
  pub on_copy : (front : List ℕ) (i : ℕ) (c : Evacuation) (os : List (Option ℕ)) → Evacuating z ns bk E front i c os → (p q : ℕ) (qs : List ℕ) → c.store.arcs.free ≡ q ∷ qs → p < length ns → get_or c.forward p None ≡ None → E i (copied_to p q qs c) (set os q (Some (get_or ns p 0)))
  pub on_register : (front : List ℕ) (i : ℕ) (c : Evacuation) (os : List (Option ℕ)) → Evacuating z ns bk E front i c os → (k w : ℕ) → StandsForIn (HoldsIn ns os) w (get_or bk.registers k nil) → E i (put_register rescan k w c) os
  pub on_link : (front : List ℕ) (i : ℕ) (c : Evacuation) (os : List (Option ℕ)) → Evacuating z ns bk E front i c os → (again : Bool) (q r k w : ℕ) → (again ≡ true → (rescan ≡ true) × (has q c.copied ≡ true)) → get_or os q None ≡ Some r → StandsForIn (HoldsIn ns os) w (get_or (get_or bk.records r no_book_record).links k nil) → Came (link_at c.store.slots q k) w c → E i (put_link again q k w c) os
  pub on_done : (i : ℕ) (c : Evacuation) (os : List (Option ℕ)) → Evacuating z ns bk E [] i c os → i < length c.copied → ((k : ℕ) → Fine rescan c.store.arcs (link_at c.store.slots (get_or c.copied i 0) k)) → E (suc i) c os

module _ (z : Sizes) (ns : List ℕ) (bk : Book) (E : ℕ → Evacuation → List (Option ℕ) → Type 0) (rescan : Bool) (carried : Carried z ns bk E rescan) where
  pub record EvacuatedOk (front : List ℕ) (i : ℕ) (c : Evacuation) (os : List (Option ℕ)) (w : ℕ) (x : BookWord) (w' : ℕ) (c' : Evacuation) : Type 0 where
    pub os' : List (Option ℕ)
    pub mid : Evacuating z ns bk E front i c' os'
    pub stands : StandsForIn (HoldsIn ns os') w' x
    pub settled : is_young (place_of w') ≡ false
    pub came : Came w w' c'
    pub registers : c'.store.registers ≡ c.store.registers
    pub slot_kept : (s t : ℕ) → get_or os s None ≡ Some t → get_or c'.store.slots s no_record ≡ get_or c.store.slots s no_record
    pub more : (P : Place) (t : ℕ) → HoldsIn ns os P t → HoldsIn ns os' P t
    pub white : (t : ℕ) → count t c'.store.arcs.white ≤ count t c.store.arcs.white
    pub copied : (t : ℕ) → has t c.copied ≡ true → has t c'.copied ≡ true
    pub copied_at : (m : ℕ) → m < length c.copied → (m < length c'.copied) × (get_or c'.copied m 0 ≡ get_or c.copied m 0)

  module _ (front : List ℕ) (i : ℕ) (c : Evacuation) (os : List (Option ℕ)) (mid : Evacuating z ns bk E front i c os) where
    not_evacuated : (w : ℕ) (x : BookWord) → StandsForIn (HoldsIn ns os) w x → is_young (place_of w) ≡ false → EvacuatedOk front i c os w x w c
    not_evacuated w x s e = record { os' = os; mid = mid; stands = s; settled = e; came = inl refl; registers = refl; slot_kept = λ s t h. refl; more = λ P t h. h; white = λ t. omega arith; copied = λ t h. h; copied_at = λ m l. (l, refl) }

    young_ref : (w p : ℕ) (x : BookWord) → place_of w ≡ Some (Young p) → StandsForIn (HoldsIn ns os) w x → (r : ℕ) × (x ≡ ref r) × HoldsIn ns os (Young p) r
    young_ref w p nil e s = absurd (none_some (ap place_of s) e)
    young_ref w p (num v) e s = absurd (none_some (ap place_of s.0 ∙ place_of_number v) e)
    young_ref w p (ref r) e s = (r, refl, subst (λ o. LeadsTo (HoldsIn ns os) o r) e s)

    slot_stands : (K : Place → ℕ → Type 0) (q r : ℕ) → K (Old q) r → StandsForIn K (slot_word q) (ref r)
    slot_stands K q r h = subst (λ o. LeadsTo K o r) (sym (place_of_slot q)) h

    to_old : (w p q r : ℕ) → get_or c.forward p None ≡ Some q → HoldsIn ns os (Young p) r → EvacuatedOk front i c os w (ref r) (slot_word q) c
    to_old w p q r e h = record {
      os' = os;
      mid = mid;
      stands = slot_stands (HoldsIn ns os) q r (mid.forwarded p q e ∙ ap Some h.1);
      settled = ap is_young (place_of_slot q);
      came = inr (q, place_of_slot q, mid.in_copied p q e);
      registers = refl;
      slot_kept = λ s t k. refl;
      more = λ P t k. k;
      white = λ t. omega arith;
      copied = λ t k. k;
      copied_at = λ m l. (l, refl);
    }

    to_new : (w p r : ℕ) → get_or c.forward p None ≡ None → HoldsIn ns os (Young p) r → (f : List ℕ) → c.store.arcs.free ≡ f → EvacuatedOk front i c os w (ref r) (evacuate_into p (take_from f c.store.arcs) c).0 (evacuate_into p (take_from f c.store.arcs) c).1
    to_new w p r e h [] g = absurd (omega (arith, mid.room, ap length g, nones_set c.forward p 0 (omega (arith, mid.forward_size, h.0)) e))
    to_new w p r e h (q ∷ qs) g =
        let m = copy_mid z ns bk E front i c os mid p q qs g h.0 e (carried.on_copy front i c os mid p q qs g h.0 e) in
        let own : get_or (set os q (Some (get_or ns p 0))) q None ≡ Some (get_or ns p 0) = m.forwarded p q (get_or-set_same c.forward p (Some q) None (omega (arith, mid.forward_size, h.0))) in
        record {
          os' = set os q (Some (get_or ns p 0));
          mid = m;
          stands = slot_stands (HoldsIn ns (set os q (Some (get_or ns p 0)))) q r (own ∙ ap Some h.1);
          settled = ap is_young (place_of_slot q);
          came = inr (q, place_of_slot q, has_push_self q c.copied);
          registers = refl;
          slot_kept = slot_kept z ns bk E front i c os mid p q qs g h.0 e;
          more = copy_more z ns bk E front i c os mid p q qs g h.0 e;
          white = λ t. omega arith;
          copied = λ t k. has_push_more t q c.copied k;
          copied_at = λ m l. (simp length-append (omega arith), get_or_append_left c.copied (q ∷ []) 0 m l);
        }

    pub evacuated_ok : (w : ℕ) (x : BookWord) → StandsForIn (HoldsIn ns os) w x → EvacuatedOk front i c os w x (evacuated w c).0 (evacuated w c).1
    evacuated_ok w x s = go (place_of w) refl
      where
        at_young : (p : ℕ) → place_of w ≡ Some (Young p) → (r : ℕ) → HoldsIn ns os (Young p) r → (f : Option ℕ) → get_or c.forward p None ≡ f → EvacuatedOk front i c os w (ref r) (evacuate_to p f c).0 (evacuate_to p f c).1
        at_young p e r h (Some q) g = to_old w p q r g h
        at_young p e r h None g = to_new w p r g h c.store.arcs.free refl

        go : (o : Option Place) → place_of w ≡ o → EvacuatedOk front i c os w x (evacuated_place o w c).0 (evacuated_place o w c).1
        go None e = not_evacuated w x s (ap is_young e)
        go (Some (Old q)) e = not_evacuated w x s (ap is_young e)
        go (Some (Young p)) e =
            let (r, k, h) = young_ref w p x e s in
            rw (lt-ltb p (length c.forward) (omega (arith, h.0, mid.forward_size)))
            (subst (λ v. EvacuatedOk front i c os w v (evacuate_to p (get_or c.forward p None) c).0 (evacuate_to p (get_or c.forward p None) c).1) (sym k) (at_young p e r h (get_or c.forward p None) refl))

    fine_shaded : (again : Bool) (w : ℕ) → is_young (place_of w) ≡ false → Fine again (shade_if again w c.store.arcs) w
    fine_shaded again w e = record { settled = e; unwhite = λ y t h. go again y t h }
      where
        go : (again : Bool) → again ≡ true → (t : ℕ) → place_of w ≡ Some (Old t) → count t (shade_if again w c.store.arcs).white ≡ 0
        go true y t h = shade_white w t c.store.arcs h (omega (arith, ring_once mid.ring t))
        go false y t h = absurd (true≢false (sym y))

    put_register_mid : (k w : ℕ) → StandsForIn (HoldsIn ns os) w (get_or bk.registers k nil) → Evacuating z ns bk E front i (put_register rescan k w c) os
    put_register_mid k w s =
        let sh = shaded_if rescan w c.store.arcs in
        record {
          regs_size = length-set c.store.registers k w ∙ mid.regs_size;
          nursery_size = mid.nursery_size;
          slots_size = mid.slots_size;
          ring = shaded_ring sh mid.ring;
          size = mid.size;
          free_none = λ q h. mid.free_none q (subst (λ f. has q f ≡ true) sh.free h);
          none_free = λ q l h. subst (λ f. has q f ≡ true) (sym sh.free) (mid.none_free q l h);
          below = mid.below;
          young_once = mid.young_once;
          old_once = mid.old_once;
          forward_size = mid.forward_size;
          forwarded = mid.forwarded;
          in_copied = mid.in_copied;
          both = mid.both;
          fields = mid.fields;
          regs = set_left (StandsForIn (HoldsIn ns os)) c.store.registers bk.registers 0 nil mid.regs k w s;
          room = subst (λ f. nones c.forward ≤ length f) (sym sh.free) mid.room;
          counted = mid.counted;
          visited = mid.visited;
          noted = mid.noted;
          extra = carried.on_register front i c os mid k w s;
        }

    match_left : {H : Place → ℕ → Type 0} {n : ℕ} {x : Record} {y : BookRecord} (k w : ℕ) → StandsForIn H w (get_or y.links k nil) → Match H n x y → Match H n (with_link x k w) y
    match_left {H} {n} {x} {y} k w s m = record { plain = m.plain; size = length-set x.links k w ∙ m.size; book_size = m.book_size; links = set_left (StandsForIn H) x.links y.links 0 nil m.links k w s }

    put_link_mid : (again : Bool) (q r k w : ℕ) → (again ≡ true → (rescan ≡ true) × (has q c.copied ≡ true)) → get_or os q None ≡ Some r → StandsForIn (HoldsIn ns os) w (get_or (get_or bk.records r no_book_record).links k nil) → is_young (place_of w) ≡ false → Came (link_at c.store.slots q k) w c → Evacuating z ns bk E front i (put_link again q k w c) os
    put_link_mid again q r k w a h s e came =
        let sh = shaded_if again w c.store.arcs in
        record {
          regs_size = mid.regs_size;
          nursery_size = mid.nursery_size;
          slots_size = length-set c.store.slots q _ ∙ mid.slots_size;
          ring = shaded_ring sh mid.ring;
          size = mid.size;
          free_none = λ q h. mid.free_none q (subst (λ f. has q f ≡ true) sh.free h);
          none_free = λ q l h. subst (λ f. has q f ≡ true) (sym sh.free) (mid.none_free q l h);
          below = mid.below;
          young_once = mid.young_once;
          old_once = mid.old_once;
          forward_size = mid.forward_size;
          forwarded = mid.forwarded;
          in_copied = mid.in_copied;
          both = mid.both;
          fields = fields;
          regs = mid.regs;
          room = subst (λ f. nones c.forward ≤ length f) (sym sh.free) mid.room;
          counted = mid.counted;
          visited = mid.visited;
          noted = record { owned = mid.noted.owned; all = λ s t m o y. all s t m o y (link_at_cases c.store.slots q k w s m) };
          extra = carried.on_link front i c os mid again q r k w a h s came;
        }
      where
        fields : Fields z.links ns os c.store.nursery (set_link c.store.slots q k w) bk.records
        fields (Young p) t o = mid.fields (Young p) t o
        fields (Old s') t o = go (getD_set_cases c.store.slots q s' (with_link (get_or c.store.slots q no_record) k w) no_record)
          where
            go : (get_or (set_link c.store.slots q k w) s' no_record ≡ get_or c.store.slots s' no_record) ⊎ ((s' ≡ q) × (get_or (set_link c.store.slots q k w) s' no_record ≡ with_link (get_or c.store.slots q no_record) k w)) → Match (HoldsIn ns os) z.links (get_or (set_link c.store.slots q k w) s' no_record) (get_or bk.records t no_book_record)
            go (inl g) = rw g (mid.fields (Old s') t o)
            go (inr g) =
                let t_is : t ≡ r = some_is (subst (λ x. get_or os x None ≡ Some t) g.0 o) h in
                rw (g.1, t_is) (match_left k w s (mid.fields (Old q) r h))

        all : (s t m : ℕ) → get_or os s None ≡ Some t → is_young (place_of (link_at (set_link c.store.slots q k w) s m)) ≡ true → (link_at (set_link c.store.slots q k w) s m ≡ link_at c.store.slots s m) ⊎ ((s ≡ q) × (m ≡ k) × (link_at (set_link c.store.slots q k w) s m ≡ w)) → has s (todo front i c.copied) ≡ true
        all s t m o y (inl g) = mid.noted.all s t m o (sym (ap (λ n. is_young (place_of n)) g) ∙ y)
        all s t m o y (inr g) = absurd (both_ways (is_young (place_of w)) e (sym (ap (λ n. is_young (place_of n)) g.2) ∙ y))

  -- registers
  pub record RegsDone (front : List ℕ) (i : ℕ) (os : List (Option ℕ)) (n : ℕ) (c' : Evacuation) : Type 0 where
    pub os' : List (Option ℕ)
    pub mid : Evacuating z ns bk E front i c' os'
    pub more : (P : Place) (t : ℕ) → HoldsIn ns os P t → HoldsIn ns os' P t
    pub fine : (m : ℕ) → m < n → Fine rescan c'.store.arcs (get_or c'.store.registers m 0)

  register_ok : (front : List ℕ) (i : ℕ) (c : Evacuation) (os : List (Option ℕ)) → Evacuating z ns bk E front i c os → (k : ℕ) → k < z.registers → ((m : ℕ) → m < k → Fine rescan c.store.arcs (get_or c.store.registers m 0)) → RegsDone front i os (suc k) (visit_register rescan k c)
  register_ok front i c os mid k l fine = go (evacuated (get_or c.store.registers k 0) c).0 (evacuated (get_or c.store.registers k 0) c).1 (evacuated_ok front i c os mid (get_or c.store.registers k 0) (get_or bk.registers k nil) (mid.regs k))
    where
      go : (w : ℕ) (c₁ : Evacuation) → EvacuatedOk front i c os (get_or c.store.registers k 0) (get_or bk.registers k nil) w c₁ → RegsDone front i os (suc k) (put_register rescan k w c₁)
      go w c₁ o = record {
        os' = o.os';
        mid = put_register_mid front i c₁ o.os' o.mid k w o.stands;
        more = o.more;
        fine = λ m h. at m (cases_eq m k) h;
      }
        where
          at : (m : ℕ) → (m ≡ k) ⊎ (m ≡ k → ⊥) → m < suc k → Fine rescan (shade_if rescan w c₁.store.arcs) (get_or (set c₁.store.registers k w) m 0)
          at m (inl e) h = fine_same (ap (λ n. get_or (set c₁.store.registers k w) n 0) e ∙ get_or-set_same c₁.store.registers k w 0 (omega (arith, o.mid.regs_size))) (fine_shaded front i c₁ o.os' o.mid rescan w o.settled)
          at m (inr n) h = fine_same (get_or-set_other c₁.store.registers k m w 0 n ∙ ap (λ rs. get_or rs m 0) o.registers) (fine_less (λ t. omega (arith, o.white t, (shaded_if rescan w c₁.store.arcs).white t)) (fine m (omega arith)))

  pub registers_ok : (n k : ℕ) (front : List ℕ) (i : ℕ) (c : Evacuation) (os : List (Option ℕ)) → Evacuating z ns bk E front i c os → k + n ≡ z.registers → ((m : ℕ) → m < k → Fine rescan c.store.arcs (get_or c.store.registers m 0)) → RegsDone front i os z.registers (visit_registers rescan k n c)
  registers_ok zero k front i c os mid e fine = record { os' = os; mid = mid; more = λ P t h. h; fine = λ m l. fine m (omega arith) }
  registers_ok (suc n) k front i c os mid e fine =
      let d = register_ok front i c os mid k (omega arith) fine in
      let f = registers_ok n (suc k) front i (visit_register rescan k c) d.os' d.mid (omega arith) d.fine in
      record { os' = f.os'; mid = f.mid; more = λ P t h. f.more P t (d.more P t h); fine = f.fine }

  -- the links of one slot
  pub record LinksDone (again : Bool) (front : List ℕ) (i : ℕ) (c : Evacuation) (os : List (Option ℕ)) (q : ℕ) (upto : ℕ) (c' : Evacuation) : Type 0 where
    pub os' : List (Option ℕ)
    pub mid : Evacuating z ns bk E front i c' os'
    pub more : (P : Place) (t : ℕ) → HoldsIn ns os P t → HoldsIn ns os' P t
    pub registers : c'.store.registers ≡ c.store.registers
    pub white : (t : ℕ) → count t c'.store.arcs.white ≤ count t c.store.arcs.white
    pub copied : (t : ℕ) → has t c.copied ≡ true → has t c'.copied ≡ true
    pub copied_at : (m : ℕ) → m < length c.copied → (m < length c'.copied) × (get_or c'.copied m 0 ≡ get_or c.copied m 0)
    pub fine : (m : ℕ) → m < upto → Fine again c'.store.arcs (link_at c'.store.slots q m)

  link_ok : (again : Bool) (front : List ℕ) (i : ℕ) (c : Evacuation) (os : List (Option ℕ)) → Evacuating z ns bk E front i c os → (q r k : ℕ) → (again ≡ true → (rescan ≡ true) × (has q c.copied ≡ true)) → get_or os q None ≡ Some r → k < z.links → ((m : ℕ) → m < k → Fine again c.store.arcs (link_at c.store.slots q m)) → LinksDone again front i c os q (suc k) (visit_link again q k c)
  link_ok again front i c os mid q r k a h l fine = go (evacuated (link_at c.store.slots q k) c).0 (evacuated (link_at c.store.slots q k) c).1 (evacuated_ok front i c os mid (link_at c.store.slots q k) (get_or (get_or bk.records r no_book_record).links k nil) ((mid.fields (Old q) r h).links k))
    where
      go : (w : ℕ) (c₁ : Evacuation) → EvacuatedOk front i c os (link_at c.store.slots q k) (get_or (get_or bk.records r no_book_record).links k nil) w c₁ → LinksDone again front i c os q (suc k) (put_link again q k w c₁)
      go w c₁ o = record {
        os' = o.os';
        mid = put_link_mid front i c₁ o.os' o.mid again q r k w (λ y. ((a y).0, o.copied q (a y).1)) (o.more (Old q) r h) o.stands o.settled (subst (λ v. Came v w c₁) (sym same_link) o.came);
        more = o.more;
        registers = o.registers;
        white = λ t. omega (arith, o.white t, (shaded_if again w c₁.store.arcs).white t);
        copied = o.copied;
        copied_at = o.copied_at;
        fine = λ m b. at m b (link_at_cases c₁.store.slots q k w q m);
      }
        where
          same_rec : get_or c₁.store.slots q no_record ≡ get_or c.store.slots q no_record
          same_rec = o.slot_kept q r h

          same_link : link_at c₁.store.slots q k ≡ link_at c.store.slots q k
          same_link = ap (λ x. get_or x.links k 0) same_rec

          in_slot : q < length c₁.store.slots
          in_slot = omega (arith, o.mid.slots_size, o.mid.size, some_within o.os' q r (o.more (Old q) r h))

          in_link : k < length (get_or c₁.store.slots q no_record).links
          in_link = omega (arith, (o.mid.fields (Old q) r (o.more (Old q) r h)).size)

          set_here : link_at (set_link c₁.store.slots q k w) q k ≡ w
          set_here = ap (λ x. get_or x.links k 0) (get_or-set_same c₁.store.slots q (with_link (get_or c₁.store.slots q no_record) k w) no_record in_slot) ∙ get_or-set_same (get_or c₁.store.slots q no_record).links k w 0 in_link

          at : (m : ℕ) → m < suc k → (link_at (set_link c₁.store.slots q k w) q m ≡ link_at c₁.store.slots q m) ⊎ ((q ≡ q) × (m ≡ k) × (link_at (set_link c₁.store.slots q k w) q m ≡ w)) → Fine again (shade_if again w c₁.store.arcs) (link_at (set_link c₁.store.slots q k w) q m)
          at m b (inr g) = fine_same g.2 (fine_shaded front i c₁ o.os' o.mid again w o.settled)
          at m b (inl g) = by (cases_eq m k)
            where
              by : (m ≡ k) ⊎ (m ≡ k → ⊥) → Fine again (shade_if again w c₁.store.arcs) (link_at (set_link c₁.store.slots q k w) q m)
              by (inl e) = fine_same (ap (λ n. link_at (set_link c₁.store.slots q k w) q n) e ∙ set_here) (fine_shaded front i c₁ o.os' o.mid again w o.settled)
              by (inr n) = fine_same (g ∙ ap (λ x. get_or x.links m 0) same_rec) (fine_less (λ t. omega (arith, o.white t, (shaded_if again w c₁.store.arcs).white t)) (fine m (omega arith)))

  pub links_ok : (n k : ℕ) (again : Bool) (front : List ℕ) (i : ℕ) (c : Evacuation) (os : List (Option ℕ)) → Evacuating z ns bk E front i c os → (q r : ℕ) → (again ≡ true → (rescan ≡ true) × (has q c.copied ≡ true)) → get_or os q None ≡ Some r → k + n ≡ z.links → ((m : ℕ) → m < k → Fine again c.store.arcs (link_at c.store.slots q m)) → LinksDone again front i c os q z.links (visit_links again q k n c)
  links_ok zero k again front i c os mid q r a h e fine = record { os' = os; mid = mid; more = λ P t o. o; registers = refl; white = λ t. omega arith; copied = λ t o. o; copied_at = λ m l. (l, refl); fine = λ m l. fine m (omega arith) }
  links_ok (suc n) k again front i c os mid q r a h e fine =
      let d = link_ok again front i c os mid q r k a h (omega arith) fine in
      let f = links_ok n (suc k) again front i (visit_link again q k c) d.os' d.mid q r (λ y. ((a y).0, d.copied q (a y).1)) (d.more (Old q) r h) (omega arith) d.fine in
      record {
        os' = f.os';
        mid = f.mid;
        more = λ P t o. f.more P t (d.more P t o);
        registers = f.registers ∙ d.registers;
        white = λ t. omega (arith, d.white t, f.white t);
        copied = λ t o. f.copied t (d.copied t o);
        copied_at = λ m l. let x = d.copied_at m l in let y = f.copied_at m x.0 in (y.0, y.1 ∙ x.1);
        fine = f.fine;
      }

  -- with all of its links visited, so past them too
  all_fine : (again : Bool) (front : List ℕ) (i : ℕ) (c : Evacuation) (os : List (Option ℕ)) (q r : ℕ) → Evacuating z ns bk E front i c os → get_or os q None ≡ Some r → ((m : ℕ) → m < z.links → Fine again c.store.arcs (link_at c.store.slots q m)) → (m : ℕ) → Fine again c.store.arcs (link_at c.store.slots q m)
  all_fine again front i c os q r mid h fine m = go (cases_lt m z.links)
    where
      go : (m < z.links) ⊎ (z.links ≤ m) → Fine again c.store.arcs (link_at c.store.slots q m)
      go (inl l) = fine m l
      go (inr l) = fine_same (get_or_past (get_or c.store.slots q no_record).links m 0 (omega (arith, (mid.fields (Old q) r h).size))) (fine_nothing again c.store.arcs)

  -- a visited slot at the front of what is to be visited
  clean_front : (q r : ℕ) (xs : List ℕ) (c : Evacuation) (os : List (Option ℕ)) → ((m : ℕ) → is_young (place_of (link_at c.store.slots q m)) ≡ false) → Noted os c.store.slots (q ∷ xs) → Noted os c.store.slots xs
  clean_front q r xs c os clean n = record { owned = λ s h. n.owned s (or_right (eqb q s) (has s xs) h); all = λ s t k o y. go s k y (or_cases (eqb q s) (has s xs) (n.all s t k o y)) }
    where
      go : (s k : ℕ) → is_young (place_of (link_at c.store.slots s k)) ≡ true → (eqb q s ≡ true) ⊎ (has s xs ≡ true) → has s xs ≡ true
      go s k y (inr h) = h
      go s k y (inl e) = absurd (both_ways (is_young (place_of (link_at c.store.slots s k))) (subst (λ x. is_young (place_of (link_at c.store.slots x k)) ≡ false) (eqb-true q s e) (clean k)) y)

  with_noted : (front front' : List ℕ) (i i' : ℕ) (c : Evacuation) (os : List (Option ℕ)) → Evacuating z ns bk E front i c os → i' ≤ length c.copied → Noted os c.store.slots (todo front' i' c.copied) → E i' c os → Evacuating z ns bk E front' i' c os
  with_noted front front' i i' c os mid l n x = record { regs_size = mid.regs_size; nursery_size = mid.nursery_size; slots_size = mid.slots_size; ring = mid.ring; size = mid.size; free_none = mid.free_none; none_free = mid.none_free; below = mid.below; young_once = mid.young_once; old_once = mid.old_once; forward_size = mid.forward_size; forwarded = mid.forwarded; in_copied = mid.in_copied; both = mid.both; fields = mid.fields; regs = mid.regs; room = mid.room; counted = mid.counted; visited = l; noted = n; extra = x }

  pub record Went (front : List ℕ) (i : ℕ) (c : Evacuation) (os : List (Option ℕ)) (c' : Evacuation) : Type 0 where
    pub os' : List (Option ℕ)
    pub mid : Evacuating z ns bk E front i c' os'
    pub more : (P : Place) (t : ℕ) → HoldsIn ns os P t → HoldsIn ns os' P t
    pub registers : c'.store.registers ≡ c.store.registers
    pub white : (t : ℕ) → count t c'.store.arcs.white ≤ count t c.store.arcs.white

  pub noted_ok : (qs : List ℕ) (c : Evacuation) (os : List (Option ℕ)) → Evacuating z ns bk E qs 0 c os → Went [] 0 c os (visit_noted z.links qs c)
  noted_ok [] c os mid = record { os' = os; mid = mid; more = λ P t h. h; registers = refl; white = λ t. omega arith }
  noted_ok (q ∷ qs) c os mid =
      let (r, h) = mid.noted.owned q (has_self q (todo qs 0 c.copied)) in
      let d = links_ok z.links 0 false (q ∷ qs) 0 c os mid q r (λ y. absurd (true≢false (sym y))) h (omega arith) (λ m l. absurd (omega arith)) in
      let c₁ = visit_links false q 0 z.links c in
      let clean : (m : ℕ) → is_young (place_of (link_at c₁.store.slots q m)) ≡ false = λ m. (all_fine false (q ∷ qs) 0 c₁ d.os' q r d.mid (d.more (Old q) r h) d.fine m).settled in
      let next = with_noted (q ∷ qs) qs 0 0 c₁ d.os' d.mid (omega arith) (clean_front q r (todo qs 0 c₁.copied) c₁ d.os' clean d.mid.noted) d.mid.extra in
      let f = noted_ok qs c₁ d.os' next in
      record { os' = f.os'; mid = f.mid; more = λ P t o. f.more P t (d.more P t o); registers = f.registers ∙ d.registers; white = λ t. omega (arith, d.white t, f.white t) }

  -- the copied records, to the last
  pub record AllCopied (c : Evacuation) (os : List (Option ℕ)) (c' : Evacuation) : Type 0 where
    pub went : Went [] (length c'.copied) c os c'

  stop_here : (i : ℕ) (c : Evacuation) (os : List (Option ℕ)) → Evacuating z ns bk E [] i c os → length c.copied ≤ i → Went [] (length c.copied) c os c
  stop_here i c os mid l =
      let e : i ≡ length c.copied = omega (arith, mid.visited) in
      record { os' = os; mid = subst (λ n. Evacuating z ns bk E [] n c os) e mid; more = λ P t h. h; registers = refl; white = λ t. omega arith }

  one_copied : (i : ℕ) (c : Evacuation) (os : List (Option ℕ)) → Evacuating z ns bk E [] i c os → i < length c.copied → Went [] (suc i) c os (visit_links rescan (get_or c.copied i 0) 0 z.links c)
  one_copied i c os mid l =
      let q = get_or c.copied i 0 in
      let first : drop i c.copied ≡ q ∷ drop (i + 1) c.copied = drop_more c.copied i 0 l in
      let in_todo : has q (drop i c.copied) ≡ true = subst (λ xs. has q xs ≡ true) (sym first) (has_self q (drop (i + 1) c.copied)) in
      let (r, h) = mid.noted.owned q in_todo in
      let d = links_ok z.links 0 rescan [] i c os mid q r (λ y. (y, has_drop q i c.copied in_todo)) h (omega arith) (λ m b. absurd (omega arith)) in
      let at = d.copied_at i l in
      finish q r (visit_links rescan q 0 z.links c) h d at.0 at.1
    where
      has_drop : (q n : ℕ) (xs : List ℕ) → has q (drop n xs) ≡ true → has q xs ≡ true
      has_drop q zero xs h = h
      has_drop q (suc n) [] h = h
      has_drop q (suc n) (x ∷ xs) h = or_right (eqb x q) (has q xs) (has_drop q n xs h)

      finish : (q r : ℕ) (c₁ : Evacuation) → get_or os q None ≡ Some r → LinksDone rescan [] i c os q z.links c₁ → i < length c₁.copied → get_or c₁.copied i 0 ≡ q → Went [] (suc i) c os c₁
      finish q r c₁ h d b at =
          let fine : (m : ℕ) → Fine rescan c₁.store.arcs (link_at c₁.store.slots q m) = all_fine rescan [] i c₁ d.os' q r d.mid (d.more (Old q) r h) d.fine in
          let left : drop i c₁.copied ≡ q ∷ drop (suc i) c₁.copied = drop-cons c₁.copied i 0 b ∙ ap (λ x. x ∷ drop (suc i) c₁.copied) at in
          let extra : E (suc i) c₁ d.os' = carried.on_done i c₁ d.os' d.mid b (λ m. subst (λ x. Fine rescan c₁.store.arcs (link_at c₁.store.slots x m)) (sym at) (fine m)) in
          record {
            os' = d.os';
            mid = with_noted [] [] i (suc i) c₁ d.os' d.mid b (clean_front q r (drop (suc i) c₁.copied) c₁ d.os' (λ m. (fine m).settled) (subst (λ xs. Noted d.os' c₁.store.slots xs) left d.mid.noted)) extra;
            more = d.more;
            registers = d.registers;
            white = d.white;
          }

  pub copied_ok : (fuel i : ℕ) (c : Evacuation) (os : List (Option ℕ)) → Evacuating z ns bk E [] i c os → length ns ≤ i + fuel → AllCopied c os (visit_copied rescan z.links i fuel c)
  copied_ok zero i c os mid l = record { went = stop_here i c os mid (omega (arith, mid.counted)) }
  copied_ok (suc fuel) i c os mid l = go (ltb i (length c.copied)) refl (λ b. let w = one_copied i c os mid b in (w, copied_ok fuel (suc i) (visit_links rescan (get_or c.copied i 0) 0 z.links c) w.os' w.mid (omega arith)))
    where
      c₁ : Evacuation
      c₁ = visit_links rescan (get_or c.copied i 0) 0 z.links c

      go : (t : Bool) → ltb i (length c.copied) ≡ t → (i < length c.copied → (w : Went [] (suc i) c os c₁) × AllCopied c₁ w.os' (visit_copied rescan z.links (suc i) fuel c₁)) → AllCopied c os (cond t (visit_copied rescan z.links (suc i) fuel c₁) c)
      go false e f = record { went = stop_here i c os mid (ltb-false i (length c.copied) e) }
      go true e f =
          let (w, a) = f (ltb-true i (length c.copied) e) in
          record { went = record { os' = a.went.os'; mid = a.went.mid; more = λ P t h. a.went.more P t (w.more P t h); registers = a.went.registers ∙ w.registers; white = λ t. omega (arith, a.went.white t, w.white t) } }
