-- Emptying the nursery neither opens nor closes a cycle.
use Rattle.std.proofs.Common.{◌≡◌, ℕ, zero, suc, Bool, true, false, cond, ltb, List, [], ◌∷◌, length, get_or, Some, None, Option, refl, ◌∙◌}
use Rattle.words.specs.Words.{place_of}
use Rattle.words.specs.declared.place.Place.{Place}
use Rattle.words.specs.declared.place.Place.TheVariants.{Young, Old}
use Rattle.ring.specs.Arcs.{Arcs, take_slot}
use Rattle.heap.specs.Evacuating.{visited}
use Rattle.rules.specs.Rules.{Store, Evacuation, evacuate_into, evacuate_to, evacuated_place, evacuated, visit_register, visit_registers, visit_link, visit_links, visit_noted, visit_copied, begin_evacuation, link_at}

abbrev open_in : Evacuation → Bool
open_in c = c.store.cycle

into : (p : ℕ) (t : Option (ℕ × Arcs)) (c : Evacuation) → open_in (evacuate_into p t c).1 ≡ open_in c
into p None c = refl
into p (Some t) c = refl

to : (p : ℕ) (o : Option ℕ) (c : Evacuation) → open_in (evacuate_to p o c).1 ≡ open_in c
to p (Some q) c = refl
to p None c = into p (take_slot c.store.arcs) c

at_place : (o : Option Place) (w : ℕ) (c : Evacuation) → open_in (evacuated_place o w c).1 ≡ open_in c
at_place None w c = refl
at_place (Some (Old q)) w c = refl
at_place (Some (Young p)) w c = go (ltb p (length c.forward))
  where
    go : (t : Bool) → open_in (cond t (evacuate_to p (get_or c.forward p None) c) (w, c)).1 ≡ open_in c
    go true = to p (get_or c.forward p None) c
    go false = refl

word : (w : ℕ) (c : Evacuation) → open_in (evacuated w c).1 ≡ open_in c
word w c = at_place (place_of w) w c

registers : (again : Bool) (i n : ℕ) (c : Evacuation) → open_in (visit_registers again i n c) ≡ open_in c
registers again i zero c = refl
registers again i (suc n) c = registers again (suc i) n (visit_register again i c) ∙ word (get_or c.store.registers i 0) c

links : (again : Bool) (q k n : ℕ) (c : Evacuation) → open_in (visit_links again q k n c) ≡ open_in c
links again q k zero c = refl
links again q k (suc n) c = links again q (suc k) n (visit_link again q k c) ∙ word (link_at c.store.slots q k) c

noted : (n : ℕ) (qs : List ℕ) (c : Evacuation) → open_in (visit_noted n qs c) ≡ open_in c
noted n [] c = refl
noted n (q ∷ qs) c = noted n qs (visit_links false q 0 n c) ∙ links false q 0 n c

copied : (again : Bool) (n i fuel : ℕ) (c : Evacuation) → open_in (visit_copied again n i fuel c) ≡ open_in c
copied again n i zero c = refl
copied again n i (suc fuel) c = go (ltb i (length c.copied)) (copied again n (suc i) fuel (visit_links again (get_or c.copied i 0) 0 n c))
  where
    go : (t : Bool) → open_in (visit_copied again n (suc i) fuel (visit_links again (get_or c.copied i 0) 0 n c)) ≡ open_in (visit_links again (get_or c.copied i 0) 0 n c) → open_in (cond t (visit_copied again n (suc i) fuel (visit_links again (get_or c.copied i 0) 0 n c)) c) ≡ open_in c
    go true e = e ∙ links again (get_or c.copied i 0) 0 n c
    go false e = refl

pub visited_cycle : (again : Bool) (n : ℕ) (s : Store) → (visited again n s).store.cycle ≡ s.cycle
visited_cycle again n s =
    let c₁ = visit_registers again 0 (length s.registers) (begin_evacuation s) in
    let c₂ = visit_noted n s.notes c₁ in
    copied again n 0 (length s.nursery) c₂ ∙ noted n s.notes c₁ ∙ registers again 0 (length s.registers) (begin_evacuation s)
