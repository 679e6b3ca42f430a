-- What holds while the nursery is being emptied.
use Rattle.std.proofs.Common.{◌≡◌, ℕ, zero, suc, ◌+◌, ◌<◌, ◌≤◌, Bool, true, false, ◌⊎◌, List, [], ◌∷◌, ◌++◌, length, get_or, drop, set, replicate, Some, None, Option, sym, refl, ap, ◌∙◌, subst, inl, inr, arith}
use Rattle.words.specs.Words.{place_of}
use Rattle.words.specs.declared.place.Place.{Place}
use Rattle.words.specs.declared.place.Place.TheVariants.{Young, Old}
use Rattle.ring.specs.Arcs.{Arcs, has}
use Rattle.rules.specs.Rules.{Sizes, Evacuation, is_young}
use Rattle.rules.specs.Book.{nil, Book}
use Rattle.rules.specs.History.{HoldsIn}
use Rattle.rules.specs.Promise.{StandsForIn}
use Rattle.std.proofs.lemmas.Bool.{cases_eq, cases_lt}
use Rattle.std.proofs.lemmas.List.{append_assoc, drop-append-le, get_or_past}
use Rattle.ring.specs.Sound.{count}
use Rattle.ring.proofs.Chain.{count_append, has_count, count_has}
use Rattle.rules.proofs.Counting.{count_self}
use Rattle.rules.proofs.Invariant.{Fields, Ring, Noted}

-- how many nursery places are not copied yet
abbrev pub nones : List (Option ℕ) → ℕ
nones [] = 0
nones (None ∷ fs) = suc (nones fs)
nones (Some q ∷ fs) = nones fs

pub nones_set : (fs : List (Option ℕ)) (p q : ℕ) → p < length fs → get_or fs p None ≡ None → suc (nones (set fs p (Some q))) ≡ nones fs
nones_set [] p q l e = absurd (omega arith)
nones_set (None ∷ fs) zero q l e = refl
nones_set (Some x ∷ fs) zero q l e = let k : ◌≡◌ {A = ℕ} 0 1 = cc in absurd (omega arith)
nones_set (None ∷ fs) (suc p) q l e = ap suc (nones_set fs p q (omega arith) e)
nones_set (Some x ∷ fs) (suc p) q l e = nones_set fs p q (omega arith) e

pub nones_all : (n : ℕ) → nones (replicate n None) ≡ n
nones_all zero = refl
nones_all (suc n) = ap suc (nones_all n)

pub some_within : {X : Type 0} (fs : List (Option X)) (p : ℕ) (q : X) → get_or fs p None ≡ Some q → p < length fs
some_within fs p q e = go (cases_lt p (length fs))
  where
    go : (p < length fs) ⊎ (length fs ≤ p) → p < length fs
    go (inl l) = l
    go (inr l) = let n : get_or fs p None ≡ None = get_or_past fs p None l in let k : ◌≡◌ {A = ℕ} 0 1 = cc in absurd (omega arith)

pub none_some : {X : Type 0} {o : Option X} {x : X} → o ≡ None → o ≡ Some x → ⊥
none_some {X} {o} {x} e f = let k : ◌≡◌ {A = ℕ} 0 1 = cc in omega arith

pub some_is : {X : Type 0} {o : Option X} {x y : X} → o ≡ Some x → o ≡ Some y → x ≡ y
some_is e f = cc

-- has, at the end of a list
pub has_push_cases : (s q : ℕ) (xs : List ℕ) → has s (xs ++ (q ∷ [])) ≡ true → (has s xs ≡ true) ⊎ (s ≡ q)
has_push_cases s q xs e = grind (arith, has_count s (xs ++ (q ∷ [])) e, count_append s xs (q ∷ []), cases_eq q s, count_has s xs)

pub has_push_more : (s q : ℕ) (xs : List ℕ) → has s xs ≡ true → has s (xs ++ (q ∷ [])) ≡ true
has_push_more s q xs e = count_has s (xs ++ (q ∷ [])) (omega (arith, has_count s xs e, count_append s xs (q ∷ [])))

pub has_push_self : (q : ℕ) (xs : List ℕ) → has q (xs ++ (q ∷ [])) ≡ true
has_push_self q xs = count_has q (xs ++ (q ∷ [])) (omega (arith, count_append q xs (q ∷ []), count_self q []))

-- what is still to be visited
abbrev pub todo : List ℕ → ℕ → List ℕ → List ℕ
todo front i copied = front ++ drop i copied

pub todo_push : (front : List ℕ) (i : ℕ) (copied : List ℕ) (q : ℕ) → i ≤ length copied → todo front i (copied ++ (q ∷ [])) ≡ todo front i copied ++ (q ∷ [])
todo_push front i copied q l = ap (λ xs. front ++ xs) (drop-append-le i copied (q ∷ []) l) ∙ sym (append_assoc front (drop i copied) (q ∷ []))

-- a word that has been visited: no nursery place and, if rescanning, at no white slot
pub record Fine (rescan : Bool) (a : Arcs) (w : ℕ) : Type 0 where
  pub settled : is_young (place_of w) ≡ false
  pub unwhite : rescan ≡ true → (t : ℕ) → place_of w ≡ Some (Old t) → count t a.white ≡ 0

pub fine_less : {again : Bool} {a a' : Arcs} {w : ℕ} → ((t : ℕ) → count t a'.white ≤ count t a.white) → Fine again a w → Fine again a' w
fine_less l f = record { settled = f.settled; unwhite = λ y t h. omega (arith, l t, f.unwhite y t h) }

pub fine_same : {again : Bool} {a : Arcs} {w w' : ℕ} → w' ≡ w → Fine again a w → Fine again a w'
fine_same {again} {a} e f = subst (λ x. Fine again a x) (sym e) f

pub fine_nothing : (again : Bool) (a : Arcs) → Fine again a 0
fine_nothing again a = record { settled = refl; unwhite = λ y t h. absurd (none_some refl h) }

-- what holds in the midst of emptying the nursery, with the noted slots `front` and all but i of the copied ones still to
-- be visited; os are the slots' owners, and E is what else is to be kept
pub record Evacuating (z : Sizes) (ns : List ℕ) (bk : Book) (E : ℕ → Evacuation → List (Option ℕ) → Type 0) (front : List ℕ) (i : ℕ) (c : Evacuation) (os : List (Option ℕ)) : Type 0 where
  pub regs_size : length c.store.registers ≡ z.registers
  pub nursery_size : length c.store.nursery ≡ length ns
  pub slots_size : length c.store.slots ≡ z.slots
  pub ring : Ring z.slots c.store.arcs
  pub size : length os ≡ z.slots
  pub free_none : (q : ℕ) → has q c.store.arcs.free ≡ true → get_or os q None ≡ None
  pub none_free : (q : ℕ) → q < z.slots → get_or os q None ≡ None → has q c.store.arcs.free ≡ true
  pub below : (p : Place) (r : ℕ) → HoldsIn ns os p r → r < length bk.records
  pub young_once : (p p' r : ℕ) → HoldsIn ns os (Young p) r → HoldsIn ns os (Young p') r → p ≡ p'
  pub old_once : (q q' r : ℕ) → HoldsIn ns os (Old q) r → HoldsIn ns os (Old q') r → q ≡ q'
  pub forward_size : length c.forward ≡ length ns
  pub forwarded : (p q : ℕ) → get_or c.forward p None ≡ Some q → get_or os q None ≡ Some (get_or ns p 0)
  pub in_copied : (p q : ℕ) → get_or c.forward p None ≡ Some q → has q c.copied ≡ true
  pub both : (p q r : ℕ) → HoldsIn ns os (Young p) r → HoldsIn ns os (Old q) r → get_or c.forward p None ≡ Some q
  pub fields : Fields z.links ns os c.store.nursery c.store.slots bk.records
  pub regs : (k : ℕ) → StandsForIn (HoldsIn ns os) (get_or c.store.registers k 0) (get_or bk.registers k nil)
  pub room : nones c.forward ≤ length c.store.arcs.free
  pub counted : length c.copied + nones c.forward ≡ length ns
  pub visited : i ≤ length c.copied
  pub noted : Noted os c.store.slots (todo front i c.copied)
  pub extra : E i c os
