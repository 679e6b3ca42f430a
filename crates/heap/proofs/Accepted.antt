-- What accepted arguments tell, and what the rules say of calls on an open store.
use Rattle.std.proofs.Common.{◌≡◌, ℕ, ◌<◌, Bool, true, false, cond, ◌&&◌, eqb, ltb, List, length, get_or, ℤ, pos, negsuc, Some, None, Ok, Err, Option, Result, sym, refl, ap, ◌∙◌, arith, w64, SFits, to_z, of_z}
use Rattle.std.proofs.lemmas.Int.{to_z-of_z}
use Rattle.std.proofs.lemmas.Bool.{and_parts}
use Rattle.std.proofs.lemmas.Bool.Decides.{nat_tests}
use Rattle.words.specs.declared.place.Place.{Place}
use Rattle.rules.specs.Rules.{Barrier, Sizes, Store, Call, Answer, read, refused, ok, put, record_at, in_range, index, all_in, place_in, with_place, run_call}
use Rattle.kinds.specs.declared.fault.StoreFault.{StoreFault}
use Rattle.kinds.specs.declared.fault.StoreFault.TheVariants.{NoSuchRegister, WrongLinkCount, NoRecord, NurseryFull, NoRoom}
use Rattle.registers.specs.Answers.{told_why, ready_at, and_then}
use Rattle.heap.specs.Answers.{found_at, room_at, open_make_index}
use Rattle.registers.specs.State.{State, with_store, after, answer}

-- an index of n, or the refusal e
abbrev pub index_or : StoreFault → ℕ → ℤ → Result ℕ StoreFault
index_or e n r = cond (in_range r n) (Ok (index r)) (Err e)

-- what an accepted index tells
index_found : (e : StoreFault) (n : ℕ) (r : ℤ) (i : ℕ) → Ok i ≡ index_or e n r → (in_range r n ≡ true) × ((i ≡ index r) × (i < n))
index_found e n (pos k) i h = go (ltb k n) refl h
  where
    go : (t : Bool) → ltb k n ≡ t → Ok i ≡ cond t (Ok k) (Err e) → (ltb k n ≡ true) × ((i ≡ k) × (i < n))
    go true f h₁ = let same : i ≡ k = cc in (f, (same, grind (arith, nat_tests)))
    go false f h₁ = absurd (let z : ◌≡◌ {A = ℕ} 0 1 = cc in omega arith)
index_found e n (negsuc k) i h = absurd (let z : ◌≡◌ {A = ℕ} 0 1 = cc in omega arith)

-- the same, of a number that was passed on
pub index_tells : (e : StoreFault) (n : ℕ) (r : ℤ) (i : ℕ) → SFits w64 r → Ok i ≡ index_or e n (to_z w64 (of_z w64 r)) → (in_range r n ≡ true) × ((i ≡ index r) × (i < n))
index_tells e n r i fits h = index_found e n r i (h ∙ ap (index_or e n) (to_z-of_z w64 r fits))

-- what a place that is found, or is not found, tells
pub found_tells : (o : Option Place) (at : Place) → Ok at ≡ found_at o → o ≡ Some at
found_tells (Some p) at h = cc
found_tells None at h = absurd (let z : ◌≡◌ {A = ℕ} 0 1 = cc in omega arith)

pub lost_tells : (o : Option Place) (e : StoreFault) → Err e ≡ found_at o → (o ≡ None) × (e ≡ NoRecord)
lost_tells None e h = (refl, cc)
lost_tells (Some p) e h = absurd (let z : ◌≡◌ {A = ℕ} 0 1 = cc in omega arith)

-- an open store goes by the rules
pub open_after : (b : Barrier) (s : State) (c : Call) (x : Store) (a : Answer) → s.why ≡ 0 → run_call s.sizes b s.store c ≡ (x, a) → with_store s x ≡ after b s c
open_after b s c x a h e =
    ap (λ y. with_store s y.0) (sym e)
    ∙ ap (λ y. with_store s (cond (eqb y 0) (run_call s.sizes b s.store c).0 s.store)) (sym h)

pub open_answer : (b : Barrier) (s : State) (c : Call) (x : Store) (a : Answer) → s.why ≡ 0 → run_call s.sizes b s.store c ≡ (x, a) → a ≡ answer b s c
open_answer b s c x a h e =
    ap (λ y. y.1) (sym e)
    ∙ ap (λ y. cond (eqb y 0) (run_call s.sizes b s.store c).1 (refused 20)) (sym h)

-- read, with all arguments in range: a record is found or not
pub read_run : (z : Sizes) (b : Barrier) (s : Store) (d t k : ℤ) (j : ℕ) (o : Option Place) → in_range d z.registers ≡ true → in_range t z.registers ≡ true → in_range k z.links ≡ true → j ≡ index t → place_in z (length s.nursery) (get_or s.registers j 0) ≡ o → run_call z b s (read d t k) ≡ with_place s o (λ p. ok (put s d (get_or (record_at s p).links (index k) 0)))
read_run z b s d t k j o h i l e f =
    rw (h, i, l) (ap (λ q. with_place s q (λ p. ok (put s d (get_or (record_at s p).links (index k) 0)))) (ap (λ m. place_in z (length s.nursery) (get_or s.registers m 0)) (sym e) ∙ f))

-- what a test passed tells
ok_tells : {U : Type 0} (t : Bool) (x : Result U StoreFault) (e : StoreFault) (u : U) → Ok u ≡ cond t x (Err e) → (t ≡ true) × (Ok u ≡ x)
ok_tells true x e u h = (refl, h)
ok_tells false x e u h = absurd (let z : ◌≡◌ {A = ℕ} 0 1 = cc in omega arith)

then_tells : {V : Type 0} (r : Result (Unit {0}) StoreFault) (x : Result V StoreFault) (v : V) → Ok v ≡ and_then r x → (Ok tt ≡ r) × (Ok v ≡ x)
then_tells (Ok u) x v h = (refl, h)
then_tells (Err e) x v h = absurd (let z : ◌≡◌ {A = ℕ} 0 1 = cc in omega arith)

pub ready_tells : {U V : Type 0} (status : Result U StoreFault) (x : Result V StoreFault) (v : V) → Ok v ≡ and_then (ready_at status) x → (told_why status ≡ 0) × (Ok v ≡ x)
ready_tells (Ok u) x v h = (refl, h)
ready_tells (Err f) x v h = absurd (let z : ◌≡◌ {A = ℕ} 0 1 = cc in omega arith)

-- what an accepted make tells
pub record Makes (z : Sizes) (s : Store) (d : ℤ) (rs : List ℤ) (i : ℕ) : Type 0 where
  pub target : in_range d z.registers ≡ true
  pub sources : all_in rs z.registers ≡ true
  pub counted : eqb (length rs) z.links ≡ true
  pub place : ltb (length s.nursery) z.places ≡ true
  pub slot : ltb (length s.nursery) (length s.arcs.free) ≡ true
  pub index_is : i ≡ index d

pub make_tells : {U : Type 0} (status : Result U StoreFault) (z : Sizes) (s : Store) (d : ℤ) (rs : List ℤ) (i : ℕ) → SFits w64 d → Ok i ≡ open_make_index status z s (to_z w64 (of_z w64 d)) rs → Makes z s d rs i
make_tells status z s d rs i fits h =
    let (is, h₀) = ready_tells status _ i (h ∙ ap (λ x. open_make_index status z s x rs) (to_z-of_z w64 d fits)) in
    let (ins, h₁) = ok_tells (in_range d z.registers && all_in rs z.registers) (cond (eqb (length rs) z.links) (and_then (room_at z s) (Ok (index d))) (Err WrongLinkCount)) NoSuchRegister i h₀ in
    let (d_in, rs_in) = and_parts (in_range d z.registers) (all_in rs z.registers) ins in
    let (many, h₂) = ok_tells (eqb (length rs) z.links) (and_then (room_at z s) (Ok (index d))) WrongLinkCount i h₁ in
    let (room, h₃) = then_tells (room_at z s) (Ok (index d)) i h₂ in
    let (place, h₄) = ok_tells (ltb (length s.nursery) z.places) (cond (ltb (length s.nursery) (length s.arcs.free)) (Ok tt) (Err NoRoom)) NurseryFull tt room in
    let (slot, h₅) = ok_tells (ltb (length s.nursery) (length s.arcs.free)) (Ok tt) NoRoom tt h₄ in
    let is : i ≡ index d = cc in
    record { target = d_in; sources = rs_in; counted = many; place = place; slot = slot; index_is = is }
