-- Calls that are refused, and what accepted arguments tell.
use Rattle.std.proofs.Common.{◌≡◌, ℕ, Bool, true, false, cond, [], length, ℤ, Some, None, Ok, Err, Result, sym, refl, ap, ◌∙◌, subst, arith, w64, SFits, to_z, of_z}
use Rattle.std.proofs.lemmas.Int.{to_z-of_z}
use Rattle.words.specs.declared.place.Place.{Place}
use Rattle.rules.specs.Rules.{Barrier, Sizes, Store, Call, refused, done, in_range, index, reg, place_in, run_call}
use Rattle.kinds.specs.Faults.{store_refusal}
use Rattle.kinds.specs.declared.fault.StoreFault.{StoreFault}
use Rattle.kinds.specs.declared.fault.StoreFault.TheVariants.{NoSuchRegister, NoSuchLink, NoRecord}
use Rattle.registers.specs.Answers.{told_why, register_at, open_register}
use Rattle.heap.specs.Answers.{held_place, with_index, link_place}
use Rattle.registers.specs.State.{State, with_store, after, answer}
use Rattle.heap.proofs.Accepted.{open_after, open_answer, found_tells, lost_tells, ready_tells}

-- a call that is refused: the contents stay, and the answer is the fault's number
pub record Refuses (b : Barrier) (s : State) (c : Call) (e : StoreFault) : Type 0 where
  pub state : with_store s s.store ≡ after b s c
  pub told : refused (store_refusal e) ≡ answer b s c

pub open_refuses : (b : Barrier) (s : State) (c : Call) (e f : StoreFault) → s.why ≡ 0 → e ≡ f → run_call s.sizes b s.store c ≡ (s.store, refused (store_refusal f)) → Refuses b s c e
open_refuses b s c e f why_is same run =
    subst (Refuses b s c) (sym same)
    (record {
      state = open_after b s c s.store (refused (store_refusal f)) why_is run;
      told = open_answer b s c s.store (refused (store_refusal f)) why_is run;
    })

-- a refusal of the second of two tests, or of the first
err_same : (U : Type 0) (e f : StoreFault) → ◌≡◌ {A = Result U StoreFault} (Err e) (Err f) → e ≡ f
err_same U e f h = cc

failed : {U : Type 0} (P : Type 0) (t : Bool) (x : Result U StoreFault) (e f : StoreFault) → Err e ≡ cond t x (Err f) → (t ≡ false → e ≡ f → P) → (t ≡ true → Err e ≡ x → P) → P
failed P true x e f h at-false at_true = at_true refl h
failed {U = U} P false x e f h at-false at_true = at-false refl (err_same U e f h)

passed : {U : Type 0} (t : Bool) (x : Result U StoreFault) (u : U) (f : StoreFault) → Ok u ≡ cond t x (Err f) → (t ≡ true) × (Ok u ≡ x)
passed true x u f h = (refl, h)
passed false x u f h = absurd (let z : ◌≡◌ {A = ℕ} 0 1 = cc in omega arith)

pub register_taken : {U : Type 0} (status : Result U StoreFault) (n : ℕ) (r : ℤ) (i : ℕ) → SFits w64 r → Ok i ≡ open_register status n (to_z w64 (of_z w64 r)) → (told_why status ≡ 0) × (Ok i ≡ register_at n (to_z w64 (of_z w64 r)))
register_taken status n r i fits h = ready_tells status (register_at n (to_z w64 (of_z w64 r))) i h

-- a link: refused, or its place
indexed_err : (n : ℕ) (x : Result Place StoreFault) (e : StoreFault) → Err e ≡ with_index n x → Err e ≡ x
indexed_err n (Ok at) e h = absurd (let z : ◌≡◌ {A = ℕ} 0 1 = cc in omega arith)
indexed_err n (Err f) e h = ap Err (err_same (Place × ℕ) e f h)

indexed_ok : (n m : ℕ) (x : Result Place StoreFault) (at : Place) → Ok (at, m) ≡ with_index n x → (Ok at ≡ x) × (m ≡ n)
indexed_ok n m (Ok p) at h = let e : ◌≡◌ {A = Place × ℕ} (at, m) (p, n) = cc in (ap (λ x. Ok x.0) e, ap (λ x. x.1) e)
indexed_ok n m (Err f) at h = absurd (let z : ◌≡◌ {A = ℕ} 0 1 = cc in omega arith)

-- the same, of numbers that were passed on
link_passed : (z : Sizes) (s : Store) (r k : ℤ) → SFits w64 r → SFits w64 k → link_place z s (to_z w64 (of_z w64 r)) (to_z w64 (of_z w64 k)) ≡ link_place z s r k
link_passed z s r k fits-r fits_k = ap (λ x. link_place z s x (to_z w64 (of_z w64 k))) (to_z-of_z w64 r fits-r) ∙ ap (link_place z s r) (to_z-of_z w64 k fits_k)

pub link_refuses : (b : Barrier) (s : State) (c : Call) (r k : ℤ) (e : StoreFault) → SFits w64 r → SFits w64 k → s.why ≡ 0 → Err e ≡ link_place s.sizes s.store (to_z w64 (of_z w64 r)) (to_z w64 (of_z w64 k)) → (in_range r s.sizes.registers ≡ false → run_call s.sizes b s.store c ≡ (s.store, refused 3)) → (in_range r s.sizes.registers ≡ true → in_range k s.sizes.links ≡ false → run_call s.sizes b s.store c ≡ (s.store, refused 5)) → (in_range r s.sizes.registers ≡ true → in_range k s.sizes.links ≡ true → place_in s.sizes (length s.store.nursery) (reg s.store r) ≡ None → run_call s.sizes b s.store c ≡ (s.store, refused 21)) → Refuses b s c e
link_refuses b s c r k e fits-r fits_k now_open h run-3 run-5 run-21 =
    let z = s.sizes in
    let held = held_place z s.store (index r) in
    failed (Refuses b s c e) (in_range r z.registers) (cond (in_range k z.links) (with_index (index k) held) (Err NoSuchLink)) e NoSuchRegister
    (h ∙ link_passed z s.store r k fits-r fits_k)
    (λ out same. open_refuses b s c e NoSuchRegister now_open same (run-3 out))
    (λ ins f.
    failed (Refuses b s c e) (in_range k z.links) (with_index (index k) held) e NoSuchLink f
    (λ out same. open_refuses b s c e NoSuchLink now_open same (run-5 ins out))
    (λ k_in g. let lost = lost_tells _ e (indexed_err (index k) held e g) in open_refuses b s c e NoRecord now_open lost.1 (run-21 ins k_in lost.0)))

pub record LinkTaken (z : Sizes) (s : Store) (r k : ℤ) (at : Place) (n : ℕ) : Type 0 where
  pub register_in : in_range r z.registers ≡ true
  pub link_in : in_range k z.links ≡ true
  pub found : place_in z (length s.nursery) (reg s r) ≡ Some at
  pub index_is : n ≡ index k

pub link_taken : (z : Sizes) (s : Store) (r k : ℤ) (at : Place) (n : ℕ) → SFits w64 r → SFits w64 k → Ok (at, n) ≡ link_place z s (to_z w64 (of_z w64 r)) (to_z w64 (of_z w64 k)) → LinkTaken z s r k at n
link_taken z s r k at n fits-r fits_k h =
    let held = held_place z s (index r) in
    let (ins, f) = passed (in_range r z.registers) (cond (in_range k z.links) (with_index (index k) held) (Err NoSuchLink)) (at, n) NoSuchRegister (h ∙ link_passed z s r k fits-r fits_k) in
    let (k_in, g) = passed (in_range k z.links) (with_index (index k) held) (at, n) NoSuchLink f in
    let (is, m) = indexed_ok (index k) n held at g in
    record { register_in = ins; link_in = k_in; found = found_tells _ at is; index_is = m }

-- a word put into a register, with nothing to answer
pub record Puts (b : Barrier) (s s₁ : State) (c : Call) : Type 0 where
  pub state : s₁ ≡ after b s c
  pub told : done [] ≡ answer b s c
