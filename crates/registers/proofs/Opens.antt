-- Opening: the limits and the status of a store, and what it then holds.
use Rattle.std.proofs.Common.{◌≡◌, ℕ, ◌≤◌, Bool, true, false, cond, List, [], ◌++◌, length, take, drop, replicate, Ok, Err, Result, refl, ap, ◌∙◌, subst, sym, arith, length-append, length-drop}
use Rattle.std.proofs.Math.Seq.{take-append_seam, drop-append_seam}
use Rattle.std.proofs.lemmas.Bool.Decides.{nat_tests}
use Rattle.std.proofs.lemmas.List.{length-take-le}
use Rattle.std.specs.Result.{ResultUnwrapsOrElse, IsOkAnd, MatchResult}
use Rattle.rules.specs.Rules.{new_store}
use Rattle.kinds.specs.declared.fault.StoreFault.{StoreFault}
use Rattle.kinds.specs.declared.fault.StoreFault.TheVariants.{SizeOutOfRange, TableShort}
use Rattle.registers.specs.declared.sizes.Limits.{Limits}
use Rattle.registers.specs.declared.sizes.Sizes.{Sizes as Asked}
use Rattle.registers.specs.Answers.{told_why}
use Rattle.registers.specs.Opening.{sizes_in_range, tables_long, limits_asked, limits_over}
use Rattle.registers.specs.State.{State, sizes_in, link_count, opened}

-- the limits of a store that may have those of r, and whether it is open
abbrev pub limits_in : Result Limits StoreFault → Limits
limits_in (Ok l) = l
limits_in (Err e) = record { slots = 0; places = 0; registers = 0; scans = 0 }

abbrev pub status_of : Result Limits StoreFault → Result (Unit {0}) StoreFault
status_of (Ok l) = Ok tt
status_of (Err e) = Err e

pub limits_or_none : (r : Result Limits StoreFault) (P : Limits → Type 0) (l : Limits) → ((x : Limits) → P x → x ≡ limits_in (Err SizeOutOfRange)) → ResultUnwrapsOrElse r P l → l ≡ limits_in r
limits_or_none (Ok x) P l none h = h
limits_or_none (Err e) P l none h = none l h

pub status_left : (r : Result Limits StoreFault) (P : Limits → Unit {0} → Type 0) (s : Result (Unit {0}) StoreFault) → MatchResult r (λ x. IsOkAnd s (P x)) (λ e. s ≡ Err e) → s ≡ status_of r
status_left (Ok x) P (Ok u) h = refl
status_left (Ok x) P (Err e) h = absurd h
status_left (Err e) P s h = h

-- a table whose first n places were filled with x
pub record Filled {X : Type 0} (n : ℕ) (x : X) (was is : List X) : Type 0 where
  pub front : take n is ≡ replicate n x
  pub rest : drop n is ≡ drop n was
  pub size : length is ≡ length was

pub filled : {X : Type 0} (n : ℕ) (was xs : List X) (x : X) → n ≤ length was → length xs ≡ length (take n was) → xs ≡ replicate (length (take n was)) x → Filled n x was (xs ++ drop n was)
filled n was xs x low long is =
    let size : length (take n was) ≡ n = length-take-le n was low in
    let ys = drop n was in
    record {
      front = ap (λ k. take k (xs ++ ys)) (sym (long ∙ size)) ∙ take-append_seam xs ys ∙ is ∙ ap (λ k. replicate k x) size;
      rest = ap (λ k. drop k (xs ++ ys)) (sym (long ∙ size)) ∙ drop-append_seam xs ys;
      size = omega (arith, length-append xs ys, length-drop n was);
    }

-- a new store over a register table
abbrev new_at : Limits → Result (Unit {0}) StoreFault → State
new_at l s = record { why = told_why s; sizes = sizes_in link_count l; store = new_store (sizes_in link_count l) [] }

opened_by : (z : Asked) (n : ℕ) (a b : Bool) → sizes_in_range z ≡ a → tables_long z n ≡ b → new_at (limits_in (cond a (cond b (Ok (limits_asked z)) (Err TableShort)) (Err SizeOutOfRange))) (status_of (cond a (cond b (Ok (limits_asked z)) (Err TableShort)) (Err SizeOutOfRange))) ≡ opened z n
opened_by z n true true e f = rw (e, f)
opened_by z n true false e f = rw (e, f)
opened_by z n false b e f = rw e

low_by : (z : Asked) (n : ℕ) (a b : Bool) → tables_long z n ≡ b → (limits_in (cond a (cond b (Ok (limits_asked z)) (Err TableShort)) (Err SizeOutOfRange))).registers ≤ n
low_by z n true true f = grind (arith, nat_tests)
low_by z n true false f = omega arith
low_by z n false b f = omega arith

pub registers_low : (z : Asked) (n : ℕ) (r : Result Limits StoreFault) (l : Limits) → r ≡ limits_over z n → l ≡ limits_in r → l.registers ≤ n
registers_low z n r l r_is l_is =
    subst (λ x. x.registers ≤ n) (sym (l_is ∙ ap limits_in r_is)) (low_by z n (sizes_in_range z) (tables_long z n) refl)

pub opened_over : (z : Asked) (n : ℕ) (r : Result Limits StoreFault) (l : Limits) (s : Result (Unit {0}) StoreFault) → r ≡ limits_over z n → l ≡ limits_in r → s ≡ status_of r → new_at l s ≡ opened z n
opened_over z n r l s r_is l_is s_is =
    ap (λ x. new_at x s) (l_is ∙ ap limits_in r_is)
    ∙ ap (new_at (limits_in (limits_over z n))) (s_is ∙ ap status_of r_is)
    ∙ opened_by z n (sizes_in_range z) (tables_long z n) refl refl
