-- Counting in a list of slots: has, without and split-last by counts, so that omega does the rest.
use Rattle.std.proofs.Common.{◌≡◌, ℕ, suc, ◌+◌, ◌≤◌, Bool, true, false, cond, ◌||◌, eqb, List, [], ◌∷◌, length, sym, refl, ap, arith}
use Rattle.std.proofs.lemmas.Bool.{eqb-true, eq-eqb}
use Rattle.ring.specs.Arcs.{has, without, split_last}
use Rattle.ring.specs.Sound.{count}
use Rattle.ring.proofs.Chain.{hit_same, hit_other, count_has}

abbrev pub one_if : Bool → ℕ
one_if t = cond t 1 0

pub hasnt_count : (q : ℕ) (xs : List ℕ) → has q xs ≡ false → count q xs ≡ 0
hasnt_count q xs h = grind (arith, count_has q xs)

pub has_self : (q : ℕ) (xs : List ℕ) → has q (q ∷ xs) ≡ true
has_self q xs = grind (arith, eq-eqb q q refl)

pub count_self : (q : ℕ) (xs : List ℕ) → count q (q ∷ xs) ≡ suc (count q xs)
count_self q xs = omega (arith, hit_same q)

pub count_other : (q x : ℕ) (xs : List ℕ) → (x ≡ q → ⊥) → count q (x ∷ xs) ≡ count q xs
count_other q x xs n = omega (arith, hit_other q x (λ e. n (sym e)))

pub length_without : (q : ℕ) (xs : List ℕ) → has q xs ≡ true → suc (length (without q xs)) ≡ length xs
length_without q [] h = grind arith
length_without q (x ∷ xs) h = go (eqb x q) h (length_without q xs)
  where
    go : (t : Bool) → (t || has q xs) ≡ true → (has q xs ≡ true → suc (length (without q xs)) ≡ length xs) → suc (length (cond t xs (x ∷ without q xs))) ≡ suc (length xs)
    go true h f = refl
    go false h f = ap suc (f h)

pub count_without : (q r : ℕ) (xs : List ℕ) → has q xs ≡ true → count r (without q xs) + one_if (eqb r q) ≡ count r xs
count_without q r [] h = grind arith
count_without q r (x ∷ xs) h = go (eqb x q) refl h (count_without q r xs)
  where
    go : (t : Bool) → eqb x q ≡ t → (t || has q xs) ≡ true → (has q xs ≡ true → count r (without q xs) + one_if (eqb r q) ≡ count r xs) → count r (cond t xs (x ∷ without q xs)) + one_if (eqb r q) ≡ one_if (eqb r x) + count r xs
    go true e h f = let k : x ≡ q = eqb-true x q e in rw k (omega arith)
    go false e h f = omega (arith, f h)

pub count_split_last : (q x : ℕ) (xs : List ℕ) → count q (split_last x xs).0 + one_if (eqb q (split_last x xs).1) ≡ count q (x ∷ xs)
count_split_last q x [] = omega arith
count_split_last q x (y ∷ ys) = omega (arith, count_split_last q y ys)

pub length_split_last : (x : ℕ) (xs : List ℕ) → length (split_last x xs).0 ≡ length xs
length_split_last x [] = refl
length_split_last x (y ∷ ys) = ap suc (length_split_last y ys)

-- a list that has nothing more often than another is no longer
pub length_by_counts : (xs ys : List ℕ) → ((q : ℕ) → count q xs ≤ count q ys) → length xs ≤ length ys
length_by_counts [] ys h = omega arith
length_by_counts (x ∷ xs) ys h =
    let in_ys : has x ys ≡ true = count_has x ys (omega (arith, h x, count_self x xs)) in
    omega (arith, length_without x ys in_ys, length_by_counts xs (without x ys) (λ q. omega (arith, h q, count_without x q ys in_ys)))
