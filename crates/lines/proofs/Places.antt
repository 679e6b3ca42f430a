-- The first place at which a test holds, or the length.
use Rattle.std.proofs.Common.{◌≡◌, ◌+◌, ◌≤◌, Bool, true, false, not, cond, ltb, List, [], ◌∷◌, length, Some, None, refl, ap, ◌∙◌, arith}
use Rattle.std.specs.List.{prefix_len, position, position_or_len}
use Rattle.std.specs.Option.{unwrap_or}
use Rattle.std.proofs.lemmas.Bool.Decides.{nat_tests}
use Rattle.std.proofs.lemmas.List.Sums.{prefix_len-le-length}

pub first_or_all : {X : Type 0} (p : X → Bool) (xs : List X) → unwrap_or (position p xs) (length xs) ≡ position_or_len p xs
first_or_all p xs = go (ltb (position_or_len p xs) (length xs)) refl
  where
    go : (t : Bool) → ltb (position_or_len p xs) (length xs) ≡ t → unwrap_or (cond t (Some (position_or_len p xs)) None) (length xs) ≡ position_or_len p xs
    go true e = refl
    go false e = let past : length xs ≤ position_or_len p xs = grind (arith, nat_tests) in omega (arith, prefix_len-le-length (λ x. not (p x)) xs)

not_not : (t : Bool) → not (not t) ≡ t
not_not true = refl
not_not false = refl

-- the first place at which a test fails
pub twice_not : {X : Type 0} (p : X → Bool) (xs : List X) → position_or_len (λ x. not (p x)) xs ≡ prefix_len p xs
twice_not p [] = refl
twice_not p (x ∷ xs) = ap (λ t. cond t (1 + position_or_len (λ x. not (p x)) xs) 0) (not_not (p x)) ∙ ap (λ n. cond (p x) (1 + n) 0) (twice_not p xs)
