-- The front of a table, each entry by its meaning: front f n xs is the first n entries.
use Rattle.std.proofs.Common.{◌≡◌, ℕ, zero, suc, ◌+◌, ◌<◌, ◌≤◌, List, [], ◌∷◌, ◌++◌, map, length, get_or, take, set, refl, ap, ◌∙◌, arith, length-take}
use Rattle.std.proofs.lemmas.List.{get_or-map, get_or-take, map-set, map_push, take_more_set, length-map}
use Rattle.heap.specs.Rows.{front}

-- a write below or beyond the front of a list
pub take_set_any : {X : Type 0} (n : ℕ) (xs : List X) (i : ℕ) (x : X) → take n (set xs i x) ≡ set (take n xs) i x
take_set_any zero xs i x = refl
take_set_any (suc n) [] i x = refl
take_set_any (suc n) (y ∷ ys) zero x = refl
take_set_any (suc n) (y ∷ ys) (suc i) x = ap (λ zs. y ∷ zs) (take_set_any n ys i x)

pub length_front : {X Y : Type 0} (f : X → Y) (n : ℕ) (xs : List X) → n ≤ length xs → length (front f n xs) ≡ n
length_front f n xs h = length-map (take n xs) f ∙ omega (arith, length-take n xs)

-- an entry of the front
pub front_at : {X Y : Type 0} (f : X → Y) (n : ℕ) (xs : List X) (i : ℕ) (d : X) (e : Y) → i < n → n ≤ length xs → get_or (front f n xs) i e ≡ f (get_or xs i d)
front_at f n xs i d e low long = get_or-map f (take n xs) i d e (omega (arith, length-take n xs)) ∙ ap f (get_or-take n xs i d low)

-- one entry more
pub front_push : {X Y : Type 0} (f : X → Y) (n : ℕ) (xs : List X) (x : X) → n < length xs → front f (n + 1) (set xs n x) ≡ front f n xs ++ (f x ∷ [])
front_push f n xs x h = ap (map f) (take_more_set xs n x h) ∙ map_push f (take n xs) x
