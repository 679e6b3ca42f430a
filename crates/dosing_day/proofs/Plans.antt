-- Plans that grow call by call.
use Rattle.std.proofs.Common.{◌≡◌, ℕ, ◌+◌, ◌<◌, ◌≤◌, List, [], ◌∷◌, ◌++◌, map, length, get_or, take, ℤ, sym, refl, ap, ◌∙◌}
use Rattle.std.proofs.lemmas.List.{append_assoc, map-append, take_all, take_more}
use Rattle.rules.specs.Rules.{Call, make}
use Rattle.kinds.specs.Doses.{dose_plain}
use Rattle.kinds.specs.declared.dose.Dose.{Dose}
use Rattle.dosing_day.specs.Plan.{batch}

-- more calls after others
pub then : (was mid is xs ys : List Call) → mid ≡ was ++ xs → is ≡ mid ++ ys → is ≡ was ++ (xs ++ ys)
then was mid is xs ys e f = f ∙ ap (λ l. l ++ ys) e ∙ append_assoc was xs ys

-- a batch and one portion more
batch_push : (valve : ℤ) (ps : List (List ℤ)) (p : List ℤ) → batch valve (ps ++ (p ∷ [])) ≡ batch valve ps ++ (make valve p (valve ∷ []) ∷ [])
batch_push valve [] p = refl
batch_push valve (q ∷ ps) p = ap (λ cs. make valve q (valve ∷ []) ∷ cs) (batch_push valve ps p)

pub batch_more : (valve : ℤ) (xs : List Dose) (i : ℕ) (d : Dose) (was mid is : List Call) → i < length xs → mid ≡ was ++ batch valve (map dose_plain (take i xs)) → is ≡ mid ++ (make valve (dose_plain (get_or xs i d)) (valve ∷ []) ∷ []) → is ≡ was ++ batch valve (map dose_plain (take (i + 1) xs))
batch_more valve xs i d was mid is low e f =
    then was mid is (batch valve (map dose_plain (take i xs))) (make valve (dose_plain (get_or xs i d)) (valve ∷ []) ∷ []) e f
    ∙ ap (λ l. was ++ l)
    (sym (batch_push valve (map dose_plain (take i xs)) (dose_plain (get_or xs i d)))
    ∙ ap (batch valve) (sym (map-append dose_plain (take i xs) (get_or xs i d ∷ [])) ∙ ap (map dose_plain) (sym (take_more xs i d low))))

-- the whole batch
pub batch_all : (valve v : ℤ) (xs : List Dose) (i : ℕ) (was is : List Call) → v ≡ valve → length xs ≤ i → is ≡ was ++ batch v (map dose_plain (take i xs)) → is ≡ was ++ batch valve (map dose_plain xs)
batch_all valve v xs i was is same high e =
    e ∙ ap (λ l. was ++ batch v (map dose_plain l)) (take_all i xs high) ∙ ap (λ w. was ++ batch w (map dose_plain xs)) same
