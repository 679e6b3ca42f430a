-- Links replaced one after the other, until they are a given list.
use Rattle.std.proofs.Common.{◌≡◌, ℕ, ◌+◌, ◌<◌, ◌≤◌, List, [], ◌∷◌, ◌++◌, length, get_or, take, set, sym, ap, ◌∙◌, arith}
use Rattle.std.proofs.lemmas.List.{take_more, take_more_set, take_all}

-- xs agrees with ys up to place k, and place k becomes as in ys
pub front_more : (xs xs' ys : List ℕ) (n k w : ℕ) → xs' ≡ set xs k w → w ≡ get_or ys k 0 → length xs ≡ n → length ys ≡ n → k < n → take k xs ≡ take k ys → take (k + 1) xs' ≡ take (k + 1) ys
front_more xs xs' ys n k w s e lx ly low same =
    ap (take (k + 1)) s
    ∙ take_more_set xs k w (omega arith)
    ∙ ap (λ zs. zs ++ (w ∷ [])) same
    ∙ ap (λ v. take k ys ++ (v ∷ [])) e
    ∙ sym (take_more ys k 0 (omega arith))

-- all places
pub front_all : (xs ys : List ℕ) (n m : ℕ) → length xs ≡ n → length ys ≡ n → n ≤ m → take m xs ≡ take m ys → xs ≡ ys
front_all xs ys n m e f low h = sym (take_all m xs (omega arith)) ∙ h ∙ take_all m ys (omega arith)
