-- Lists of registers: the words in them.
use Rattle.std.proofs.Common.{◌≡◌, ℕ, zero, suc, ◌<◌, List, [], ◌∷◌, length, get_or, ℤ, pos, refl, arith}
use Rattle.rules.specs.Rules.{Store, reg, links_from}

-- the words, one for each
pub length_links : (s : Store) (rs : List ℤ) → length (links_from s rs) ≡ length rs
length_links s [] = refl
length_links s (r ∷ rs) = omega (arith, length_links s rs)

pub links_at : (s : Store) (rs : List ℤ) (k : ℕ) → k < length rs → get_or (links_from s rs) k 0 ≡ reg s (get_or rs k (pos 0))
links_at s [] k low = absurd (omega arith)
links_at s (r ∷ rs) zero low = refl
links_at s (r ∷ rs) (suc k) low = links_at s rs k (omega arith)
