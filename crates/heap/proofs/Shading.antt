-- Shading the words of a list, one after the other.
use Rattle.std.proofs.Common.{◌≡◌, ℕ, ◌+◌, ◌<◌, List, [], ◌∷◌, ◌++◌, length, get_or, take, refl, ap, ◌∙◌}
use Rattle.std.proofs.lemmas.List.{take_more}
use Rattle.ring.specs.Arcs.{Arcs}
use Rattle.rules.specs.Rules.{shade, shade_all}

shade_all_push : (ws : List ℕ) (w : ℕ) (a : Arcs) → shade_all (ws ++ (w ∷ [])) a ≡ shade w (shade_all ws a)
shade_all_push [] w a = refl
shade_all_push (v ∷ ws) w a = shade_all_push ws w (shade v a)

pub shade_all_more : (ws : List ℕ) (i : ℕ) (a : Arcs) → i < length ws → shade_all (take (i + 1) ws) a ≡ shade (get_or ws i 0) (shade_all (take i ws) a)
shade_all_more ws i a low = ap (λ vs. shade_all vs a) (take_more ws i 0 low) ∙ shade_all_push (take i ws) (get_or ws i 0) a
