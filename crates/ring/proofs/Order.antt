-- Shading keeps the order of the arcs.
use Rattle.std.proofs.Common.{◌≡◌, ℕ, Bool, true, false, eqb, List, [], ◌∷◌, ◌++◌, sym, refl, ap, ◌∙◌, subst, ⊎_elim}
use Rattle.std.proofs.lemmas.Bool.{cases_eq, eq-eqb, ne_eqb, both_ways, or_cases, cond-true, cond-false}
use Rattle.ring.specs.Arcs.{Arcs, has, without, shade_slot}
use Rattle.ring.specs.Laws.{KeepsOrder}

-- A list in which q stands, cut at q.
cut_at : (q : ℕ) (xs : List ℕ) → has q xs ≡ true → (l : List ℕ) × (r : List ℕ) × (xs ≡ l ++ q ∷ r) × (without q xs ≡ l ++ r)
cut_at q [] h = absurd (both_ways false refl h)
cut_at q (x ∷ xs) h =
    ⊎_elim
    (λ (e : x ≡ q). ([], xs, ap (λ (z : ℕ). z ∷ xs) e, cond-true (eqb x q) xs (x ∷ without q xs) (eq-eqb x q e)))
    (λ (ne : x ≡ q → ⊥).
    let later : has q xs ≡ true = ⊎_elim (λ t. absurd (both_ways (eqb x q) (ne_eqb x q ne) t)) (λ t. t) (or_cases (eqb x q) (has q xs) h) in
    let s = cut_at q xs later in
    (x ∷ s.0, s.1, ap (λ z. x ∷ z) s.2, cond-false (eqb x q) xs (x ∷ without q xs) (ne_eqb x q ne) ∙ ap (λ z. x ∷ z) s.3))
    (cases_eq x q)

pub keeps_order : (q : ℕ) (a : Arcs) → KeepsOrder q a (shade_slot q a)
keeps_order q a = go (has q a.white) refl
  where
    go : (b : Bool) → has q a.white ≡ b → KeepsOrder q a (shade_slot q a)
    go true e =
        subst (KeepsOrder q a) (sym (cond-true (has q a.white) (record { free = a.free; white = without q a.white; grey = q ∷ a.grey; black = a.black }) a e))
        (record {
          free_kept = refl;
          black_kept = refl;
          grey_grows = λ h. refl;
          white_parts = λ h. cut_at q a.white h;
          others = λ h. absurd (both_ways (has q a.white) h e);
        })
    go false e =
        subst (KeepsOrder q a) (sym (cond-false (has q a.white) (record { free = a.free; white = without q a.white; grey = q ∷ a.grey; black = a.black }) a e))
        (record {
          free_kept = refl;
          black_kept = refl;
          grey_grows = λ h. absurd (both_ways (has q a.white) e h);
          white_parts = λ h. absurd (both_ways (has q a.white) e h);
          others = λ h. refl;
        })
