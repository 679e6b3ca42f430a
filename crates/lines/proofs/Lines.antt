-- Lines, from the first byte and from a place in the input.
use Rattle.std.proofs.Common.{◌≡◌, ℕ, suc, ◌+◌, ◌<◌, ◌≤◌, min, Bool, true, false, not, eqb, leb, List, [], ◌∷◌, ◌++◌, length, take, drop, sym, refl, ap, ◌∙◌, ⊎_elim, one-add, arith}
use Rattle.std.specs.List.{prefix_len, between, AllByRecursion}
use Rattle.std.proofs.lemmas.Bool.Decides.{nat_tests}
use Rattle.std.proofs.lemmas.List.{take_rest, drop_all, length-drop}
use Rattle.std.proofs.lemmas.List.Sums.{prefix_len-le-length}
use Rattle.std.proofs.lemmas.Bool.{ne_eqb, cond-true, cond-false, cases_Bool, not_from_true, not_from_false}
use Rattle.lines.specs.Lines.{onto_first, lines, InLine, LineLaws}

-- no newline
abbrev pub in_line : ℕ → Bool
in_line b = not (eqb b 10)

-- the first line and the others, of an input that is not empty
lines_first : (bs : List ℕ) → 0 < length bs → lines bs ≡ take (prefix_len in_line bs) bs ∷ lines (drop (suc (prefix_len in_line bs)) bs)
unfolding lines
lines_first [] some = absurd (omega arith)
lines_first (b ∷ []) some = ⊎_elim
    (λ yes'.
    let k : prefix_len in_line (b ∷ []) ≡ 0 = cond-false _ _ _ (not_from_true (eqb b 10) yes') in
    cond-true _ _ _ yes' ∙ ap (λ n. take n (b ∷ []) ∷ lines (drop (suc n) (b ∷ []))) (sym k))
    (λ no'.
    let k : prefix_len in_line (b ∷ []) ≡ 1 = cond-true _ _ _ (not_from_false (eqb b 10) no') in
    cond-false _ _ _ no' ∙ ap (λ n. take n (b ∷ []) ∷ lines (drop (suc n) (b ∷ []))) (sym k))
    (cases_Bool (eqb b 10))
lines_first (b ∷ c ∷ cs) some = ⊎_elim
    (λ yes'.
    let k : prefix_len in_line (b ∷ c ∷ cs) ≡ 0 = cond-false _ _ _ (not_from_true (eqb b 10) yes') in
    cond-true _ _ _ yes' ∙ ap (λ n. take n (b ∷ c ∷ cs) ∷ lines (drop (suc n) (b ∷ c ∷ cs))) (sym k))
    (λ no'.
    let k : prefix_len in_line (b ∷ c ∷ cs) ≡ suc (prefix_len in_line (c ∷ cs)) = cond-true _ _ _ (not_from_false (eqb b 10) no') ∙ one-add (prefix_len in_line (c ∷ cs)) in
    cond-false _ _ _ no' ∙ ap (onto_first b) (lines_first (c ∷ cs) (omega arith)) ∙ ap (λ n. take n (b ∷ c ∷ cs) ∷ lines (drop (suc n) (b ∷ c ∷ cs))) (sym k))
    (cases_Bool (eqb b 10))

-- an empty input has no lines
pub no_line : (input : List ℕ) → length input ≡ 0 → lines input ≡ []
unfolding lines
no_line [] none = refl
no_line (b ∷ bs) none = absurd (omega arith)

-- the first line and what follows its newline, as slices
pub first_line : (input : List ℕ) (e m : ℕ) → 0 < length input → e ≡ prefix_len in_line input → m ≡ min (e + 1) (length input) → (lines input ≡ take e input ∷ lines (between m (length input) input)) × (length (between m (length input) input) < length input)
first_line input e m some ends next =
    let low : e ≤ length input = omega (arith, prefix_len-le-length in_line input) in
    let past : drop (suc e) input ≡ drop m input = go (leb (length input) (suc e)) refl in
    let rest = take_rest input m in (
      lines_first input some ∙ ap (λ k. take k input ∷ lines (drop (suc k) input)) (sym ends) ∙ ap (λ l. take e input ∷ lines l) (past ∙ sym rest),
      omega (arith, ap length rest, length-drop m input),
    )
  where
    go : (t : Bool) → leb (length input) (suc e) ≡ t → drop (suc e) input ≡ drop m input
    go true h = let past : length input ≤ suc e = grind (arith, nat_tests) in drop_all (suc e) input past ∙ sym (drop_all m input (omega arith))
    go false h = let short : suc e < length input = grind (arith, nat_tests) in let same : suc e ≡ m = omega arith in ap (λ k. drop k input) same

-- the laws
ended : (line rest : List ℕ) → AllByRecursion InLine line → lines (line ++ (10 ∷ rest)) ≡ line ∷ lines rest
unfolding lines
ended [] rest all = refl
ended (b ∷ bs) rest (one, all) = cond-false _ _ _ (ne_eqb b 10 one) ∙ ap (onto_first b) (ended bs rest all)

unended : (line : List ℕ) → AllByRecursion InLine line → 0 < length line → lines line ≡ line ∷ []
unfolding lines
unended [] all some = absurd (omega arith)
unended (b ∷ []) (one, all) some = cond-false _ _ _ (ne_eqb b 10 one)
unended (b ∷ c ∷ cs) (one, all) some = cond-false _ _ _ (ne_eqb b 10 one) ∙ ap (onto_first b) (unended (c ∷ cs) all (omega arith))

no_lines : lines [] ≡ []
unfolding lines
no_lines = refl

pub line_laws : LineLaws
line_laws = record { none = no_lines; ended = ended; unended = unended }
