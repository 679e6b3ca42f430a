-- The columns of an answer line, one by one.
use Rattle.std.proofs.Common.{◌≡◌, ℕ, ◌+◌, ◌-◌, ◌*◌, ◌<◌, true, cond, ◌&&◌, List, [], ◌∷◌, ◌++◌, length, get_or, take, drop, replicate, ℤ, Some, None, sym, refl, ap, ◌∙◌, ⊎_elim, append_assoc, arith}
use borrow.Rule.Slice.PartMut.{put_mid}
use Rattle.std.specs.List.{flat_map}
use Rattle.std.proofs.lemmas.List.{length-append, length_push, take_at, drop_at, drop-replicate, take_more, take_all, at_drop_more, at_drop_all, flat_map_more}
use Rattle.std.proofs.lemmas.Bool.{cond-true, cond-false, cases_Bool, and_parts}
use Rattle.lines.specs.Columns.{fits_column, row_of, written}
use Rattle.lines.specs.Answers.{row_bytes, all_fit}
use Rattle.lines.proofs.Columns.{length_row}

-- what was written
pub written_some : (v : ℤ) (row : List ℕ) → written v ≡ Some row → (fits_column v ≡ true) × (row ≡ row_of v)
written_some v row e = ⊎_elim
    (λ yes'. let k : Some (row_of v) ≡ Some row = sym (cond-true _ _ _ yes') ∙ e in (yes', cc))
    (λ no'. let k : None ≡ Some row = sym (cond-false _ _ _ no') ∙ e in let z : ◌≡◌ {A = ℕ} 0 1 = cc in absurd (omega arith))
    (cases_Bool (fits_column v))

-- one number more
all_fit_more : (vs : List ℤ) (i : ℕ) (d : ℤ) → i < length vs → fits_column (get_or vs i d) ≡ true → all_fit (drop i vs) ≡ all_fit (drop (i + 1) vs)
all_fit_more vs i d within fits = at_drop_more all_fit vs i d within ∙ ap (λ t. t && all_fit (drop (i + 1) vs)) fits

-- a row in place of the first k newlines behind what is written
put_after : (front row : List ℕ) (a k n m : ℕ) → length front ≡ a → n - k ≡ m → put_mid a k (front ++ replicate n 10) row ≡ (front ++ row) ++ replicate m 10
put_after front row a k n m long left =
    ap (λ l. l ++ (row ++ drop k (drop a (front ++ replicate n 10)))) (take_at front (replicate n 10) a long) ∙ ap (λ l. front ++ (row ++ drop k l)) (drop_at front (replicate n 10) a long) ∙ ap (λ l. front ++ (row ++ l)) (drop-replicate k n 10) ∙ ap (λ j. front ++ (row ++ replicate j 10)) left ∙ sym (append_assoc front row (replicate m 10))

-- the first i columns are written, and the rest of the 51 bytes are newlines
pub record Partial (values : List ℤ) (line : List ℕ) (i : ℕ) : Type 0 where
  pub is : line ≡ flat_map row_of (take i values) ++ replicate {A = ℕ} (51 - 10 * i) 10
  pub long : length (flat_map row_of (take i values)) ≡ 10 * i
  pub fit : all_fit (drop i values) ≡ all_fit values

module _ (values : List ℤ) (line : List ℕ) (i : ℕ) (d : ℤ) (within : i < length values) (five : length values ≡ 5) (so_far : Partial values line i) where
  -- one column more
  pub partial_more : (row : List ℕ) → written (get_or values i d) ≡ Some row → Partial values (put_mid (10 * i) (10 * i + 10 - 10 * i) line row) (i + 1)
  partial_more row w =
      let p = written_some (get_or values i d) row w in
      let front : List ℕ = flat_map row_of (take i values) in
      let grown : front ++ row_of (get_or values i d) ≡ flat_map row_of (take (i + 1) values) = flat_map_more row_of [] (take i values) (get_or values i d) ∙ ap (flat_map row_of) (sym (take_more values i d within)) in
      record {
        is = ap (λ l. put_mid (10 * i) (10 * i + 10 - 10 * i) l row) so_far.is ∙ put_after front row (10 * i) (10 * i + 10 - 10 * i) (51 - 10 * i) (51 - 10 * (i + 1)) so_far.long (omega arith) ∙ ap (λ l. l ++ replicate (51 - 10 * (i + 1)) 10) (ap (λ l. front ++ l) p.1 ∙ grown);
        long = sym (ap length grown) ∙ length-append front (row_of (get_or values i d)) ∙ omega (arith, so_far.long, length_row (get_or values i d) p.0);
        fit = sym (all_fit_more values i d within p.0) ∙ so_far.fit;
      }

-- all five
pub partial_done : (values : List ℤ) (line : List ℕ) (i : ℕ) → length values ≡ 5 → i ≡ 5 → Partial values line i → Some line ≡ cond (all_fit values) (Some (row_bytes values)) None
unfolding row_bytes
partial_done values line i five all so_far =
    let fits : all_fit values ≡ true = sym so_far.fit ∙ at_drop_all all_fit values i (omega arith) in
    let whole : take i values ≡ values = take_all i values (omega arith) in
    let last : 51 - 10 * i ≡ 1 = omega arith in
    ap Some (so_far.is ∙ ap (λ l. flat_map row_of l ++ replicate (51 - 10 * i) 10) whole ∙ ap (λ n. flat_map row_of values ++ replicate n 10) last) ∙ sym (cond-true _ _ _ fits)

-- an answer line has 51 bytes
length_columns : (values : List ℤ) → all_fit values ≡ true → length (flat_map row_of values) ≡ 10 * length values
length_columns [] fit = refl
length_columns (v ∷ vs) fit =
    let p = and_parts (fits_column v) (all_fit vs) fit in
    length-append (row_of v) (flat_map row_of vs) ∙ omega (arith, length_row v p.0, length_columns vs p.1)

pub length_row_bytes : (values : List ℤ) → all_fit values ≡ true → length values ≡ 5 → length (row_bytes values) ≡ 51
unfolding row_bytes
length_row_bytes values fit five = length_push (flat_map row_of values) 10 ∙ omega (arith, length_columns values fit)
