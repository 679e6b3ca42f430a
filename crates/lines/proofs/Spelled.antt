-- A line is taken as a request exactly when it spells it.
use Rattle.std.proofs.Common.{◌≡◌, ℕ, zero, suc, ◌+◌, ◌-◌, ◌≤◌, Bool, true, false, cond, ◌&&◌, eqb, leb, List, [], ◌∷◌, ◌++◌, length, take, drop, replicate, ℤ, pos, negsuc, Some, None, Ok, Err, decimal, MatchBool, Option, Result, sym, refl, ap, ◌∙◌, subst, ⊎_elim, append_assoc, append-nil, arith}
use Rattle.std.specs.Str.Parse.{AllDigits}
use Rattle.std.specs.Fmt.{signed_decimal}
use Rattle.std.specs.List.{between}
use Rattle.std.specs.Str.{bytes_eq}
use Rattle.std.specs.Option.{option_map}
use Rattle.std.proofs.lemmas.Fmt.{decimal_is_IsNumeral}
use Rattle.std.proofs.lemmas.Slice.Eq.{bytes_eq-Decides}
use Rattle.std.proofs.lemmas.List.{length-append, take_at, drop_at, drop-drop, take-append-drop, take_all, length-drop}
use Rattle.std.proofs.lemmas.List.Folds.{list_all-append}
use Rattle.std.proofs.lemmas.Str.Parse.{tells_digits}
use Rattle.std.proofs.lemmas.Bool.{cases_Bool, cond-false, and_from, and_parts, le-leb, leb-true, eqb-true, eq-eqb}
use Rattle.lines.specs.declared.column.Column.{Column}
use Rattle.lines.specs.declared.column.Column.TheVariants.{Blank, Number, NoNumber}
use Rattle.lines.specs.declared.request.FormatFault.{FormatFault}
use Rattle.lines.specs.declared.request.FormatFault.TheVariants.{NotALine, UnknownCommand}
use Rattle.lines.specs.declared.request.Request.{Request}
use Rattle.lines.specs.Columns.{column, fits_column, row_of}
use Rattle.lines.specs.CommandSets.{Commands, command_in, command_named, is_text, are_texts}
use Rattle.lines.specs.Lines.{printable, good_line}
use Rattle.lines.specs.Requests.{used_field, unused_field, field_read, with_fields, parsed, FieldHolds, Spells, TakenAsSpelled}
use Rattle.lines.proofs.Columns.{column_laws, length_row}
use Rattle.lines.proofs.Requests.{parsed_bad, parsed_good, two_good}

-- ---- printable bytes
printable_append : (xs ys : List ℕ) → printable xs ≡ true → printable ys ≡ true → printable (xs ++ ys) ≡ true
printable_append xs ys p q = list_all-append (λ b. leb 32 b && leb b 126) xs ys ∙ and_from (printable xs) (printable ys) p q

printable_blanks : (n : ℕ) → printable (replicate n 32) ≡ true
printable_blanks zero = refl
printable_blanks (suc n) = printable_blanks n

printable_digits : (ds : List ℕ) → AllDigits 10 ds → printable ds ≡ true
printable_digits [] d = refl
printable_digits (b ∷ bs) d =
    let p = tells_digits.parts b bs d in
    let low : 32 ≤ b = omega (arith, p.0.0) in
    let high : b ≤ 126 = omega (arith, p.0.1) in
    and_from (leb 32 b && leb b 126) (printable bs) (and_from (leb 32 b) (leb b 126) (le-leb 32 b low) (le-leb b 126 high)) (printable_digits bs p.1)

printable_signed : (v : ℤ) → fits_column v ≡ true → printable (signed_decimal v) ≡ true
printable_signed (pos n) fits = printable_digits (decimal n) (decimal_is_IsNumeral n (omega (arith, leb-true n 9999999999 fits))).0.1
printable_signed (negsuc n) fits = printable_digits (decimal (suc n)) (decimal_is_IsNumeral (suc n) (omega (arith, leb-true (n + 1) 999999999 fits))).0.1

printable_row : (v : ℤ) → fits_column v ≡ true → printable (row_of v) ≡ true
unfolding row_of
printable_row v fits = printable_append (replicate (10 - length (signed_decimal v)) 32) (signed_decimal v) (printable_blanks (10 - length (signed_decimal v))) (printable_signed v fits)

-- ---- the texts of commands: each has six printable bytes
text_in : {C : Type 0} (rows : List (List ℕ × C)) (name : List ℕ) (command : C) → are_texts rows ≡ true → command_in rows name ≡ Some command → is_text name ≡ true
text_in [] name command all e = let z : ◌≡◌ {A = ℕ} 0 1 = cc in absurd (omega arith)
text_in (row ∷ rows) name command all e =
    let t = and_parts (is_text row.0) (are_texts rows) all in
    ⊎_elim
    (λ yes'. ap is_text ((bytes_eq-Decides name row.0).0 yes') ∙ t.0)
    (λ no'. text_in rows name command t.1 (ap (option_map (λ row. row.1)) (sym (cond-false _ _ _ no')) ∙ e))
    (cases_Bool (bytes_eq name row.0))

command_text : {C : Type 0} (set : Commands C) (name : List ℕ) (command : C) → are_texts set.table ≡ true → command_named set name ≡ Some command → (length name ≡ 6) × (printable name ≡ true)
unfolding command_named
command_text set name command all e =
    let t = and_parts (eqb (length name) 6) (printable name) (text_in set.table name command all e) in
    (eqb-true (length name) 6 t.0, t.1)

-- ---- one field
-- what a field holds has ten printable bytes
abbrev Ten : List ℕ → Type 0
Ten row = (length row ≡ 10) × (printable row ≡ true)

module _ (n k : ℕ) (v : ℤ) (row : List ℕ) where
  field_ten : FieldHolds n k v row → Ten row
  field_ten holds = go (leb k n) holds
    where
      go : (t : Bool) → MatchBool t ((fits_column v ≡ true) × (row ≡ row_of v)) ((v ≡ pos 0) × (row ≡ replicate 10 32)) → Ten row
      go true (fits, is) = subst Ten (sym is) (length_row v fits, printable_row v fits)
      go false (zero', is) = subst Ten (sym is) (refl, refl)

  field_reads : FieldHolds n k v row → field_read n k (column row) ≡ Ok v
  field_reads holds = go (leb k n) holds
    where
      go : (t : Bool) → MatchBool t ((fits_column v ≡ true) × (row ≡ row_of v)) ((v ≡ pos 0) × (row ≡ replicate 10 32)) → cond t (used_field k (column row)) (unused_field k (column row)) ≡ Ok v
      go true h = ap (used_field k) ((column_laws.number row v).1 h)
      go false (zero', is) = ap (unused_field k) ((column_laws.blank row).1 is) ∙ ap Ok (sym zero')

  field_held : field_read n k (column row) ≡ Ok v → FieldHolds n k v row
  field_held e = go (leb k n) (column row) refl e
    where
      go : (t : Bool) (x : Column) → column row ≡ x → cond t (used_field k x) (unused_field k x) ≡ Ok v → MatchBool t ((fits_column v ≡ true) × (row ≡ row_of v)) ((v ≡ pos 0) × (row ≡ replicate 10 32))
      go true Blank is e = let z : ◌≡◌ {A = ℕ} 0 1 = cc in absurd (omega arith)
      go true NoNumber is e = let z : ◌≡◌ {A = ℕ} 0 1 = cc in absurd (omega arith)
      go true (Number w) is e = let same : w ≡ v = cc in (column_laws.number row v).0 (is ∙ ap Number same)
      go false Blank is e = let same : v ≡ pos 0 = cc in (same, (column_laws.blank row).0 is)
      go false NoNumber is e = let z : ◌≡◌ {A = ℕ} 0 1 = cc in absurd (omega arith)
      go false (Number w) is e = let z : ◌≡◌ {A = ℕ} 0 1 = cc in absurd (omega arith)

-- ---- the parts of a line
part_at : (front part rest line : List ℕ) (i j : ℕ) → line ≡ front ++ (part ++ rest) → length front ≡ i → length part ≡ j - i → between i j line ≡ part
part_at front part rest line i j is long size =
    ap (λ l. take (j - i) (drop i l)) is ∙ ap (take (j - i)) (drop_at front (part ++ rest) i long) ∙ take_at part rest (j - i) size

-- a line of 36 bytes in its four parts
line_parts : (line : List ℕ) → length line ≡ 36 → line ≡ take 6 line ++ (between 6 16 line ++ (between 16 26 line ++ between 26 36 line))
line_parts line long =
    let last : take 10 (drop 26 line) ≡ drop 26 line = take_all 10 (drop 26 line) (omega (arith, length-drop 26 line)) in
    let second : between 16 26 line ++ drop 26 line ≡ drop 16 line = ap (λ l. between 16 26 line ++ l) (sym (drop-drop 10 16 line)) ∙ take-append-drop 10 (drop 16 line) in
    let first : between 6 16 line ++ drop 16 line ≡ drop 6 line = ap (λ l. between 6 16 line ++ l) (sym (drop-drop 10 6 line)) ∙ take-append-drop 10 (drop 6 line) in
    sym (ap (λ l. take 6 line ++ (between 6 16 line ++ (between 16 26 line ++ l))) last ∙ ap (λ l. take 6 line ++ (between 6 16 line ++ l)) second ∙ ap (λ l. take 6 line ++ l) first ∙ take-append-drop 6 line)

-- ---- what is taken is spelled
fields_taken : {C : Type 0} (command : C) (r s t : Result ℤ FormatFault) (q : Request C) → with_fields command r s t ≡ Ok q → (command ≡ q.command) × (r ≡ Ok q.a) × (s ≡ Ok q.b) × (t ≡ Ok q.c)
fields_taken command (Err f) s t q e = let z : ◌≡◌ {A = ℕ} 0 1 = cc in absurd (omega arith)
fields_taken command (Ok x) (Err f) t q e = let z : ◌≡◌ {A = ℕ} 0 1 = cc in absurd (omega arith)
fields_taken command (Ok x) (Ok y) (Err f) q e = let z : ◌≡◌ {A = ℕ} 0 1 = cc in absurd (omega arith)
fields_taken {C} command (Ok x) (Ok y) (Ok z) q e =
    let is : record { command = command; a = x; b = y; c = z } ≡ q = cc in
    (ap (λ (q : Request C). q.command) is, ap (λ (q : Request C). Ok q.a) is, ap (λ (q : Request C). Ok q.b) is, ap (λ (q : Request C). Ok q.c) is)

taken_spelled : {C : Type 0} (set : Commands C) (line : List ℕ) (q : Request C) → parsed set line ≡ Ok q → Spells set q line
taken_spelled {C} set line q e = ⊎_elim
    (λ good. known good (command_named set (take 6 line)) refl)
    (λ bad. let clash : ◌≡◌ {A = Result (Request C) FormatFault} (Err NotALine) (Ok q) = sym (parsed_bad set line bad) ∙ e in let z : ◌≡◌ {A = ℕ} 0 1 = cc in absurd (omega arith))
    (cases_Bool (good_line line))
  where
    known : good_line line ≡ true → (o : Option C) → command_named set (take 6 line) ≡ o → Spells set q line
    known good None is = let clash : ◌≡◌ {A = Result (Request C) FormatFault} (Err UnknownCommand) (Ok q) = sym (parsed_good set line None good is) ∙ e in let z : ◌≡◌ {A = ℕ} 0 1 = cc in absurd (omega arith)
    known good (Some command) is =
        let n : ℕ = set.field_count command in
        let p = fields_taken command _ _ _ q (sym (parsed_good set line (Some command) good is) ∙ e) in
        let same : n ≡ set.field_count q.command = ap set.field_count p.0 in
        let long : length line ≡ 36 = eqb-true (length line) 36 (and_parts (eqb (length line) 36) (printable line) good).0 in
        record {
          text = take 6 line;
          first = between 6 16 line;
          second = between 16 26 line;
          third = between 26 36 line;
          whole = line_parts line long;
          named = is ∙ ap Some p.0;
          a = subst (λ m. FieldHolds m 1 q.a (between 6 16 line)) same (field_held n 1 q.a (between 6 16 line) p.1);
          b = subst (λ m. FieldHolds m 2 q.b (between 16 26 line)) same (field_held n 2 q.b (between 16 26 line) p.2);
          c = subst (λ m. FieldHolds m 3 q.c (between 26 36 line)) same (field_held n 3 q.c (between 26 36 line) p.3);
        }

-- ---- what is spelled is taken
spelled_taken : {C : Type 0} (set : Commands C) → are_texts set.table ≡ true → (line : List ℕ) (q : Request C) → Spells set q line → parsed set line ≡ Ok q
spelled_taken set all line q w =
    let n : ℕ = set.field_count q.command in
    let t = command_text set w.text q.command all w.named in
    let f = field_ten n 1 q.a w.first w.a in
    let g = field_ten n 2 q.b w.second w.b in
    let h = field_ten n 3 q.c w.third w.c in
    let after_f : line ≡ (w.text ++ w.first) ++ (w.second ++ w.third) = w.whole ∙ sym (append_assoc w.text w.first (w.second ++ w.third)) in
    let after_g : line ≡ ((w.text ++ w.first) ++ w.second) ++ (w.third ++ []) = after_f ∙ sym (append_assoc (w.text ++ w.first) w.second w.third) ∙ ap (λ l. ((w.text ++ w.first) ++ w.second) ++ l) (sym (append-nil w.third)) in
    let l₂ : length (w.text ++ w.first) ≡ 16 = length-append w.text w.first ∙ omega (arith, t.0, f.0) in
    let l₃ : length ((w.text ++ w.first) ++ w.second) ≡ 26 = length-append (w.text ++ w.first) w.second ∙ omega (arith, g.0) in
    let front : take 6 line ≡ w.text = ap (take 6) w.whole ∙ take_at w.text (w.first ++ (w.second ++ w.third)) 6 t.0 in
    let first : between 6 16 line ≡ w.first = part_at w.text w.first (w.second ++ w.third) line 6 16 w.whole t.0 f.0 in
    let second : between 16 26 line ≡ w.second = part_at (w.text ++ w.first) w.second w.third line 16 26 after_f l₂ g.0 in
    let third : between 26 36 line ≡ w.third = part_at ((w.text ++ w.first) ++ w.second) w.third [] line 26 36 after_g l₃ h.0 in
    let size : length line ≡ 36 = ap length after_f ∙ length-append (w.text ++ w.first) (w.second ++ w.third) ∙ omega (arith, l₂, length-append w.second w.third, g.0, h.0) in
    let bytes : printable line ≡ true = ap printable w.whole ∙ printable_append w.text (w.first ++ (w.second ++ w.third)) t.1 (printable_append w.first (w.second ++ w.third) f.1 (printable_append w.second w.third g.1 h.1)) in
    two_good set line q.command n (and_from (eqb (length line) 36) (printable line) (eq-eqb (length line) 36 size) bytes) (ap (command_named set) front ∙ w.named) refl q.a q.b
    (ap (λ l. field_read n 1 (column l)) first ∙ field_reads n 1 q.a w.first w.a)
    (ap (λ l. field_read n 2 (column l)) second ∙ field_reads n 2 q.b w.second w.b)
    (Ok q.c)
    (ap (λ l. field_read n 3 (column l)) third ∙ field_reads n 3 q.c w.third w.c)

pub taken_as_spelled : {C : Type 0} (set : Commands C) → are_texts set.table ≡ true → TakenAsSpelled set
taken_as_spelled set all line q = (taken_spelled set line q, spelled_taken set all line q)
