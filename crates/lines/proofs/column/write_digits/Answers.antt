use Rattle.std.proofs.Common.{◌≡◌, ℕ, ◌+◌, ◌-◌, ◌%◌, List, ◌++◌, length, take, set, decimal, sym, refl, ap, ◌∙◌, append-nil, arith}
use Rattle.std.proofs.lemmas.Fmt.{decimal_nonempty}
use Rattle.std.proofs.lemmas.List.{drop_all, take-take, take-set, length-set}
use Rattle.lines.proofs.Columns.{digits_left, digits_end}
use Rattle.lines.proofs.column.write_digits.Goals as goal

-- one column fewer is untouched
fewer : (xs ys : List ℕ) (at : ℕ) → take at xs ≡ take at ys → take (at - 1) xs ≡ take (at - 1) ys
fewer xs ys at e = sym (take-take (at - 1) at xs (omega arith)) ∙ ap (take (at - 1)) e ∙ take-take (at - 1) at ys (omega arith)

pub loop-at-init : goal.loop-at-init
loop-at-init c =
    (ap (λ l. decimal c.args.n ++ l) (drop_all (length c.args.row.now) c.args.row.now (omega arith)) ∙ append-nil (decimal c.args.n), refl, c.requires, omega arith, omega arith)

pub loop-at-preserved : goal.loop-at-preserved
loop-at-preserved c =
    let row = c.loop-at.row in
    let at = c.loop-at.at in
    let d : ℕ = 48 + c.loop-at.rest % 10 in
    let inv = c.loop-at.invariant in
    let more = digits_left row (decimal c.args.n) at c.loop-at.rest inv.3 inv.2 (omega arith) inv.0 (omega (arith, c.if-rest-eq0.false)) in
    (more.0, take-set row (at - 1) d ∙ fewer row c.args.row.now at inv.1, more.1, omega (arith, length-set row (at - 1) d), omega arith)

pub returns-then-rest-eq0 : goal.returns-then-rest-eq0
returns-then-rest-eq0 c =
    let row = c.loop-at.row in
    let at = c.loop-at.at in
    let ds : List ℕ = decimal c.args.n in
    let inv = c.loop-at.invariant in
    let one : c.loop-at.rest % 10 ≡ c.loop-at.rest = omega arith in
    let last = digits_end row ds at c.loop-at.rest inv.3 inv.2 (omega arith) inv.0 (omega arith) in
    let first : at - 1 ≡ length c.args.row.now - length ds = omega (arith, last.1, c.loop-at.auto.row) in
    record {
      first = first;
      after = ap (λ d. set row (at - 1) (48 + d)) one ∙ last.0 ∙ ap (λ l. l ++ ds) (fewer row c.args.row.now at inv.1 ∙ ap (λ k. take k c.args.row.now) first);
    }

pub returns : goal.returns
returns c = absurd (omega (arith, decimal_nonempty c.loop-at.rest (omega arith)))
