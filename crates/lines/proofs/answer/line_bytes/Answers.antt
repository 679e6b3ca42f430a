use Rattle.std.proofs.Common.{◌≡◌, ◌+◌, ◌-◌, ◌*◌, get_or, pos, Some, sym, ap, ◌∙◌, subst, arith, w64, SFits, rules}
use borrow.Rule.Slice.PartMut.{put_mid}
use Rattle.std.proofs.lemmas.List.{places}
use Rattle.std.proofs.lemmas.Int.{to_z-of_z}
use Rattle.lines.specs.Columns.{written}
use Rattle.lines.proofs.Answers.{Partial, partial_more, partial_done}
use Rattle.lines.proofs.answer.line_bytes.Goals as goal

pub loop-i-preserved : goal.loop-i-preserved
loop-i-preserved c =
    let values = c.args.values.now in
    let line = c.loop-i.line in
    let i = c.loop-i.i in
    let v = get_or values i (pos 0) in
    let fits : SFits w64 v = search rules in
    let some : written v ≡ Some c.in_ok-column.column = ap written (sym (to_z-of_z w64 v fits)) ∙ sym c.write_column.ensures ∙ c.in_ok-column.was in
    let next = partial_more values line i (pos 0) (omega arith) c.told-values c.loop-i.invariant.1 c.in_ok-column.column some in
    (search (rules, places), subst (λ row. Partial values (put_mid (10 * i) (10 * i + 10 - 10 * i) line row) (i + 1)) (sym c.copy_from_slice.ensures.after) next)

pub returns : goal.returns
returns c = partial_done c.args.values.now c.loop-i.line c.loop-i.i c.told-values (omega arith) c.loop-i.invariant.1
