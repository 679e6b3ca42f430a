use Rattle.std.proofs.Common.{◌≡◌, ℕ, ◌<◌, length, get_or, pos, ap, ◌∙◌, w64, SFits, rules}
use Rattle.lines.specs.Answers.{all_fit}
use Rattle.answering.proofs.Runs.{four_values}
use Rattle.answering.proofs.row.row.Goals as goal

pub returns-in-Ok-clause-fit : goal.returns-in-Ok-clause-fit
returns-in-Ok-clause-fit c =
    let v = c.in-Ok.values.numbers in
    let four : length v ≡ 4 = search rules in
    let fits : (i : ℕ) → i < 4 → SFits w64 (get_or v i (pos 0)) = λ i below. search rules in
    ap all_fit (four_values v four fits) ∙ c.in-Ok.values.fit
