use Rattle.std.proofs.Common.{Option, Some, None, IfSome, ◌++◌, ap, ◌∙◌, sym}
use Rattle.answering.proofs.program.answer_input.Goals as goal

-- what holds of a value, if there is one, has what follows from it
if_some : {T : Type 0} {P Q : T → Type 0} → ((x : T) → P x → Q x) → (o : Option T) → IfSome o P → IfSome o Q
if_some f None p = p
if_some f (Some x) p = f x p

pub returns : goal.returns
returns g c = (
  c.deref.result,
  c.in_ok-answers.answers,
  if_some (λ read is. c.deref.ensures.value ∙ is ∙ ap (λ s. s ++ read) c.new-sheet.ensures.items) (g.R.Read.remaining c.args.input.now) c.in_ok-read_to_end.ensures.bytes,
  rw (sym c.in_ok-answers.was) c.run.ensures,
  rw (sym c.deref-2.ensures.value) c.in_ok-write_all.ensures.bytes,
)
