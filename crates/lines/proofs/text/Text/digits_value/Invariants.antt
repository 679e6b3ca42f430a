use Rattle.std.proofs.Common.{◌≡◌, ◌^◌, ◌<◌, drop}
use Rattle.lines.specs.Columns.{digits_after}
use Rattle.lines.proofs.text.Text.digits_value.Given as goal

abbrev pub invariant-loop-d : goal.invariant-loop-d
invariant-loop-d l = (digits_after l.n (drop l.d-index l.self.bytes.now) ≡ digits_after 0 l.self.bytes.now) × (l.n < 10 ^ l.d-index)
