-- Where words lead, and the used places of the nursery.
use Rattle.std.proofs.Common.{◌≡◌, ℕ, true, arith}
use Rattle.std.proofs.lemmas.Bool.Decides.{nat_tests}
use Rattle.words.specs.declared.place.Place.{Place}
use Rattle.words.specs.declared.place.Place.TheVariants.{Young, Old}
use Rattle.heap.specs.Answers.{is_within, Within}

pub within : (used slots : ℕ) (at : Place) → is_within used slots at ≡ true → Within used slots at
within used slots (Young p) h = grind (arith, nat_tests)
within used slots (Old q) h = grind (arith, nat_tests)
