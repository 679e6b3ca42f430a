-- Which words a barrier's answer names.
use Rattle.std.specs.Prelude.{Bool, true, false}
use Rattle.kinds.specs.declared.barrier.Shades.{Shades}
use Rattle.kinds.specs.declared.barrier.Shades.TheVariants.{Neither, Overwritten, New, Both}

abbrev pub names_overwritten : Shades → Bool
names_overwritten Neither = false
names_overwritten Overwritten = true
names_overwritten New = false
names_overwritten Both = true

abbrev pub names_new : Shades → Bool
names_new Neither = false
names_new Overwritten = false
names_new New = true
names_new Both = true
