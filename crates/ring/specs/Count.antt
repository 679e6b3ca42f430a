-- Counting slots by their colours.
use Rattle.std.specs.Prelude.{◌+◌}
use Rattle.ring.specs.declared.arcs.Colour.{Colour}
use Rattle.ring.specs.declared.arcs.Colour.TheVariants.{Free, White, Grey, Black}
use Rattle.ring.specs.declared.arcs.Lengths.{Lengths}

-- one more slot of a colour
abbrev pub one_more : Colour → Lengths → Lengths
one_more Free l = record { free = l.free + 1; white = l.white; grey = l.grey; black = l.black }
one_more White l = record { free = l.free; white = l.white + 1; grey = l.grey; black = l.black }
one_more Grey l = record { free = l.free; white = l.white; grey = l.grey + 1; black = l.black }
one_more Black l = record { free = l.free; white = l.white; grey = l.grey; black = l.black + 1 }
