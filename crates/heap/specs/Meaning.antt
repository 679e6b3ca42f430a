-- A record of a kind by its meaning.
use Rattle.kinds.specs.declared.kind.Kind.{Ghosts}
use Rattle.rules.specs.Rules.{Record}

abbrev pub meaning_of : {X : Type 0} → Ghosts X → X → Record
meaning_of g x = record { links = g.links x; plain = g.plain x }
