-- What is printed of a step and of a tally.
use Rattle.std.specs.Prelude.{ℕ, cond, List, ◌++◌, codes}
use Rattle.std.specs.Fmt.{decimal}
use Rattle.heap.specs.declared.stepped.Stepped.{Stepped}
use Rattle.heap.specs.declared.tally.Tally.{Tally}

-- copied 2, scanned 1, freed 0, cycle open
abbrev pub stepped_text : Stepped → List ℕ
stepped_text s =
    codes "copied " ++ decimal s.copied
    ++ codes ", scanned " ++ decimal s.scanned
    ++ codes ", freed " ++ decimal s.freed
    ++ codes ", cycle " ++ cond s.cycle_open (codes "open") (codes "closed")

-- flushes 2, together 900 mg
abbrev pub tally_text : Tally → List ℕ
tally_text t = codes "flushes " ++ decimal t.flushes ++ codes ", together " ++ decimal t.weight ++ codes " mg"
