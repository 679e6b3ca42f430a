-- What is printed of the lengths of the arcs.
use Rattle.std.specs.Prelude.{ℕ, List, ◌++◌, codes}
use Rattle.std.specs.Fmt.{decimal}
use Rattle.ring.specs.declared.arcs.Lengths.{Lengths}

-- free 3, white 0, grey 1, black 2
abbrev pub lengths_text : Lengths → List ℕ
lengths_text l =
    codes "free " ++ decimal l.free
    ++ codes ", white " ++ decimal l.white
    ++ codes ", grey " ++ decimal l.grey
    ++ codes ", black " ++ decimal l.black
