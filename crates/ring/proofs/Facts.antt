-- What follows for a ring from what always holds of it.
use Rattle.ring.specs.Sound.{Tables}
use Rattle.ring.specs.View.{arcs_of, Fine, LinkedRing}
use Rattle.ring.proofs.Around.{tables_linked}

-- Its tables are linked in the order of its arcs.
pub fine_linked : (r : Tables) → Fine r → LinkedRing r
unfolding arcs_of
fine_linked r s = tables_linked r s
