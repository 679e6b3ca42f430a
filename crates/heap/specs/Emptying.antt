-- An evacuation as the rules see it, and what its parts keep.
use Rattle.std.specs.Prelude.{◌≡◌, ℕ, ◌+◌, List, map, length}
use Rattle.ring.specs.View.{slots_of, Beyond}
use Rattle.rules.specs.Rules.{Evacuation as Emptying}
use Rattle.kinds.specs.declared.kind.Kind.{Ghosts}
use Rattle.heap.specs.declared.evacuation.Evacuation.{Evacuation}
use Rattle.heap.specs.Evacuating.{store_over}
use Rattle.heap.specs.Rows.{front, unmoved}

-- the evacuation of a store with these registers and noted slots
abbrev pub emptying : {X : Type 0} → Ghosts X → List ℕ → List ℕ → Evacuation X → Emptying
emptying g rs ns e = record {
  store = store_over g rs e.nursery.now e.slots.now ns e.area.now.ring;
  forward = map (λ f. f.target) e.forward.now;
  copied = front (λ f. f.copied) e.copied e.forward.now;
}

-- what every part keeps: the tables it was lent, the nursery, how many records were copied or are not copied yet, how many
-- slots there are, and what stands beyond them
pub record Stage {X : Type 0} (was is : Evacuation X) : Type 0 where
  pub same_slots : is.slots.ghost_name ≡ was.slots.ghost_name
  pub same_forward : is.forward.ghost_name ≡ was.forward.ghost_name
  pub same_area : is.area.ghost_name ≡ was.area.ghost_name
  pub same_nursery : is.nursery.now ≡ was.nursery.now
  pub moved : is.copied + unmoved (map (λ f. f.target) is.forward.now) ≡ was.copied + unmoved (map (λ f. f.target) was.forward.now)
  pub slots_long : length is.slots.now ≡ length was.slots.now
  pub forward_long : length is.forward.now ≡ length was.forward.now
  pub ring_size : slots_of is.area.now.ring ≡ slots_of was.area.now.ring
  pub beyond : Beyond was.area.now.ring is.area.now.ring
