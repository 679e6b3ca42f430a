use Rattle.std.proofs.Common.{refl, rules}
use Rattle.heap.proofs.Leaving.{leaves_refl}
use Rattle.heap.proofs.area.Area.shade_word.Goals as goal

pub returns-in_default : goal.returns-in_default
returns-in_default c = leaves_refl _ _ _ c.args.self.now.counted.fine (search rules) refl

pub returns-in_default-2 : goal.returns-in_default-2
returns-in_default-2 c = leaves_refl _ _ _ c.args.self.now.counted.fine (search rules) refl
