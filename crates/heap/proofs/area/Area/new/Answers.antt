use Rattle.std.proofs.Common.{length, sym, ap, arith}
use Rattle.ring.specs.View.{slots_of}
use Rattle.ring.proofs.Fresh.{length_upto}
use Rattle.heap.proofs.area.Area.new.Goals as goal

pub invariant_of-result : goal.invariant_of-result
invariant_of-result c =
    let r = c.args.ring in
    record {
      counted = record {
        fine = c.requires.fine;
        few = c.requires.few;
        occupied_is = omega (arith, ap (λ a. length a.free) c.requires.free, length_upto 0 (slots_of r));
        white_is = sym (ap (λ a. length a.white) c.requires.free);
      };
    }
