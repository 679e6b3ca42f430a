use Rattle.std.proofs.Common.{get_or, sym, refl, ap, ◌∙◌}
use Rattle.rules.specs.Rules.{shade}
use Rattle.ring.specs.View.{arcs_of}
use Rattle.heap.proofs.Leaving.{leaves_refl, leaves_then, leaves_to}
use Rattle.heap.proofs.Shading.{shade_all_more}
use Rattle.heap.proofs.area.Area.shade_words.Goals as goal

pub loop-w-init : goal.loop-w-init
loop-w-init c = leaves_refl _ _ _ c.args.self.now.counted.fine refl refl

pub loop-w-preserved : goal.loop-w-preserved
loop-w-preserved c =
    let ws = c.args.words.now in
    let i = c.loop-w.w-index in
    let before = c.loop-w.invariant in
    leaves_to _ _ _ _ _ _ (leaves_then _ _ _ _ _ _ _ before c.shade_word.ensures)
    (ap (shade (get_or ws i 0)) before.arcs_are ∙ sym (shade_all_more ws i (arcs_of c.args.self.now.ring) c.loop-w-test.true))
    before.open_is
