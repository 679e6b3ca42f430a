use Rattle.std.proofs.Common.{◌≡◌, suc, ◌+◌, ◌-◌, sym, ap, ◌∙◌, arith}
use Rattle.rules.specs.Rules.{scans_made}
use Rattle.heap.specs.Scans.{scanned_upto}
use Rattle.heap.specs.View.{contents}
use Rattle.heap.proofs.Framing.{frame_trans}
use Rattle.heap.proofs.Cycles.{scan_more}
use Rattle.heap.proofs.heap.Heap.scan_upto.Goals as goal

pub loop-scanned-preserved : goal.loop-scanned-preserved
loop-scanned-preserved g c =
    let h = c.args.self.now in
    let t = c.loop-scanned.self in
    let u = c.scan_one.new.self in
    let inv = c.loop-scanned.invariant in
    let n = c.args.most - (c.loop-scanned.scanned + 1) in
    let less : suc n ≡ c.args.most - c.loop-scanned.scanned = omega arith in
    let more = scan_more n (contents g.T.Kind t) (contents g.T.Kind u) (sym c.scan_one.ensures.answer ∙ c.if-not-scan_one.false) c.scan_one.ensures.left in (
      frame_trans h t u inv.0 c.scan_one.ensures.frame,
      more.0 ∙ ap (λ k. scanned_upto k (contents g.T.Kind t)) less ∙ inv.1,
      omega (arith, more.1, ap (λ k. scans_made k (contents g.T.Kind t)) less, inv.2),
    )
