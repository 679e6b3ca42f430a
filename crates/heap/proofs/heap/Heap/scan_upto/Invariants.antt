use Rattle.std.proofs.Common.{◌≡◌, ◌+◌, ◌-◌}
use Rattle.rules.specs.Rules.{scans_made}
use Rattle.heap.specs.Scans.{scanned_upto}
use Rattle.heap.specs.View.{contents, Frame}
use Rattle.heap.proofs.heap.Heap.scan_upto.Given as goal

abbrev pub invariant-loop-scanned : goal.invariant-loop-scanned
invariant-loop-scanned g l =
    let s = contents g.T.Kind l.initial.self in
    let t = contents g.T.Kind l.self in
    Frame l.initial.self l.self
    × (scanned_upto (l.most - l.scanned) t ≡ scanned_upto l.most s)
    × (l.scanned + scans_made (l.most - l.scanned) t ≡ scans_made l.most s)
