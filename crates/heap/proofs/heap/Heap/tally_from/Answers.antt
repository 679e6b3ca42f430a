use Rattle.std.proofs.Common.{◌≡◌, suc, ◌+◌, ◌-◌, ◌≤◌, get_or, sym, ap, ◌∙◌, subst, arith, rules}
use Rattle.rules.specs.Chains.{all_places, follow, tally_answer}
use Rattle.heap.specs.declared.tally.Tally.{Tally}
use Rattle.heap.specs.Tallies.{follow_words, tally_with}
use Rattle.heap.specs.View.{view}
use Rattle.heap.proofs.Tallying.{follow_is, tally_begins, tally_ends, tally_turn}
use Rattle.heap.proofs.heap.Heap.tally_from.Goals as goal

pub loop-init : goal.loop-init
loop-init g c =
    let s = view g.T.Kind c.args.self.now in
    let n = all_places s.sizes s.store in
    let words : (c.place_count-most.result + 1) - 0 ≡ suc n = omega (arith, c.place_count-most.ensures.places) in
    let none : Tally = record { flushes = 0; weight = 0 } in
    let zero : none ≡ c.default-tally.result = search rules in
    subst (λ t. (tally_with s.store t.flushes t.weight (follow_words s.sizes s.store ((c.place_count-most.result + 1) - 0) c.args.first) ≡ tally_answer s.store (follow s.sizes s.store n c.args.first)) × (t.flushes ≤ 0) × (t.weight ≤ 0)) zero (
      ap (λ k. tally_with s.store 0 0 (follow_words s.sizes s.store k c.args.first)) words
          ∙ ap (tally_with s.store 0 0) (sym (follow_is s.sizes s.store n c.args.first))
          ∙ tally_begins s.store (follow s.sizes s.store n c.args.first),
      omega arith,
      omega arith,
    )

pub returns-in_default : goal.returns-in_default
returns-in_default g c =
    let s = view g.T.Kind c.args.self.now in
    let l = c.loop in
    let k = c.place_count-most.result - l.counter in
    let left : suc k ≡ (c.place_count-most.result + 1) - l.counter = omega arith in
    tally_ends s.sizes s.store l.tally.flushes l.tally.weight k l.w (sym c.in_default.ensures.place)
    ∙ ap (λ j. tally_with s.store l.tally.flushes l.tally.weight (follow_words s.sizes s.store j l.w)) left
    ∙ l.invariant.0

pub loop-preserved : goal.loop-preserved
loop-preserved g c =
    let s = view g.T.Kind c.args.self.now in
    let l = c.loop in
    let t = c.with-tally.result in
    let said = c.with-tally.ensures in
    let k = (c.place_count-most.result + 1) - (l.counter + 1) in
    let left : suc k ≡ (c.place_count-most.result + 1) - l.counter = omega arith in (
      tally_turn s.sizes s.store l.tally.flushes l.tally.weight t.flushes t.weight _ k l.w c.link-w.result c.in-Some.at (g.T.Kind.plain c.record_at-one.result.now) _ c.in-Some.ensures.place (ap (λ r. r.plain) c.record_at-one.ensures) said.flushes said.weight (c.link-w.ensures ∙ ap (λ r. get_or r.links 0 0) c.record_at-one.ensures) left l.invariant.0,
      omega (arith, said.few, l.invariant.1),
      omega (arith, said.light, l.invariant.2),
    )
