use Rattle.std.proofs.Common.{◌≡◌, ◌+◌, ◌&&◌, get_or, drop, pos, sym, ap, ◌∙◌, arith, w64, SFits, rules}
use Rattle.std.proofs.lemmas.List.{get_or-take, drop_more}
use Rattle.kinds.specs.declared.fault.StoreFault.TheVariants.{NoSuchRegister}
use Rattle.rules.specs.Rules.{all_in, links_from}
use Rattle.heap.specs.View.{contents}
use Rattle.heap.proofs.Accepted.{index_tells}
use Rattle.heap.proofs.Linking.{front_more, front_all}
use Rattle.heap.proofs.Named.{length_links, links_at}
use Rattle.heap.proofs.heap.Heap.linked.Goals as goal

pub loop-k-preserved : goal.loop-k-preserved
loop-k-preserved g c =
    let t = g.T.Kind in
    let h = c.args.self.now in
    let n = h.limits.registers in
    let x = c.loop-k.made in
    let k = c.loop-k.k in
    let rs = c.args.links.now in
    let s = contents t h in
    let r = get_or rs k (pos 0) in
    let inv = c.loop-k.invariant in
    let fits : SFits w64 r = search rules in
    let (ins, (is, low)) = index_tells NoSuchRegister n r c.in_ok-i.i fits (c.in_ok-i.ensures) in
    let word : c.word_in.result ≡ get_or (links_from s rs) k 0 =
    c.word_in.ensures ∙ ap (λ j. get_or s.registers j 0) is ∙ sym (links_at s rs k c.loop-k-test.true) in (
      sym (ap (λ xs. all_in xs n) (drop_more rs k (pos 0) c.loop-k-test.true) ∙ ap (λ b. b && all_in (drop (k + 1) rs) n) ins) ∙ inv.0,
      (λ many. front_more (t.links x) (t.links c.set_link.new.self) (links_from s rs) t.count k _ c.set_link.ensures.linked word (g.met.T.Kind.counted x) (length_links s rs ∙ many) (omega (arith, many, c.loop-k-test.true)) (inv.1 many)),
      c.set_link.ensures.kept ∙ inv.2,
    )

pub returns-clause-links : goal.returns-clause-links
returns-clause-links g c =
    let t = g.T.Kind in
    let x = c.loop-k.made in
    let rs = c.args.links.now in
    let s = contents t (c.args.self.now) in
    (λ many. front_all (t.links x) (links_from s rs) t.count c.loop-k.k (g.met.T.Kind.counted x) (length_links s rs ∙ many) (omega (arith, many, c.loop-k-test.false)) ((c.loop-k.invariant).1 many))
