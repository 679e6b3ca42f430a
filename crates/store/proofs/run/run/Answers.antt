use Rattle.std.proofs.Common.{[], vec_items, sym, refl, ◌∙◌, inl, inr}
use Rattle.std.proofs.lemmas.Bool.{true≢false}
use Rattle.heap.proofs.Framing.{frame_refl}
use Rattle.store.proofs.Opened.{run_of}
use Rattle.store.proofs.Running.{ran_none}
use Rattle.store.proofs.run.run.Goals as goal

pub returns-then-is_ok : goal.returns-then-is_ok
returns-then-is_ok g c =
    let o = c.open-store in
    let m = c.make_calls in
    record {
      run = run_of g.T.Kind g.B.Barrier.answers c.args.sizes c.args.tables o.result.heap m.new.self.heap c.args.calls.now c.args.calls.now _ _ _ _ g.met.T.Kind.few g.met.B.Barrier.lawful m.new.self.heap.kept.fine o.result.heap.kept.ring_size o.ensures.state o.ensures.lent m.ensures.frame c.reserve.ensures.items m.ensures.ran (inl refl) (λ _. refl);
      barrier = m.ensures.frame.same_barrier ∙ o.ensures.barrier;
    }

pub returns-else-is_ok : goal.returns-else-is_ok
returns-else-is_ok g c =
    let o = c.open-store in
    let h = o.result.heap in
    record {
      run = run_of g.T.Kind g.B.Barrier.answers c.args.sizes c.args.tables h h [] c.args.calls.now _ _ (vec_items c.reserve.new.self) _ g.met.T.Kind.few g.met.B.Barrier.lawful o.result.heap.kept.fine o.result.heap.kept.ring_size o.ensures.state o.ensures.lent (frame_refl h) c.reserve.ensures.items (ran_none g.T.Kind g.B.Barrier.answers h (vec_items c.reserve.new.self)) (inr refl) (λ room. absurd (true≢false (sym (c.reserve.ensures.succeeds room) ∙ sym c.if-is_ok.ensures.value)));
      barrier = o.ensures.barrier;
    }
