use Rattle.std.proofs.Common.{◌≡◌, ◌+◌, ◌<◌, cond, [], ◌∷◌, ◌++◌, take, vec_items, vec_len, vec_capacity, sym, ap, ◌∙◌, subst, arith}
use Rattle.std.proofs.lemmas.List.{take_more, take_all}
use Rattle.heap.specs.View.{view}
use Rattle.heap.proofs.Framing.{frame_refl, frame_trans}
use Rattle.store.specs.Promised.{Ran}
use Rattle.store.proofs.Running.{ran_none, ran_push}
use Rattle.store.proofs.store.Store.make_calls.Goals as goal

pub loop-call-init : goal.loop-call-init
loop-call-init g c = (ran_none g.T.Kind g.B.Barrier.answers c.args.self.now.heap (vec_items c.args.answers.now), frame_refl c.args.self.now.heap, omega (arith, c.requires))

pub loop-call-preserved : goal.loop-call-preserved
loop-call-preserved g c =
    let s = view g.T.Kind c.args.self.now.heap in
    let calls = c.args.calls.now in
    let was = vec_items c.args.answers.now in
    let i = c.loop-call.call-index in
    let inv = c.loop-call.invariant in
    let item = c.call-item.result in
    let low = c.loop-call-test.true in
    let room : vec_len c.loop-call.answers < vec_capacity c.loop-call.answers = omega (arith, inv.2, low) in
    let pushed = c.push.ensures.succeeds room in
    let more : vec_items c.push.new.self ≡ vec_items c.loop-call.answers ++ (c.call-answer.result ∷ []) = c.push.ensures.items ∙ ap (λ t. cond t (vec_items c.loop-call.answers ++ (c.call-answer.result ∷ [])) (vec_items c.loop-call.answers)) pushed in
    let len : vec_len c.push.new.self ≡ vec_len c.loop-call.answers + 1 = c.push.ensures.len ∙ ap (λ t. cond t (vec_len c.loop-call.answers + 1) (vec_len c.loop-call.answers)) pushed in
    let ran = ran_push g.T.Kind g.B.Barrier.answers s (take i calls) was (vec_items c.loop-call.answers) (vec_items c.push.new.self) c.loop-call.self.heap c.call-answer.new.self.heap item c.call-answer.result inv.0 c.call-answer.ensures.state c.call-answer.ensures.answer more in (
      subst (λ cs. Ran g.T.Kind g.B.Barrier.answers s cs was (vec_items c.push.new.self) c.call-answer.new.self.heap) (ap (λ x. take i calls ++ (x ∷ [])) c.call-item.is ∙ sym (take_more calls i item low)) ran,
      frame_trans c.args.self.now.heap c.loop-call.self.heap c.call-answer.new.self.heap inv.1 c.call-answer.ensures.frame,
      omega (arith, inv.2, len, c.push.ensures.capacity),
    )

pub returns : goal.returns
returns g c =
    let inv = c.loop-call.invariant in
    record {
      ran = subst (λ cs. Ran g.T.Kind g.B.Barrier.answers (view g.T.Kind c.args.self.now.heap) cs (vec_items c.args.answers.now) (vec_items c.loop-call.answers) c.loop-call.self.heap) (take_all c.loop-call.call-index c.args.calls.now c.loop-call-test.false) inv.0;
      frame = inv.1;
    }
