use Rattle.std.proofs.Common.{◌≡◌, length, map, replicate, sym, ap, ◌∙◌, rules, arith}
use Rattle.heap.specs.declared.rows.Note.{Note}
use Rattle.heap.specs.Rows.{no_forward}
use Rattle.heap.specs.Evacuating.{store_over, visited}
use Rattle.heap.specs.Emptying.{emptying}
use Rattle.heap.proofs.Copying.{begun_under, begun_state, blank_rows}
use Rattle.heap.proofs.Visits.{queue_length, visited_all}
use Rattle.heap.proofs.evacuation.evacuate_all.Goals as goal

pub invariant_of-evacuation : goal.invariant_of-evacuation
invariant_of-evacuation g c =
    let fs = c.fill.new.self in
    let n = length c.args.nursery.now in
    let blank = blank_rows fs c.default.result (length c.args.forward.now) n c.default.ensures (c.fill.ensures.after (λ y h. search rules)) c.requires.rows in
    record {
      underway = begun_under n _ fs c.args.area.now.ring (c.fill.ensures.len ∙ c.requires.rows) blank c.requires.ring_size c.requires.few_slots c.requires.few_places c.requires.room;
    }

pub returns-clause-state : goal.returns-clause-state
returns-clause-state g c =
    let a = c.args in
    let fs = c.fill.new.self in
    let ns = map (λ (m : Note). m.slot) a.notes.now in
    let rs = c.visit_registers.new.registers in
    let e = c.visit_copied.new.self in
    let same = c.visit_noted.ensures.stage.same_nursery ∙ c.visit_registers.ensures.stage.same_nursery in
    let blank = blank_rows fs c.default.result (length a.forward.now) (length a.nursery.now) c.default.ensures (c.fill.ensures.after (λ y h. search rules)) c.requires.rows in
    let emptied = visited_all g.T.Kind a.rescan a.registers.now rs ns a.nursery.now a.slots.now a.area.now.ring _ c.visit_registers.new.self c.visit_noted.new.self e same
    (begun_state g.T.Kind a.registers.now ns a.nursery.now a.slots.now fs a.area.now.ring blank) (c.visit_registers.ensures.state ns) (c.visit_noted.ensures.state rs ns) (c.visit_copied.ensures.state rs ns) in
    let left : store_over g.T.Kind rs a.nursery.now e.slots.now ns e.area.now.ring ≡ (visited a.rescan g.T.Kind.count (store_over g.T.Kind a.registers.now a.nursery.now a.slots.now ns a.area.now.ring)).store =
    ap (λ xs. store_over g.T.Kind rs xs e.slots.now ns e.area.now.ring) (sym (c.visit_copied.ensures.stage.same_nursery ∙ same)) ∙ ap (λ x. x.store) emptied in
    search (rules, left)

pub returns-clause-copied : goal.returns-clause-copied
returns-clause-copied g c =
    let a = c.args in
    let fs = c.fill.new.self in
    let ns = map (λ (m : Note). m.slot) a.notes.now in
    let rs = c.visit_registers.new.registers in
    let e = c.visit_copied.new.self in
    let same = c.visit_noted.ensures.stage.same_nursery ∙ c.visit_registers.ensures.stage.same_nursery in
    let blank = blank_rows fs c.default.result (length a.forward.now) (length a.nursery.now) c.default.ensures (c.fill.ensures.after (λ y h. search rules)) c.requires.rows in
    let emptied = visited_all g.T.Kind a.rescan a.registers.now rs ns a.nursery.now a.slots.now a.area.now.ring _ c.visit_registers.new.self c.visit_noted.new.self e same
    (begun_state g.T.Kind a.registers.now ns a.nursery.now a.slots.now fs a.area.now.ring blank) (c.visit_registers.ensures.state ns) (c.visit_noted.ensures.state rs ns) (c.visit_copied.ensures.state rs ns) in
    sym (queue_length g.T.Kind rs ns e (omega (arith, e.underway.moved, e.underway.rows))) ∙ ap (λ x. length x.copied) emptied
