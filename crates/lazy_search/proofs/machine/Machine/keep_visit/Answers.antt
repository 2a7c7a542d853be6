use Rattle.std.proofs.Common.{◌≡◌, ℕ, Bool, false, not, List, refl, ap, sym, ◌∙◌, subst, arith}
use Rattle.std.specs.Prelude.{◌&&◌}
use Rattle.lazy_search.specs.Entries.{Expands}
use Rattle.lazy_search.specs.Visits.{Grows}
use Rattle.lazy_search.proofs.KeptVisits.{on_ok, numbered_row, keeps_visit, opened}
use Rattle.lama_num.proofs.BoolLaws.{and-false}
use Rattle.lazy_search.proofs.machine.Machine.keep_visit.Goals as goal
use Rattle.lazy_search.proofs.machine.Machine.keep_visit.Goals.{then-self-via-then-self, then-self-via-else-self+then-arrival}

pub returns-then-self : goal.returns-then-self
returns-then-self c =
    let m = c.args.self.now in
    let a = c.args.arrival in
    let closed : (not m.seen.dead && not a.is_goal) ≡ false = elim c.then-self.branch [
      | then-self-via-then-self w ↦ ap (λ (d : Bool). not d && not a.is_goal) w.if-self.true
      | then-self-via-else-self+then-arrival w ↦ ap (λ (x : Bool). not m.seen.dead && not x) w.if-arrival.true ∙ and-false (not m.seen.dead)
    ] in
    keeps_visit c.args.phase.now.task.now c.args.phase.now.setting.now c.args.phase.now.shape m a _ c.len-number.result (c.len-number.ensures ∙ m.origins.ok.0) (omega arith) c.are_short.ensures
    c.in_ok-put_latest_visit.ensures c.in_ok-push.ensures.items c.in_ok-push_visit.ensures.visits c.in_ok-push_visit.ensures.pops refl
    (subst (λ (b : Bool). Grows c.args.phase.now.task.now c.args.phase.now.setting.now c.args.phase.now.shape (numbered_row m a c.len-number.result) m.seen m.states.applicable.items m.lists m.least b m.lists m.least) (sym closed) (refl, refl))

pub returns : goal.returns
returns c =
    let m = c.args.self.now in
    let a = c.args.arrival in
    let row = numbered_row m a c.len-number.result in
    on_ok (Expands c.args.phase.now.task.now c.args.phase.now.setting.now c.args.phase.now.shape row m.seen c.deref.result.now m.lists m.least c.expand.new.lists c.expand.new.least) _ c.expand.result
    (λ e. keeps_visit c.args.phase.now.task.now c.args.phase.now.setting.now c.args.phase.now.shape m a _ c.len-number.result (c.len-number.ensures ∙ m.origins.ok.0) (omega arith) c.are_short.ensures
    c.in_ok-put_latest_visit.ensures c.in_ok-push.ensures.items c.in_ok-push_visit.ensures.visits c.in_ok-push_visit.ensures.pops refl
    (subst (λ (b : Bool). Grows c.args.phase.now.task.now c.args.phase.now.setting.now c.args.phase.now.shape row m.seen m.states.applicable.items m.lists m.least b c.expand.new.lists c.expand.new.least) (sym (opened m.seen.dead a.is_goal c.if-self.false c.if-arrival.false))
    (subst (λ (ops : List ℕ). Expands c.args.phase.now.task.now c.args.phase.now.setting.now c.args.phase.now.shape row m.seen ops m.lists m.least c.expand.new.lists c.expand.new.least) c.deref.ensures.value e)))
    c.expand.ensures

pub overflow_cast-row : goal.overflow_cast-row
overflow_cast-row c = record { fits = omega arith }

pub put_latest_visit-requires : goal.put_latest_visit-requires
put_latest_visit-requires c = omega (arith, c.requires.id, c.args.self.now.rows.ok.0)
