use Rattle.std.proofs.Common.{◌≡◌, ℕ, List, Some, true, length, ap, sym, ◌∙◌, subst}
use Rattle.std.proofs.lemmas.List.{with_items_is}
use Rattle.sas_task.specs.States.{is_applicable, step}
use Rattle.lazy_search.proofs.UnpackedStates.{written_whole, unpacked}
use Rattle.lazy_search.proofs.states.States.follow.Goals as goal

pub apply_into-requires-clause-applicable : goal.apply_into-requires-clause-applicable
apply_into-requires-clause-applicable c =
    let s = c.args.self.now in
    let o = c.requires.opens in
    let long : length c.unpack.new.out ≡ length s.here.items = c.unpack.auto.out ∙ ap length c.deref_mut.ensures.value in
    let here : c.deref.result.now ≡ o.state =
    c.deref.ensures.value ∙ written_whole s.here.items c.unpack.new.out s.here.len s.here.ok.0 long
    ∙ unpacked s c.args.task.now c.args.id c.state.result.now c.unpack.new.out o.state c.layout-layout.result.now c.requires.ready c.layout-layout.ensures c.state.ensures o.is_state o.stored c.unpack.ensures in
    subst (λ (x : List ℕ). is_applicable c.args.task.now x c.args.op ≡ true) (sym here) o.applicable

pub returns-clause-ready : goal.returns-clause-ready
returns-clause-ready c =
    let s = c.args.self.now in
    let r = c.requires.ready in
    let long : length c.unpack.new.out ≡ length s.here.items = c.unpack.auto.out ∙ ap length c.deref_mut.ensures.value in
    let next_long : length c.apply_into.new.out ≡ length s.next.items = c.apply_into.auto.out ∙ ap length c.deref_mut-2.ensures.value in
    record {
      layout = r.layout;
      stepper = c.apply_into.ensures.same_task;
      tree = r.tree;
      words = r.words;
      here = ap length (with_items_is s.here c.unpack.new.out (long ∙ sym s.here.ok.0)) ∙ long ∙ r.here;
      next = ap length (with_items_is s.next c.apply_into.new.out (next_long ∙ sym s.next.ok.0)) ∙ next_long ∙ r.next;
      room = r.room;
    }

pub returns-clause-next : goal.returns-clause-next
returns-clause-next c state is stored =
    let s = c.args.self.now in
    let long : length c.unpack.new.out ≡ length s.here.items = c.unpack.auto.out ∙ ap length c.deref_mut.ensures.value in
    let next_long : length c.apply_into.new.out ≡ length s.next.items = c.apply_into.auto.out ∙ ap length c.deref_mut-2.ensures.value in
    let here : c.deref.result.now ≡ state =
    c.deref.ensures.value ∙ written_whole s.here.items c.unpack.new.out s.here.len s.here.ok.0 long
    ∙ unpacked s c.args.task.now c.args.id c.state.result.now c.unpack.new.out state c.layout-layout.result.now c.requires.ready c.layout-layout.ensures c.state.ensures is stored c.unpack.ensures in
    ap (λ (x : List ℕ). step c.args.task.now x c.args.op) (sym here) ∙ c.apply_into.ensures.state ∙ ap Some (sym (with_items_is s.next c.apply_into.new.out (next_long ∙ sym s.next.ok.0)))
