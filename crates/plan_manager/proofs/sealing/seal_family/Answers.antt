use Rattle.std.proofs.Common.{◌≡◌, ◌∙◌, ap, sym, subst, refl, arith, ℕ, List, length, ◌^◌, Bool, true, false, if◌then◌else◌, ◌+◌, ◌<◌, ◌≤◌, Some}
use Rattle.std.specs.Prelude.{slice_get, option_map}
use Rattle.std.proofs.lemmas.Option.{slice_get_read}
use Rattle.lama_host.specs.Folder.{Told, Changes}
use Rattle.sas_task.specs.declared.contents.Parts.{Parts}
use Rattle.sas_task.specs.declared.plans.Kept.{Kept}
use Rattle.plan_text.specs.PlanText.{plan_text}
use Rattle.plan_manager.specs.Sealing.{text_at}
use Rattle.lama_host.proofs.StepLaws.{keeps_then, keeps_ok}
use Rattle.plan_manager.proofs.Stages.{Stage, stage_none, stage_more, stage_failed, stage_last, taken_seals, rewritten_seals, plan_of_first, none_before, none_after}
use Rattle.plan_manager.proofs.sealing.seal_family.Goals as goal

small : (many : Bool) (first : ℕ) → first ≡ (if many then 1 else 0) → first ≤ 1
small true first is = omega (arith, is)
small false first is = omega (arith, is)

has_text : (many : Bool) (task : Parts) (kept : List Kept) (first index : ℕ) (plan : Kept) → first ≡ (if many then 1 else 0) → (many ≡ false → length kept ≤ 1) → slice_get kept index ≡ Some plan → text_at many task kept (first + index) ≡ Some (plan_text task plan.ops)
has_text many task kept first index plan is single at = ap (option_map (λ p. plan_text task p.ops)) (plan_of_first many kept first index is single ∙ at)

-- at most one plan without many, so numbers stay below 10,000
number_fits : (many : Bool) (first index : ℕ) (kept : List Kept) → first ≡ (if many then 1 else 0) → length kept ≤ 9999 → index < length kept → first + index ≤ 9999
number_fits many first index kept is few low = let s = small many first is in omega arith

end_fits : (many : Bool) (first : ℕ) (kept : List Kept) → first ≡ (if many then 1 else 0) → length kept ≤ 9999 → first + length kept ≤ 10000
end_fits many first kept is few = let s = small many first is in omega arith

renumbered : (a b : Told) (base : List ℕ) (many : Bool) (task : Parts) (kept : List Kept) (n m : ℕ) → n ≡ m → Changes a b (Stage base many task kept n) → Changes a b (Stage base many task kept m)
renumbered a b base many task kept n m same changes = subst (λ k. Changes a b (Stage base many task kept k)) same changes

pub returns-in_err-remove_names-clause-changes : goal.returns-in_err-remove_names-clause-changes
returns-in_err-remove_names-clause-changes g c =
    let told = g.F.Folder.told in
    let first = c.first_number-first.result in
    stage_failed (told c.args.folder.now) (told c.args.folder.now) (told c.remove_names.new.folder) c.remove_names.result c.from_residual.result c.args.base.now c.args.many c.args.task.now c.args.kept.now 0 first 0 10000 c.from_residual.ensures.0 refl
    (stage_none (told c.args.folder.now) c.args.base.now c.args.many c.args.task.now c.args.kept.now)
    (taken_seals (told c.args.folder.now) (told c.remove_names.new.folder) c.remove_names.result c.args.base.now c.args.many c.args.task.now c.args.kept.now 0 first (omega (arith, small c.args.many first c.first_number-first.ensures))
    (λ k low below. none_before c.args.many c.args.kept.now first k c.first_number-first.ensures below) c.remove_names.ensures.changes)

pub loop-index-init : goal.loop-index-init
loop-index-init g c =
    let told = g.F.Folder.told in
    let first = c.first_number-first.result in
    record {
      keeps = keeps_ok _ _ c.remove_names.result tt c.remove_names.ensures.keeps;
      changes = renumbered (told c.args.folder.now) (told c.remove_names.new.folder) c.args.base.now c.args.many c.args.task.now c.args.kept.now first (first + 0) (omega arith)
          (stage_more (told c.args.folder.now) (told c.args.folder.now) (told c.remove_names.new.folder) c.remove_names.result _ c.args.base.now c.args.many c.args.task.now c.args.kept.now 0 first c.in_ok-remove_names.was (omega arith) refl
          (stage_none (told c.args.folder.now) c.args.base.now c.args.many c.args.task.now c.args.kept.now)
          (taken_seals (told c.args.folder.now) (told c.remove_names.new.folder) c.remove_names.result c.args.base.now c.args.many c.args.task.now c.args.kept.now 0 first (omega (arith, small c.args.many first c.first_number-first.ensures))
          (λ k low below. none_before c.args.many c.args.kept.now first k c.first_number-first.ensures below) c.remove_names.ensures.changes));
    }

pub rewrite_name-requires-clause-few : goal.rewrite_name-requires-clause-few
rewrite_name-requires-clause-few g c =
    let at = slice_get_read c.args.kept.now (length c.args.kept.now) c.loop-index.index c.index-kept-index.result refl (omega (arith, c.loop-index-test.true)) c.index-kept-index.is in
    subst (λ o. length o < 2 ^ 32) (sym c.deref.ensures) (c.requires.steps c.loop-index.index c.index-kept-index.result at)

pub returns-in_err-rewrite_name-clause-changes : goal.returns-in_err-rewrite_name-clause-changes
returns-in_err-rewrite_name-clause-changes g c =
    let told = g.F.Folder.told in
    let first = c.first_number-first.result in
    let kept = c.args.kept.now in
    let plan = c.index-kept-index.result in
    let at : slice_get kept c.loop-index.index ≡ Some plan = slice_get_read kept (length kept) c.loop-index.index plan refl (omega (arith, c.loop-index-test.true)) c.index-kept-index.is in
    stage_failed (told c.args.folder.now) (told c.loop-index.folder) (told c.rewrite_name.new.folder) c.rewrite_name.result c.from_residual-in_err-rewrite_name.result c.args.base.now c.args.many c.args.task.now kept (first + c.loop-index.index) (first + c.loop-index.index + 1) 0 10000
    c.from_residual-in_err-rewrite_name.ensures.0 c.loop-index.invariant.keeps.busy c.loop-index.invariant.changes
    (rewritten_seals (told c.loop-index.folder) (told c.rewrite_name.new.folder) c.rewrite_name.result c.args.base.now c.args.many c.args.task.now kept (first + c.loop-index.index) (plan_text c.args.task.now plan.ops)
    (number_fits c.args.many first c.loop-index.index kept c.first_number-first.ensures c.requires.few (omega (arith, c.loop-index-test.true)))
    (has_text c.args.many c.args.task.now kept first c.loop-index.index plan c.first_number-first.ensures c.requires.single at) (rw c.deref.ensures at c.rewrite_name.ensures.changes))

pub loop-index-preserved : goal.loop-index-preserved
loop-index-preserved g c =
    let told = g.F.Folder.told in
    let first = c.first_number-first.result in
    let kept = c.args.kept.now in
    let plan = c.index-kept-index.result in
    let at : slice_get kept c.loop-index.index ≡ Some plan = slice_get_read kept (length kept) c.loop-index.index plan refl (omega (arith, c.loop-index-test.true)) c.index-kept-index.is in
    let fits = number_fits c.args.many first c.loop-index.index kept c.first_number-first.ensures c.requires.few (omega (arith, c.loop-index-test.true)) in
    record {
      keeps = keeps_ok _ _ _ tt (keeps_then _ _ _ _ c.rewrite_name.result c.loop-index.invariant.keeps c.rewrite_name.ensures.keeps);
      changes = renumbered (told c.args.folder.now) (told c.rewrite_name.new.folder) c.args.base.now c.args.many c.args.task.now kept (first + c.loop-index.index + 1) (first + (c.loop-index.index + 1)) (omega arith)
          (stage_more (told c.args.folder.now) (told c.loop-index.folder) (told c.rewrite_name.new.folder) c.rewrite_name.result _ c.args.base.now c.args.many c.args.task.now kept (first + c.loop-index.index) (first + c.loop-index.index + 1)
          c.in_ok-rewrite_name.was (omega (arith, fits)) c.loop-index.invariant.keeps.busy c.loop-index.invariant.changes
          (rewritten_seals (told c.loop-index.folder) (told c.rewrite_name.new.folder) c.rewrite_name.result c.args.base.now c.args.many c.args.task.now kept (first + c.loop-index.index) (plan_text c.args.task.now plan.ops) fits
          (has_text c.args.many c.args.task.now kept first c.loop-index.index plan c.first_number-first.ensures c.requires.single at) (rw c.deref.ensures at c.rewrite_name.ensures.changes)));
    }

pub returns-clause-changes : goal.returns-clause-changes
returns-clause-changes g c =
    let told = g.F.Folder.told in
    let first = c.first_number-first.result in
    let kept = c.args.kept.now in
    let fits = end_fits c.args.many first kept c.first_number-first.ensures c.requires.few in
    let all : first + c.loop-index.index ≡ first + length kept = omega (arith, c.loop-index-test.false, c.loop-index.auto.index-end) in
    stage_last (told c.args.folder.now) (told c.loop-index.folder) (told c.remove_names-2.new.folder) c.remove_names-2.result c.args.base.now c.args.many c.args.task.now kept (first + length kept) 10000 fits c.loop-index.invariant.keeps.busy
    (renumbered (told c.args.folder.now) (told c.loop-index.folder) c.args.base.now c.args.many c.args.task.now kept (first + c.loop-index.index) (first + length kept) all c.loop-index.invariant.changes)
    (taken_seals (told c.loop-index.folder) (told c.remove_names-2.new.folder) c.remove_names-2.result c.args.base.now c.args.many c.args.task.now kept (first + length kept) 10000 (omega arith)
    (λ k low below. none_after c.args.many kept first k c.first_number-first.ensures c.requires.single low) c.remove_names-2.ensures.changes)
