use Rattle.std.proofs.Common.{◌≡◌, ◌∙◌, ap, sym, subst, arith, refl, true, false, Some, List, ℕ, length, [], ◌++◌, ◌+◌, length-append, IsTrue, ◌↔◌, IfOk}
use Rattle.std.specs.FinMap.{get}
use Rattle.plan_manager.specs.Comparing.{HasAt, EndsAt}
use Rattle.lama_host.proofs.StepLaws.{keeps_then, keeps_ok, keeps_none, untouched_then, told_again}
use Rattle.plan_manager.specs.TextRests.{text_left}
use Rattle.plan_manager.proofs.Drafts.{refilled, over_when_empty, both_empty}
use Rattle.plan_manager.proofs.Fronts.{matched_none, matched_more, matched_not, matched_all, matched_ends, answer_as}
use Rattle.plan_manager.proofs.Lines.{is_nothing}
use Rattle.plan_manager.proofs.comparing.holds.Goals as goal

place_first : (items left text : List ℕ) → items ++ left ≡ text → 0 + (length items + length left) ≡ length text
place_first items left text is = omega (arith, length-append items left, ap length is)

place_more : (at : ℕ) (items left new after : List ℕ) (n total : ℕ) → n ≡ length items → new ++ after ≡ left → at + (length items + length left) ≡ total → (at + n) + (length new + length after) ≡ total
place_more at items left new after n total long is place = omega (arith, length-append new after, ap length is)

pub loop-window-init : goal.loop-window-init
loop-window-init g c =
    let filled = refilled c.fill.new.window.items _ (text_left c.fill.new.self) (text_left c.args.text.now) c.new-window.ensures c.fill.ensures.moved in
    record {
      untouched = refl;
      keeps = keeps_none _ tt;
      place = place_first c.fill.new.window.items (text_left c.fill.new.self) (text_left c.args.text.now) filled;
      over = over_when_empty _ _ c.fill.ensures.all;
      matched = λ files idle held. matched_none (get files c.args.name.now) (text_left c.args.text.now) _ filled;
    }

pub returns-in-Ok-false-clause-tells : goal.returns-in-Ok-false-clause-tells
returns-in-Ok-false-clause-tells g c files idle held =
    let told = g.F.Folder.told in
    let file = get files c.args.name.now in
    let answer = told_again (told c.args.folder.now) (told c.loop-window.folder) (λ fs. IsTrue c.in-Ok-false.field-0 ↔ HasAt (get fs c.args.name.now) c.loop-window.at c.as_slice.result.now) c.loop-window.invariant.untouched c.in-Ok-false.ensures.tells files idle held in
    let isnt : HasAt file c.loop-window.at c.loop-window.window.items → ⊥ = λ has.
    let k : false ≡ true = sym c.in-Ok-false.field-0-test ∙ answer.1 (subst (HasAt file c.loop-window.at) (sym c.as_slice.ensures.value) has) in cc in (
      λ no. let k : false ≡ true = no in cc,
      λ is. absurd (matched_not file (text_left c.args.text.now) c.loop-window.window.items (text_left c.loop-window.text) c.loop-window.at (c.loop-window.invariant.matched files idle held) isnt is),
    )

pub loop-window-preserved : goal.loop-window-preserved
loop-window-preserved g c =
    let told = g.F.Folder.told in
    let same = c.loop-window.invariant.untouched in
    let filled = refilled c.fill-in-loop-window.new.window.items _ (text_left c.fill-in-loop-window.new.self) (text_left c.loop-window.text) c.clear.ensures c.fill-in-loop-window.ensures.moved in
    record {
      untouched = untouched_then (told c.args.folder.now) (told c.loop-window.folder) (told c.has_at.new.folder) same c.in-Ok-true.ensures.untouched;
      keeps = keeps_ok _ _ _ tt (keeps_then _ _ _ _ c.has_at.result c.loop-window.invariant.keeps c.has_at.ensures.keeps);
      place = place_more c.loop-window.at c.loop-window.window.items (text_left c.loop-window.text) c.fill-in-loop-window.new.window.items (text_left c.fill-in-loop-window.new.self) c.len.result _ c.len.ensures.value filled c.loop-window.invariant.place;
      over = over_when_empty _ _ c.fill-in-loop-window.ensures.all;
      matched = λ files idle held.
          let file = get files c.args.name.now in
          let answer = told_again (told c.args.folder.now) (told c.loop-window.folder) (λ fs. IsTrue c.in-Ok-true.field-0 ↔ HasAt (get fs c.args.name.now) c.loop-window.at c.as_slice.result.now) same c.in-Ok-true.ensures.tells files idle held in
          let has : HasAt file c.loop-window.at c.loop-window.window.items = subst (HasAt file c.loop-window.at) c.as_slice.ensures.value (answer.0 c.in-Ok-true.field-0-test) in
          matched_more file (text_left c.args.text.now) c.loop-window.window.items (text_left c.loop-window.text) (c.fill-in-loop-window.new.window.items ++ text_left c.fill-in-loop-window.new.self) c.loop-window.at c.len.result
          (c.loop-window.invariant.matched files idle held) has c.len.ensures.value filled;
    }

pub returns-clause-tells : goal.returns-clause-tells
returns-clause-tells g c files idle held =
    let told = g.F.Folder.told in
    let file = get files c.args.name.now in
    let none : c.loop-window.window.items ≡ [] = is_nothing c.loop-window.window.items (sym c.is_empty.ensures ∙ c.loop-window-test.false) in
    let nothing : c.loop-window.window.items ++ text_left c.loop-window.text ≡ [] = both_empty _ _ none (c.loop-window.invariant.over none) in
    let matched = c.loop-window.invariant.matched files idle held in
    answer_as c.ends_at.result (EndsAt file c.loop-window.at) (file ≡ Some (text_left c.args.text.now)) (matched_all file (text_left c.args.text.now) _ c.loop-window.at matched nothing) (matched_ends file (text_left c.args.text.now) _ c.loop-window.at matched nothing)
    (told_again (told c.args.folder.now) (told c.loop-window.folder) (λ fs. IfOk c.ends_at.result (λ ends. IsTrue ends ↔ EndsAt (get fs c.args.name.now) c.loop-window.at)) c.loop-window.invariant.untouched c.ends_at.ensures.tells files idle held)
