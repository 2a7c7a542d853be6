use Rattle.std.proofs.Common.{◌≡◌, ◌∙◌, ◌++◌, ◌+◌, ◌∷◌, [], ap}
use Rattle.std.specs.List.{prefix_len}
use Rattle.plan_text.specs.PlanLines.{is_step, names_in_front}
use Rattle.plan_text.proofs.Fronts.{more_names, more_rest, more_place}
use Rattle.plan_text.proofs.reading.read_steps.Goals as goal

pub loop-line-preserved : goal.loop-line-preserved
loop-line-preserved c =
    let left = c.loop-line.cursor.left in
    let rest = c.next_line.new.self.left in
    let line = c.in-Some.line.now in
    let name = c.in-Some-step_name.name.now in
    let cut = c.in-Some.ensures.0 in
    let is = c.in-Some-step_name.ensures in
    let names = c.loop-line.names.items in
    let whole = c.args.names.now.items ++ names_in_front c.args.cursor.now.left in
    let pushed : c.push.new.self.items ≡ names ++ name ∷ [] = c.in_ok-push.ensures.items ∙ ap (λ n. names ++ n ∷ []) c.in_ok-name_of.ensures in
    record {
      names = ap (λ t. t ++ names_in_front rest) pushed ∙ more_names left rest line name cut is names whole c.loop-line.invariant.names;
      rest = more_rest left rest line name cut is ∙ c.loop-line.invariant.rest;
      place = ap (λ n. n + prefix_len is_step rest) c.in-Some.ensures.1 ∙ more_place left rest line name cut is c.loop-line.cursor.line ∙ c.loop-line.invariant.place;
    }
