use Rattle.std.proofs.Common.{◌∙◌, ap, length, take, ℕ, Vec}
use Rattle.std.specs.Prelude.{option_map}
use Rattle.std.specs.declared.alloc.Global.{Global}
use Rattle.plan_check.specs.Verdicts.{ends}
use Rattle.plan_check.proofs.LastLayer.{leads_at, least_is, plan_some, plan_none}
use Rattle.plan_check.proofs.choosing.choose_plan.Goals as goal
use Rattle.plan_check.proofs.choosing.choose_plan.Goals.{in-Some+in_ok-trace-in-Some, in-None}

pub pick-goals-requires-clause-ends : goal.pick-goals-requires-clause-ends
pick-goals-requires-clause-ends c = (ends c.args.setup.now.task.now (take (length c.args.names.now) c.args.names.now), c.requires.end.layer.words)

pub trace-requires : goal.trace-requires
trace-requires c =
    leads_at c.args.setup.now.task.now c.args.setup.now.layout c.args.names.now c.args.links.now c.args.last.now.first c.args.last.now.layer c.requires.end c.pick-goals.result.place c.in-Some.place c.in-Some.is c.pick-goals.ensures.within

pub returns-clause-least : goal.returns-clause-least
returns-clause-least c =
    least_is c.args.setup.now.task.now c.args.setup.now.layout c.args.names.now c.args.links.now c.args.last.now.first c.args.last.now.layer c.requires.end c.pick-goals.result.least c.pick-goals.ensures.least

pub returns-clause-plan : goal.returns-clause-plan
returns-clause-plan c =
    elim c.match-goals.branch [
      | in-Some+in_ok-trace-in-Some w ↦
          ap (option_map (λ (v : Vec ℕ Global). v.items)) w.plan-is
          ∙ plan_some c.args.setup.now.task.now c.args.setup.now.layout c.args.names.now c.args.links.now c.args.last.now.first c.args.last.now.layer c.requires.end c.args.wanted c.pick-goals.result.place c.pick-goals.ensures.first
          w.in-Some.place w.in-Some.is c.pick-goals.ensures.within w.in_ok-trace-in-Some.field-0.items w.in_ok-trace-in-Some.ensures
      | in-None w ↦
          ap (option_map (λ (v : Vec ℕ Global). v.items)) w.plan-is
          ∙ plan_none c.args.setup.now.task.now c.args.setup.now.layout c.args.names.now c.args.links.now c.args.last.now.first c.args.last.now.layer c.requires.end c.args.wanted c.pick-goals.result.place c.pick-goals.ensures.first w.in-None.is
    ]
