use Rattle.std.proofs.Common.{◌∙◌, length}
use Rattle.std.specs.List.{range_with_len}
use Rattle.state_step.specs.Steps.{is_applicable}
use Rattle.search_bench.proofs.Chosen.{passes}
use Rattle.search_bench.proofs.walking.Room.step.Goals as goal

pub go_on-requires-clause-applicable : goal.go_on-requires-clause-applicable
go_on-requires-clause-applicable c =
    passes (is_applicable c.args.task.now c.look.new.self.here.items) (range_with_len 0 (length c.args.task.now.operators)) c.deref.result.now c.in-Some.op (c.deref.ensures.value ∙ c.look.ensures.found)
    c.in-Some.ensures
