use Rattle.std.proofs.Common.{◌≡◌, ◌∙◌, ap, sym, subst, ℕ, List, ◌<◌, ◌+◌, slice_index, length}
use Rattle.relaxed_task.specs.Making.{defaults_by}
use Rattle.relaxed_task.proofs.TaskNumbers.{defaults_small, defaults_same}
use Rattle.relaxed_task.proofs.making.find_defaults.Goals as goal

pub make_defaults-requires-clause-small : goal.make_defaults-requires-clause-small
make_defaults-requires-clause-small c =
    let init : c.deref-2.result.now ≡ c.args.task.now.init = c.deref-2.ensures ∙ ap (λ p. p.init) c.parts-parts.ensures.parts in
    subst (λ (xs : List ℕ). (var : ℕ) → var < length xs → slice_index c.args.offsets.now var + slice_index xs var < 4294967296) (sym init)
    (λ var lt. defaults_small c.args.task.now c.args.offsets.now var c.parts-parts.ensures.well_formed c.requires lt)

pub returns : goal.returns
returns c =
    let init : c.deref-2.result.now ≡ c.args.task.now.init = c.deref-2.ensures ∙ ap (λ p. p.init) c.parts-parts.ensures.parts in
    let variables = c.deref.ensures ∙ ap (λ p. p.variables) c.parts-parts.ensures.parts in
    let made = c.in_ok-defaults.ensures in
    let same = defaults_same c.args.task.now c.args.offsets.now c.parts-parts.ensures.well_formed c.requires in
    made ∙ (ap (λ vs. defaults_by c.args.offsets.now vs c.deref-2.result.now) variables ∙ (ap (defaults_by c.args.offsets.now c.args.task.now.variables) init ∙ same))
