use Rattle.std.proofs.Common.{◌≡◌, ◌<◌, ◌-◌, ◌+◌, subst, suc, length, get_or, arith, rules, []}
use Rattle.std.proofs.lemmas.Option.{slice_get_within, slice_get-get_or}
use Rattle.plan_check.proofs.LinkPaths.{IsTraced, traced_first, traced_at, traced_more, traced_all}
use Rattle.plan_check.proofs.tracing.trace.Goals as goal

pub loop-init : goal.loop-init
loop-init c =
    let all : c.args.steps ≡ c.args.steps - 0 = omega arith in
    rw c.new-ops.ensures.items (subst (λ n. IsTraced c.args.links.now c.args.steps c.args.place n c.args.place []) all (traced_first c.args.links.now c.args.steps c.args.place c.requires.0 c.requires.1))

pub bounds-links-at : goal.bounds-links-at
bounds-links-at c =
    let next : c.args.steps - c.loop.counter ≡ suc (c.args.steps - (c.loop.counter + 1)) = omega arith in
    let link = traced_at c.args.links.now c.args.steps c.args.place (c.args.steps - c.loop.counter) c.loop.at (c.args.steps - (c.loop.counter + 1)) c.loop.ops.items next c.loop.invariant in
    slice_get_within c.args.links.now c.loop.at link.0 link.1

pub offset_bounds-links-at : goal.offset_bounds-links-at
offset_bounds-links-at c =
    let next : c.args.steps - c.loop.counter ≡ suc (c.args.steps - (c.loop.counter + 1)) = omega arith in
    let link = traced_at c.args.links.now c.args.steps c.args.place (c.args.steps - c.loop.counter) c.loop.at (c.args.steps - (c.loop.counter + 1)) c.loop.ops.items next c.loop.invariant in
    let within : c.loop.at < length c.args.links.now = slice_get_within c.args.links.now c.loop.at link.0 link.1 in
    search rules

pub loop-preserved : goal.loop-preserved
loop-preserved c =
    let links = c.args.links.now in
    let next : c.args.steps - c.loop.counter ≡ suc (c.args.steps - (c.loop.counter + 1)) = omega arith in
    let link = traced_at links c.args.steps c.args.place (c.args.steps - c.loop.counter) c.loop.at (c.args.steps - (c.loop.counter + 1)) c.loop.ops.items next c.loop.invariant in
    let within : c.loop.at < length c.args.links.now = slice_get_within links c.loop.at link.0 link.1 in
    let read = get_or links c.loop.at (record { from = 0; op = 0 }) in
    rw c.in_ok-push.ensures.items
    (traced_more links c.args.steps c.args.place (c.args.steps - c.loop.counter) c.loop.at (c.args.steps - (c.loop.counter + 1)) c.loop.ops.items read next (slice_get-get_or links c.loop.at (record { from = 0; op = 0 }) within) c.loop.invariant)

pub returns : goal.returns
returns c = traced_all c.args.links.now c.args.steps c.args.place (c.args.steps - c.loop.counter) c.loop.at c.loop.ops.items c.reverse.new.self.items (omega (arith, c.loop-test.false)) c.reverse.ensures.items c.loop.invariant c.requires.0 c.requires.1
