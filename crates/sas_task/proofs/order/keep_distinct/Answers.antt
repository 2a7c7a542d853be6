use Rattle.std.proofs.Common.{◌≡◌, ◌<◌, ◌+◌, ◌++◌, ◌∷◌, [], Bool, true, false, length, take, set, get_or, arith, ap, subst}
use Rattle.std.proofs.lemmas.List.{get_or_default, take_more_set}
use Rattle.std.specs.Prelude.{if◌then◌else◌}
use Rattle.sas_task.specs.declared.contents.Fact.{Fact}
use Rattle.sas_task.specs.Facts.{has_fact}
use Rattle.sas_task.specs.Tables.{Remembers}
use Rattle.sas_task.proofs.FactLists.{keeps_known, keeps_new, was_new, was_known}
use Rattle.sas_task.proofs.order.keep_distinct.Goals as goal
use Rattle.sas_task.proofs.order.keep_distinct.Goals.{then-is_new, else-is_new}

pub loop-i-preserved : goal.loop-i-preserved
loop-i-preserved c =
    let facts = c.loop-i.facts in
    let i = c.loop-i.i in
    let kept = c.loop-i.kept in
    let none : Fact = record { var = 0; val = 0 } in
    let fact = get_or facts i none in
    let lt : i < length facts = omega arith in
    let at = get_or_default facts i none fact lt in
    let seen : Remembers c.is_new.new.seen (if has_fact (take kept facts) fact then take kept facts else take kept facts ++ fact ∷ []) = c.is_new.ensures.seen in
    elim c.if-is_new.branch [
      | then-is_new w ↦
          let new : has_fact (take kept facts) fact ≡ false = was_new c.is_new.result (has_fact (take kept facts) fact) c.is_new.ensures.new (cc) in
          let now_seen : Remembers c.is_new.new.seen (take kept facts ++ fact ∷ []) = subst (λ b. Remembers c.is_new.new.seen (if b then take kept facts else take kept facts ++ fact ∷ [])) new seen in
          rw (w.facts-is, w.kept-is) (record {
            keeps = keeps_new c.args.facts.now facts kept i fact c.loop-i.invariant.keeps (omega arith) lt at new;
            seen = rw (take_more_set facts kept fact (omega arith)) now_seen;
          })
      | else-is_new w ↦
          let known : has_fact (take kept facts) fact ≡ true = was_known c.is_new.result (has_fact (take kept facts) fact) c.is_new.ensures.new (cc) in
          rw (w.facts-is, w.kept-is) (record {
            keeps = keeps_known c.args.facts.now facts kept i fact c.loop-i.invariant.keeps (omega arith) lt at known;
            seen = subst (λ b. Remembers c.is_new.new.seen (if b then take kept facts else take kept facts ++ fact ∷ [])) known seen;
          })
    ]
