use Rattle.std.proofs.Common.{◌≡◌, ◌≤◌, ◌∙◌, sym, ap, refl, subst, ℕ, not, length, arith, List, Some, None}
use Rattle.sas_task.specs.declared.contents.Parts.{Parts}
use Rattle.lm_graph.specs.declared.nodes.Node.{Node}
use Rattle.lm_graph.specs.Graphs.{Content}
use Rattle.lm_orders.specs.Interference.{fact_of}
use Rattle.lm_orders.specs.Reasonable.{AddsBefore, AddsSome}
use Rattle.lm_orders.specs.Sources.{IsUnderWay}
use Rattle.lm_orders.proofs.PairOrder.{source_begins, some_fact, no_fact, some_pairs, on_error, row_ends, row_without}
use Rattle.lm_orders.proofs.adding.order_from.Goals as goal

pub returns-then-is_none-clause-ok : goal.returns-then-is_none-clause-ok
returns-then-is_none-clause-ok c parts old under =
    let none = no_fact c.fact_at.result (c.is_none.ensures ∙ ap not c.if-is_none.true) in
    let is : fact_of c.args.graph.now.nodes c.args.node ≡ None = ap (λ (nodes : List Node). fact_of nodes c.args.node) (sym c.nodes.ensures.nodes) ∙ (sym c.fact_at.ensures ∙ none) in
    record { fit = under.fit; adds = row_without parts old c.args.graph.now c.args.node is under.adds }

pub loop-after-init : goal.loop-after-init
loop-after-init c =
    let found = some_fact c.fact_at.result (c.is_none.ensures ∙ ap not c.if-is_none.false) in (
      refl,
      λ parts old under.
          let is : fact_of c.args.graph.now.nodes c.args.node ≡ Some found.0 = ap (λ (nodes : List Node). fact_of nodes c.args.node) (sym c.nodes.ensures.nodes) ∙ (sym c.fact_at.ensures ∙ found.1) in
          source_begins parts old c.args.graph.now c.args.tables.now c.in_ok-source.source c.args.node found.0 c.in_ok-source.ensures.node c.requires.node is (c.in_ok-source.ensures.source parts under.fit) under,
    )

pub returns-in_err-order_pair-clause-err : goal.returns-in_err-order_pair-clause-err
returns-in_err-order_pair-clause-err c =
    let some : (parts : Parts) (old : Content) → IsUnderWay parts old c.args.graph.now c.args.tables.now c.args.node 0 → AddsSome parts old c.order_pair.new.graph =
    λ parts old under.
    let at = c.loop-after.invariant.1 parts old under in
    some_pairs parts old c.order_pair.new.graph c.in_ok-source.source.node c.loop-after.after (subst (λ (g : Content). AddsBefore parts old g c.in_ok-source.source.node c.loop-after.after) (sym c.in_err-order_pair.ensures.err) at.under_way.adds) in
    on_error _ some

pub returns-clause-ok : goal.returns-clause-ok
returns-clause-ok c parts old under =
    let at = c.loop-after.invariant.1 parts old under in
    let adds = at.under_way.adds in
    let all : length old.nodes ≤ c.loop-after.after = omega (arith, ap length adds.nodes, ap length c.loop-after.invariant.0, ap length c.nodes-2.ensures.nodes) in
    record {
      fit = at.under_way.fit;
      adds = row_ends parts old c.loop-after.graph c.args.node c.loop-after.after all (subst (λ (n : ℕ). AddsBefore parts old c.loop-after.graph n c.loop-after.after) c.in_ok-source.ensures.node adds);
    }
