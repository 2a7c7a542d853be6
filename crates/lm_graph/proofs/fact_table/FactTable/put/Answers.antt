use Rattle.std.proofs.Common.{◌≡◌, ◌∙◌, ap, ℕ, List, [], ◌∷◌, ◌++◌, Option, rules, unwrap_or}
use Rattle.lm_graph.specs.FactTables.{numbers_at}
use Rattle.lm_graph.proofs.NumbersOfFacts.{puts_from}
use Rattle.lm_graph.proofs.fact_table.FactTable.put.Goals as goal

pub returns-in-Some : goal.returns-in-Some
returns-in-Some c =
    let known : c.in-Some.numbers.now ≡ numbers_at c.args.self.now c.args.fact = ap (λ (o : Option (List ℕ)). unwrap_or o []) c.in-Some.ensures.value in
    puts_from _ _ c.args.fact c.args.number c.push.new.self
    (λ q. ((c.get_mut.follows.holds c.push.new.self).3 (search rules)).0 q)
    (c.in_ok-push.ensures.ok ∙ ap (λ (ns : List ℕ). ns ++ c.args.number ∷ []) known)
