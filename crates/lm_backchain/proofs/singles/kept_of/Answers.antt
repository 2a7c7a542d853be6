use Rattle.std.proofs.Common.{◌≡◌, ◌<◌, List, [], ◌∷◌, length, get_or, refl, arith}
use Rattle.lama_num.proofs.ListLaws.{list_all_get}
use Rattle.sas_task.specs.WellFormed.{is_fact}
use Rattle.sas_task.specs.declared.contents.Fact.{Fact}
use Rattle.lm_backchain.proofs.ListLaws.{read_at}
use Rattle.lm_backchain.proofs.singles.kept_of.Goals as goal

only : (facts : List Fact) (d : Fact) → length facts ≡ 1 → facts ≡ get_or facts 0 d ∷ []
only [] d e = absurd (omega (arith, e))
only (f ∷ []) d e = refl
only (f ∷ g ∷ facts) d e = absurd (omega (arith, e))

pub returns : goal.returns
returns c parts knows all free =
    let long : length c.args.node.now ≡ 1 = omega (arith, c.in-len1.len_at_least, c.in-len1.len_below) in
    let none : Fact = record { var = 0; val = 0 } in
    let lt : 0 < length c.args.node.now = omega (arith, long) in
    let there = list_all_get (is_fact parts.variables) c.args.node.now 0 _ all (read_at c.args.node.now 0 none lt) in
    record {
      are_one = record { fact = get_or c.args.node.now 0 none; one = only c.args.node.now none long; are_open = free };
      there = there;
      number = c.number_in-number.ensures parts c.args.node.now knows there;
      row = c.in_ok-reached.ensures parts c.args.node.now knows;
    }
