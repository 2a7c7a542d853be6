use Rattle.std.proofs.Common.{◌∙◌, sym, ap, arith}
use Rattle.plan_manager.specs.Family.{family_name}
use Rattle.plan_manager.proofs.FamilyLaws.{family_zero, family_numbered}
use Rattle.plan_manager.proofs.families.FamilyFile.new.Goals as goal

pub returns-then-number-eq0 : goal.returns-then-number-eq0
returns-then-number-eq0 c = sym (family_zero c.args.base.now) ∙ ap (family_name c.args.base.now) (sym c.if-number-eq0.true)

pub returns : goal.returns
returns c = c.numbered.ensures.name ∙ sym (family_numbered c.args.base.now c.args.number (omega arith))
