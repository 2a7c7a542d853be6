use Rattle.std.proofs.Common.{◌∙◌, refl, sym, ap, subst, Ok}
use Rattle.std.proofs.lemmas.Result.{err_from_is_err_and}
use Rattle.sas_task.specs.WellFormed.{IsWellFormed}
use Rattle.sas_task.proofs.CauseLaws.{unless-ok, unless-err, unless-value, refused_first, refused_conditions, refused_last}
use Rattle.sas_task.proofs.MadeWellFormed.{brought_forms}
use Rattle.sas_task.proofs.checking.check.Goals as goal

pub returns-in_err-refuse_sizes_before_effects : goal.returns-in_err-refuse_sizes_before_effects
returns-in_err-refuse_sizes_before_effects c =
    let p = err_from_is_err_and c.from_residual.result c.from_residual.ensures.1 in
    let cause = unless-err _ _ _ (sym c.refuse_sizes_before_effects.ensures ∙ c.in_err-refuse_sizes_before_effects.was) in
    rw (p.1, p.2, refused_first c.args.parts _ cause) refl

pub returns-in_err-ordered : goal.returns-in_err-ordered
returns-in_err-ordered c =
    let p = err_from_is_err_and c.from_residual-in_err-ordered.result c.from_residual-in_err-ordered.ensures.1 in
    let first = unless-ok _ _ _ (sym c.refuse_sizes_before_effects.ensures ∙ c.in_ok-refuse_sizes_before_effects.was) in
    let cause = unless-err _ _ _ (sym c.canonical.ensures ∙ c.in_err-ordered.was) in
    rw (p.1, p.2, refused_conditions c.args.parts _ first cause) refl

pub returns-in_err-others : goal.returns-in_err-others
returns-in_err-others c =
    let p = err_from_is_err_and c.from_residual-in_err-others.result c.from_residual-in_err-others.ensures.1 in
    let first = unless-ok _ _ _ (sym c.refuse_sizes_before_effects.ensures ∙ c.in_ok-refuse_sizes_before_effects.was) in
    let conditions = unless-ok _ _ _ (sym c.canonical.ensures ∙ c.in_ok-ordered.was) in
    let cause = unless-err _ _ _ (sym c.refuse_others-others.ensures ∙ c.in_err-others.was) in
    rw (p.1, p.2, refused_last c.args.parts first conditions ∙ cause) refl

pub new-requires : goal.new-requires
new-requires c =
    let first = unless-ok _ _ _ (sym c.refuse_sizes_before_effects.ensures ∙ c.in_ok-refuse_sizes_before_effects.was) in
    let conditions = unless-ok _ _ _ (sym c.canonical.ensures ∙ c.in_ok-ordered.was) in
    let last = unless-ok _ _ _ (sym c.refuse_others-others.ensures ∙ c.in_ok-others.was) in
    let same = unless-value _ _ _ (sym c.canonical.ensures ∙ c.in_ok-ordered.was) in
    subst IsWellFormed same (brought_forms c.args.parts (refused_last c.args.parts first conditions ∙ last))

pub returns : goal.returns
returns c =
    let first = unless-ok _ _ _ (sym c.refuse_sizes_before_effects.ensures ∙ c.in_ok-refuse_sizes_before_effects.was) in
    let conditions = unless-ok _ _ _ (sym c.canonical.ensures ∙ c.in_ok-ordered.was) in
    let last = unless-ok _ _ _ (sym c.refuse_others-others.ensures ∙ c.in_ok-others.was) in
    let same = unless-value _ _ _ (sym c.canonical.ensures ∙ c.in_ok-ordered.was) in
    let none = refused_last c.args.parts first conditions ∙ last in
    rw none (ap Ok (c.new.ensures ∙ sym same))
