use Rattle.std.proofs.Common.{◌∙◌, ◌≡◌, ap, codes, true, List, ℕ}
use Rattle.std.proofs.lemmas.Result.{IfOk-weaker}
use Rattle.clap.specs.Simple.{App, app_of, app_of_fields, new_app, on_top, with_rule}
use Rattle.run_words.specs.Command.{bare_app, the_command, named_rule, flag_rule, task_rule}
use Rattle.run_words.proofs.command.command.Goals as goal

abbrev unnamed : App → App
unnamed = on_top (λ s. record s { no_binary_name = true })

abbrev helpless : App → App
helpless = on_top (λ s. record s { disable_help_flag = true })

abbrev option : List ℕ → App → App
option name a = with_rule a (named_rule name)

abbrev flag : List ℕ → App → App
flag name a = with_rule a (flag_rule name)

pub returns : goal.returns
unfolding the_command
returns c =
    let named : app_of c.no_binary_name.result ≡ unnamed (new_app (codes "downward")) = ap app_of_fields c.no_binary_name.ensures ∙ ap unnamed c.new.ensures.app in
    let e0 : app_of c.disable_help_flag-command.result ≡ bare_app = ap app_of_fields c.disable_help_flag-command.ensures ∙ ap helpless named in
    let e1 = c.in_ok-command.ensures ∙ ap (option (codes "alias")) e0 in
    let e2 = c.in_ok-command-2.ensures ∙ ap (option (codes "search")) e1 in
    let e3 = c.in_ok-command-3.ensures ∙ ap (option (codes "portfolio")) e2 in
    let e4 = c.in_ok-command-4.ensures ∙ ap (option (codes "plan-file")) e3 in
    let e5 = c.in_ok-command-5.ensures ∙ ap (option (codes "bound")) e4 in
    let e6 = c.in_ok-command-6.ensures ∙ ap (option (codes "overall-time-limit")) e5 in
    let e7 = c.in_ok-command-7.ensures ∙ ap (option (codes "child-memory-limit")) e6 in
    let e8 = c.in_ok-command-8.ensures ∙ ap (option (codes "gen")) e7 in
    let e9 = c.in_ok-command-9.ensures ∙ ap (flag (codes "portfolio-single-plan")) e8 in
    let e10 = c.in_ok-command-10.ensures ∙ ap (flag (codes "translate")) e9 in
    let e11 = c.in_ok-command-11.ensures ∙ ap (flag (codes "validate")) e10 in
    IfOk-weaker c.with_task.result _ _ (λ r h. h ∙ ap (λ (a : App). with_rule a task_rule) e11) c.with_task.ensures
