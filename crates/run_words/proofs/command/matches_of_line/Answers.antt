use Rattle.std.proofs.Common.{sym, subst}
use Rattle.std.specs.Prelude.{Err, map, string_bytes}
use Rattle.clap.specs.Faults.{fault_of}
use Rattle.clap.specs.Simple.{matches_of}
use Rattle.run_words.specs.Command.{the_command, Answers}
use Rattle.run_words.specs.declared.faults.WordsError.{WordsError}
use Rattle.run_words.proofs.OnCommand.{answers_ok, answers_err}
use Rattle.run_words.proofs.command.matches_of_line.Goals as goal

pub returns-in-Ok-try_get_matches_from : goal.returns-in-Ok-try_get_matches_from
returns-in-Ok-try_get_matches_from c =
    answers_ok _ (map string_bytes c.args.words.now) c.in-Ok-try_get_matches_from.matches c.in-Ok.ensures c.in-Ok-try_get_matches_from.ensures.matches c.in-Ok-try_get_matches_from.ensures.kinds

pub returns-in-Err : goal.returns-in-Err
returns-in-Err c =
    subst (λ (e : WordsError). Answers (fault_of the_command (map string_bytes c.args.words.now)) (matches_of the_command (map string_bytes c.args.words.now)) (Err e)) (sym c.error_of.ensures)
    (answers_err _ (map string_bytes c.args.words.now) c.in-Err.error c.in-Ok.ensures c.in-Err.ensures.kinds)
