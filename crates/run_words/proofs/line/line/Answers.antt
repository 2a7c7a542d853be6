use Rattle.std.proofs.Common.{◌∙◌, sym, map, string_bytes}
use Rattle.clap.proofs.WalkLemmas.{list_any-map}
use Rattle.run_words.specs.Command.{is_stray}
use Rattle.run_words.specs.Seen.{seen}
use Rattle.run_words.proofs.Found.{line_error, line_found, line_stray}
use Rattle.run_words.proofs.line.line.Goals as goal

pub returns-then-has_stray : goal.returns-then-has_stray
returns-then-has_stray c = line_stray (map string_bytes c.args.words.now) (sym (list_any-map is_stray string_bytes c.args.words.now) ∙ (sym c.has_stray.ensures ∙ c.if-has_stray.true))

pub returns-in-Err : goal.returns-in-Err
returns-in-Err c = line_error (map string_bytes c.args.words.now) c.in-Err.e (sym (list_any-map is_stray string_bytes c.args.words.now) ∙ (sym c.has_stray.ensures ∙ c.if-has_stray.false)) c.in-Err.ensures

pub returns-in-Ok : goal.returns-in-Ok
returns-in-Ok c =
    line_found (map string_bytes c.args.words.now) c.in-Ok.matches (seen c.found_in.result) (sym (list_any-map is_stray string_bytes c.args.words.now) ∙ (sym c.has_stray.ensures ∙ c.if-has_stray.false))
    c.in-Ok.ensures.0 c.in-Ok.ensures.1 c.found_in.ensures
