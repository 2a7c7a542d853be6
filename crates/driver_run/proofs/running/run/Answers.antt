use Rattle.std.proofs.Common.{ap, map, string_bytes}
use Rattle.driver_run.specs.Seen.{seen}
use Rattle.driver_run.proofs.Accepting.{line_own, refused_line, refused_words, run_on_line}
use Rattle.driver_run.proofs.running.run.Goals as goal

pub run_line-requires-clause-name : goal.run_line-requires-clause-name
run_line-requires-clause-name g c = line_own (map string_bytes c.args.words.now) (seen c.in-Ok.line) c.in-Ok.ensures

pub returns-in-Ok-clause-refused : goal.returns-in-Ok-clause-refused
returns-in-Ok-clause-refused g c =
    refused_line (map string_bytes c.args.words.now) (seen c.in-Ok.line) _ c.in-Ok.ensures (λ bad e. let r = c.run_line.ensures.refused bad e in (r.0, r.1))

pub returns-in-Ok-clause-run : goal.returns-in-Ok-clause-run
returns-in-Ok-clause-run g c =
    run_on_line (map string_bytes c.args.words.now) (seen c.in-Ok.line) _ _ _ _ _ _ c.run_line.result c.in-Ok.ensures
    (λ bad e. let r = c.run_line.ensures.refused bad e in (ap g.H.Folder.told r.0, r.2)) c.run_line.ensures.accepted c.run_line.ensures.stays c.run_line.ensures.outside

pub returns-in-Err-clause-run : goal.returns-in-Err-clause-run
returns-in-Err-clause-run g c = refused_words (map string_bytes c.args.words.now) c.in-Err.fault (g.H.Folder.told c.args.host.now) (g.C.Clock.last c.args.clock.now) (g.C.Clock.answers c.args.clock.now) c.refusal.result c.in-Err.ensures c.refusal.ensures
