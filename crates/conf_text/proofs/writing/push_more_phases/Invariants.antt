use Rattle.std.proofs.Common.{◌≡◌, ◌++◌, take, string_bytes}
use Rattle.conf_text.specs.Written.{behind_commas, phase_text}
use Rattle.conf_text.proofs.writing.push_more_phases.Given as goal

abbrev pub invariant-loop-phase : goal.invariant-loop-phase
invariant-loop-phase l = string_bytes l.text ≡ string_bytes l.initial.text ++ behind_commas phase_text (take l.phase-index l.phases)
