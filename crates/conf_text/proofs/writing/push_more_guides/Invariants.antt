use Rattle.std.proofs.Common.{◌≡◌, ◌++◌, take, string_bytes}
use Rattle.conf_text.specs.Written.{behind_commas, guide_text}
use Rattle.conf_text.proofs.writing.push_more_guides.Given as goal

abbrev pub invariant-loop-guide : goal.invariant-loop-guide
invariant-loop-guide l = string_bytes l.text ≡ string_bytes l.initial.text ++ behind_commas guide_text (take l.guide-index l.guides)
