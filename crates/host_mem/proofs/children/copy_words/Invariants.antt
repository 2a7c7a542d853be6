use Rattle.std.proofs.Common.{◌≡◌, take, map, string_bytes}
use Rattle.host_mem.proofs.children.copy_words.Given as goal

abbrev pub invariant-loop-word : goal.invariant-loop-word
invariant-loop-word l = l.copies.items ≡ map string_bytes (take l.word-index l.words)
