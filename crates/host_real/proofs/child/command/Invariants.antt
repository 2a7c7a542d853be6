use Rattle.std.proofs.Common.{◌≡◌, ◌++◌, codes, map, take, string_bytes}
use Rattle.std.specs.Process.{command_program, command_args}
use Rattle.host_real.specs.Children.{shell_words}
use Rattle.host_real.proofs.child.command.Given as goal

abbrev pub invariant-loop-word : goal.invariant-loop-word
invariant-loop-word l = record {
  program : command_program l.command ≡ codes "/bin/sh";
  args : command_args l.command ≡ shell_words l.fn.limits ++ map string_bytes (take l.word-index l.words);
}
