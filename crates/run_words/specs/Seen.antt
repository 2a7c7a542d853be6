-- A line as the code keeps it.
use Rattle.std.specs.Prelude.{Option, option_map}
use Rattle.std.specs.Borrow.{Bor}
use Rattle.run_words.specs.Grammar.{Text, Line}
use Rattle.run_words.specs.declared.line.Given.{Given}

abbrev pub text_of : Option (Bor Text) → Option Text
text_of = option_map (λ text. text.now)

-- what is borrowed from the words, as texts
abbrev pub seen : Given → Line
seen given = record {
  alias = text_of given.alias;
  search = text_of given.search;
  portfolio = text_of given.portfolio;
  plan_file = text_of given.plan_file;
  bound = text_of given.bound;
  time_limit = text_of given.time_limit;
  child_memory = text_of given.child_memory;
  made = text_of given.made;
  task = text_of given.task;
  single = given.single;
  translate = given.translate;
  validate = given.validate;
}
