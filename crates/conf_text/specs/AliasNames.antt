-- The names of the configurations that are built in.
use Rattle.std.specs.Prelude.{ℕ, List, codes, Option, Some, None, if◌then◌else◌}
use Rattle.std.specs.Str.{bytes_eq}
use Rattle.conf_text.specs.declared.alias_names.AliasName.{AliasName}
use Rattle.conf_text.specs.declared.alias_names.AliasName.TheVariants.{Lama, LamaFirst}

abbrev pub alias_text : AliasName → List ℕ
alias_text Lama = codes "lama"
alias_text LamaFirst = codes "lama-first"

-- the alias of a name, if there is one
abbrev pub alias_of : List ℕ → Option AliasName
alias_of name = if bytes_eq name (alias_text Lama) then Some Lama else (if bytes_eq name (alias_text LamaFirst) then Some LamaFirst else None)
