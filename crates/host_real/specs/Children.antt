-- How a child is started, and how its end is told.
use Rattle.std.specs.Prelude.{ℕ, ℤ, pos, negsuc, List, [], ◌∷◌, ◌+◌, ◌++◌, filter, not, nat_eq, codes, decimal, Option, Some, None}
use Rattle.lama_host.specs.declared.children.ChildEnd.{ChildEnd}
use Rattle.lama_host.specs.declared.children.ChildEnd.TheVariants.{Status, Signal}
use Rattle.lama_host.specs.declared.children.Limits.{Limits}

-- the input goes to a nameless file, which is the program's input
abbrev pub take_input : List ℕ
take_input = codes "in=$(mktemp) || exit 127; cat > \"$in\" || { rm -f \"$in\"; exit 127; }; exec < \"$in\"; rm -f \"$in\"; "

-- a limit that can't be set ends the shell
abbrev pub soft_text : ℕ → List ℕ
soft_text seconds = codes "ulimit -S -t " ++ (decimal seconds ++ codes " || exit 127; ")

abbrev pub hard_text : ℕ → List ℕ
hard_text seconds = codes "ulimit -H -t " ++ (decimal seconds ++ codes " || exit 127; ")

-- the processor time: at so many seconds the program is told to stop, and a second later it is stopped
abbrev pub time_text : Option ℕ → List ℕ
time_text None = []
time_text (Some seconds) = soft_text seconds ++ hard_text (seconds + 1)

-- the memory, in KiB
abbrev pub memory_text : Option ℕ → List ℕ
memory_text None = []
memory_text (Some kib) = codes "ulimit -v " ++ (decimal kib ++ codes " || exit 127; ")

-- The shell becomes the program of its words, or ends with 127 where there is none that can be executed.
abbrev pub become : List ℕ
become = codes "case $1 in '') exit 127;; */*) [ -f \"$1\" ] && [ -x \"$1\" ] || exit 127;; *) command -v -- \"$1\" > /dev/null 2>&1 || exit 127;; esac; case $1 in -*) if (exec -- true) 2>/dev/null; then exec -- \"$@\"; fi;; esac; exec \"$@\""

-- what the shell reads as code
abbrev pub script_text : Limits → List ℕ
script_text limits = take_input ++ time_text limits.seconds ++ memory_text limits.kib ++ become

-- the shell's own words: its code, and the name that it is told is its own
abbrev pub shell_words : Limits → List (List ℕ)
shell_words limits = codes "-c" ∷ script_text limits ∷ codes "sh" ∷ []

-- a status, or a signal where there is none
abbrev pub end_of : Option ℤ → ChildEnd
end_of None = Signal
end_of (Some (pos status)) = Status status
end_of (Some (negsuc _)) = Signal

-- the slots but one
abbrev pub without : ℕ → List ℕ → List ℕ
without slot slots = filter (λ s. not (nat_eq s slot)) slots
