-- The text of a portfolio.
use Rattle.std.specs.Prelude.{ℕ, ◌+◌, List, [], ◌∷◌, ◌++◌, length, take, drop, filter, Bool, true, not, nat_eq, nat_le, nat_lt, ◌&&◌, if◌then◌else◌, codes, Option, Some, None, Result, Ok, Err}
use Rattle.std.specs.List.{position_or_len, list_any}
use Rattle.std.specs.Str.{bytes_eq, is_utf8}
use Rattle.lama_num.specs.Decimals.{decimal_of}
use Rattle.lama_num.specs.Gives.{◌>>=◌}
use Rattle.text_lines.specs.Lines.{Place, is_blank, lines_of, words_of}
use Rattle.conf_text.specs.Grammar.{config_of}
use Rattle.conf_text.specs.declared.config.Config.{Config}
use Rattle.conf_text.specs.declared.faults.ConfBad.{ConfBad}
use Rattle.conf_text.specs.AliasNames.{alias_of}
use Rattle.conf_text.specs.declared.alias_names.AliasName.{AliasName}
use Rattle.portfolio_text.specs.declared.faults.PortBad.{PortBad}
use Rattle.portfolio_text.specs.declared.faults.PortError.{PortError}
use Rattle.portfolio_text.specs.declared.faults.PortError.TheVariants.{Bad, NoMemory}
use Rattle.portfolio_text.specs.declared.faults.PortKind.{PortKind}
use Rattle.portfolio_text.specs.declared.faults.PortKind.TheVariants.{TooLong, BadText, BadHead, BadShare, UnknownAlias, BadConfig, BadEntry, TooMany, NoEntry, CutShort, Trailing}
use Rattle.portfolio_text.specs.declared.portfolio.PortEntry.{PortEntry}
use Rattle.portfolio_text.specs.declared.portfolio.Portfolio.{Portfolio}
use Rattle.portfolio_text.specs.declared.portfolio.Work.{Work}
use Rattle.portfolio_text.specs.declared.portfolio.Work.TheVariants.{Search, Alias, Run}

abbrev pub most_bytes : ℕ
most_bytes = 1048576

abbrev pub most_entries : ℕ
most_entries = 1000

abbrev pub highest_share : ℕ
highest_share = 1000000

-- what is refused by an error; want of memory is no refusal
abbrev pub refusal : PortError → Option PortBad
refusal (Bad bad) = Some bad
refusal NoMemory = None

abbrev pub bad : {A : Type 0} → ℕ → PortKind → Result A PortBad
bad line kind = Err (record { line = line; kind = kind })

-- lines

-- empty lines and comments
abbrev pub is_passed : List ℕ → Bool
is_passed [] = true
is_passed (b ∷ bs) = nat_eq b 35

-- lines with their numbers
abbrev pub numbered : ℕ → List (List ℕ) → List (ℕ × List ℕ)
numbered n [] = []
numbered n (line ∷ lines) = (n, line) ∷ numbered (n + 1) lines

-- the lines that tell something, with their numbers
abbrev pub told : Place → List (ℕ × List ℕ)
told place = filter (λ line. not (is_passed line.1)) (numbered place.line place.left)

-- the number behind the last line
abbrev pub end_line : Place → ℕ
end_line place = place.line + length place.left

-- words

abbrev pub first_word : List ℕ → List ℕ
first_word line = take (position_or_len is_blank line) line

abbrev pub without_blanks : List ℕ → List ℕ
without_blanks [] = []
without_blanks (b ∷ bs) = if is_blank b then without_blanks bs else b ∷ bs

-- what follows the first word and its blanks
abbrev pub behind_word : List ℕ → List ℕ
behind_word line = without_blanks (drop (position_or_len is_blank line) line)

-- entries: "entry" SHARE, and "search" CONFIG, "alias" NAME or "run" WORDS

abbrev pub share_by : ℕ → Option ℕ → Result ℕ PortBad
share_by n None = bad n BadShare
share_by n (Some share) = if nat_le 1 share && nat_le share highest_share then Ok share else bad n BadShare

abbrev pub search_by : ℕ → Result Config ConfBad → Result Work PortBad
search_by n (Ok config) = Ok (Search config)
search_by n (Err refused) = bad n BadConfig

abbrev pub alias_by : ℕ → Option AliasName → Result Work PortBad
alias_by n None = bad n UnknownAlias
alias_by n (Some alias) = Ok (Alias alias)

abbrev pub run_by : ℕ → List (List ℕ) → Result Work PortBad
run_by n [] = bad n BadEntry
run_by n (word ∷ words) = Ok (Run (word ∷ words))

-- the work of an entry, by its word and what follows
abbrev pub work_by : ℕ → List ℕ → List ℕ → Result Work PortBad
work_by n word rest = if bytes_eq word (codes "search") then search_by n (config_of rest)
    else (if bytes_eq word (codes "alias") then alias_by n (alias_of rest)
    else (if bytes_eq word (codes "run") then run_by n (words_of rest)
    else bad n BadEntry))

unfoldable pub entry_by : ℕ → List ℕ → Result PortEntry PortBad
entry_by n rest = do
  share ← share_by n (decimal_of (first_word rest))
  work ← work_by n (first_word (behind_word rest)) (behind_word (behind_word rest))
  Ok (record { share = share; work = work })

-- an entry by its line and the number of that
unfoldable pub entry_of : ℕ → List ℕ → Result PortEntry PortBad
entry_of n line = if bytes_eq (first_word line) (codes "entry") then entry_by n (behind_word line) else bad n BadEntry

-- one more entry, where there may be more
abbrev pub if_room : ℕ → List PortEntry → PortEntry → Result (List PortEntry) PortBad
if_room n front entry = if nat_lt (length front) most_entries then Ok (front ++ entry ∷ []) else bad n TooMany

abbrev pub next_entry : ℕ → List PortEntry → List ℕ → Result (List PortEntry) PortBad
next_entry n front line = entry_of n line >>= if_room n front

-- portfolios: "portfolio 1", entries, "end"

-- nothing may follow the end, which has entries in front
abbrev pub ended : ℕ → List PortEntry → List (ℕ × List ℕ) → Result Portfolio PortBad
ended n [] lines = bad n NoEntry
ended n (e ∷ es) [] = Ok (record { entries = e ∷ es })
ended n (e ∷ es) (line ∷ lines) = bad line.0 Trailing

-- entries behind those in front, up to the end; the number is the one behind the last line
unfoldable pub entries_of : ℕ → List PortEntry → List (ℕ × List ℕ) → Result Portfolio PortBad
entries_of last front [] = bad last CutShort
entries_of last front (line ∷ lines) = if bytes_eq line.1 (codes "end") then ended line.0 front lines else (next_entry line.0 front line.1 >>= λ entries. entries_of last entries lines)

abbrev pub lines_by : ℕ → List (ℕ × List ℕ) → Result Portfolio PortBad
lines_by last [] = bad last CutShort
lines_by last (line ∷ lines) = if bytes_eq line.1 (codes "portfolio 1") then entries_of last [] lines else bad line.0 BadHead

abbrev pub by_place : Place → Result Portfolio PortBad
by_place place = lines_by (end_line place) (told place)

-- UTF-8 without a NUL byte
abbrev pub is_plain : List ℕ → Bool
is_plain bytes = is_utf8 bytes && not (list_any (λ b. nat_eq b 0) bytes)

-- the portfolio that a text is, or its first fault
unfoldable pub portfolio_of : List ℕ → Result Portfolio PortBad
portfolio_of bytes = if nat_lt most_bytes (length bytes) then bad 0 TooLong else (if is_plain bytes then by_place (record { left = lines_of bytes; line = 1 }) else bad 0 BadText)
