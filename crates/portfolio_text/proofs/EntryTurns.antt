-- Entries one after another.
use Rattle.std.proofs.Common.{◌≡◌, sym, ℕ, true, false, List, [], ◌∷◌, Result, Ok, Err}
use Rattle.std.specs.Prelude.{codes}
use Rattle.std.specs.Str.{bytes_eq}
use Rattle.lama_num.specs.Gives.{Fails}
use Rattle.portfolio_text.specs.PortfolioText.{refusal, next_entry, ended, entries_of}
use Rattle.portfolio_text.specs.declared.faults.PortBad.{PortBad}
use Rattle.portfolio_text.specs.declared.faults.PortError.{PortError}
use Rattle.portfolio_text.specs.declared.faults.PortError.TheVariants.{Bad, NoMemory}
use Rattle.portfolio_text.specs.declared.faults.PortKind.TheVariants.{CutShort}
use Rattle.portfolio_text.specs.declared.portfolio.PortEntry.{PortEntry}
use Rattle.portfolio_text.specs.declared.portfolio.Portfolio.{Portfolio}

-- one more entry
pub goes_on : (last n : ℕ) (front more : List PortEntry) (text : List ℕ) (lines rest : List (ℕ × List ℕ)) (all : Result Portfolio PortBad) →
    entries_of last front lines ≡ all → lines ≡ (n, text) ∷ rest → bytes_eq text (codes "end") ≡ false → next_entry n front text ≡ Ok more → entries_of last more rest ≡ all
unfolding entries_of
goes_on last n front more text lines rest all kept is other given = rw (is, other, given) at kept

-- an entry that is refused, or memory is wanting
pub stops : (last n : ℕ) (front : List PortEntry) (text : List ℕ) (lines rest : List (ℕ × List ℕ)) (all : Result Portfolio PortBad) (e : PortError) →
    entries_of last front lines ≡ all → lines ≡ (n, text) ∷ rest → bytes_eq text (codes "end") ≡ false → Fails (refusal e) (next_entry n front text) → Fails (refusal e) all
unfolding entries_of
stops last n front text lines rest all (Bad fault) kept is other given = sym (rw (is, other, given) at kept)
stops last n front text lines rest all NoMemory kept is other given = tt

-- the end
pub ends : (last n : ℕ) (front : List PortEntry) (text : List ℕ) (lines rest : List (ℕ × List ℕ)) (all : Result Portfolio PortBad) →
    entries_of last front lines ≡ all → lines ≡ (n, text) ∷ rest → bytes_eq text (codes "end") ≡ true → all ≡ ended n front rest
unfolding entries_of
ends last n front text lines rest all kept is end = sym (rw (is, end) at kept)

-- no line is left
pub cut : (last : ℕ) (front : List PortEntry) (lines : List (ℕ × List ℕ)) (all : Result Portfolio PortBad) → entries_of last front lines ≡ all → lines ≡ [] → all ≡ Err (record { line = last; kind = CutShort })
unfolding entries_of
cut last front lines all kept none = sym (rw none at kept)

pub ruleset turns = (goes_on, stops, ends, cut)
