-- What lists of conditions ask for.
use Rattle.std.specs.Prelude.{◌≡◌, ℕ, ◌≤◌, List, Bool, true, ◌⊎◌, length, Some}
use Rattle.std.specs.List.{list_all}
use Rattle.sas_task.specs.Facts.{predicate_of}
use Rattle.sas_task.specs.declared.contents.Fact.{Fact}
use Rattle.sas_task.specs.declared.contents.Parts.{Parts}
use Rattle.sas_task.specs.declared.contents.Variable.{Variable}
use Rattle.sas_task.specs.WellFormed.{is_fact}
use Rattle.lm_graph.specs.Nodes.{is_ascending}
use Rattle.lm_backchain.specs.Backchain.{has, is_open, Among}

-- a fact with a predicate that one of some conditions is
pub record IsOf (parts : Parts) (predicate : List ℕ) (conds : List Fact) (fact : Fact) : Type 0 where
  pub is_of : predicate_of parts fact ≡ Some predicate
  pub asked : has conds fact ≡ true

-- one fact, if it has the predicate
abbrev pub IsFactOf : Parts → List ℕ → Fact → Fact → Type 0
IsFactOf parts predicate fact other = (other ≡ fact) × (predicate_of parts other ≡ Some predicate)

-- one that a list of some lists asks for
pub record IsAsked (parts : Parts) (predicate : List ℕ) (lists : List (List Fact)) (fact : Fact) : Type 0 where
  pub conds : List Fact
  pub among : Among lists conds
  pub is : IsOf parts predicate conds fact

-- Some facts were put among ascending ones, until there are more than four.
pub record Collects (old new : List Fact) (wanted : Fact → Type 0) : Type 0 where
  pub ascending : is_ascending new ≡ true
  pub sound : (fact : Fact) → has new fact ≡ true → (has old fact ≡ true) ⊎ wanted fact
  pub kept : (fact : Fact) → has old fact ≡ true → has new fact ≡ true
  pub full : length new ≤ 4 → (fact : Fact) → wanted fact → has new fact ≡ true
  pub longer : length old ≤ length new

-- every list asks for a fact of the predicate
abbrev pub AllAsk : Parts → List ℕ → List (List Fact) → Type 0
AllAsk parts predicate lists = (conds : List Fact) → Among lists conds → (fact : Fact) × IsOf parts predicate conds fact

-- the set of what the lists ask for, as the second rule wants it
pub record IsSetFor (parts : Parts) (lists : List (List Fact)) (predicate : List ℕ) (set : List Fact) : Type 0 where
  pub every : AllAsk parts predicate lists
  pub all : (fact : Fact) → IsAsked parts predicate lists fact → has set fact ≡ true
  pub only : (fact : Fact) → has set fact ≡ true → IsAsked parts predicate lists fact
  pub ascending : is_ascending set ≡ true
  pub some : 2 ≤ length set
  pub few : length set ≤ 4
  pub are_open : is_open parts set ≡ true

-- every list asks for the fact
abbrev pub all_have : List (List Fact) → Fact → Bool
all_have lists fact = list_all (λ conds. has conds fact) lists

-- the list has what it had, and one more
pub record PutsSet (old new : List (List Fact)) (set : List Fact) : Type 0 where
  pub kept : (other : List Fact) → Among old other → Among new other
  pub there : Among new set
  pub only : (other : List Fact) → Among new other → Among old other ⊎ (other ≡ set)

-- the set of the predicate was added, if there is one
pub record AddsSet (parts : Parts) (lists : List (List Fact)) (predicate : List ℕ) (old new : List (List Fact)) : Type 0 where
  pub kept : (other : List Fact) → Among old other → Among new other
  pub there : (set : List Fact) → IsSetFor parts lists predicate set → Among new set
  pub only : (other : List Fact) → Among new other → Among old other ⊎ IsSetFor parts lists predicate other

-- the sets of the predicates of some facts
pub record HasSets (parts : Parts) (lists : List (List Fact)) (seeds : List Fact) (sets : List (List Fact)) : Type 0 where
  pub all : (seed : Fact) (predicate : List ℕ) (set : List Fact) → has seeds seed ≡ true → predicate_of parts seed ≡ Some predicate → IsSetFor parts lists predicate set → Among sets set
  pub only : (set : List Fact) → Among sets set → (predicate : List ℕ) × IsSetFor parts lists predicate set

-- all are facts of the task
abbrev pub AreFacts : List Variable → List (List Fact) → Type 0
AreFacts variables lists = (conds : List Fact) → Among lists conds → list_all (is_fact variables) conds ≡ true
