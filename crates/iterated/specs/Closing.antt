-- The end of a phase, made of the end of its search.
use Rattle.std.specs.Prelude.{ℕ, List, if◌then◌else◌, is_none}
use Rattle.conf_text.specs.declared.config.Config.{Config}
use Rattle.search_log.specs.Logs.{Content}
use Rattle.search_log.specs.Members.{Member}
use Rattle.lazy_search.specs.declared.end.SearchEnd.{SearchEnd}
use Rattle.lazy_search.specs.declared.end.SearchEnd.TheVariants as search
use Rattle.iterated.specs.declared.ends.PhaseEnd.{PhaseEnd}
use Rattle.iterated.specs.declared.ends.PhaseEnd.TheVariants.{Plan, Unsolvable, Best, Unsolved, Limit, NoMemory}
use Rattle.iterated.specs.Following.{is_exact_at, place_after}

-- With nothing left below the bound no plan is cheaper, where the phase is exact.
abbrev pub exhausted_end : Config → ℕ → List Member → Content → PhaseEnd
exhausted_end config place space log = if is_exact_at config place then Best space log else Unsolved space log (is_none (place_after config place))

-- the end of the phase at a place, by how its search ended
abbrev pub end_with : Config → ℕ → SearchEnd → PhaseEnd
end_with config place (search.Plan ops cost log) = Plan ops cost log
end_with config place (search.Unsolvable space log) = Unsolvable space log
end_with config place (search.Unsolved space log) = exhausted_end config place space log
end_with config place (search.Limit hit log) = Limit hit log
end_with config place search.NoMemory = NoMemory
