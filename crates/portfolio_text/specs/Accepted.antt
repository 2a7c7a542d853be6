-- What holds of every portfolio that is read.
use Rattle.std.specs.Prelude.{◌<◌, ◌≤◌, All, length}
use Rattle.conf_text.specs.Accepted.{IsConfig}
use Rattle.portfolio_text.specs.PortfolioText.{most_entries, highest_share}
use Rattle.portfolio_text.specs.declared.portfolio.PortEntry.{PortEntry}
use Rattle.portfolio_text.specs.declared.portfolio.Portfolio.{Portfolio}
use Rattle.portfolio_text.specs.declared.portfolio.Work.{Work}
use Rattle.portfolio_text.specs.declared.portfolio.Work.TheVariants.{Search, Alias, Run}

-- a configuration within the limits, an alias, or one word at least
abbrev pub IsWork : Work → Type 0
IsWork (Search config) = IsConfig config
IsWork (Alias alias) = Unit {0}
IsWork (Run words) = 0 < length words

pub record IsEntry (entry : PortEntry) : Type 0 where
  pub share : (1 ≤ entry.share) × (entry.share ≤ highest_share)
  pub work : IsWork entry.work

-- entries within the limits, one at least
pub record IsPortfolio (portfolio : Portfolio) : Type 0 where
  pub entries : All IsEntry portfolio.entries
  pub some : 0 < length portfolio.entries
  pub few : length portfolio.entries ≤ most_entries
