use Rattle.run_report.proofs.TurnEvents.{offers_more}
use Rattle.run_report.proofs.law.a_turn_offers.Goals as goal

pub returns : goal.returns
returns c run core next ended begun kept candidates ends file plan going same by turn is below =
    offers_more run core next ended begun kept candidates ends file plan going same by turn is below
