use Rattle.plan_text.proofs.ReadingBack.{read_back}
use Rattle.plan_text.proofs.law.written_is_read_back.Goals as goal

pub returns : goal.returns
returns c = read_back
