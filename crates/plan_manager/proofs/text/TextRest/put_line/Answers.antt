use Rattle.std.proofs.Common.{refl}
use Rattle.plan_manager.specs.TextRests.{line_left, later_left, lines_left, text_left}
use Rattle.plan_manager.proofs.Pieces.{put_three, three_put}
use Rattle.plan_manager.proofs.text.TextRest.put_line.Goals as goal

pub returns-clause-moved : goal.returns-clause-moved
unfolding text_left line_left later_left
returns-clause-moved c =
    let a = c.put_part-self.ensures in
    let b = c.put_part-self-2.ensures in
    let d = c.put_part-self-3.ensures in
    put_three _ _ _ _ _ _ _ _ _ _ _ (record { moved = a.moved; full = a.full; stuck = a.stuck }) (record { moved = b.moved; full = b.full; stuck = b.stuck }) (record { moved = d.moved; full = d.full; stuck = d.stuck })

pub returns-clause-full : goal.returns-clause-full
unfolding line_left
returns-clause-full c short =
    let a = c.put_part-self.ensures in
    let b = c.put_part-self-2.ensures in
    let d = c.put_part-self-3.ensures in
    three_put _ _ _ _ _ _ _ _ _ _ (record { moved = a.moved; full = a.full; stuck = a.stuck }) (record { moved = b.moved; full = b.full; stuck = b.stuck }) (record { moved = d.moved; full = d.full; stuck = d.stuck }) short

pub returns-clause-lines : goal.returns-clause-lines
unfolding lines_left
returns-clause-lines c = refl
