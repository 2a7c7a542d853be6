use Rattle.log_laws.proofs.RoomLaws.{full_below_room, pops_below_room}
use Rattle.log_laws.proofs.theorems.limits_are_below_the_room.Goals as goal

pub returns-clause-states : goal.returns-clause-states
returns-clause-states c phase visits pops is l ends = full_below_room phase visits pops is l ends

pub returns-clause-pops : goal.returns-clause-pops
returns-clause-pops c phase visits pops is l ends closed = pops_below_room phase visits pops is l ends closed
