use Rattle.log_laws.proofs.RoomLaws.{states_in_room, states_once, pops_in_room}
use Rattle.log_laws.proofs.theorems.logs_keep_to_the_room.Goals as goal

pub returns-clause-states : goal.returns-clause-states
returns-clause-states c phase visits pops is l = states_in_room phase visits pops is l

pub returns-clause-once : goal.returns-clause-once
returns-clause-once c phase visits pops is l closed i j m n e f same = states_once phase visits pops is l closed i j m n e f same

pub returns-clause-pops : goal.returns-clause-pops
returns-clause-pops c phase visits pops is l closed = pops_in_room phase visits pops is l closed
