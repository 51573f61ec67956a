-- 28 if the unit has used its last number, 11 if the log is full; or 0.
use Rattle.act_wish.proofs.Stamping.{last_used, log_full, room_left}
use Rattle.act_wish.proofs.check_room.Goals as goal

ruleset ways = (last_used, log_full, room_left)

pub returns-then-count-eq65535 : goal.returns-then-count-eq65535
returns-then-count-eq65535 c = search ways

pub returns-then-used-ge-LOG_PLACES : goal.returns-then-used-ge-LOG_PLACES
returns-then-used-ge-LOG_PLACES c = search ways

pub returns : goal.returns
returns c = search ways
