-- A log is checked: none if it is not sound.
use Rattle.log_check.proofs.Sound.{told_sound, told_known}
use Rattle.log_check.proofs.check.Goals as goal

pub returns-clause-sound : goal.returns-clause-sound
returns-clause-sound c = search (told_sound)

pub returns-clause-told : goal.returns-clause-told
returns-clause-told c = search (told_known)
