-- How many of n records the list is asked of: those before the first fault, and the one that has it, if it is well formed.
use Rattle.read_file_check.proofs.Records.{asked_ok, asked_ill, asked_well}
use Rattle.read_file_check.proofs.asked_to.Goals as goal

ruleset ways = (asked_ok, asked_ill, asked_well)

pub returns-in-Ok : goal.returns-in-Ok
returns-in-Ok c = search ways

pub returns-in-Malformed : goal.returns-in-Malformed
returns-in-Malformed c = search ways

pub returns-in_default : goal.returns-in_default
returns-in_default c = search ways
