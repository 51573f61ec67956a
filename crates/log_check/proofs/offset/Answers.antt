-- Where record i stands.
use Rattle.log_check.proofs.Places.{offset_log, offset_file}
use borrow.Author.Rules.{rules}
use Rattle.log_check.proofs.offset.Goals as goal

pub returns-in-Log : goal.returns-in-Log
returns-in-Log c = (search (offset_log), search rules)

pub returns-in-File : goal.returns-in-File
returns-in-File c = (search (offset_file), search rules)
