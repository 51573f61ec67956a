-- A settle of the record k: 18 if it does not stand aside.
use Rattle.tree_lookup.proofs.Working.{works_reads}
use Rattle.tree_judge.proofs.Reasons.{settle_stands, settle_not}
use Rattle.tree_judge.proofs.judge_settle.Goals as goal

pub role_of-requires : goal.role_of-requires
role_of-requires c = (search (works_reads), search)

pub returns-then-role_of-gt1024 : goal.returns-then-role_of-gt1024
returns-then-role_of-gt1024 c = search (settle_stands)

pub returns : goal.returns
returns c = search (settle_not)
