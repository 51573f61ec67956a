-- The entry that aside i marks is flagged, if the aside is open and the entry ever was made.
use Rattle.tree_finish.proofs.Flags.{flag_reads, state_inside, mark_inside, flag_closed, flag_none, mark_range, flag_no_role, flag_aside, flag_done}
use Rattle.tree_finish.proofs.flag_one.Goals as goal

pub bounds-table-note : goal.bounds-table-note
bounds-table-note c = search (state_inside)

pub returns-then-table-note-ne1 : goal.returns-then-table-note-ne1
returns-then-table-note-ne1 c = search (flag_closed)

pub identity_at-k-requires : goal.identity_at-k-requires
identity_at-k-requires c = search (mark_inside)

pub returns-then-k-eq0 : goal.returns-then-k-eq0
returns-then-k-eq0 c = search (flag_none)

pub role_of-role-requires : goal.role_of-role-requires
role_of-role-requires c = (search (flag_reads), search (mark_range))

pub returns-then-role-eq0 : goal.returns-then-role-eq0
returns-then-role-eq0 c = search (flag_no_role)

pub returns-then-size-role : goal.returns-then-size-role
returns-then-size-role c = search (flag_aside)

pub returns : goal.returns
returns c = search (flag_done)
