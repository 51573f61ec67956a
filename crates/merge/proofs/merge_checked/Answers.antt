-- Two files without a fault become one, or are refused: 6, 10, 11.
use Rattle.refusal.proofs.Refusals.{not_zero}
use Rattle.merge.proofs.Calls.{checked-whole, checked_some, checked_few, checked_512, checked_fine, checked_places, checked_positions, union_right, union_refused, union-joined}
use borrow.Author.Rules.{rules}
use Rattle.merge.proofs.merge_checked.Goals as goal

pub records_counted-used-requires : goal.records_counted-used-requires
records_counted-used-requires c = (search (checked-whole), search (checked_few))

pub records_counted-total-requires : goal.records_counted-total-requires
records_counted-total-requires c = (search (checked-whole), search (checked_few))

pub union_fault-requires : goal.union_fault-requires
union_fault-requires c = (search (checked_512), search (checked_512), search (checked_fine), search (checked_positions), search (checked_fine))

pub returns-in-Err : goal.returns-in-Err
returns-in-Err c = search (union_refused, not_zero, c.in-Err.ensures)

pub join_files-requires : goal.join_files-requires
join_files-requires c = (search (checked-whole), search (checked_some), search rules, search (checked_places), search (checked_fine), search (checked_fine), search rules, search rules, search (union_right, c.in_default.ensures, rules), search rules, search rules)

pub returns : goal.returns
returns c = search (union-joined, c.in_default.ensures, rules)
