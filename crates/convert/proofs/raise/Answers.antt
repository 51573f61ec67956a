-- An SAB1 file without a fault becomes an SAB2 file; the count of its blocks is returned.
use Rattle.convert.proofs.Raised.{whole, few, first, total_few, raised_vector, raised_as}
use borrow.Author.Rules.{rules}
use Rattle.convert.proofs.raise.Goals as goal

pub slice_bounds-archive_in-end : goal.slice_bounds-archive_in-end
slice_bounds-archive_in-end c = search (first)

pub slice_bounds-sender_in-end : goal.slice_bounds-sender_in-end
slice_bounds-sender_in-end c = search (first)

pub slice_bounds-vector_in-end : goal.slice_bounds-vector_in-end
slice_bounds-vector_in-end c = search (first)

pub records_counted-total-requires : goal.records_counted-total-requires
records_counted-total-requires c = (search (whole), search (few))

pub write_raised-requires : goal.write_raised-requires
write_raised-requires c = (search rules, search rules, search (total_few), search (raised_vector), search rules)

pub returns-clause-written : goal.returns-clause-written
returns-clause-written c = search (raised_as)
