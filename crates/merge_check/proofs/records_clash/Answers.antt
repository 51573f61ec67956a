-- The first of OtherBytes and FullLog that holds of the records of two files.
use Rattle.std.proofs.lemmas.Result.{err_from_is_err_and}
use Rattle.refusal.proofs.Refusals.{not_zero}
use Rattle.merge_check.proofs.Clash.{fine_few, fine_laid, fine_formed, bytes_differ, room_told}
use borrow.Author.Rules.{rules}
use Rattle.merge_check.proofs.records_clash.Goals as goal

pub bytes_fault-requires : goal.bytes_fault-requires
bytes_fault-requires c = (search (fine_few), search (fine_laid), search rules, search (fine_laid), search (fine_formed))

pub returns-in_err-bytes_fault : goal.returns-in_err-bytes_fault
returns-in_err-bytes_fault c =
    let p = err_from_is_err_and c.from_residual.result c.from_residual.ensures.1 in
    rw (p.1, p.2) (search (bytes_differ, not_zero, c.in_err-bytes_fault.ensures))

pub room_fault-requires : goal.room_fault-requires
room_fault-requires c = (search (fine_few), search (fine_few), search (fine_laid), search (fine_formed))

pub returns : goal.returns
returns c = search (room_told, c.in_ok-bytes_fault.ensures, rules)
