-- A file of either form is listed into lent memory of its stated lengths.
use Rattle.std.proofs.Common.{rules}
use Rattle.sab2_check.proofs.Checks.{not_none}
use Rattle.listing.proofs.Outcomes.{refused_left, long-left, based_left, sound_left, count_left, held-left, unit_left, accepted_left}
use Rattle.listing.proofs.list_file.Goals as goal

pub state_lines-length-requires : goal.state_lines-length-requires
state_lines-length-requires c =
    let back = c.in-Ok.ensures in
    (search rules, search (long-left, back), search (based_left, back), search (sound_left, back), search (count_left, back), search (held-left, back), search rules, search (unit_left, back))

pub returns-in-Ok : goal.returns-in-Ok
returns-in-Ok c = search (accepted_left, c.in-Ok.ensures)

pub returns-in-Err : goal.returns-in-Err
returns-in-Err c = search (refused_left, not_none, c.in-Err.ensures)
