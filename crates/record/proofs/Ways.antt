-- What the goals of this crate ask for.
use Rattle.record.proofs.Whole.{other_length, bad_head, bad_object, bad_folder, bad_date, bad_label, mark_last}
use Rattle.record.proofs.Ranks.{sum-next, rank-sum}

pub ruleset ways = (other_length, bad_head, bad_object, bad_folder, bad_date, bad_label, mark_last, sum-next, rank-sum)
