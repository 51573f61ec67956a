-- What the goals of this crate ask for.
use Rattle.record_label.proofs.Label.{text_next, text_stops, text_ends}
use Rattle.record_label.proofs.Follow.{no_run, run-next, run_end, front_fails, back_tells, no_bytes, pair_fails, first_below, first_above, end_tells}
use Rattle.record_label.proofs.Same.{capital_fits, lower_capital, lower_other, label_starts, label_next, label_end}

pub ruleset ways = (text_next, text_stops, text_ends, no_run, run-next, run_end, front_fails, back_tells, no_bytes, pair_fails, first_below, first_above, end_tells, capital_fits, lower_capital, lower_other, label_starts, label_next, label_end)
