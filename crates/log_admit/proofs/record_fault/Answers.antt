-- The first of 7, 20, 8 and 9 that holds of a record behind others, or 0.
use Rattle.log_admit.proofs.Faults.{fault-malformed, fault_low, fault_joins}
use Rattle.log_admit.proofs.record_fault.Goals as goal

pub returns-then-not-well_formed : goal.returns-then-not-well_formed
returns-then-not-well_formed c = search (fault-malformed)

pub returns-then-k-b : goal.returns-then-k-b
returns-then-k-b c = search (fault_low)

pub returns : goal.returns
returns c = search (fault_joins)
