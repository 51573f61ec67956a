-- How many records n blocks count.
use Rattle.read_file_check.proofs.Records.{records_counted_lem, no_records}
use native.Mathlib.Omega.{arith}
use borrow.Author.Rules.{rules}
use Rattle.read_file_check.proofs.records_counted.Goals as goal

pub returns-then-n-eq0 : goal.returns-then-n-eq0
returns-then-n-eq0 c = (search (no_records), omega arith)

pub returns : goal.returns
returns c = (search (records_counted_lem), search rules)
