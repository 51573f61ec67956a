-- The bytes of row i.
use Rattle.sab2_model.specs.Rows.{row_count}
use Rattle.model.specs.Vector.{blocks_for}
use Rattle.sab2_rows.proofs.Places.{head_start, head_long, entry_start, entry-long, aside_start, aside_short, aside-long}
use native.Mathlib.Omega.{arith}
use Rattle.sab2_rows.proofs.row_part.Goals as goal

pub returns-then-i-eq0 : goal.returns-then-i-eq0
returns-then-i-eq0 c = (search (head_start), search (head_long), omega arith, omega arith)

pub returns-then-i-entries : goal.returns-then-i-entries
returns-then-i-entries c = (search (entry_start), search (entry-long), omega arith, omega arith)

pub overflow_mul-left-2 : goal.overflow_mul-left-2
unfolding row_count blocks_for
overflow_mul-left-2 c = omega arith

pub overflow_sub-left : goal.overflow_sub-left
unfolding row_count blocks_for
overflow_sub-left c = omega arith

pub overflow_mul-result-then-left-lt72 : goal.overflow_mul-result-then-left-lt72
unfolding row_count blocks_for
overflow_mul-result-then-left-lt72 c = omega arith

pub overflow_add-result-then-left-lt72 : goal.overflow_add-result-then-left-lt72
unfolding row_count blocks_for
overflow_add-result-then-left-lt72 c = omega arith

pub returns-then-left-lt72 : goal.returns-then-left-lt72
unfolding row_count blocks_for
returns-then-left-lt72 c = (search (aside_start), search (aside_short), omega arith, omega arith)

pub overflow_mul-result-2 : goal.overflow_mul-result-2
unfolding row_count blocks_for
overflow_mul-result-2 c = omega arith

pub overflow_add-result-2 : goal.overflow_add-result-2
unfolding row_count blocks_for
overflow_add-result-2 c = omega arith

pub returns : goal.returns
unfolding row_count blocks_for
returns c = (search (aside_start), search (aside-long), omega arith, omega arith)
