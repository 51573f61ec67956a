-- The k records in recs, which rise in rank, are put in by rank among the n records of a log that rise too.
use mathlib.Core.Path.{refl}
use Rattle.log_insert.proofs.Merged.{merging_starts, merging_next, merging_ends}
use borrow.Author.Rules.{rules}
use native.Mathlib.Omega.{arith}
use Rattle.log_insert.proofs.insert_records.Goals as goal

pub loop-j-init : goal.loop-j-init
loop-j-init c = (omega arith, refl, search (merging_starts))

pub loop-j-preserved : goal.loop-j-preserved
loop-j-preserved c =
    let inv = c.loop-j.invariant in
    let pre = c.requires in (
      search rules,
      search rules,
      merging_next _ _ _ _ pre.0 pre.1 pre.2 pre.3 pre.5 _ _ _ inv.2 inv.1 inv.0 (omega arith) (search rules) _ _ c.rank_of.ensures.0 c.place_behind-i.ensures.0 _ _ c.move_up.ensures c.put.ensures pre.4,
    )

pub returns : goal.returns
returns c = search (merging_ends)
