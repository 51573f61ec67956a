-- The row is taken into a copy of the log of a sound state whose records the tables have.
use Rattle.try_row.proofs.Tried.{copy_long, copy_sound, copy_used, copy_indexed, copy_tried}
use borrow.Author.Rules.{rules}
use Rattle.try_row.proofs.take_copy.Goals as goal

pub take_by-requires : goal.take_by-requires
take_by-requires c =
    let is = c.copy_log.ensures in (
      search rules,
      search rules,
      copy_long _ _ is (search rules),
      search rules,
      copy_sound _ _ is _ (search rules),
      search rules,
      search rules,
      copy_used _ _ is _ (search rules),
      search rules,
      copy_indexed _ _ is _ _ _ _ _ (search rules),
    )

pub returns-clause-took : goal.returns-clause-took
returns-clause-took c = search (copy_tried)
