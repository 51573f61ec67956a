-- A sound state is folded by a list that has its own unit; how many records were.
use Rattle.fold.proofs.Folding.{log_sound, few_used, run_few, table-long, table_bytes_lem, table_proper, table_rows, table_asides, table_present, base_written, work_left_lem}
use Rattle.fold.proofs.fold_state.Goals as goal

pub counted-v-requires : goal.counted-v-requires
counted-v-requires c = (search, search (log_sound), search (run_few))

pub write_base-requires : goal.write_base-requires
write_base-requires c = (search, search (table-long), search (table_bytes_lem), search (table_proper), search (table_rows), search (table_asides), search (table_present))

pub drop_front-requires : goal.drop_front-requires
drop_front-requires c = (search, search (log_sound), search, search (few_used), search)

pub returns-clause-based : goal.returns-clause-based
returns-clause-based c = base_written c.requires.0 _ _ _ _ _ _ c.run_in-f.ensures.laid c.run_in-f.ensures.run.0 _ _ c.requires.1 c.counted-v.ensures c.write_base.ensures

pub returns-clause-worked : goal.returns-clause-worked
returns-clause-worked c = search (work_left_lem)
