-- The examples of takes and acts hold, by the definitions alone.
-- Assumes nothing.
use mathlib.Core.Path.{◌≡◌, refl}
use mathlib.Core.Bool.{true}
use Rattle.model.specs.Bytes.{word, long, blank, same_bytes, part, padded, joined}
use Rattle.model.specs.Vector as Vec
use Rattle.model.specs.Date as D
use Rattle.model.specs.Record as R
use Rattle.model.specs.Log as L
use Rattle.model.specs.Replay as P
use Rattle.model.specs.Table as W
use Rattle.model.specs.Examples as E
use Rattle.base_model.specs.Base as Q
use Rattle.call_model.specs.Outcome as O
use Rattle.call_model.specs.Examples as X
use Rattle.call_model.specs.Examples.{all_right, table}

-- every row of the table is right
pub examples : all_right table ≡ true
unfolding word long blank same_bytes part padded joined Vec.covers_to Vec.covers Vec.compare_of Vec.lacks_to Vec.lacks_of Vec.comparison_of Vec.handed_count Vec.blocks_for Vec.counts_at Vec.vector_at Vec.count_bytes Vec.vector_bytes D.is_leap D.days_of D.is_date R.identity R.unit R.op R.num R.seen R.seen_vector R.identity_at R.self_of R.object_of R.folder_of R.date_bytes R.label_of R.mark_of R.text_length R.printable R.is_label R.uses_object R.uses_folder R.uses_label R.uses_mark R.unused R.names R.object_fits R.folder_fits R.label_fits R.mark_fits R.date_fits R.head_fits R.well_formed L.rank L.insert L.count L.counts_to L.counts_on_to L.vector_on L.vector_of L.by_id L.is_next L.is_within L.all_to L.nowhere_above L.is_closed L.rises L.record_fault L.sound_after L.log_bytes P.empty_tree P.is_present P.lower P.label_key P.same_label P.entry_of P.is_in P.is_holder P.holder_of P.has_entries P.stands_aside P.unseen P.free_label P.and_then P.is_folder P.folder_stands P.judge_make P.judge_store P.judge_remove P.judge_rename P.comes_to P.is_below P.judge_place P.judge_move P.judge_settle P.judge P.new_entry P.stored P.renamed P.moved P.removed P.changed P.settled P.effect P.apply P.step P.replay_from P.replay P.is_disputed P.present_ones P.reason_of R.has_stroke L.lacking L.records_in L.records_of L.sound_log_on P.trim W.identity_bytes W.entry_row W.aside_row W.entry_rows W.aside_rows W.flagged W.work_bytes W.entry_in W.aside_in E.encode E.march E.makes_folder E.makes_trace E.stores E.removes E.renames E.settles E.moves E.same_flag E.shows_entries E.shows_asides E.shows E.same_records Q.bits Q.is_listed Q.empty_base O.stamped O.wish_fits O.guarded O.early_wish O.act_number O.acted O.act_of O.take_new O.take_held O.is_folded O.take_one O.takes_all O.start_of O.act_work O.hand_of O.write_of X.shows_taken X.is_refused X.right X.all_right X.table
examples = refl
