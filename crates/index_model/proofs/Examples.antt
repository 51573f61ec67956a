-- The table of examples is right, by running the definitions.
-- Assumes nothing.
use mathlib.Core.Path.{◌≡◌, refl}
use mathlib.Core.Bool.{true}
use Rattle.model.specs.Bytes.{word, long, blank, same_bytes, part, padded, joined, put_at}
use Rattle.model.specs.Table.{identity_bytes}
use Rattle.model.specs.Vector as Vec
use Rattle.model.specs.Date as D
use Rattle.model.specs.Record as R
use Rattle.model.specs.Log as L
use Rattle.model.specs.Replay as P
use Rattle.model.specs.Table as T
use Rattle.base_model.specs.Base as Q
use Rattle.call_model.specs.Outcome as O
use Rattle.model.specs.Examples as X
use Rattle.index_model.specs.Index as I
use Rattle.index_model.specs.Change as C
use Rattle.index_model.specs.Acting as A
use Rattle.index_model.specs.Kept as K
use Rattle.index_model.specs.Examples as E
use Rattle.index_model.specs.Examples.{all_right, table, calls}

-- every row of the table is right
pub examples : all_right table ≡ true
unfolding word long blank same_bytes part padded joined put_at Vec.covers_to Vec.covers Vec.counts_at Vec.vector_at Vec.count_bytes Vec.vector_bytes D.is_leap D.days_of D.is_date R.identity R.unit R.op R.num R.seen R.seen_vector R.identity_at R.self_of R.object_of R.folder_of R.date_bytes R.label_of R.mark_of R.text_length R.printable R.is_label R.uses_object R.uses_folder R.uses_label R.uses_mark R.unused R.names R.object_fits R.folder_fits R.label_fits R.mark_fits R.date_fits R.head_fits R.well_formed L.rank L.count L.counts_to L.counts_on_to L.vector_on L.vector_of L.by_id L.is_next L.is_within L.all_to L.nowhere_above L.is_closed L.rises L.record_fault L.sound_after L.records_in L.records_of L.sound_log_on L.sound_log L.log_bytes P.empty_tree P.is_present P.lower P.label_key P.same_label P.entry_of P.is_in P.is_holder P.holder_of P.has_entries P.stands_aside P.unseen P.free_label P.and_then P.is_folder P.folder_stands P.judge_make P.judge_store P.judge_remove P.judge_rename P.comes_to P.is_below P.judge_place P.judge_move P.judge_settle P.judge P.new_entry P.stored P.renamed P.moved P.removed P.changed P.settled P.effect P.apply P.step P.replay_from P.replay P.present_ones identity_bytes T.entry_rows T.aside_rows T.entry_in T.aside_in Q.bits Q.is_listed Q.lists_all Q.empty_base Q.base_entry Q.base_aside Q.base_entries Q.base_asides Q.base_vector Q.base_tree Q.base_in Q.entry_row_fits Q.aside_row_fits Q.base_head_fits Q.rest_blank Q.rows_fit Q.last_to Q.id_at Q.is_id Q.id_new Q.name_new Q.is_rooted Q.ids_fit Q.sound_base Q.sound_state Q.tree_of P.trim O.start_of O.stamped O.wish_fits P.reason_of R.has_stroke O.guarded O.early_wish O.act_number O.acted O.act_of X.encode X.march X.makes_folder X.makes_trace X.stores X.removes X.renames X.moves X.same_flag I.comes_before I.folder_key I.key_before I.entry_before I.placed I.ordered I.index_row I.index_rows I.index_bytes I.index_of I.halve I.rows_in I.folder_at I.label_at I.entry_at I.row_before I.seek I.row_is I.find_in I.first_in I.end_in I.entries_in I.list_in I.found I.find_of I.range I.range_of C.row_bytes C.put_row C.put_in C.take_row C.take_out C.move_in A.removed_in A.renamed_in A.moved_in A.change_in A.step_in K.index_fits K.if_lent K.both_fit K.kept_of K.indexed_of K.start_kept K.act_kept K.row_kept_of E.is_kept E.is_row_kept E.is_fresh E.is_put E.is_range E.same_rows E.right E.all_right E.folders E.traces E.filled E.table
examples = refl

-- and of the table of calls
pub call_examples : all_right calls ≡ true
unfolding word long blank same_bytes part padded joined put_at Vec.covers_to Vec.covers Vec.counts_at Vec.vector_at Vec.count_bytes Vec.vector_bytes D.is_leap D.days_of D.is_date R.identity R.unit R.op R.num R.seen R.seen_vector R.identity_at R.self_of R.object_of R.folder_of R.date_bytes R.label_of R.mark_of R.text_length R.printable R.is_label R.uses_object R.uses_folder R.uses_label R.uses_mark R.unused R.names R.object_fits R.folder_fits R.label_fits R.mark_fits R.date_fits R.head_fits R.well_formed L.rank L.count L.counts_to L.counts_on_to L.vector_on L.vector_of L.by_id L.is_next L.is_within L.all_to L.nowhere_above L.is_closed L.rises L.record_fault L.sound_after L.records_in L.records_of L.sound_log_on L.sound_log L.log_bytes P.empty_tree P.is_present P.lower P.label_key P.same_label P.entry_of P.is_in P.is_holder P.holder_of P.has_entries P.stands_aside P.unseen P.free_label P.and_then P.is_folder P.folder_stands P.judge_make P.judge_store P.judge_remove P.judge_rename P.comes_to P.is_below P.judge_place P.judge_move P.judge_settle P.judge P.new_entry P.stored P.renamed P.moved P.removed P.changed P.settled P.effect P.apply P.step P.replay_from P.replay P.present_ones identity_bytes T.entry_rows T.aside_rows T.entry_in T.aside_in Q.bits Q.is_listed Q.lists_all Q.empty_base Q.base_entry Q.base_aside Q.base_entries Q.base_asides Q.base_vector Q.base_tree Q.base_in Q.entry_row_fits Q.aside_row_fits Q.base_head_fits Q.rest_blank Q.rows_fit Q.last_to Q.id_at Q.is_id Q.id_new Q.name_new Q.is_rooted Q.ids_fit Q.sound_base Q.sound_state Q.tree_of P.trim O.start_of O.stamped O.wish_fits P.reason_of R.has_stroke O.guarded O.early_wish O.act_number O.acted O.act_of X.encode X.march X.makes_folder X.makes_trace X.stores X.removes X.renames X.moves X.same_flag I.comes_before I.folder_key I.key_before I.entry_before I.placed I.ordered I.index_row I.index_rows I.index_bytes I.index_of I.halve I.rows_in I.folder_at I.label_at I.entry_at I.row_before I.seek I.row_is I.find_in I.first_in I.end_in I.entries_in I.list_in I.found I.find_of I.range I.range_of C.row_bytes C.put_row C.put_in C.take_row C.take_out C.move_in A.removed_in A.renamed_in A.moved_in A.change_in A.step_in K.index_fits K.if_lent K.both_fit K.kept_of K.indexed_of K.start_kept K.act_kept K.row_kept_of E.is_kept E.is_row_kept E.is_fresh E.is_put E.is_range E.same_rows E.right E.all_right E.folders E.traces E.calls
call_examples = refl
