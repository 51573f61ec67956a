-- The table of examples is right, by running the definitions.
-- Assumes nothing.
use mathlib.Core.Path.{◌≡◌, refl}
use mathlib.Core.Bool.{true}
use Rattle.model.specs.Bytes.{word, long, blank, same_bytes, part, padded, joined}
use Rattle.model.specs.Table.{identity_bytes}
use Rattle.model.specs.Table as T
use Rattle.model.specs.Vector as Vec
use Rattle.model.specs.Date as D
use Rattle.model.specs.Record as R
use Rattle.model.specs.Log as L
use Rattle.model.specs.Replay as P
use Rattle.base_model.specs.Base as Q
use Rattle.model.specs.Block as B
use Rattle.model.specs.File as F
use Rattle.call_model.specs.Outcome as O
use Rattle.model.specs.Examples as X
use Rattle.row_model.specs.Row as W
use Rattle.row_model.specs.Examples as E
use Rattle.row_model.specs.Examples.{all_right, table}

-- every row of the table is right
pub examples : all_right table ≡ true
unfolding word long blank same_bytes part padded joined Vec.covers_to Vec.covers Vec.blocks_for Vec.counts_at Vec.vector_at Vec.count_bytes Vec.vector_bytes D.is_leap D.days_of D.is_date R.identity R.unit R.op R.num R.seen R.seen_vector R.identity_at R.self_of R.object_of R.folder_of R.date_bytes R.label_of R.mark_of R.text_length R.printable R.is_label R.uses_object R.uses_folder R.uses_label R.uses_mark R.unused R.names R.object_fits R.folder_fits R.label_fits R.mark_fits R.date_fits R.head_fits R.well_formed L.rank L.insert L.count L.counts_to L.counts_on_to L.vector_on L.vector_of L.by_id L.is_next L.is_within L.all_to L.nowhere_above L.is_closed L.rises L.record_fault L.sound_after L.records_in L.records_of L.sound_log_on L.sound_log L.log_bytes P.empty_tree P.is_present P.lower P.label_key P.same_label P.entry_of P.is_in P.is_holder P.holder_of P.has_entries P.stands_aside P.unseen P.free_label P.and_then P.is_folder P.folder_stands P.judge_make P.judge_store P.judge_remove P.judge_rename P.comes_to P.is_below P.judge_place P.judge_move P.judge_settle P.judge P.new_entry P.stored P.renamed P.moved P.removed P.changed P.settled P.effect P.apply P.step P.replay_from P.replay P.is_disputed P.present_ones identity_bytes T.entry_row T.aside_row T.entry_rows T.aside_rows T.table_bytes T.entry_in T.aside_in Q.bits Q.is_listed Q.lists_all Q.base_bytes Q.empty_base Q.base_entry Q.base_aside Q.base_entries Q.base_asides Q.base_vector Q.base_tree Q.base_in Q.names_in Q.names_or_none Q.row_kind_fits Q.row_names_fit Q.row_date_fits Q.row_mark_fits Q.entry_fits Q.reason_fits Q.aside_fits Q.entry_row_fits Q.aside_row_fits Q.base_head_fits Q.rest_blank Q.rows_fit Q.last_to Q.id_at Q.is_id Q.id_new Q.one_name Q.name_new Q.place_of Q.is_folder_row Q.reaches Q.is_rooted Q.ids_fit Q.sound_base Q.sound_state Q.tree_of P.trim B.block_fault B.head_bytes B.body_bytes B.sealed B.block_of B.count_in B.archive_in B.sender_in B.place_in B.vector_in B.record_at B.records_from B.block_records F.header_of F.blocks_in F.block_at O.guarded L.lacking B.given_fault O.took_all O.took_block O.take_new O.take_held O.is_folded O.take_one O.takes_all O.take_of W.row_fits W.try_from W.try_all W.take_row_of W.is_there W.has_disputed W.newly_disputed W.became_disputed W.made_bytes W.report_bytes W.reported W.trial_lent W.try_of W.row_block W.row_to W.row_of W.handed_row W.hand_row_of X.encode X.march X.makes_folder X.makes_trace X.stores X.removes X.settles X.moves X.same_flag X.same_records X.firsts_to E.is_stopped E.is_taken E.is_untried E.is_report E.makers E.disputes_taken E.base_after E.head_with E.is_block E.are_blocks E.is_row E.is_handed E.is_refused E.right E.all_right E.table
examples = refl
