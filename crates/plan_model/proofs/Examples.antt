-- The tables of examples are right, by running the definitions.
-- Assumes nothing.
use mathlib.Core.Path.{◌≡◌, refl}
use mathlib.Core.Bool.{true}
use Rattle.model.specs.Bytes.{word, long, blank, same_bytes, part, padded, put_at, joined}
use Rattle.model.specs.Vector as Vec
use Rattle.model.specs.Date as D
use Rattle.model.specs.Record as R
use Rattle.model.specs.Log as L
use Rattle.model.specs.Replay as P
use Rattle.model.specs.Table as T
use Rattle.model.specs.Block as B
use Rattle.model.specs.File as F
use Rattle.model.specs.Listing as I
use Rattle.model.specs.Examples as X
use Rattle.base_model.specs.Base as Q
use Rattle.call_model.specs.Outcome as O
use Rattle.plan_model.specs.Plan as W
use Rattle.plan_model.specs.Feed as G
use Rattle.plan_model.specs.Examples as E
use Rattle.plan_model.specs.Examples.{refused_leaves, not_lent_leaves, all_right, checks, doings}

pub checks-right : all_right checks ≡ true
unfolding word long blank same_bytes part padded put_at joined Vec.covers_to Vec.covers Vec.compare_of Vec.counts_at Vec.vector_at Vec.count_bytes Vec.vector_bytes D.is_leap D.days_of D.is_date R.identity R.unit R.op R.num R.seen R.seen_vector R.identity_at R.self_of R.object_of R.folder_of R.date_bytes R.label_of R.mark_of R.text_length R.printable R.is_label R.uses_object R.uses_folder R.uses_label R.uses_mark R.unused R.names R.object_fits R.folder_fits R.label_fits R.mark_fits R.date_fits R.head_fits R.well_formed R.has_stroke L.rank L.insert L.count L.counts_to L.vector_of L.counts_on_to L.vector_on L.by_id L.is_next L.is_within L.all_to L.nowhere_above L.is_closed L.rises L.record_fault L.sound_after L.records_in L.records_of L.sound_log_on L.sound_log L.log_bytes L.lacking P.empty_tree P.is_present P.lower P.label_key P.same_label P.entry_of P.is_in P.is_holder P.holder_of P.has_entries P.stands_aside P.unseen P.free_label P.and_then P.is_folder P.folder_stands P.judge_make P.judge_store P.judge_remove P.judge_rename P.comes_to P.is_below P.judge_place P.judge_move P.judge_settle P.judge P.new_entry P.stored P.renamed P.moved P.removed P.changed P.settled P.effect P.apply P.step P.replay_from P.replay P.is_disputed P.present_ones P.reason_of T.identity_bytes T.entry_in T.aside_in Q.bits Q.is_listed Q.lists_all Q.empty_base Q.base_entry Q.base_aside Q.base_entries Q.base_asides Q.base_vector Q.base_tree Q.base_in Q.names_in Q.names_or_none Q.row_kind_fits Q.row_names_fit Q.row_date_fits Q.row_mark_fits Q.entry_fits Q.reason_fits Q.aside_fits Q.entry_row_fits Q.aside_row_fits Q.base_head_fits Q.rest_blank Q.rows_fit Q.last_to Q.id_at Q.is_id Q.id_new Q.one_name Q.name_new Q.place_of Q.is_folder_row Q.reaches Q.is_rooted Q.ids_fit Q.sound_base Q.sound_state Q.tree_of B.first_to B.second_to B.head_bytes B.body_bytes B.sealed B.block_of B.count_in B.archive_in B.sender_in B.place_in B.vector_in B.sums_hold B.header_holds B.block_fault B.record_at B.records_from B.block_records B.given_fault F.header_of F.block_at F.fault O.guarded O.stamped O.wish_fits O.early_wish O.act_number O.acted O.act_of O.hand_block O.handed O.hand_of O.take_new O.take_held O.is_folded O.take_one O.takes_all O.took_all O.took_block O.take_of I.decimal_to I.decimal I.counts_text I.seen_line I.refused_line X.encode X.march X.makes_trace X.same_flag X.same_records W.event_at W.event_kind W.event_unit W.event_other W.event_wish W.act_holds W.pass_holds W.event_holds W.events_hold W.plan_header_holds W.plan_body_fault W.plan_block_fault W.piece_fault W.pieces W.plan_archive W.plan_fault_from W.plan_fault W.log_at W.with_log W.true_vector W.act_answer W.act_done W.act_tried W.pass_handed W.pass_taken W.pass_done W.event_done W.events_done W.block_done W.blocks_done W.round_of W.unit_line W.pair_line W.skipped_line W.unit_lines W.pairs_of W.pair_lines W.round_text W.plan_text W.planned_round W.planned_refusal W.planned_of G.archive_of G.passes G.stops_at G.judged_fed G.feed_of G.fed_to G.fed_text E.act E.pass E.takes_away E.body_of E.set_at E.refused_two E.refused_three E.refused_at_seven E.unit_text E.pair_text E.skipped_twelve E.is_fault E.is_round E.is_handed E.fed E.fed_none E.is_left E.is_counted E.is_after E.is_passed E.is_stopped E.is_going E.is_kept E.is_told E.is_refused E.right E.all_right E.checks E.refused_leaves E.is_untouched E.not_lent_leaves E.doings
checks-right = refl

pub doings-right : all_right doings ≡ true
unfolding word long blank same_bytes part padded put_at joined Vec.covers_to Vec.covers Vec.compare_of Vec.counts_at Vec.vector_at Vec.count_bytes Vec.vector_bytes D.is_leap D.days_of D.is_date R.identity R.unit R.op R.num R.seen R.seen_vector R.identity_at R.self_of R.object_of R.folder_of R.date_bytes R.label_of R.mark_of R.text_length R.printable R.is_label R.uses_object R.uses_folder R.uses_label R.uses_mark R.unused R.names R.object_fits R.folder_fits R.label_fits R.mark_fits R.date_fits R.head_fits R.well_formed R.has_stroke L.rank L.insert L.count L.counts_to L.vector_of L.counts_on_to L.vector_on L.by_id L.is_next L.is_within L.all_to L.nowhere_above L.is_closed L.rises L.record_fault L.sound_after L.records_in L.records_of L.sound_log_on L.sound_log L.log_bytes L.lacking P.empty_tree P.is_present P.lower P.label_key P.same_label P.entry_of P.is_in P.is_holder P.holder_of P.has_entries P.stands_aside P.unseen P.free_label P.and_then P.is_folder P.folder_stands P.judge_make P.judge_store P.judge_remove P.judge_rename P.comes_to P.is_below P.judge_place P.judge_move P.judge_settle P.judge P.new_entry P.stored P.renamed P.moved P.removed P.changed P.settled P.effect P.apply P.step P.replay_from P.replay P.is_disputed P.present_ones P.reason_of T.identity_bytes T.entry_in T.aside_in Q.bits Q.is_listed Q.lists_all Q.empty_base Q.base_entry Q.base_aside Q.base_entries Q.base_asides Q.base_vector Q.base_tree Q.base_in Q.names_in Q.names_or_none Q.row_kind_fits Q.row_names_fit Q.row_date_fits Q.row_mark_fits Q.entry_fits Q.reason_fits Q.aside_fits Q.entry_row_fits Q.aside_row_fits Q.base_head_fits Q.rest_blank Q.rows_fit Q.last_to Q.id_at Q.is_id Q.id_new Q.one_name Q.name_new Q.place_of Q.is_folder_row Q.reaches Q.is_rooted Q.ids_fit Q.sound_base Q.sound_state Q.tree_of B.first_to B.second_to B.head_bytes B.body_bytes B.sealed B.block_of B.count_in B.archive_in B.sender_in B.place_in B.vector_in B.sums_hold B.header_holds B.block_fault B.record_at B.records_from B.block_records B.given_fault F.header_of F.block_at F.fault O.guarded O.stamped O.wish_fits O.early_wish O.act_number O.acted O.act_of O.hand_block O.handed O.hand_of O.take_new O.take_held O.is_folded O.take_one O.takes_all O.took_all O.took_block O.take_of I.decimal_to I.decimal I.counts_text I.seen_line I.refused_line X.encode X.march X.makes_trace X.same_flag X.same_records W.event_at W.event_kind W.event_unit W.event_other W.event_wish W.act_holds W.pass_holds W.event_holds W.events_hold W.plan_header_holds W.plan_body_fault W.plan_block_fault W.piece_fault W.pieces W.plan_archive W.plan_fault_from W.plan_fault W.log_at W.with_log W.true_vector W.act_answer W.act_done W.act_tried W.pass_handed W.pass_taken W.pass_done W.event_done W.events_done W.block_done W.blocks_done W.round_of W.unit_line W.pair_line W.skipped_line W.unit_lines W.pairs_of W.pair_lines W.round_text W.plan_text W.planned_round W.planned_refusal W.planned_of G.archive_of G.passes G.stops_at G.judged_fed G.feed_of G.fed_to G.fed_text E.act E.pass E.takes_away E.body_of E.set_at E.refused_two E.refused_three E.refused_at_seven E.unit_text E.pair_text E.skipped_twelve E.is_fault E.is_round E.is_handed E.fed E.fed_none E.is_left E.is_counted E.is_after E.is_passed E.is_stopped E.is_going E.is_kept E.is_told E.is_refused E.right E.all_right E.checks E.refused_leaves E.is_untouched E.not_lent_leaves E.doings
doings-right = refl

pub refused_leaves_lem : refused_leaves ≡ true
unfolding word long blank same_bytes part padded put_at joined I.decimal_to I.decimal I.refused_line F.fault W.planned_refusal E.refused_two E.is_left E.refused_leaves
refused_leaves_lem = refl

pub not_lent_leaves_lem : not_lent_leaves ≡ true
unfolding blank same_bytes part F.fault W.planned_of E.is_untouched E.not_lent_leaves
not_lent_leaves_lem = refl
