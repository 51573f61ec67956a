-- The table of examples is right, by running the definitions.
-- Assumes nothing.
use mathlib.Core.Path.{◌≡◌, refl}
use mathlib.Core.Bool.{true}
use Rattle.model.specs.Bytes.{word, long, blank, same_bytes, part, padded, joined}
use Rattle.model.specs.Vector as Vec
use Rattle.model.specs.Date as D
use Rattle.model.specs.Record as R
use Rattle.model.specs.Log as L
use Rattle.model.specs.Replay as P
use Rattle.model.specs.Table as T
use Rattle.base_model.specs.Base as Q
use Rattle.model.specs.Examples as X
use Rattle.order_model.specs.Order as W
use Rattle.order_model.specs.Examples as E
use Rattle.order_model.specs.Examples.{all_right, table}

-- every row of the table is right
pub examples : all_right table ≡ true
unfolding word long blank same_bytes part padded joined Vec.covers_to Vec.covers Vec.counts_at Vec.vector_at Vec.count_bytes Vec.vector_bytes D.is_leap D.days_of D.is_date R.identity R.unit R.op R.num R.seen R.seen_vector R.identity_at R.self_of R.object_of R.folder_of R.date_bytes R.label_of R.mark_of R.text_length R.printable R.is_label R.uses_object R.uses_folder R.uses_label R.uses_mark R.unused R.names R.object_fits R.folder_fits R.label_fits R.mark_fits R.date_fits R.head_fits R.well_formed L.rank L.insert L.count L.counts_to L.counts_on_to L.vector_on L.vector_of L.by_id L.is_next L.is_within L.all_to L.nowhere_above L.is_closed L.rises L.record_fault L.sound_after L.records_in L.records_of L.sound_log_on L.sound_log L.log_bytes P.empty_tree P.is_present P.lower P.label_key P.same_label P.entry_of P.is_in P.is_holder P.holder_of P.has_entries P.stands_aside P.unseen P.free_label P.and_then P.is_folder P.folder_stands P.judge_make P.judge_store P.judge_remove P.judge_rename P.comes_to P.is_below P.judge_place P.judge_move P.judge_settle P.judge P.new_entry P.stored P.renamed P.moved P.removed P.changed P.settled P.effect P.apply P.step P.replay_from P.replay P.is_disputed P.present_ones T.identity_bytes T.entry_row T.aside_row T.entry_rows T.aside_rows T.table_bytes T.entry_in T.aside_in Q.bits Q.is_listed Q.lists_all Q.base_bytes Q.empty_base Q.base_entry Q.base_aside Q.base_entries Q.base_asides Q.base_vector Q.base_tree Q.base_in Q.names_in Q.names_or_none Q.row_kind_fits Q.row_names_fit Q.row_date_fits Q.row_mark_fits Q.entry_fits Q.reason_fits Q.aside_fits Q.entry_row_fits Q.aside_row_fits Q.base_head_fits Q.rest_blank Q.rows_fit Q.last_to Q.id_at Q.is_id Q.id_new Q.one_name Q.name_new Q.place_of Q.is_folder_row Q.reaches Q.is_rooted Q.ids_fit Q.sound_base Q.sound_state Q.tree_of X.encode X.march X.makes_folder X.makes_trace X.stores X.removes X.renames X.settles X.moves W.name_in W.name_at W.names_from W.name_count W.names_given W.times W.each_once W.is_held W.all_held W.names_all W.found_first W.in_order_of W.has_seen W.sees_none W.seen_first W.equal_flags W.entry_alike W.aside_alike W.shows_entry W.entries_among W.shows_aside W.asides_among W.shown_within W.shown_alike W.failed_of W.judged_order W.order_number W.order_of E.entry E.standing E.tree E.trace_a E.one_trace E.moved_on E.is_answer E.are_left E.counts E.is_leaving E.is_showing E.is_refused E.agrees E.right E.all_right E.clash E.apart E.behind E.settled_aside E.table
examples = refl
