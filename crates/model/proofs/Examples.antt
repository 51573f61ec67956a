-- Claim E1: the examples hold, by the definitions alone.
-- Assumes nothing.
use mathlib.Core.Path.{◌≡◌, refl}
use mathlib.Core.Bool.{true}
use Rattle.model.specs.Bytes.{word, long, blank, same_bytes, part, padded, joined}
use Rattle.model.specs.Table.{identity_bytes, entry_row, aside_row}
use Rattle.model.specs.Examples.{all_right, table}
use Rattle.model.specs.Vector as Vec
use Rattle.model.specs.Date as D
use Rattle.model.specs.Record as R
use Rattle.model.specs.Log as L
use Rattle.model.specs.Replay as P
use Rattle.model.specs.Block as K
use Rattle.model.specs.File as F
use Rattle.model.specs.Merge as M
use Rattle.model.specs.Listing as T
use Rattle.model.specs.Examples as E

-- every row of the table is right
pub examples : all_right table ≡ true
unfolding word long blank same_bytes part padded joined Vec.covers_to Vec.covers Vec.compare_of Vec.lacks_to Vec.lacks_of Vec.comparison_of Vec.handed_count Vec.blocks_for Vec.counts_at Vec.vector_at Vec.count_bytes Vec.vector_bytes D.is_leap D.days_of D.is_date R.identity R.unit R.op R.num R.seen R.seen_vector R.identity_at R.self_of R.object_of R.folder_of R.date_bytes R.label_of R.mark_of R.text_length R.printable R.is_label R.uses_object R.uses_folder R.uses_label R.uses_mark R.unused R.names R.object_fits R.folder_fits R.label_fits R.mark_fits R.date_fits R.head_fits R.well_formed L.rank L.insert L.count L.counts_to L.counts_on_to L.vector_on L.vector_of L.by_id L.is_next L.is_within L.all_to L.nowhere_above L.is_closed L.rises L.record_fault L.sound_after L.log_bytes P.empty_tree P.is_present P.lower P.label_key P.same_label P.entry_of P.is_in P.is_holder P.holder_of P.has_entries P.stands_aside P.unseen P.free_label P.and_then P.is_folder P.folder_stands P.judge_make P.judge_store P.judge_remove P.judge_rename P.comes_to P.is_below P.judge_place P.judge_move P.judge_settle P.judge P.new_entry P.stored P.renamed P.moved P.removed P.changed P.settled P.effect P.apply P.step P.replay_from P.replay P.is_disputed P.present_ones P.trim identity_bytes entry_row aside_row K.head_bytes K.body_bytes K.sealed K.block_of K.count_in K.archive_in K.sender_in K.vector_in K.block_fault F.block_count F.header_of F.file_block F.file_to F.file_of F.file_length F.blocks_in F.block_at F.fault F.file_block_fault F.blocks_fault F.file_fault F.records_counted F.file_record F.file_records_from F.file_records F.or_else T.decimal_to T.decimal T.escaped T.label_text T.head_line T.counts_text T.seen_line T.identity_text T.marked_text T.state_text T.aside_line P.reason_of R.has_stroke L.lacking M.insert_all M.union M.differs M.bytes_fault M.room_fault M.records_clash M.archive_fault M.union_fault M.unless M.unless_any M.joined_file M.merge_of E.encode E.march E.makes_folder E.makes_trace E.stores E.removes E.renames E.settles E.moves E.same_flag E.shows_entries E.shows_asides E.shows E.says E.same_records E.same_fault E.unsealed E.answers E.keeps E.fills E.heads E.right E.all_right E.firsts_to E.starred E.further E.merges E.table
examples = refl
