-- Claim E2: the example of document 01 is listed exactly, as it is and as an SAB2 file, and with one byte changed it is refused, by the definitions alone.
-- Assumes nothing.
use Prim.Native.Nat.{ℕ}
use mathlib.Core.Path.{◌≡◌, refl, ◌∙◌}
use Rattle.model.specs.Bytes as Bytes
use Rattle.model.specs.Vector as Vector
use Rattle.model.specs.Date as Date
use Rattle.model.specs.Record as Record
use Rattle.model.specs.Log as Log
use Rattle.model.specs.Replay as Replay
use Rattle.model.specs.Table as Table
use Rattle.model.specs.Block as Block
use Rattle.model.specs.File as File
use Rattle.model.specs.Listing as Listing
use Rattle.model.specs.Examples as Examples
use Rattle.sab2_model.specs.Sab2 as Sab2
use Rattle.sab2_model.specs.Calls.{as_sab2, either_listing}
use Rattle.listing_laws.proofs.Forms.{converted_listing}
use Rattle.listing_laws.specs.Example.{paper_records, paper_file, paper_text, damaged_file, damaged_text}

pub paper_example : either_listing paper_file ≡ paper_text
unfolding Bytes.word Bytes.long Bytes.blank Bytes.same_bytes Bytes.part Bytes.put_at Bytes.padded Bytes.joined Vector.covers_to Vector.covers Vector.compare_of Vector.counts_at Vector.vector_at Vector.count_bytes Vector.vector_bytes Date.is_leap Date.days_of Date.is_date Record.identity Record.unit Record.op Record.num Record.seen Record.seen_vector Record.identity_at Record.self_of Record.object_of Record.folder_of Record.date_bytes Record.label_of Record.mark_of Record.text_length Record.printable Record.is_label Record.uses_object Record.uses_folder Record.uses_label Record.uses_mark Record.unused Record.names Record.object_fits Record.folder_fits Record.label_fits Record.mark_fits Record.date_fits Record.head_fits Record.well_formed Log.rank Log.insert Log.count Log.counts_to Log.counts_on_to Log.vector_on Log.vector_of Log.by_id Log.is_next Log.is_within Log.all_to Log.nowhere_above Log.is_closed Log.rises Log.record_fault Log.sound_after Log.records_in Log.records_of Log.sound_log_on Log.sound_log Log.log_bytes Replay.empty_tree Replay.is_present Replay.lower Replay.label_key Replay.same_label Replay.entry_of Replay.is_in Replay.is_holder Replay.holder_of Replay.has_entries Replay.stands_aside Replay.unseen Replay.free_label Replay.and_then Replay.is_folder Replay.folder_stands Replay.judge_make Replay.judge_store Replay.judge_remove Replay.judge_rename Replay.comes_to Replay.is_below Replay.judge_place Replay.judge_move Replay.judge_settle Replay.judge Replay.new_entry Replay.stored Replay.renamed Replay.moved Replay.removed Replay.changed Replay.settled Replay.effect Replay.apply Replay.step Replay.replay_from Replay.replay Replay.is_disputed Replay.present_ones Table.identity_bytes Table.entry_row Table.aside_row Table.entry_rows Table.aside_rows Table.table_bytes Block.first_to Block.second_to Block.head_bytes Block.body_bytes Block.sealed Block.block_of Block.count_in Block.archive_in Block.sender_in Block.place_in Block.vector_in Block.sums_hold Block.header_holds Block.block_fault Block.record_at Block.records_from Block.block_records File.block_count File.header_of File.file_block File.file_to File.file_of File.file_length File.blocks_in File.block_at File.count_fits File.agrees File.file_block_fault File.fault File.blocks_fault File.records_counted File.file_record File.file_records_from File.file_records File.records_fault File.counts_fault File.or_else File.file_fault Listing.decimal_to Listing.decimal Listing.two_digits Listing.four_digits Listing.hex_digit Listing.hex_text Listing.identity_text Listing.escaped Listing.label_text Listing.date_text Listing.head_line Listing.counts_text Listing.seen_line Listing.kind_text Listing.mark_text Listing.disputed_text Listing.entry_line Listing.marked_text Listing.state_text Listing.aside_line Listing.entry_lines Listing.aside_lines Listing.tree_lines Listing.refused_line Listing.accepted_lines Sab2.is_sab2 Sab2.either_fault either_listing Examples.encode Examples.march paper_records paper_file paper_text
paper_example = refl

paper_right : (File.checked_fault paper_file).number ≡ 0
unfolding Bytes.word Bytes.long Bytes.blank Bytes.same_bytes Bytes.part Bytes.put_at Bytes.padded Bytes.joined Vector.covers_to Vector.covers Vector.compare_of Vector.counts_at Vector.vector_at Vector.count_bytes Vector.vector_bytes Date.is_leap Date.days_of Date.is_date Record.identity Record.unit Record.op Record.num Record.seen Record.seen_vector Record.identity_at Record.self_of Record.object_of Record.folder_of Record.date_bytes Record.label_of Record.mark_of Record.text_length Record.printable Record.is_label Record.uses_object Record.uses_folder Record.uses_label Record.uses_mark Record.unused Record.names Record.object_fits Record.folder_fits Record.label_fits Record.mark_fits Record.date_fits Record.head_fits Record.well_formed Log.rank Log.insert Log.count Log.counts_to Log.counts_on_to Log.vector_on Log.vector_of Log.by_id Log.is_next Log.is_within Log.all_to Log.nowhere_above Log.is_closed Log.rises Log.record_fault Log.sound_after Log.records_in Log.records_of Log.sound_log_on Log.sound_log Log.log_bytes Block.first_to Block.second_to Block.head_bytes Block.body_bytes Block.sealed Block.block_of Block.count_in Block.archive_in Block.sender_in Block.place_in Block.vector_in Block.sums_hold Block.header_holds Block.block_fault Block.record_at Block.records_from Block.block_records File.block_count File.header_of File.file_block File.file_to File.file_of File.file_length File.blocks_in File.block_at File.count_fits File.agrees File.file_block_fault File.fault File.blocks_fault File.records_counted File.file_record File.file_records_from File.file_records File.records_fault File.counts_fault File.or_else File.file_fault Examples.encode Examples.march paper_records paper_file Table.identity_bytes
paper_right = refl

pub paper_example_sab2 : either_listing (as_sab2 paper_file) ≡ paper_text
paper_example_sab2 = converted_listing paper_file paper_right ∙ paper_example

pub damaged_example : either_listing damaged_file ≡ damaged_text
unfolding Bytes.word Bytes.long Bytes.blank Bytes.same_bytes Bytes.part Bytes.put_at Bytes.padded Bytes.joined Vector.covers_to Vector.covers Vector.compare_of Vector.counts_at Vector.vector_at Vector.count_bytes Vector.vector_bytes Date.is_leap Date.days_of Date.is_date Record.identity Record.unit Record.op Record.num Record.seen Record.seen_vector Record.identity_at Record.self_of Record.object_of Record.folder_of Record.date_bytes Record.label_of Record.mark_of Record.text_length Record.printable Record.is_label Record.uses_object Record.uses_folder Record.uses_label Record.uses_mark Record.unused Record.names Record.object_fits Record.folder_fits Record.label_fits Record.mark_fits Record.date_fits Record.head_fits Record.well_formed Log.rank Log.insert Log.count Log.counts_to Log.counts_on_to Log.vector_on Log.vector_of Log.by_id Log.is_next Log.is_within Log.all_to Log.nowhere_above Log.is_closed Log.rises Log.record_fault Log.sound_after Log.records_in Log.records_of Log.sound_log_on Log.sound_log Log.log_bytes Replay.empty_tree Replay.is_present Replay.lower Replay.label_key Replay.same_label Replay.entry_of Replay.is_in Replay.is_holder Replay.holder_of Replay.has_entries Replay.stands_aside Replay.unseen Replay.free_label Replay.and_then Replay.is_folder Replay.folder_stands Replay.judge_make Replay.judge_store Replay.judge_remove Replay.judge_rename Replay.comes_to Replay.is_below Replay.judge_place Replay.judge_move Replay.judge_settle Replay.judge Replay.new_entry Replay.stored Replay.renamed Replay.moved Replay.removed Replay.changed Replay.settled Replay.effect Replay.apply Replay.step Replay.replay_from Replay.replay Replay.is_disputed Replay.present_ones Table.identity_bytes Table.entry_row Table.aside_row Table.entry_rows Table.aside_rows Table.table_bytes Block.first_to Block.second_to Block.head_bytes Block.body_bytes Block.sealed Block.block_of Block.count_in Block.archive_in Block.sender_in Block.place_in Block.vector_in Block.sums_hold Block.header_holds Block.block_fault Block.record_at Block.records_from Block.block_records File.block_count File.header_of File.file_block File.file_to File.file_of File.file_length File.blocks_in File.block_at File.count_fits File.agrees File.file_block_fault File.fault File.blocks_fault File.records_counted File.file_record File.file_records_from File.file_records File.records_fault File.counts_fault File.or_else File.file_fault Listing.decimal_to Listing.decimal Listing.two_digits Listing.four_digits Listing.hex_digit Listing.hex_text Listing.identity_text Listing.escaped Listing.label_text Listing.date_text Listing.head_line Listing.counts_text Listing.seen_line Listing.kind_text Listing.mark_text Listing.disputed_text Listing.entry_line Listing.marked_text Listing.state_text Listing.aside_line Listing.entry_lines Listing.aside_lines Listing.tree_lines Listing.refused_line Listing.accepted_lines Sab2.is_sab2 Sab2.either_fault either_listing Examples.encode Examples.march paper_records paper_file damaged_file damaged_text
damaged_example = refl
