-- The examples of SAB2 files hold, by the definitions alone.
-- Assumes nothing.
use mathlib.Core.Path.{◌≡◌, refl}
use mathlib.Core.Bool.{true}
use Rattle.model.specs.Bytes as Bytes
use Rattle.model.specs.Vector as Vector
use Rattle.model.specs.Date as Date
use Rattle.model.specs.Record as Record
use Rattle.model.specs.Log as Log
use Rattle.model.specs.Replay as Replay
use Rattle.model.specs.Table as Table
use Rattle.model.specs.Block as Block
use Rattle.model.specs.File as File
use Rattle.model.specs.Listing as Listing
use Rattle.model.specs.Examples as Shared
use Rattle.base_model.specs.Base as Base
use Rattle.call_model.specs.Outcome as Outcome
use Rattle.call_model.specs.Read as Read
use Rattle.run_model.specs.Runs as Runs
use Rattle.run_model.specs.Blocks as Blocks
use Rattle.sab2_model.specs.Rows as Rows
use Rattle.sab2_model.specs.Sab2 as Sab2
use Rattle.sab2_model.specs.Calls as Calls
use Rattle.sab2_model.specs.Examples as Examples
use Rattle.sab2_model.specs.Examples.{table}

-- every row of the tables is right
pub examples : table ≡ true
unfolding Bytes.word Bytes.long Bytes.blank Bytes.same_bytes Bytes.part Bytes.put_at Bytes.padded Bytes.joined Vector.covers_to Vector.covers Vector.blocks_for Vector.counts_at Vector.vector_at Vector.count_bytes Vector.vector_bytes Date.is_leap Date.days_of Date.is_date Record.identity Record.unit Record.op Record.num Record.seen Record.seen_vector Record.identity_at Record.self_of Record.object_of Record.folder_of Record.date_bytes Record.label_of Record.mark_of Record.text_length Record.printable Record.is_label Record.uses_object Record.uses_folder Record.uses_label Record.uses_mark Record.unused Record.names Record.object_fits Record.folder_fits Record.label_fits Record.mark_fits Record.date_fits Record.head_fits Record.well_formed Record.has_stroke Log.rank Log.insert Log.count Log.counts_to Log.vector_of Log.counts_on_to Log.vector_on Log.by_id Log.is_next Log.is_within Log.all_to Log.nowhere_above Log.is_closed Log.rises Log.record_fault Log.sound_after Log.records_in Log.records_of Log.sound_log_on Log.sound_log Log.log_bytes Log.lacking Replay.empty_tree Replay.is_present Replay.lower Replay.label_key Replay.same_label Replay.entry_of Replay.is_in Replay.is_holder Replay.holder_of Replay.has_entries Replay.stands_aside Replay.unseen Replay.free_label Replay.and_then Replay.is_folder Replay.folder_stands Replay.judge_make Replay.judge_store Replay.judge_remove Replay.judge_rename Replay.comes_to Replay.is_below Replay.judge_place Replay.judge_move Replay.judge_settle Replay.judge Replay.new_entry Replay.stored Replay.renamed Replay.moved Replay.removed Replay.changed Replay.settled Replay.effect Replay.apply Replay.step Replay.replay_from Replay.replay Replay.is_disputed Replay.present_ones Replay.reason_of Replay.trim Table.identity_bytes Table.entry_row Table.aside_row Table.entry_rows Table.aside_rows Table.table_bytes Table.flagged Table.work_bytes Table.entry_in Table.aside_in Block.first_to Block.second_to Block.head_bytes Block.body_bytes Block.sealed Block.block_of Block.count_in Block.archive_in Block.sender_in Block.place_in Block.vector_in Block.sums_hold Block.header_holds Block.block_fault Block.record_at Block.records_from Block.block_records Block.given_fault File.block_count File.header_of File.file_block File.file_to File.file_of File.file_length File.blocks_in File.block_at File.count_fits File.agrees File.file_block_fault File.fault File.blocks_fault File.records_counted File.file_record File.file_records_from File.file_records File.records_fault File.counts_fault File.or_else File.file_fault Listing.decimal_to Listing.decimal Listing.two_digits Listing.four_digits Listing.hex_digit Listing.hex_text Listing.identity_text Listing.escaped Listing.label_text Listing.date_text Listing.head_line Listing.counts_text Listing.seen_line Listing.kind_text Listing.mark_text Listing.disputed_text Listing.entry_line Listing.marked_text Listing.state_text Listing.aside_line Listing.entry_lines Listing.aside_lines Listing.tree_lines Listing.refused_line Listing.accepted_lines Listing.listing_of Listing.output_of Shared.encode Shared.march Shared.makes_trace Shared.stores Shared.settles Shared.same_flag Shared.same_records Shared.same_fault Shared.unsealed Shared.firsts_to Base.bits Base.is_listed Base.lists_all Base.base_bytes Base.empty_base Base.base_entry Base.base_aside Base.base_entries Base.base_asides Base.base_vector Base.base_tree Base.base_in Base.names_in Base.names_or_none Base.row_kind_fits Base.row_names_fit Base.row_date_fits Base.row_mark_fits Base.entry_fits Base.reason_fits Base.aside_fits Base.entry_row_fits Base.aside_row_fits Base.base_head_fits Base.rest_blank Base.rows_fit Base.last_to Base.id_at Base.is_id Base.id_new Base.one_name Base.name_new Base.place_of Base.is_folder_row Base.reaches Base.is_rooted Base.ids_fit Base.sound_base Base.sound_state Base.tree_of Outcome.guarded Outcome.start_of Outcome.stamped Outcome.wish_fits Outcome.early_wish Outcome.act_number Outcome.acted Outcome.act_of Outcome.act_work Outcome.hand_block Outcome.handed Outcome.hand_of Outcome.written Outcome.write_of Outcome.take_new Outcome.take_held Outcome.is_folded Outcome.take_one Outcome.takes_all Outcome.took_all Outcome.took_block Outcome.take_of Outcome.show_of Read.not_read Read.read_back Read.read_of Runs.head_as Runs.body_as Runs.block_as Runs.block_fault_as Runs.behind Runs.run_block Runs.run_to Runs.run_blocks Blocks.count_fits_as Blocks.agrees_as Blocks.file_block_fault_as Blocks.blocks_fault_as Rows.row_count Rows.rows_said Rows.row_start Rows.row_long Rows.base_row Rows.base_rows_from Rows.base_rows Rows.base_to Rows.base_from Rows.tail_blank Rows.rows_hold_for Rows.rows_hold Sab2.sab2_from Sab2.sab2_of Sab2.sab2_blocks Sab2.sab2_fits Sab2.said_rows Sab2.row_blocks Sab2.sab2_blocks_fault Sab2.sab2_rows Sab2.sab2_base Sab2.record_part Sab2.sab2_counted Sab2.sab2_records Sab2.base_stands Sab2.rows_stand Sab2.read_fault Sab2.records_fault_on Sab2.counts_fault_on Sab2.held_fault Sab2.sab2_fault Sab2.checked_sab2 Sab2.is_sab2 Sab2.either_fault Calls.wrote_sab2 Calls.write_sab2_of Calls.read_sab2 Calls.read_either Calls.read_either_of Calls.or_converted Calls.as_sab2 Calls.to_sab2_of Calls.way_back Calls.as_sab1 Calls.to_sab1_of Calls.sab2_lines Calls.either_listing Calls.either_output Calls.listing_lent Calls.listed_read Calls.either_listed Examples.base_of Examples.head_row Examples.entry_only Examples.asides_row Examples.is_block Examples.are_blocks Examples.is_file Examples.is_written Examples.is_left Examples.unsealed_from Examples.unsealed2 Examples.alike Examples.is_read_back Examples.is_not_read Examples.is_not_converted Examples.is_unlisted Examples.right Examples.all_right Examples.layout Examples.written Examples.lengths Examples.held Examples.forms Examples.ways Examples.printed Examples.table
examples = refl
