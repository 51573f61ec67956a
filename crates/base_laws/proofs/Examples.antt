-- The example bases: which are sound and which not.
-- Assumes nothing.
use mathlib.Core.Path.{◌≡◌, refl}
use mathlib.Core.Bool.{true}
use Rattle.model.specs.Bytes as Bytes
use Rattle.model.specs.Vector as Vector
use Rattle.model.specs.Date as Date
use Rattle.model.specs.Record as Record
use Rattle.model.specs.Log as Log
use Rattle.model.specs.Replay as Replay
use Rattle.model.specs.Table as Table
use Rattle.base_model.specs.Base as Base
use Rattle.base_laws.specs.Examples as Examples

pub examples : Examples.right ≡ true
unfolding Bytes.word Bytes.blank Bytes.same_bytes Bytes.part Bytes.padded Bytes.joined Vector.counts_at Vector.vector_at Date.is_leap Date.days_of Date.is_date Record.identity Record.identity_at Record.text_length Record.printable Record.is_label Log.all_to Replay.lower Replay.label_key Replay.same_label Table.entry_in Table.aside_in Base.names_in Base.names_or_none Base.row_kind_fits Base.row_names_fit Base.row_date_fits Base.row_mark_fits Base.entry_fits Base.reason_fits Base.aside_fits Base.base_vector Base.base_head_fits Base.entry_row_fits Base.aside_row_fits Base.rest_blank Base.rows_fit Base.last_to Base.base_entry Base.base_aside Base.id_at Base.is_id Base.id_new Base.one_name Base.name_new Base.place_of Base.is_folder_row Base.reaches Base.is_rooted Base.ids_fit Base.empty_base Base.sound_base Examples.name Examples.none Examples.entry Examples.aside Examples.base_of Examples.house Examples.tree_fits Examples.right
examples = refl
