-- The greatest length of a listing: no file's, of either form, is longer than 172,123 bytes.
-- Assumes nothing.
use Prim.Native.Nat.{ℕ, ◌+◌, ◌*◌, ◌≤◌, ◌<◌}
use native.Mathlib.Omega.{arith}
use mathlib.Core.Path.{◌≡◌}
use mathlib.Core.Logic.{⊎_elim}
use mathlib.Core.Bool.{true, false}
use mathlib.Core.List.{List, ◌++◌}
use lib.Dec.{eqb}
use lib.ListN.{get_or, length, length-append}
use borrow.Author.Tests.{eqb-true}
use Rattle.model.specs.Bytes.{word}
use Rattle.model.specs.Log.{records_of}
use Rattle.model.specs.Replay.{Tree, present_ones, replay_from}
use Rattle.model.specs.Table.{table_bytes}
use Rattle.model.specs.Block.{vector_in}
use Rattle.model.specs.File.{block_at}
use Rattle.model.specs.Listing.{head_line, seen_line, tree_lines, refused_line}
use Rattle.base_model.specs.Base.{base_vector, base_tree, held_on, tree_of}
use Rattle.call_model.specs.Read.{read_back}
use Rattle.sab2_model.specs.Sab2.{is_sab2, either_fault}
use Rattle.sab2_model.specs.Calls.{read_sab2, read_either, either_listing}
use Rattle.byte_slice.proofs.Numbers.{bool_cases}
use Rattle.byte_slice.proofs.Words.{word_bound}
use Rattle.vector.proofs.InBytes.{vector_at_get_d}
use Rattle.log_laws.proofs.Tests.{vector_on-length}
use Rattle.run_laws.proofs.Again.{Bytes, bytes_part}
use Rattle.encoding_laws.proofs.Logs.{sound_few}
use Rattle.tree_laws.specs.Trees.{SoundTree}
use Rattle.tree_laws.proofs.Roots.{present_few}
use Rattle.base_laws.proofs.Numbered.{entries_count, asides_count}
use Rattle.base_laws.proofs.Trees.{sound_tells}
use Rattle.base_laws.proofs.Claims.{state_tree_sound}
use Rattle.call_laws.specs.Keeps.{Good}
use Rattle.call_laws.proofs.States.{good_base}
use Rattle.call_laws.proofs.Reading.{checked-right}
use Rattle.file_laws.proofs.Rewritten as Sab1
use Rattle.index_state.proofs.States.{shown_few, state_proper}
use Rattle.sab2_laws.specs.Listed.{state_lines, Listed}
use Rattle.sab2_laws.proofs.Listing.{listed}
use Rattle.sab2_laws.proofs.Forms.{sab1_fault, sab2_fault_lem}
use Rattle.sab2_laws.proofs.Altered.{whole_accepted}
use Rattle.sab2_laws.proofs.Rewritten as Sab2
use Rattle.listing_laws.proofs.Lines.{head_line_length, seen_line_length, refused_line_length}
use Rattle.listing_laws.proofs.Rows.{Small, replay_size, replay_asides, tree_lines_few}

-- of a sound state at most 1,024 entries are shown, and 1,536 rows
module _ (log base : List ℕ) (g : Good log base) where
  pub entries_few : length (present_ones (tree_of log base).entries) ≤ 1024
  entries_few = shown_few log base g.long.1 g.sound

  pub asides_few : length (tree_of log base).asides ≤ 1024
  unfolding tree_of base_tree
  asides_few =
      let s = sound_tells base (good_base log base g) in
      omega (arith, replay_asides (base_tree base) (records_of log), asides_count base 0 (word base 4), s.few_asides, sound_few log)

  rows_few : length (present_ones (tree_of log base).entries) + length (tree_of log base).asides ≤ 1536
  unfolding tree_of base_tree
  rows_few =
      let s = sound_tells base (good_base log base g) in
      omega (
        arith,
        present_few (replay_from (base_tree base) (records_of log)).entries,
        replay_size (base_tree base) (records_of log),
        entries_count base 0 (word base 2),
        asides_count base 0 (word base 4),
        s.few_entries,
        s.few_asides,
        sound_few log,
      )

  module _ (s : Small (held_on log base)) where
    pub tree_lines_fit : length (tree_lines (table_bytes (tree_of log base))) ≤ 172032
    tree_lines_fit =
        let t : Tree = tree_of log base in
        omega (
          arith,
          entries_few,
          rows_few,
          tree_lines_few (held_on log base) s t (state_tree_sound log base g.long.1 g.sound) entries_few (state_proper log base g.long.1 g.sound s),
        )

    -- behind a head of 38 bytes and a vector of 53
    pub state_lines_fit : (archive u : ℕ) → u ≤ 7 → length (state_lines archive u log base) ≤ 172123
    unfolding state_lines
    state_lines_fit archive u h =
        let v : List ℕ = held_on log base in
        let n : ℕ = length (records_of log) in
        let head : List ℕ = head_line archive u n in
        let seen : List ℕ = seen_line v in
        let lines : List ℕ = tree_lines (table_bytes (tree_of log base)) in
        let few : n ≤ 512 = sound_few log in
        omega (
          arith,
          length-append head (seen ++ lines),
          length-append seen lines,
          head_line_length archive u n (omega arith) (omega arith),
          seen_line_length v (vector_on-length (base_vector base) (records_of log)) (λ i k. omega (arith, s i k)),
          tree_lines_fit,
        )

-- ---- the listing of a file

-- the unit of an accepted file
pub unit_read : (f : List ℕ) → (either_fault f).number ≡ 0 → (read_either f).sender ≤ 7
unfolding read_either read_sab2 read_back
unit_read f e =
    ⊎_elim
    (λ (s : is_sab2 f ≡ true). rw s (Sab2.sender_right f (rw (sab2_fault_lem f s) at e)))
    (λ (s : is_sab2 f ≡ false). let (x, y) = checked-right f (rw (sab1_fault f s) at e) in rw s (Sab1.sender_right f x y))
    (bool_cases (is_sab2 f))

-- the counts in a header of bytes are numbers of 16 bits
pub counts_small : (f : List ℕ) → Bytes f → 512 ≤ length f → Small (vector_in (block_at f 0))
unfolding vector_in block_at
counts_small f g h u k = rw (vector_at_get_d (block_at f 0) 12 u k) (word_bound (block_at f 0) (12 + 2 * u) (bytes_part f 0 512 h g))

refused_is : (f : List ℕ) → eqb (either_fault f).number 0 ≡ false → either_listing f ≡ refused_line (either_fault f).number (either_fault f).place
unfolding either_listing
refused_is f e = rw e

-- a listing has at most 172,123 bytes: 1,024 entries of 145, 512 asides of 46, and 91 [F174]
pub either_listing_fits : (f : List ℕ) → Bytes f → length (either_listing f) ≤ 172123
either_listing_fits f g =
    ⊎_elim
    (λ (e : eqb (either_fault f).number 0 ≡ true). accepted (eqb-true (either_fault f).number 0 e))
    (λ (e : eqb (either_fault f).number 0 ≡ false). rw (refused_is f e) (omega (arith, refused_line_length (either_fault f).number (either_fault f).place)))
    (bool_cases (eqb (either_fault f).number 0))
  where
    accepted : (either_fault f).number ≡ 0 → length (either_listing f) ≤ 172123
    accepted e =
        let L : Listed f = listed f e in
        let s : Small (held_on (read_either f).log (read_either f).base) = rw L.vector (counts_small f g (whole_accepted f e)) in
        rw L.lines (state_lines_fit (read_either f).log (read_either f).base L.good s (read_either f).archive (read_either f).sender (unit_read f e))
