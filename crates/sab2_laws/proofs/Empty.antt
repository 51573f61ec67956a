-- Where nothing is folded a base is empty but for its list, so that the way back loses the list alone.
-- Assumes nothing.
use Prim.Native.Nat.{ℕ, ◌≤◌}
use native.Mathlib.Omega.{arith}
use mathlib.Core.Path.{◌≡◌, refl, ◌∙◌}
use mathlib.Core.Bool.{true}
use mathlib.Core.List.{List, [], ◌∷◌}
use lib.ListN.{get_or, length}
use borrow.Author.Tests.{eq-eqb}
use Rattle.model.specs.Bytes.{blank, padded}
use Rattle.model.specs.Record.{unit_of}
use Rattle.model.specs.Log.{no_counts, vector_of, log_bytes}
use Rattle.model.specs.Replay.{Entry, Aside, Tree, empty_tree}
use Rattle.model.specs.Block.{archive_in, sender_in}
use Rattle.model.specs.File.{block_count, file_of, block_at, fault, or_else}
use Rattle.base_model.specs.Base.{empty_base, base_vector, base_tree, base_in}
use Rattle.sab2_model.specs.Sab2.{sab2_base, sab2_records, checked_sab2}
use Rattle.sab2_model.specs.Calls.{read_either_of, converted, or_converted, way_back, as_sab1, to_sab1_of}
use Rattle.log_laws.specs.Sound.{Sound}
use Rattle.log_laws.proofs.Members.{All}
use Rattle.log_laws.proofs.Counts.{no_counts_lem}
use Rattle.tree_laws.specs.Trees.{NamedIn, EntryFits, AsideFits, SoundTree}
use Rattle.base_laws.proofs.Claims.{sound_tree}
use Rattle.call_laws.proofs.Given.{blank_none, base_eight}
use Rattle.file_laws.proofs.Written as Sab1
use Rattle.sab2_laws.proofs.Forms.{sab1_read}
use Rattle.sab2_laws.proofs.Rewritten as Rewritten
use Rattle.sab2_laws.proofs.Ways.{is_sab1}

-- no identity is named in a vector that counts nothing
none_named : (v : List ℕ) (k : ℕ) → v ≡ no_counts → NamedIn v k → ⊥
none_named v k z (a, b) = omega (arith, a, (rw z at b), no_counts_lem (unit_of k))

no_entries : (v : List ℕ) (l : List Entry) → v ≡ no_counts → All (EntryFits v) l → l ≡ []
no_entries v [] z a = refl
no_entries v (e ∷ l) z a = absurd (none_named v e.made z a.0.own_named)

no_asides : (v : List ℕ) (l : List Aside) → v ≡ no_counts → All (AsideFits v) l → l ≡ []
no_asides v [] z a = refl
no_asides v (x ∷ l) z a = absurd (none_named v x.who z a.0.who_named)

none-folded : (v : List ℕ) (t : Tree) → v ≡ no_counts → SoundTree v t → t ≡ empty_tree
unfolding empty_tree
none-folded v t z s = λ i. record { entries = no_entries v t.entries z s.entries_fit i; asides = no_asides v t.asides z s.asides_fit i }

module _ (f : List ℕ) (e : (checked_sab2 f).number ≡ 0) (b : blank (base_vector (sab2_base f)) ≡ true) where
  none : base_vector (sab2_base f) ≡ no_counts
  none = blank_none (base_vector (sab2_base f)) (base_eight (sab2_base f)) b

  -- list, zero vector, no entry and no aside
  pub base_empty : base_in (sab2_base f) ≡ record { list = get_or (sab2_base f) 0 0; vector = no_counts; tree = empty_tree }
  unfolding base_in
  base_empty =
      let t : base_tree (sab2_base f) ≡ empty_tree = none-folded (base_vector (sab2_base f)) (base_tree (sab2_base f)) none (sound_tree (sab2_base f) (Rewritten.base_long f e) (Rewritten.base_sound f e)) in
      λ i. record { list = get_or (sab2_base f) 0 0; vector = none i; tree = t i }

  sound : Sound (sab2_records f)
  sound = rw none at (Rewritten.records_sound f e)

  own : sender_in (block_at f 0) ≤ 7
  own = Rewritten.sender_right f e

  -- the way back is taken
  pub back_done : (lent : List ℕ) → length lent ≡ 44032 → to_sab1_of f lent ≡ converted 0 0 (block_count (length (sab2_records f))) (padded 44032 (as_sab1 f))
  unfolding to_sab1_of or_converted way_back or_else fault
  back_done lent n = rw (eq-eqb (length lent) 44032 n, eq-eqb (checked_sab2 f).number 0 e, b)

  -- and its file reads as the same archive, unit and log, with all eight listed and nothing folded
  pub back_reads : (spare spareBase : List ℕ) → length spare ≡ 40960 → length spareBase ≡ 43032
      → read_either_of spare spareBase (as_sab1 f)
      ≡ record {
        number = 0;
        place = 0;
        archive = archive_in (block_at f 0);
        sender = sender_in (block_at f 0);
        records = length (sab2_records f);
        vector = vector_of (sab2_records f);
        log = log_bytes (sab2_records f);
        base = empty_base;
      }
  unfolding as_sab1
  back_reads spare spareBase n m =
      let r = Sab1.read_is (archive_in (block_at f 0)) (sender_in (block_at f 0)) (sab2_records f) sound (Rewritten.records_few f e) own spare spareBase n m in
      let c = Sab1.checked_is (archive_in (block_at f 0)) (sender_in (block_at f 0)) (sab2_records f) sound (Rewritten.records_few f e) own in
      let file : List ℕ = file_of (archive_in (block_at f 0)) (sender_in (block_at f 0)) (sab2_records f) in
      sab1_read spare spareBase file (is_sab1 file c) ∙ r
