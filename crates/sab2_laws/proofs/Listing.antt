-- The listing of an accepted file of either form is that of the state that reading it leaves: its count is that of the records of the log, its vector
-- the held vector, its tree the replay from the base.
-- Assumes nothing.
use Prim.Native.Nat.{ℕ}
use mathlib.Core.Path.{◌≡◌, sym, ap, ◌∙◌}
use mathlib.Core.Logic.{⊎_elim}
use mathlib.Core.Bool.{true, false}
use mathlib.Core.List.{List}
use lib.ListN.{length}
use borrow.Author.Tests.{eq-eqb}
use Rattle.model.specs.Record.{Rec}
use Rattle.model.specs.Log.{vector_on, records_of, log_bytes}
use Rattle.model.specs.Replay.{replay}
use Rattle.model.specs.Block.{vector_in}
use Rattle.model.specs.File.{block_at, records_counted, file_records, checked_fault}
use Rattle.model.specs.Listing.{accepted_lines}
use Rattle.base_model.specs.Base.{empty_base, base_vector, tree_of}
use Rattle.call_model.specs.Read.{read_back}
use Rattle.sab2_model.specs.Sab2.{sab2_base, sab2_counted, sab2_records, record_part, checked_sab2, is_sab2, either_fault}
use Rattle.sab2_model.specs.Calls.{read_sab2, read_either, sab2_lines, either_listing}
use Rattle.byte_slice.proofs.Numbers.{bool_cases}
use Rattle.log_laws.proofs.Tests.{vector_on-none, sound_means}
use Rattle.run_laws.proofs.Records.{length-file_records}
use Rattle.call_laws.proofs.States.{sound_back, sound_back_on, fresh_good, empty_vector, empty_tree_lem}
use Rattle.call_laws.proofs.Reading.{file_records_lem, checked-right}
use Rattle.file_laws.proofs.Rewritten as Sab1
use Rattle.sab2_laws.specs.Listed.{state_lines, Listed}
use Rattle.sab2_laws.proofs.Forms.{sab1_fault, sab2_fault_lem}
use Rattle.sab2_laws.proofs.Rewritten as Sab2

count_sab2 : (f : List ℕ) → sab2_counted f ≡ length (sab2_records f)
unfolding sab2_counted sab2_records file_records
count_sab2 f = sym (length-file_records (record_part f) 0 (records_counted (record_part f)))

count_sab1 : (f : List ℕ) → records_counted f ≡ length (file_records f)
unfolding file_records
count_sab1 f = sym (length-file_records f 0 (records_counted f))

listed_sab2 : (f : List ℕ) → is_sab2 f ≡ true → (checked_sab2 f).number ≡ 0 → Listed f
unfolding read_either read_sab2 either_listing sab2_lines state_lines tree_of either_fault
listed_sab2 f s e =
    let l : List Rec = sab2_records f in
    let b : List ℕ = sab2_base f in
    let r : records_of (log_bytes l) ≡ l = sound_back_on (base_vector b) l (Sab2.records_sound f e) (Sab2.records_few f e) in
    record {
      good = rw s (Sab2.state f e);
      counted = rw s (count_sab2 f ∙ ap (λ (x : List Rec). length x) (sym r));
      vector = rw (s, r) (sym (Sab2.vector_right f e));
      lines = rw (s, eq-eqb (checked_sab2 f).number 0 e, r, count_sab2 f, Sab2.vector_right f e);
    }

listed_sab1 : (f : List ℕ) → is_sab2 f ≡ false → (checked_fault f).number ≡ 0 → Listed f
unfolding read_either read_back either_listing accepted_lines state_lines tree_of either_fault replay
listed_sab1 f s e =
    let (x, y) = checked-right f e in
    let (h, k) = file_records_lem f y in
    let l : List Rec = file_records f in
    let r : records_of (log_bytes l) ≡ l = sound_back l (sound_means l h) k in
    let v : vector_on (base_vector empty_base) l ≡ vector_in (block_at f 0) = ap (λ (w : List ℕ). vector_on w l) empty_vector ∙ vector_on-none l ∙ sym (Sab1.vector_right f x y) in
    record {
      good = rw s (fresh_good l (sound_means l h) k);
      counted = rw s (count_sab1 f ∙ ap (λ (z : List Rec). length z) (sym r));
      vector = rw (s, r) v;
      lines = rw (s, eq-eqb (checked_fault f).number 0 e, r, v, empty_tree_lem, count_sab1 f);
    }

pub listed : (f : List ℕ) → (either_fault f).number ≡ 0 → Listed f
listed f e =
    ⊎_elim
    (λ (s : is_sab2 f ≡ true). listed_sab2 f s (rw (sab2_fault_lem f s) at e))
    (λ (s : is_sab2 f ≡ false). listed_sab1 f s (rw (sab1_fault f s) at e))
    (bool_cases (is_sab2 f))
