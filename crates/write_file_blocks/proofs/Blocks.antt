-- The blocks of a written file: which records each holds, where each is written, and the zeros behind them.
-- Assumes nothing.
use Prim.Native.Nat.{ℕ, ◌+◌, ◌-◌, ◌*◌, ◌≤◌, ◌<◌, min}
use native.Mathlib.Omega.{arith}
use mathlib.Core.Path.{◌≡◌, sym, ◌∙◌, subst}
use mathlib.Core.Logic.{⊎_elim}
use mathlib.Core.Bool.{true}
use mathlib.Core.List.{List, ◌++◌}
use lib.ListN.{length, take, drop, replicate, length-take, length-drop, length-replicate}
use lib.Seq.{take_all, length-take-le}
use borrow.Rule.Slice.PartMut.{put_mid}
use Rattle.model.specs.Bytes.{part, padded, joined, put_at}
use Rattle.model.specs.Record.{Rec}
use Rattle.model.specs.Log.{records_of, sound_log_on, sound_log, log_bytes, vector_of}
use Rattle.model.specs.Block.{letters, head_bytes, body_bytes, sealed, block_of}
use Rattle.model.specs.File.{header_of, file_block}
use Rattle.run_model.specs.Runs.{head_as, body_as, block_as, behind, run_block}
use Rattle.byte_slice.proofs.Numbers.{lt_or_ge}
use Rattle.byte_slice.proofs.Parts.{part_is}
use Rattle.byte_slice.proofs.PutAt.{mid_put}
use Rattle.block_laws.proofs.Fields.{joined-part}
use Rattle.encoding_laws.proofs.Logs.{sound_proper_on, proper_sized, sound_records_on, sound_bytes_on}

-- ---- block k

-- six records, or as many as there are
pub take_six : (l : List Rec) (n : ℕ) → n ≡ min 6 (length l) → take 6 l ≡ take n l
take_six l n e =
    ⊎_elim
    (λ (h : length l < 6). take_all 6 l (omega arith) ∙ sym (take_all n l (omega arith)))
    (λ (h : 6 ≤ length l). let m : n ≡ 6 = omega arith in rw m)
    (lt_or_ge (length l) 6)

-- records from a place of a log on that is sound behind a base vector
log_part : (v b : List ℕ) → length b ≡ 40960 → sound_log_on v b ≡ true → (j m : ℕ) → j + m ≤ length (records_of b) → part b (80 * j) (80 * m) ≡ joined (take m (drop j (records_of b)))
unfolding log_bytes padded
log_part v b long sound j m h =
    let l = records_of b in
    let t : List ℕ = replicate (40960 - length (joined l)) 0 in
    subst (λ (x : List ℕ). part x (80 * j) (80 * m) ≡ joined (take m (drop j l))) (sound_bytes_on v b long sound)
    (joined-part l j m t (proper_sized l (sound_proper_on v l (sound_records_on v b sound))) h)

pub run_of_log : (t v : List ℕ) (a u p k : ℕ) (b h : List ℕ) (used n : ℕ) {o : List ℕ} → length b ≡ 40960 → sound_log_on v b ≡ true → used ≡ length (records_of b) → n ≡ min 6 (used - 6 * k) → 6 * k ≤ used
    → o ≡ sealed (head_as t (record { archive = a; sender = u; place = p + k; vector = h }) n ++ padded 480 (take (480 * k + 80 * n - 480 * k) (drop (480 * k) b)))
    → o ≡ run_block t (header_of a u p h) (records_of b) k
unfolding run_block block_as body_as behind header_of
run_of_log t v a u p k b h used n long sound whole counted g f =
    let l : List Rec = drop (6 * k) (records_of b) in
    let e : 80 * (6 * k) ≡ 480 * k = omega arith in
    let c : length (take 6 l) ≡ n = omega (arith, length-take 6 l, length-drop (6 * k) (records_of b)) in
    let j : joined (take 6 l) ≡ take (480 * k + 80 * n - 480 * k) (drop (480 * k) b) =
    rw (take_six l n (omega (arith, length-drop (6 * k) (records_of b))), part_is b (480 * k) (80 * n), ← e) (sym (log_part v b long sound (6 * k) n (omega arith))) in
    f ∙ rw (j, c)

-- an SAB1 file is a case
pub file_block_of : (a u k : ℕ) (b h : List ℕ) {o : List ℕ} → h ≡ vector_of (records_of b) → o ≡ run_block letters (header_of a u 0 h) (records_of b) k → o ≡ file_block a u (records_of b) k
unfolding run_block block_as body_as head_as behind header_of file_block block_of body_bytes head_bytes
file_block_of a u k b h own e = let z : 0 + k ≡ k = omega arith in rw (own, z) at e

-- a log that is sound is so behind nothing
pub sound_whole : (b v : List ℕ) → v ≡ replicate 8 0 → sound_log b ≡ true → sound_log_on v b ≡ true
unfolding sound_log
sound_whole b v e h = rw e h

-- ---- writing into the file

-- a part that was lent has come back with s in it
pub placed : (d p s : List ℕ) (k : ℕ) → length s ≡ 512 → p ≡ s → put_mid (512 * k) (512 * k + 512 - 512 * k) d p ≡ put_at d (512 * k) s
placed d p s k n e = rw e (mid_put (512 * k) 512 d s n)

-- ---- zeros behind the blocks

-- a part that was lent has come back as zeros
pub cleared : (d p : List ℕ) (n : ℕ) → 512 * n ≤ length d → p ≡ replicate (length (take (length d - 512 * n) (drop (512 * n) d))) 0
    → put_mid (512 * n) (length d - 512 * n) d p ≡ put_at d (512 * n) (replicate (length d - 512 * n) 0)
cleared d p n h e =
    let m : ℕ = length d - 512 * n in
    let l : length (take m (drop (512 * n) d)) ≡ m = length-take-le m (drop (512 * n) d) (omega (arith, length-drop (512 * n) d)) in
    let q : p ≡ replicate m 0 = e ∙ rw l in
    let w : 512 * n + m - 512 * n ≡ m = omega arith in
    rw q (rw w at (mid_put (512 * n) m d (replicate m 0) (length-replicate m 0)))
