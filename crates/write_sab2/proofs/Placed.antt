-- Blocks of runs, written one behind another at a place of a file.
-- Assumes nothing.
use Prim.Native.Nat.{ℕ, ◌+◌, ◌-◌, ◌*◌, ◌/◌, ◌≤◌, ◌<◌, min}
use native.Mathlib.Numerals.{add-one}
use native.Mathlib.Omega.{arith}
use mathlib.Core.Path.{◌≡◌, refl, sym, ap, ◌∙◌}
use mathlib.Core.Bool.{true}
use mathlib.Core.List.{List, ◌++◌}
use lib.ListN.{length, take, drop, length-take, length-drop}
use Rattle.model.specs.Bytes.{word, padded, put_at, joined}
use Rattle.model.specs.Vector.{blocks_for}
use Rattle.model.specs.Record.{Rec}
use Rattle.model.specs.Log.{records_of, sound_log_on}
use Rattle.model.specs.Block.{Header, sealed}
use Rattle.model.specs.File.{header_of}
use Rattle.run_model.specs.Runs.{letters2, head_as, body_as, block_as, behind, run_block, run_to}
use Rattle.byte_slice.proofs.PutAt.{put_more, put-nil, length-padded}
use Rattle.block_laws.proofs.Fields.{Sized, length-joined}
use Rattle.encoding_laws.proofs.Files.{sized_take, sized_drop}
use Rattle.encoding_laws.proofs.Logs.{sound_proper_on, proper_sized, sound_records_on}
use Rattle.run_laws.proofs.Runs.{run_length}
use Rattle.sab2_model.specs.Rows.{row_count, base_rows}
use Rattle.sab2_rows.proofs.Gathered.{length_rows, rows_sized, padded_twice}
use Rattle.write_file_blocks.proofs.Blocks.{take_six}

-- ---- any run

-- no block of a run is written yet
pub run_none : (t : List ℕ) (h : Header) (l : List Rec) (d : List ℕ) (at : ℕ) → d ≡ put_at d at (run_to t h l 0)
unfolding run_to
run_none t h l d at = sym (put-nil d at)

-- one block more, at the place p + k
pub run_more : (t : List ℕ) (h : Header) (l : List Rec) (d : List ℕ) (p k : ℕ) {e s o : List ℕ} → length t ≡ 4 → Sized l → 512 * (p + k) ≤ length d
    → e ≡ put_at d (512 * p) (run_to t h l k) → s ≡ run_block t h l k → o ≡ put_at e (512 * (p + k)) s → o ≡ put_at d (512 * p) (run_to t h l (k + 1))
unfolding run_to
run_more t h l d p k four sized room he hs ho =
    let r = run_to t h l k in
    let n : 512 * p + length r ≡ 512 * (p + k) = omega (arith, run_length t four h l sized k) in
    let w : put_at (put_at d (512 * p) r) (512 * (p + k)) (run_block t h l k) ≡ put_at d (512 * p) (r ++ run_block t h l k) =
    rw n at (put_more d (512 * p) r (run_block t h l k) (omega arith)) in
    ho ∙ rw (he, hs, add-one k) w

pub run_all : (t : List ℕ) (h : Header) (l : List Rec) (d : List ℕ) (at k n : ℕ) {o : List ℕ} → k ≤ n → n ≤ k → o ≡ put_at d at (run_to t h l k) → o ≡ put_at d at (run_to t h l n)
run_all t h l d at k n h₁ h₂ e = let q : k ≡ n = omega arith in rw q at e

-- ---- the rows of a base

pub base_sized : (b : List ℕ) → Sized (base_rows b)
unfolding base_rows
base_sized b = rows_sized b 0 (row_count (word b 2) (word b 4))

pub length_base_rows : (b : List ℕ) → length (base_rows b) ≡ row_count (word b 2) (word b 4)
unfolding base_rows
length_base_rows b = length_rows b 0 (row_count (word b 2) (word b 4))

-- a block of the rows gathered for it
pub rows_block : (b h : List ℕ) (a u k : ℕ) {e c r n : ℕ} {rows o : List ℕ} → e ≡ word b 2 → c ≡ word b 4 → r ≡ row_count e c → n ≡ min 6 (r - 6 * k)
    → rows ≡ padded 480 (joined (take n (drop (6 * k) (base_rows b))))
    → o ≡ sealed (head_as letters2 (record { archive = a; sender = u; place = k; vector = h }) n ++ padded 480 rows)
    → o ≡ run_block letters2 (header_of a u 0 h) (base_rows b) k
unfolding run_block block_as body_as behind header_of
rows_block b h a u k {e} {c} {r} {n} he hc hr hn hrows ho =
    let l : List Rec = drop (6 * k) (base_rows b) in
    let lr : length (base_rows b) ≡ r = length_base_rows b ∙ rw (← he, ← hc) (sym hr) in
    let ll : length l ≡ r - 6 * k = length-drop (6 * k) (base_rows b) ∙ rw lr in
    let six : take 6 l ≡ take n l = take_six l n (hn ∙ rw ll) in
    let ln : length (take 6 l) ≡ n = omega (arith, length-take 6 l) in
    let sized : Sized (take n l) = sized_take n l (sized_drop (6 * k) (base_rows b) (base_sized b)) in
    let short : length (joined (take n l)) ≤ 480 = omega (arith, length-joined (take n l) sized, length-take n l) in
    let z : 0 + k ≡ k = omega arith in
    ho ∙ rw (hrows, padded_twice 480 (joined (take n l)) short, ln, six, z)

-- six places are enough
pub rows_short : (b : List ℕ) (i k r : ℕ) {n : ℕ} {rows : List ℕ} → n ≡ min 6 (r - 6 * k) → rows ≡ padded 480 (joined (take n (drop i (base_rows b)))) → length rows ≤ 480
rows_short b i k r {n} hn e =
    let l : List Rec = drop i (base_rows b) in
    let sized : Sized (take n l) = sized_take n l (sized_drop i (base_rows b) (base_sized b)) in
    let short : length (joined (take n l)) ≤ 480 = omega (arith, length-joined (take n l) sized, length-take n l) in
    omega (arith, ap (λ (x : List ℕ). length x) e, length-padded 480 (joined (take n l)) short)

pub rows_more : (b h d : List ℕ) (a u k : ℕ) {e s o : List ℕ} → o ≡ put_at e (512 * k) s → s ≡ run_block letters2 (header_of a u 0 h) (base_rows b) k
    → e ≡ put_at d 0 (run_to letters2 (header_of a u 0 h) (base_rows b) k) → length d ≡ 95232 → k < 100
    → o ≡ put_at d 0 (run_to letters2 (header_of a u 0 h) (base_rows b) (k + 1))
rows_more b h d a u k ho hs he long few =
    let z : 512 * (0 + k) ≡ 512 * k = omega arith in
    run_more letters2 (header_of a u 0 h) (base_rows b) d 0 k refl (base_sized b) (omega arith) he hs (rw z ho)

-- as many as there are
pub rows_few : (e c : ℕ) {r : ℕ} → e ≤ 512 → c ≤ 512 → r ≡ row_count e c → (r + 5) / 6 ≤ 100
unfolding blocks_for row_count
rows_few e c h g k = omega arith

pub rows_begun : (e c k n : ℕ) → n ≡ blocks_for (row_count e c) → k < n → 6 * k ≤ row_count e c
unfolding blocks_for
rows_begun e c k n h g = omega arith

pub rows_blocks : (e c : ℕ) {r : ℕ} → r ≡ row_count e c → (r + 5) / 6 ≡ blocks_for (row_count e c)
unfolding blocks_for
rows_blocks e c h = rw h

-- ---- the records of a log

pub sound_sized : (v b : List ℕ) → sound_log_on v b ≡ true → Sized (records_of b)
sound_sized v b s = proper_sized (records_of b) (sound_proper_on v (records_of b) (sound_records_on v b s))

pub records_more : (v b h d : List ℕ) (a u p k : ℕ) {e s o : List ℕ} → o ≡ put_at e (512 * (p + k)) s → s ≡ run_block letters2 (header_of a u p h) (records_of b) k
    → e ≡ put_at d (512 * p) (run_to letters2 (header_of a u p h) (records_of b) k) → sound_log_on v b ≡ true → length d ≡ 95232 → p + k < 186
    → o ≡ put_at d (512 * p) (run_to letters2 (header_of a u p h) (records_of b) (k + 1))
records_more v b h d a u p k ho hs he sound long few =
    run_more letters2 (header_of a u p h) (records_of b) d p k refl (sound_sized v b sound) (omega arith) he hs ho

pub records_few : (used n : ℕ) → n ≡ (used + 5) / 6 → used ≤ 512 → n ≤ 86
records_few used n h g = omega arith

pub records_begun : (used k n : ℕ) → n ≡ (used + 5) / 6 → k < n → 6 * k ≤ used
records_begun used k n h g = omega arith

pub records_ends : (b : List ℕ) (used n : ℕ) → n ≡ (used + 5) / 6 → used ≡ length (records_of b) → n ≡ blocks_for (length (records_of b))
unfolding blocks_for
records_ends b used n h e = h ∙ rw e
