-- The bytes of a base, written over zeros.
-- Assumes nothing.
use Prim.Native.Nat.{ℕ, ◌+◌, ◌-◌, ◌*◌, ◌≤◌}
use native.Mathlib.Nat.{add-zero}
use native.Mathlib.Omega.{arith}
use mathlib.Core.Path.{◌≡◌, sym, ap, ◌∙◌}
use mathlib.Core.Bool.{Bool, true, false, cond}
use mathlib.Core.List.{List, [], ◌∷◌, ◌++◌, append_assoc}
use lib.ListN.{length, replicate, length-append, length-replicate, replicate-append-replicate}
use lib.Seq.{take_all}
use Rattle.model.specs.Bytes.{two, part, put_at, padded}
use Rattle.model.specs.Vector.{vector_bytes}
use Rattle.model.specs.Replay.{Entry, Aside, Tree, is_present, present_ones, trim}
use Rattle.model.specs.Table.{entry_rows, aside_rows, flagged, work_bytes}
use Rattle.base_model.specs.Base.{base_bytes}
use Rattle.byte_slice.proofs.Parts.{part_front, part-behind, part_start}
use Rattle.byte_slice.proofs.PutAt.{put_in_front, put_in_back, put-padded, padded-nil, length-padded}
use Rattle.vector.proofs.InBytes.{vector_bytes-length}
use Rattle.tree_table.specs.Rows.{tree_in, AllProper}
use Rattle.tree_table.proofs.Rows.{rows_length, aside_rows_length}
use Rattle.tree_finish.specs.Finishing.{kept_to, present_to}
use Rattle.tree_finish.proofs.Compaction.{kept_rows, present_rows}
use Rattle.tree_lookup.proofs.Working.{entries_length, asides_length}
use Rattle.fold_count_laws.specs.Counted.{present_count}
use Rattle.fold_base.specs.Written.{headed, base_of}

-- ---- three parts of zeros

-- the head
head_written : (m entries asides : ℕ) (v r : List ℕ)
    → headed (replicate 24 0 ++ r) m entries asides v ≡ ((m ∷ 0 ∷ two entries) ++ (two asides ++ ((0 ∷ 0 ∷ []) ++ vector_bytes v))) ++ r
unfolding headed put_at
head_written m entries asides v r = rw (vector_bytes-length v)

put-zeros : (n : ℕ) (x : List ℕ) → put_at (replicate n 0) 0 x ≡ padded n x
put-zeros n x = rw (← padded-nil n) (put-padded n [] x)

three : (k a b : ℕ) → replicate {A = ℕ} (k + (a + b)) 0 ≡ replicate k 0 ++ (replicate a 0 ++ replicate b 0)
three k a b = sym (rw (replicate-append-replicate {A = ℕ} a b 0) (replicate-append-replicate {A = ℕ} k (a + b) 0))

-- rows of entries and of asides over zeros
rows_laid : (k a b : ℕ) (x y : List ℕ) → length x ≤ a → length y ≤ b
    → put_at (put_at (replicate (k + (a + b)) 0) k x) (k + a) y ≡ replicate k 0 ++ (padded a x ++ padded b y)
rows_laid k a b x y h g =
    let p : List ℕ = replicate k 0 in
    let q : List ℕ = replicate a 0 in
    let r : List ℕ = replicate b 0 in
    let lp : length p ≡ k = length-replicate {A = ℕ} k 0 in
    let lq : length q ≡ a = length-replicate {A = ℕ} a 0 in
    let one : put_at (p ++ (q ++ r)) k x ≡ p ++ (padded a x ++ r) =
    (rw (add-zero (length p), lp) at (put_in_back p (q ++ r) 0 x)) ∙ ap (λ (z : List ℕ). p ++ z) (put_in_front q r 0 x (omega arith) ∙ rw (put-zeros a x)) in
    let lx : length (padded a x) ≡ a = length-padded a x h in
    let lpx : length (p ++ padded a x) ≡ k + a = omega (arith, length-append p (padded a x)) in
    let two' : put_at ((p ++ padded a x) ++ r) (k + a) y ≡ (p ++ padded a x) ++ padded b y =
    (rw (add-zero (length (p ++ padded a x)), lpx) at (put_in_back (p ++ padded a x) r 0 y)) ∙ rw (put-zeros b y) in
    rw (three k a b, one, ← append_assoc p (padded a x) r, two', append_assoc p (padded a x) (padded b y))

-- ---- a working table

proper_present : (es : List Entry) → AllProper es → AllProper (present_ones es)
unfolding present_ones
proper_present [] h = tt
proper_present (e ∷ es) h = go (is_present e) (proper_present es h.1)
  where
    go : (b : Bool) → AllProper (present_ones es) → AllProper (cond b (e ∷ present_ones es) (present_ones es))
    go true k = (h.0, k)
    go false k = k

asides_in : (s : List Aside) (es : List Entry) (l : List Aside) → AllProper es → length es ≤ 1024 → length l ≤ 1024 → part (flagged s es l) 73732 (12 * length l) ≡ aside_rows l
unfolding flagged padded
asides_in s es l fit room few =
    let e : List ℕ = entry_rows s es in
    let z : List ℕ = replicate (73728 - length e) 0 in
    let a : List ℕ = aside_rows l in
    let y : List ℕ = replicate (12288 - length a) 0 in
    let front : List ℕ = 0 ∷ 0 ∷ 0 ∷ 0 ∷ (e ++ z) in
    let n : length front ≡ 73732 = omega (arith, rows_length s es fit, length-append e z, length-replicate {A = ℕ} (73728 - length e) 0) in
    let m = aside_rows_length l in
    let q : part (front ++ (a ++ y)) 73732 (12 * length l) ≡ part (a ++ y) 0 (12 * length l) = rw (add-zero (length front), n) at (part-behind front (a ++ y) 0 (12 * length l)) in
    q ∙ (part_front a y 0 (12 * length l) (omega arith) ∙ (part_start a (12 * length l) ∙ take_all (12 * length l) a (omega arith)))

module _ (b : List ℕ) (n m : ℕ) (t : Tree) (table : b ≡ work_bytes t) (fit : AllProper t.entries) (many : length t.entries ≡ n) (notes : length t.asides ≡ m) (rows_fit_lem : n ≤ 1024) (notes_fit : m ≤ 512) where
  kept : kept_to b n ≡ entry_rows [] (present_ones t.entries)
  unfolding work_bytes
  kept =
      let e = kept_rows [] t.entries t.asides fit (omega arith) n (omega arith) in
      rw table (rw (take_all n t.entries (omega arith)) at e)

  shown : present_to b n ≡ present_count t
  unfolding work_bytes present_count
  shown =
      let e = present_rows [] t.entries t.asides fit (omega arith) n (omega arith) in
      rw table (rw (take_all n t.entries (omega arith)) at e)

  noted : part b 73732 (12 * m) ≡ aside_rows t.asides
  unfolding work_bytes
  noted = rw (table, ← notes) (asides_in [] t.entries t.asides fit (omega arith) (omega arith))

  -- the bytes of the base
  written : (list : ℕ) (v : List ℕ) → present_count t ≤ 512
      → headed (put_at (put_at (replicate 43032 0) 24 (kept_to b n)) 36888 (part b 73732 (12 * m))) list (present_to b n) m v ≡ base_bytes (base_of list v (trim t))
  unfolding base_bytes trim present_count
  written list v h =
      let es : List Entry = present_ones t.entries in
      let x : List ℕ = entry_rows [] es in
      let y : List ℕ = aside_rows t.asides in
      let lx : length x ≡ 72 * length es = rows_length [] es (proper_present t.entries fit) in
      let ly = aside_rows_length t.asides in
      let laid : put_at (put_at (replicate 43032 0) 24 x) 36888 y ≡ replicate 24 0 ++ (padded 36864 x ++ padded 6144 y) = rows_laid 24 36864 6144 x y (omega arith) (omega arith) in
      rw (kept, noted, shown, laid, head_written list (length es) m v (padded 36864 x ++ padded 6144 y), notes)

-- ---- what `write_base` is asked, over plain values

entries_many : (b : List ℕ) (n m : ℕ) → length (tree_in b n m).entries ≡ n
unfolding tree_in
entries_many b n m = entries_length b 0 n

asides_many : (b : List ℕ) (n m : ℕ) → length (tree_in b n m).asides ≡ m
unfolding tree_in
asides_many b n m = asides_length b 0 m

module _ (b : List ℕ) (n m : ℕ) (table : b ≡ work_bytes (tree_in b n m)) (fit : AllProper (tree_in b n m).entries) (rows_fit_lem : n ≤ 1024) (notes_fit : m ≤ 512) (room : present_count (tree_in b n m) ≤ 512) where
  pub room_shown : present_to b n ≤ 512
  room_shown = rw (shown b n m (tree_in b n m) table fit (entries_many b n m) (asides_many b n m) rows_fit_lem notes_fit) room

  pub base_written : (list : ℕ) (v base : List ℕ) {x y z o : List ℕ} {p : ℕ} → length base ≡ 43032 → x ≡ replicate (length base) 0 → y ≡ put_at x 24 (kept_to b n) → p ≡ present_to b n
      → z ≡ put_at y 36888 (part b 73732 (12 * m)) → o ≡ headed z list p m v → o ≡ base_bytes (base_of list v (trim (tree_in b n m)))
  base_written list v base long e f c g h =
      let q = written b n m (tree_in b n m) table fit (entries_many b n m) (asides_many b n m) rows_fit_lem notes_fit list v room in
      h ∙ rw (g, f, e, long, c) q
