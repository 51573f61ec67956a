-- The row that is handed out: which records each block holds, one block behind another, and the zeros behind them.
-- Assumes nothing.
use Prim.Native.Nat.{ℕ, ◌+◌, ◌-◌, ◌*◌, ◌≤◌, ◌<◌, min}
use native.Mathlib.Numerals.{add-one}
use native.Mathlib.Omega.{arith}
use mathlib.Core.Path.{◌≡◌, sym, ◌∙◌}
use mathlib.Core.Logic.{⊎_elim}
use mathlib.Core.Bool.{Bool, true, false, not}
use mathlib.Core.List.{List, ◌++◌, append-nil}
use lib.Dec.{eqb}
use lib.ListN.{length, take, drop, replicate, length-append, length-take, length-drop, length-replicate}
use lib.Seq.{take_all, drop-length, drop-drop, drop-append-add}
use borrow.Rule.Slice.PartMut.{put_mid}
use borrow.Author.Tests.{not-true, not-false}
use Rattle.model.specs.Vector.{covers, blocks_for}
use Rattle.model.specs.Bytes.{part, padded, joined, put_at}
use Rattle.model.specs.Record.{Rec}
use Rattle.model.specs.Log.{records_of, sound_log_on, lacking}
use Rattle.model.specs.Block.{head_bytes, body_bytes, sealed, block_of}
use Rattle.model.specs.File.{header_of}
use Rattle.base_model.specs.Base.{base_vector}
use Rattle.call_model.specs.Outcome.{outcome}
use Rattle.byte_slice.proofs.Numbers.{lt_or_ge}
use Rattle.byte_slice.proofs.Parts.{part_is}
use Rattle.byte_slice.proofs.PutAt.{mid_put, length-put, drop_put_at, part-put, put_grows}
use Rattle.block_laws.proofs.Fields.{Sized, joined-part}
use Rattle.encoding_laws.proofs.Logs.{sound_proper_on, proper_sized, sound_records_on}
use Rattle.base_head.specs.Head.{headed}
use Rattle.call_guard.specs.Opened.{opened, open_of}
use Rattle.call_guard.proofs.Opening.{open_sound, open_held, open_folded, call_refused, call_passes}
use Rattle.hand_out_pick.proofs.Gathered.{sized_lacking}
use Rattle.row_laws.proofs.Raised.{length-row_block, length-row_to}
use Rattle.row_model.specs.Row.{row_block, row_to, row_of, handed_row, hand_row_of}

-- ---- how many blocks

pub few : (m n : ℕ) → m ≤ 512 → n ≡ blocks_for m → n ≤ 86
unfolding blocks_for
few m n h e = omega arith

pub begun : (m n k : ℕ) → n ≡ blocks_for m → k < n → 6 * k ≤ m
unfolding blocks_for
begun m n k e h = omega arith

pub all_counted : (w : List Rec) (m n : ℕ) → m ≡ length w → n ≡ blocks_for m → n ≡ blocks_for (length w)
all_counted w m n e f = rw e at f

-- ---- the records, gathered in the row

pub fresh : (d : List ℕ) {e : List ℕ} → length d ≡ 44032 → e ≡ put_at d 3072 (replicate 40960 0) → take 40960 (drop 3072 e) ≡ replicate 40960 0
unfolding part
fresh d h p = rw p (rw (length-replicate {A = ℕ} 40960 0) at (part-put d 3072 (replicate 40960 0) (omega arith)))

pub gathered : (e d l : List ℕ) {q : List ℕ} → length e ≡ 44032 → d ≡ put_at e 3072 (replicate 40960 0) → length q ≡ length (take 40960 (drop 3072 d)) → q ≡ padded 40960 l → drop 3072 (put_mid 3072 40960 d q) ≡ padded 40960 l
gathered e d l {q} h f n p =
    let z : List ℕ = replicate 40960 0 in
    let lz : 3072 + length z ≤ length e = omega (arith, length-replicate {A = ℕ} 40960 0) in
    let ld : length d ≡ 44032 = rw f (length-put e 3072 z lz ∙ h) in
    let lq : length q ≡ 40960 = omega (arith, n, length-take 40960 (drop 3072 d), length-drop 3072 d) in
    let at : 3072 + length q ≡ length d = omega arith in
    let x : drop 3072 (put_at d 3072 q) ≡ q = drop_put_at d 3072 q (omega arith) ∙ rw (at, drop-length d, append-nil) in
    rw (mid_put 3072 40960 d q lq) (x ∙ p)

same_part : (s t : List ℕ) (i j n : ℕ) → drop i s ≡ drop j t → part s i n ≡ part t j n
unfolding part
same_part s t i j n e = rw e

-- ---- block k

take_six : (l : List Rec) (n : ℕ) → n ≡ min 6 (length l) → take 6 l ≡ take n l
take_six l n e =
    ⊎_elim
    (λ (h : length l < 6). take_all 6 l (omega arith) ∙ sym (take_all n l (omega arith)))
    (λ (h : 6 ≤ length l). let m : n ≡ 6 = omega arith in rw m)
    (lt_or_ge (length l) 6)

module _ (base b v own : List ℕ) (sound : sound_log_on base b ≡ true) where
  w : List Rec
  w = lacking v (records_of b)

  sized : Sized w
  unfolding w
  sized = sized_lacking v (records_of b) (proper_sized (records_of b) (sound_proper_on base (records_of b) (sound_records_on base b sound)))

  module _ (a u k m c : ℕ) (row : List ℕ) {s : List ℕ} (laid : drop (3072 + 480 * k) row ≡ drop (480 * k) (padded 40960 (joined (lacking v (records_of b))))) (counted : m ≡ length (lacking v (records_of b))) (n : c ≡ min 6 (m - 6 * k)) where
    pub block_is : 6 * k ≤ m → s ≡ sealed (head_bytes (record { archive = a; sender = u; place = 0; vector = own }) c ++ padded 480 (take (3072 + 480 * k + 80 * c - (3072 + 480 * k)) (drop (3072 + 480 * k) row)))
        → s ≡ row_block a u own (lacking v (records_of b)) k
    unfolding row_block header_of block_of body_bytes padded w
    block_is g f =
        let l : List Rec = drop (6 * k) w in
        let t : List ℕ = replicate (40960 - length (joined w)) 0 in
        let e : 80 * (6 * k) ≡ 480 * k = omega arith in
        let i : length (take 6 l) ≡ c = omega (arith, length-take 6 l, length-drop (6 * k) w) in
        let j : joined (take 6 l) ≡ take (3072 + 480 * k + 80 * c - (3072 + 480 * k)) (drop (3072 + 480 * k) row) =
        rw (take_six l c (omega (arith, length-drop (6 * k) w)), part_is row (3072 + 480 * k) (80 * c), same_part row (joined w ++ t) (3072 + 480 * k) (480 * k) (80 * c) laid, ← e) (sym (joined-part w (6 * k) c t sized (omega arith))) in
        f ∙ rw (j, i)

  -- ---- the whole row

  module _ (a u : ℕ) (d : List ℕ) (room : length d ≡ 44032) where
    -- the records of block k are not yet written over
    pub still_lies : (k n : ℕ) {e : List ℕ} → drop 3072 d ≡ padded 40960 (joined (lacking v (records_of b))) → e ≡ row_to a u own (lacking v (records_of b)) k ++ drop (512 * k) d → k < n → n ≤ 86
        → drop (3072 + 480 * k) e ≡ drop (480 * k) (padded 40960 (joined (lacking v (records_of b))))
    unfolding w
    still_lies k n laid p h g =
        let f = row_to a u own w k in
        let i : ℕ = 3072 - 32 * k in
        let lf : length f ≡ 512 * k = length-row_to a u own w sized k in
        let at : 3072 + 480 * k ≡ length f + i = omega arith in
        let to : 512 * k + i ≡ 3072 + 480 * k = omega arith in
        let x : drop (3072 + 480 * k) (f ++ drop (512 * k) d) ≡ drop i (drop (512 * k) d) = rw at (drop-append-add f (drop (512 * k) d) i) in
        rw p (x ∙ drop-drop i (512 * k) d ∙ rw (to, ← laid) (sym (drop-drop (480 * k) 3072 d)))

    -- one block more
    pub goes_on_lem : (k n : ℕ) {e s o : List ℕ} → o ≡ put_at e (512 * k) s → s ≡ row_block a u own (lacking v (records_of b)) k
        → e ≡ row_to a u own (lacking v (records_of b)) k ++ drop (512 * k) d → k < n → n ≤ 86
        → o ≡ row_to a u own (lacking v (records_of b)) (k + 1) ++ drop (512 * (k + 1)) d
    unfolding row_to w
    goes_on_lem k n r q p h g =
        let f = row_to a u own w k in
        let x = row_block a u own w k in
        let lf : length f ≡ 512 * k = length-row_to a u own w sized k in
        let lw : length (f ++ x) ≡ 512 * (k + 1) = omega (arith, length-append f x, length-row_block a u own w sized k) in
        let y : put_at (f ++ drop (512 * k) d) (512 * k) x ≡ (f ++ x) ++ drop (512 * (k + 1)) d = rw (lf, lw) at (put_grows d f x (omega arith)) in
        r ∙ rw (p, q, y, add-one k)

    -- zeros behind the last block
    pub ends : (k n m : ℕ) {e o : List ℕ} → k ≤ n → n ≤ k → n ≤ 86 → n ≡ blocks_for m → m ≡ length (lacking v (records_of b)) → e ≡ row_to a u own (lacking v (records_of b)) k ++ drop (512 * k) d
        → o ≡ put_at e (512 * n) (replicate (44032 - 512 * n) 0) → o ≡ padded 44032 (row_of a u own (records_of b) v)
    unfolding row_of padded w
    ends k n m h g c r q p z =
        let f = row_to a u own w n in
        let y : List ℕ = replicate (44032 - 512 * n) 0 in
        let kn : k ≡ n = omega arith in
        let nc : n ≡ blocks_for (length (lacking v (records_of b))) = all_counted (lacking v (records_of b)) m n q r in
        let lf : length f ≡ 512 * n = length-row_to a u own w sized n in
        let lz : length (f ++ y) ≡ length d = omega (arith, length-append f y, length-replicate {A = ℕ} (44032 - 512 * n) 0) in
        let x : put_at (f ++ drop (512 * n) d) (512 * n) y ≡ f ++ y = (rw (lf, lz) at (put_grows d f y (omega arith))) ∙ rw (drop-length d, append-nil) in
        z ∙ rw (p, kn, x, ← nc, lf)

-- ---- the ways out

module _ (a u : ℕ) (log base v lent : List ℕ) {n m k j : ℕ} {folded held : List ℕ} {used : ℕ} (e : opened n (headed m folded k j) held used ≡ open_of u log base (eqb (length lent) 44032) true) where
  pub hand_refused : (n ≡ 0 → ⊥) → outcome n 0 log lent 0 ≡ hand_row_of a u log base v lent
  unfolding hand_row_of
  hand_refused h = call_refused u log base lent (eqb (length lent) 44032) e (handed_row a u log base v lent) h

  module _ (z : n ≡ 0) where
    pub told_sound : sound_log_on folded log ≡ true
    told_sound = rw (open_folded u log base (eqb (length lent) 44032) true e z) (open_sound u log base (eqb (length lent) 44032) true e z)

    module _ (t : Bool) (c : t ≡ covers v folded) where
      asks : covers v (base_vector base) ≡ t
      asks = sym (rw (open_folded u log base (eqb (length lent) 44032) true e z) at c)

      -- what is lacked may be folded
      pub asked_below : not t ≡ true → outcome 27 0 log lent 0 ≡ hand_row_of a u log base v lent
      unfolding hand_row_of handed_row
      asked_below h =
          let d : outcome 27 0 log lent 0 ≡ handed_row a u log base v lent = rw (asks, not-true t h) in
          d ∙ call_passes u log base lent (eqb (length lent) 44032) e (handed_row a u log base v lent) z

      pub all_handed : not t ≡ false → {i : ℕ} {o : List ℕ} → o ≡ padded 44032 (row_of a u held (records_of log) v) → i ≡ blocks_for (length (lacking v (records_of log))) → outcome 0 0 log o i ≡ hand_row_of a u log base v lent
      unfolding hand_row_of handed_row
      all_handed g {i} {o} p q =
          let d : outcome 0 0 log o i ≡ handed_row a u log base v lent = rw (p, q, open_held u log base (eqb (length lent) 44032) true e z, asks, not-false t g) in
          d ∙ call_passes u log base lent (eqb (length lent) 44032) e (handed_row a u log base v lent) z
