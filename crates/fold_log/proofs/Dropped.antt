-- The first records leave a log.
-- Assumes nothing.
use Prim.Native.Nat.{ℕ, ◌+◌, ◌-◌, ◌*◌, ◌≤◌}
use native.Mathlib.Nat.{zero-add}
use native.Mathlib.Omega.{arith}
use mathlib.Core.Path.{◌≡◌, refl, ap, ◌∙◌}
use mathlib.Core.Bool.{true}
use mathlib.Core.List.{List, ◌++◌, append_assoc}
use lib.ListN.{length, take, drop, replicate, length-append, length-drop, length-replicate, replicate-append-replicate}
use lib.Seq.{paste, take_all, drop_at}
use borrow.Rule.Slice.PartMut.{put_mid}
use Rattle.model.specs.Bytes.{part, put_at, padded, joined}
use Rattle.model.specs.Record.{Rec}
use Rattle.model.specs.Log.{records_of, sound_log_on, log_bytes}
use Rattle.byte_slice.proofs.Parts.{lent_length, part_length}
use Rattle.byte_slice.proofs.PutAt.{mid_put, put_more, length-put}
use Rattle.block_laws.proofs.Fields.{Sized, length-joined, joined-part}
use Rattle.encoding_laws.proofs.Logs.{sound_proper_on, proper_sized, sound_records_on, sound_bytes_on, sound_few}
use Rattle.encoding_laws.proofs.Files.{sized_drop}

put_start : (d s : List ℕ) → put_at d 0 s ≡ s ++ drop (length s) d
unfolding put_at
put_start d s = rw (zero-add (length s))

-- records in front of zeros, the first n put away and the m behind them moved to the front
front_gone : (l : List Rec) (n m : ℕ) → Sized l → n ≤ length l → length l ≤ 512 → m ≡ length l - n
    → put_at (put_at (log_bytes l) 0 (part (log_bytes l) (80 * n) (80 * m))) (80 * m) (replicate (80 * n) 0) ≡ log_bytes (drop n l)
unfolding log_bytes padded
front_gone l n m z h few e =
    let j : List ℕ = joined (drop n l) in
    let t : List ℕ = replicate (40960 - length (joined l)) 0 in
    let b : List ℕ = joined l ++ t in
    let gone : List ℕ = replicate (80 * n) 0 in
    let all = length-joined l z in
    let rest = length-drop n l in
    let front : part b (80 * n) (80 * m) ≡ j = joined-part l n m t z (omega arith) ∙ ap joined (take_all m (drop n l) (omega arith)) in
    let long : length j ≡ 80 * m = omega (arith, length-joined (drop n l) (sized_drop n l z)) in
    let zeros : length gone ≡ 80 * n = length-replicate {A = ℕ} (80 * n) 0 in
    let fits : 0 + length j ≤ length b = omega (arith, length-append (joined l) t) in
    let two : put_at (put_at b 0 j) (80 * m) gone ≡ put_at b 0 (j ++ gone) = rw (zero-add (length j), long) at (put_more b 0 j gone fits) in
    let cut : length (j ++ gone) ≡ length (joined l) = omega (arith, length-append j gone) in
    let behind : drop (length (j ++ gone)) b ≡ t = rw cut (drop_at (joined l) t (length (joined l)) refl) in
    let count : 80 * n + (40960 - length (joined l)) ≡ 40960 - length j = omega arith in
    rw (front, two, put_start b (j ++ gone), behind, append_assoc j gone t, replicate-append-replicate {A = ℕ} (80 * n) (40960 - length (joined l)) 0, count)

-- bytes copied within
pasted : (d : List ℕ) (from to n : ℕ) → from + n ≤ length d → paste d to (drop from d) n ≡ put_at d to (part d from n)
unfolding put_at part
pasted d from to n h = rw (part_length d from n h, append_assoc)

-- ---- what `drop_front` is asked, over plain values

pub front_dropped : (v b : List ℕ) (used n : ℕ) {x y : List ℕ} → length b ≡ 40960 → sound_log_on v b ≡ true → used ≡ length (records_of b) → n ≤ used → x ≡ paste b 0 (drop (80 * n) b) (80 * used - 80 * n)
    → y ≡ replicate (length (take (80 * used - 80 * (used - n)) (drop (80 * (used - n)) x))) 0
    → put_mid (80 * (used - n)) (80 * used - 80 * (used - n)) x y ≡ log_bytes (drop n (records_of b))
front_dropped v b used n {x} {y} long sound e h f g =
    let l = records_of b in
    let m = used - n in
    let few = sound_few b in
    let same = sound_bytes_on v b long sound in
    let moved : 80 * used - 80 * n ≡ 80 * m = omega arith in
    let all : 80 * used ≡ 80 * m + 80 * n = omega arith in
    let x-is : x ≡ put_at b 0 (part b (80 * n) (80 * m)) = f ∙ rw moved (pasted b (80 * n) 0 (80 * m) (omega arith)) in
    let part-long : length (part b (80 * n) (80 * m)) ≡ 80 * m = part_length b (80 * n) (80 * m) (omega arith) in
    let x-long : length x ≡ 40960 = rw x-is (length-put b 0 (part b (80 * n) (80 * m)) (omega arith) ∙ long) in
    let y-is : y ≡ replicate (80 * n) 0 = (rw all at g) ∙ ap (λ (k : ℕ). replicate k 0) (lent_length x (80 * m) (80 * n) (omega arith)) in
    let zeros : length y ≡ 80 * n = rw y-is (length-replicate {A = ℕ} (80 * n) 0) in
    let whole = front_gone l n m (proper_sized l (sound_proper_on v l (sound_records_on v b sound))) (omega arith) few (omega arith) in
    rw all (mid_put (80 * m) (80 * n) x y zeros ∙ rw (y-is, x-is) (rw same at whole))
