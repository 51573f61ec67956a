-- The lengths of a block's parts, and the records that stand in it.
-- Assumes nothing.
use Prim.Native.Nat.{ℕ, zero, suc, ◌+◌, ◌*◌, ◌≤◌, ◌<◌}
use native.Mathlib.Omega.{arith}
use mathlib.Core.Path.{◌≡◌, refl, ap, ◌∙◌}
use mathlib.Core.List.{List, [], ◌∷◌, ◌++◌, append_assoc, append-nil}
use lib.ListN.{get_or, length, take, drop, length-append, length-take}
use lib.Seq.{drop-cons, take-append-add}
use Rattle.model.specs.Bytes.{two, four, part, padded, joined}
use Rattle.model.specs.Vector.{vector_bytes}
use Rattle.model.specs.Record.{Rec}
use Rattle.model.specs.Block.{Header, letters, head_bytes, body_bytes, sealed, block_of, first_to, second_to, record_at, records_from}
use Rattle.run_model.specs.Runs.{head_as, body_as, block_as}
use Rattle.vector.proofs.InBytes.{vector_bytes-length}
use Rattle.byte_slice.proofs.Parts.{part_start, part-behind, part_middle}
use Rattle.byte_slice.proofs.PutAt.{length-padded}

-- ---- records laid end to end

-- every record has 80 bytes
abbrev pub Sized : List Rec → Type 0
Sized [] = Unit {0}
Sized (r ∷ l) = (length r ≡ 80) × Sized l

pub length-joined : (l : List Rec) → Sized l → length (joined l) ≡ 80 * length l
unfolding joined
length-joined [] z = refl
length-joined (r ∷ l) z = omega (arith, length-append r (joined l), z.0, length-joined l z.1)

pub sized_take : (n : ℕ) (l : List Rec) → Sized l → Sized (take n l)
sized_take zero l z = tt
sized_take (suc n) [] z = tt
sized_take (suc n) (x ∷ l) z = (z.0, sized_take n l z.1)

pub sized_drop : (n : ℕ) (l : List Rec) → Sized l → Sized (drop n l)
sized_drop zero l z = z
sized_drop (suc n) [] z = tt
sized_drop (suc n) (x ∷ l) z = sized_drop n l z.1

pub six : (l : List Rec) → length (take 6 l) ≤ 6
six l = omega (arith, length-take 6 l)

joined_front : (l : List Rec) (m : ℕ) (t : List ℕ) → Sized l → m ≤ length l → take (80 * m) (joined l ++ t) ≡ joined (take m l)
unfolding joined
joined_front l zero t z h = refl
joined_front [] (suc m) t z h = absurd (omega arith)
joined_front (r ∷ l) (suc m) t z h =
    let n : 80 * suc m ≡ length r + 80 * m = omega (arith, z.0) in
    rw (append_assoc r (joined l) t, n, take-append-add r (joined l ++ t) (80 * m), joined_front l m t z.1 (omega arith))

-- the records from a place on, where they stand
pub joined-part : (l : List Rec) (j m : ℕ) (t : List ℕ) → Sized l → j + m ≤ length l → part (joined l ++ t) (80 * j) (80 * m) ≡ joined (take m (drop j l))
unfolding joined
joined-part l zero m t z h = part_start (joined l ++ t) (80 * m) ∙ joined_front l m t z (omega arith)
joined-part [] (suc j) m t z h = absurd (omega arith)
joined-part (r ∷ l) (suc j) m t z h =
    let n : 80 * suc j ≡ length r + 80 * j = omega (arith, z.0) in
    rw (append_assoc r (joined l) t, n, part-behind r (joined l ++ t) (80 * j) (80 * m)) (joined-part l j m t z.1 (omega arith))

pub joined_at : (l : List Rec) (i : ℕ) (t : List ℕ) → Sized l → i < length l → part (joined l ++ t) (80 * i) 80 ≡ get_or l i []
unfolding joined
joined_at l i t z h = joined-part l i 1 t z (omega arith) ∙ rw (drop-cons l i [] h, append-nil)

pub joined-append : (a b : List Rec) → joined (a ++ b) ≡ joined a ++ joined b
unfolding joined
joined-append [] b = refl
joined-append (r ∷ a) b = rw (joined-append a b, append_assoc r)

record_middle : (p x t : List ℕ) (i : ℕ) → length p ≡ 28 + 80 * i → length x ≡ 80 → record_at (p ++ (x ++ t)) i ≡ x
unfolding record_at
record_middle p x t i e h = rw (e, h) at (part_middle p x t)

-- records that stand behind 28 bytes and i records
pub records_back : (l : List Rec) (p r : List ℕ) (i : ℕ) → Sized l → length p ≡ 28 + 80 * i → records_from (p ++ (joined l ++ r)) i (length l) ≡ l
unfolding records_from joined
records_back [] p r i z e = refl
records_back (x ∷ l) p r i z e =
    let b : p ++ ((x ++ joined l) ++ r) ≡ p ++ (x ++ (joined l ++ r)) = ap (λ (t : List ℕ). p ++ t) (append_assoc x (joined l) r) in
    let n : length (p ++ x) ≡ 28 + 80 * suc i = omega (arith, length-append p x, z.0) in
    let here : record_at (p ++ ((x ++ joined l) ++ r)) i ≡ x = rw b (record_middle p x (joined l ++ r) i e z.0) in
    let rest : records_from (p ++ ((x ++ joined l) ++ r)) (suc i) (length l) ≡ l =
    rw b (rw (append_assoc p x (joined l ++ r)) at (records_back l (p ++ x) r (suc i) z.1 n)) in
    ap (λ (y : Rec). y ∷ records_from (p ++ ((x ++ joined l) ++ r)) (suc i) (length l)) here ∙ ap (λ (t : List Rec). x ∷ t) rest

-- ---- header, body and block, under any four letters; SAB1's are a case

pub length-sealed : (b : List ℕ) → length (sealed b) ≡ length b + 4
unfolding sealed
length-sealed b = length-append b (two (first_to b 254) ++ two (second_to b 254))

module _ (t : List ℕ) (t4 : length t ≡ 4) (h : Header) where
  pub length-head_as : (n : ℕ) → length (head_as t h n) ≡ 28
  unfolding head_as
  length-head_as n =
      omega (arith, length-append t (four h.archive ++ ((h.sender ∷ n ∷ []) ++ (two h.place ++ vector_bytes h.vector))), vector_bytes-length h.vector)

  pub length-body_as : (l : List Rec) → Sized l → length l ≤ 6 → length (body_as t h l) ≡ 508
  unfolding body_as
  length-body_as l z k =
      omega (arith, length-append (head_as t h (length l)) (padded 480 (joined l)), length-head_as (length l), length-padded 480 (joined l) (omega (arith, length-joined l z)))

  pub length-block_as : (l : List Rec) → Sized l → length l ≤ 6 → length (block_as t h l) ≡ 512
  unfolding block_as
  length-block_as l z k = omega (arith, length-sealed (body_as t h l), length-body_as l z k)

-- a block of SAB1
pub block_sab1 : (h : Header) (l : List Rec) → block_of h l ≡ block_as letters h l
unfolding block_as body_as head_as block_of body_bytes head_bytes
block_sab1 h l = refl

pub length_block : (h : Header) (l : List Rec) → Sized l → length l ≤ 6 → length (block_of h l) ≡ 512
length_block h l z k = rw block_sab1 (length-block_as letters refl h l z k)
