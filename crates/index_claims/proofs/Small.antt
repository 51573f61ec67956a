-- The counts of a held vector stay numbers of 16 bits: an act has a number free, and a take is given bytes.
-- Assumes nothing.
use Prim.Native.Nat.{ℕ, zero, suc, ◌+◌, ◌*◌, ◌<◌}
use native.Mathlib.Omega.{arith}
use mathlib.Core.Path.{◌≡◌, sym, subst}
use mathlib.Core.Logic.{◌⊎◌, inl, inr, ⊎_elim}
use mathlib.Core.Bool.{true, false}
use mathlib.Core.List.{List, [], ◌∷◌, ◌++◌}
use lib.Dec.{eqb}
use lib.ListN.{get_or, length, take, drop}
use lib.Seq.{get_or-drop}
use borrow.Author.Tests.{eqb-true}
use Rattle.byte_slice.proofs.Numbers.{lt_or_ge, bool_cases}
use Rattle.model.specs.Bytes.{part}
use Rattle.model.specs.Record.{Rec, unit, num}
use Rattle.model.specs.Log.{count_on, vector_on, records_of}
use Rattle.model.specs.Block.{count_in, record_at, records_from, block_records}
use Rattle.model.specs.File.{block_at}
use Rattle.base_model.specs.Base.{base_vector}
use Rattle.call_model.specs.Outcome.{Outcome, stamped, take_of}
use Rattle.row_model.specs.Row.{try_from}
use Rattle.record.proofs.Ranks.{num_bound}
use Rattle.log_laws.specs.Members.{Has}
use Rattle.log_laws.specs.Sound.{SoundOn}
use Rattle.log_laws.proofs.Members.{has_append}
use Rattle.log_laws.proofs.Counts.{find_held_on, number_held_on, unit_of_on}
use Rattle.log_laws.proofs.Tests.{vector_on_get_d}
use Rattle.act_laws.proofs.Act.{stamped-num}
use Rattle.call_laws.specs.Keeps.{Good}
use Rattle.call_laws.proofs.States.{good_records}
use Rattle.call_laws.proofs.Calls.{take-keeps, take_cases, take_grown}
use Rattle.index_claims.specs.Lists.{Bytes, SmallOn}

-- ---- from the numbers of the records

small_from : (v : List ℕ) (m : List Rec) → SoundOn v m → ((u : ℕ) → u < 8 → get_or v u 0 < 65536) → ((s : Rec) → Has s m → num s < 65536)
    → (u : ℕ) → u < 8 → get_or (vector_on v m) u 0 < 65536
small_from v m h low each u k =
    let e = vector_on_get_d v m u k in
    ⊎_elim
    (λ (c : get_or v u 0 < count_on v u m).
    let (s, i, _, q) = find_held_on v m u (count_on v u m) h c (omega arith) in
    omega (arith, each s i))
    (λ c. omega (arith, low u k))
    (lt_or_ge (get_or v u 0) (count_on v u m))

module _ (log base : List ℕ) (g : Good log base) (small : SmallOn log base) where
  base_small : (u : ℕ) → u < 8 → get_or (base_vector base) u 0 < 65536
  base_small u k = omega (arith, small u k, vector_on_get_d (base_vector base) (records_of log) u k)

  held_small : (s : Rec) → Has s (records_of log) → num s < 65536
  held_small s i =
      let v : List ℕ = base_vector base in
      let h = good_records log base g in
      let k = unit_of_on v [] (records_of log) s h i in
      omega (arith, number_held_on v (records_of log) s h i, small (unit s) k, vector_on_get_d v (records_of log) (unit s) k)

  -- ---- acting

  pub act_small : (u : ℕ) (w next : List ℕ) → length w ≡ 80 → count_on (base_vector base) u (records_of log) < 65535 → Good next base
      → records_of next ≡ records_of log ++ (stamped u (base_vector base) (records_of log) w ∷ []) → SmallOn next base
  act_small u w next n c h e =
      let v : List ℕ = base_vector base in
      let r : Rec = stamped u v (records_of log) w in
      small_from v (records_of next) (good_records next base h) base_small (λ s i.
      ⊎_elim
      (λ j. held_small s j)
      (⊎_elim (λ (q : s ≡ r). rw q (omega (arith, stamped-num u v (records_of log) w n))) (λ q. absurd q))
      (has_append (records_of log) (r ∷ []) s (rw e at i)))

-- ---- taking

take_bytes : (n : ℕ) (b : List ℕ) → Bytes b → Bytes (take n b)
take_bytes zero b h j = omega arith
take_bytes (suc n) [] h j = omega arith
take_bytes (suc n) (x ∷ b) h zero = h 0
take_bytes (suc n) (x ∷ b) h (suc j) = take_bytes n b (λ i. h (suc i)) j

part_bytes : (b : List ℕ) (at n : ℕ) → Bytes b → Bytes (part b at n)
unfolding part
part_bytes b at n h = take_bytes n (drop at b) (λ j. rw (get_or-drop at b j 0) (h (at + j)))

from_bytes : (b : List ℕ) (i n : ℕ) → Bytes b → (s : Rec) → Has s (records_from b i n) → Bytes s
unfolding records_from record_at
from_bytes b i zero h s k = absurd k
from_bytes b i (suc n) h s (inl e) = rw e (part_bytes b (28 + 80 * i) 80 h)
from_bytes b i (suc n) h s (inr k) = from_bytes b (suc i) n h s k

block_small : (b : List ℕ) → Bytes b → (s : Rec) → Has s (block_records b) → num s < 65536
unfolding block_records
block_small b h s i = num_bound s (from_bytes b 0 (count_in b) h s i)

pub take_small : (archive u : ℕ) (log base b : List ℕ) → Good log base → SmallOn log base → Bytes b → SmallOn (take_of archive u log base b).log base
take_small archive u log base b g small h =
    ⊎_elim
    (λ (e : (take_of archive u log base b).log ≡ log). subst (λ (x : List ℕ). SmallOn x base) (sym e) small)
    (λ (m, e, q, _).
    let w = take_grown log base (block_records b) m g e in
    subst (λ (l : List Rec). (k : ℕ) → k < 8 → get_or (vector_on (base_vector base) l) k 0 < 65536) (sym q)
    (small_from (base_vector base) m w.sound (base_small log base g small) (λ s i.
    ⊎_elim (λ j. held_small log base g small s j) (λ j. block_small b h s j) (w.from s i))))
    (take_cases archive u log base b)

-- ---- taking a row

block_bytes : (row : List ℕ) (k : ℕ) → Bytes row → Bytes (block_at row k)
unfolding block_at
block_bytes row k h = part_bytes row (512 * k) 512 h

pub row_small : (archive u : ℕ) (base row : List ℕ) → Bytes row → (n k : ℕ) (log : List ℕ) → Good log base → SmallOn log base → SmallOn (try_from archive u base row log k n).log base
unfolding try_from
row_small archive u base row h zero k log g small = small
row_small archive u base row h (suc n) k log g small =
    let b : List ℕ = block_at row k in
    let o : Outcome = take_of archive u log base b in
    ⊎_elim
    (λ (a : eqb (take_of archive u log base (block_at row k)).number 0 ≡ true).
    rw a (row_small archive u base row h n (suc k) o.log ((take-keeps archive u log base b).accepted (eqb-true o.number 0 a)) (take_small archive u log base b g small (block_bytes row k h))))
    (λ (a : eqb (take_of archive u log base (block_at row k)).number 0 ≡ false). rw a small)
    (bool_cases (eqb (take_of archive u log base (block_at row k)).number 0))
