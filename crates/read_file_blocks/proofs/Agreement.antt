-- The checks of a file's blocks: one law for each way out, over plain values.
-- Assumes nothing.
use Prim.Native.Nat.{ℕ, suc, ◌+◌, ◌-◌, ◌*◌, ◌/◌, ◌%◌, ◌≤◌, ◌<◌, min}
use native.Mathlib.Nat.{sub_self}
use native.Mathlib.Numerals.{add-one}
use native.Mathlib.Omega.{arith}
use mathlib.Core.Path.{◌≡◌, refl, sym, ap, ◌∙◌}
use mathlib.Core.Bool.{Bool, true, false, cond, not, ◌&&◌, ◌||◌}
use mathlib.Core.List.{List, [], ◌∷◌}
use lib.Dec.{leb, ltb, eqb}
use lib.ListN.{length, take, drop}
use lib.Pointwise.{pointwise}
use borrow.Author.Tests.{eq-eqb, ne_eqb, le-leb, lt-leb, lt-ltb, le-ltb, not-true, not-false}
use Rattle.model.specs.Bytes.{same_bytes, part}
use Rattle.model.specs.Vector.{blocks_for}
use Rattle.model.specs.Block.{letters, archive_in, sender_in, place_in, count_in, vector_in}
use Rattle.model.specs.File.{Fault, file_length, blocks_in, block_at, count_fits, fault, blocks_fault}
use Rattle.run_model.specs.Runs.{block_fault_as}
use Rattle.run_model.specs.Blocks.{count_fits_as, agrees_as, file_block_fault_as, blocks_fault_as}
use Rattle.byte_slice.proofs.Parts.{part_is}
use Rattle.run_laws.proofs.Sab1.{blocks_fault_sab1}

-- ---- the length

module _ (f : List ℕ) (m : ℕ) where
  pub ragged : (length f % 512 ≡ 0 → ⊥) → false ≡ (eqb (length f % 512) 0 && (leb 1 (length f / 512) && leb (length f / 512) m))
  ragged h = rw (ne_eqb (length f % 512) 0 h)

  pub no_block : length f % 512 ≡ 0 → length f / 512 < 1 → false ≡ (eqb (length f % 512) 0 && (leb 1 (length f / 512) && leb (length f / 512) m))
  no_block a h = rw (eq-eqb (length f % 512) 0 a, lt-leb 1 (length f / 512) h)

  pub some_blocks : length f % 512 ≡ 0 → 1 ≤ length f / 512 → leb (length f / 512) m ≡ (eqb (length f % 512) 0 && (leb 1 (length f / 512) && leb (length f / 512) m))
  some_blocks a h = rw (eq-eqb (length f % 512) 0 a, le-leb 1 (length f / 512) h)

pub few_blocks : (f : List ℕ) {t : Bool} → t ≡ (eqb (length f % 512) 0 && (leb 1 (length f / 512) && leb (length f / 512) 86)) → t ≡ file_length f
unfolding file_length
few_blocks f e = e

-- ---- the vectors

pub pointwise_same : (a b : List ℕ) → pointwise eqb a b ≡ same_bytes a b
unfolding same_bytes
pointwise_same [] [] = refl
pointwise_same [] (y ∷ b) = refl
pointwise_same (x ∷ a) [] = refl
pointwise_same (x ∷ a) (y ∷ b) = ap (λ (t : Bool). eqb x y && t) (pointwise_same a b)

-- ---- the count

module _ (n k c : ℕ) where
  pub before_last : k + 1 < n → eqb c 6 ≡ count_fits n k c
  unfolding count_fits
  before_last h = rw (lt-ltb (suc k) n (omega arith))

  pub only_block : n ≤ k + 1 → n ≡ 1 → true ≡ count_fits n k c
  unfolding count_fits
  only_block h e = rw (le-ltb (suc k) n (omega arith), eq-eqb n 1 e)

  pub last_of_more : n ≤ k + 1 → (n ≡ 1 → ⊥) → leb 1 c ≡ count_fits n k c
  unfolding count_fits
  last_of_more h e = rw (le-ltb (suc k) n (omega arith), ne_eqb n 1 e)

-- ---- the count of a block of rows

module _ (r n k c : ℕ) where
  pub behind_rows_lem : {t : Bool} → (r + 5) / 6 ≤ k → t ≡ count_fits n k c → t ≡ count_fits_as r n k c
  unfolding count_fits_as blocks_for
  behind_rows_lem h e = e ∙ rw (le-ltb k ((r + 5) / 6) h)

  module _ {b m : ℕ} (eb : b ≡ c) (h : k < (r + 5) / 6) (e : m ≡ min (r - 6 * k) 6) where
    six_left : min 6 (r - 6 * k) ≡ m
    six_left = omega arith

    pub not_filled : (b ≡ m → ⊥) → false ≡ count_fits_as r n k c
    unfolding count_fits_as blocks_for
    not_filled d = rw (lt-ltb k ((r + 5) / 6) h, six_left, ← eb, ne_eqb b m d)

    pub filled : b ≡ m → (ltb (k + 1) n || eqb (k + 1) ((r + 5) / 6)) ≡ count_fits_as r n k c
    unfolding count_fits_as blocks_for
    filled d = rw (lt-ltb k ((r + 5) / 6) h, six_left, ← eb, eq-eqb b m d, add-one k)

-- ---- a block against its place and the first

module _ (w n k : ℕ) (first b : List ℕ) {p : ℕ} (ep : p ≡ place_in b) where
  pub other_place : (p ≡ k → ⊥) → false ≡ agrees_as w n k first b
  unfolding agrees_as
  other_place h = rw (← ep, ne_eqb p k h)

  module _ {s s₀ : ℕ} (hp : p ≡ k) (es : s ≡ sender_in b) (es₀ : s₀ ≡ sender_in first) where
    pub other_unit : (s ≡ s₀ → ⊥) → false ≡ agrees_as w n k first b
    unfolding agrees_as
    other_unit h = rw (← ep, eq-eqb p k hp, ← es, ← es₀, ne_eqb s s₀ h)

    module _ {a a₀ : ℕ} (hs : s ≡ s₀) (ea : a ≡ archive_in b) (ea₀ : a₀ ≡ archive_in first) where
      pub other_archive_lem : (a ≡ a₀ → ⊥) → false ≡ agrees_as w n k first b
      unfolding agrees_as
      other_archive_lem h = rw (← ep, eq-eqb p k hp, ← es, ← es₀, eq-eqb s s₀ hs, ← ea, ← ea₀, ne_eqb a a₀ h)

      module _ {v v₀ : List ℕ} {t : Bool} (ha : a ≡ a₀) (ev : v ≡ vector_in b) (ev₀ : v₀ ≡ vector_in first) (et : t ≡ same_bytes v v₀) where
        pub other_vector : not t ≡ true → false ≡ agrees_as w n k first b
        unfolding agrees_as
        other_vector h = rw (← ep, eq-eqb p k hp, ← es, ← es₀, eq-eqb s s₀ hs, ← ea, ← ea₀, eq-eqb a a₀ ha, ← ev, ← ev₀, ← et, not-true t h)

        pub fullness_decides : {c : ℕ} {r : Bool} → not t ≡ false → c ≡ count_in b → r ≡ count_fits_as w n k c → r ≡ agrees_as w n k first b
        unfolding agrees_as
        fullness_decides h ec er = er ∙ rw (← ep, eq-eqb p k hp, ← es, ← es₀, eq-eqb s s₀ hs, ← ea, ← ea₀, eq-eqb a a₀ ha, ← ev, ← ev₀, ← et, not-false t h, ← ec)

-- ---- a block of a file

pub blocks_counted : (f : List ℕ) (n : ℕ) → length f ≡ 512 * n → blocks_in f ≡ n
unfolding blocks_in
blocks_counted f n whole = rw whole (omega arith)

module _ (a : List ℕ) (w : ℕ) (f : List ℕ) (n k : ℕ) (whole : length f ≡ 512 * n) where
  lent : take (512 * k + 512 - 512 * k) (drop (512 * k) f) ≡ block_at f k
  unfolding block_at
  lent = part_is f (512 * k) 512

  lent_first : take (512 - 0) (drop 0 f) ≡ block_at f 0
  unfolding block_at part
  lent_first = refl

  module _ {x : ℕ} (ex : x ≡ block_fault_as a (take (512 * k + 512 - 512 * k) (drop (512 * k) f))) where
    alone : x ≡ block_fault_as a (block_at f k)
    alone = rw lent at ex

    pub faulty_alone : (x ≡ 0 → ⊥) → x ≡ file_block_fault_as a w f k
    unfolding file_block_fault_as
    faulty_alone h = rw (← alone, ne_eqb x 0 h)

  module _ {t : Bool} (z : 0 ≡ block_fault_as a (take (512 * k + 512 - 512 * k) (drop (512 * k) f))) (et : t ≡ agrees_as w n k (take (512 - 0) (drop 0 f)) (take (512 * k + 512 - 512 * k) (drop (512 * k) f))) where
    beside : t ≡ agrees_as w (blocks_in f) k (block_at f 0) (block_at f k)
    beside = rw (blocks_counted f n whole, ← lent, ← lent_first) et

    pub disagrees : not t ≡ true → 20 ≡ file_block_fault_as a w f k
    unfolding file_block_fault_as
    disagrees h = rw (← alone z, ← beside, not-true t h)

    pub passes : not t ≡ false → 0 ≡ file_block_fault_as a w f k
    unfolding file_block_fault_as
    passes h = rw (← alone z, ← beside, not-false t h)

-- ---- block after block

module _ (a : List ℕ) (w : ℕ) (f : List ℕ) (n k : ℕ) (inv : blocks_fault_as a w f k (n - k) ≡ blocks_fault_as a w f 0 n) where
  module _ {x : ℕ} (h : k < n) (ex : x ≡ file_block_fault_as a w f k) where
    step : cond (eqb x 0) (blocks_fault_as a w f (k + 1) (n - (k + 1))) (fault x k) ≡ blocks_fault_as a w f 0 n
    unfolding blocks_fault_as
    step = let e : n - k ≡ suc (n - (k + 1)) = omega arith in rw (e, ← ex, ← add-one k) at inv

    pub stops : (x ≡ 0 → ⊥) → fault x k ≡ blocks_fault_as a w f 0 n
    stops z = rw (ne_eqb x 0 z) at step

  pub goes_on_lem : k < n → 0 ≡ file_block_fault_as a w f k → blocks_fault_as a w f (k + 1) (n - (k + 1)) ≡ blocks_fault_as a w f 0 n
  goes_on_lem h z = step h z

  pub ends : k ≤ n → n ≤ k → fault 0 0 ≡ blocks_fault_as a w f 0 n
  unfolding blocks_fault_as
  ends h g = let e : k ≡ n = omega arith in rw (e, sub_self) at inv

-- an SAB1 file is a case
pub sab1_blocks : (f : List ℕ) (n : ℕ) {x : Fault} → x ≡ blocks_fault_as letters 0 f 0 n → x ≡ blocks_fault f 0 n
sab1_blocks f n e = e ∙ sym (blocks_fault_sab1 f n 0)
