-- What reading answers and leaves, over plain values.
-- Assumes nothing.
use Prim.Native.Nat.{ℕ, ◌-◌, ◌*◌, ◌/◌, ◌<◌}
use native.Mathlib.Omega.{arith}
use mathlib.Core.Path.{◌≡◌, sym, ap, ◌∙◌}
use mathlib.Core.Bool.{Bool, true, false}
use mathlib.Core.List.{List}
use lib.ListN.{length, take, drop, replicate, length-take}
use borrow.Author.Tests.{eq-eqb, ne_eqb}
use Rattle.model.specs.Bytes.{same_bytes, part, put_at}
use Rattle.model.specs.File.{block_at, Fault, fault}
use Rattle.base_model.specs.Base.{empty_base}
use Rattle.call_model.specs.Read.{ReadBack, not_read, read_of}
use Rattle.run_model.specs.Runs.{letters2}
use Rattle.sab2_model.specs.Sab2.{row_blocks, sab2_base, record_part, sab2_counted, sab2_records, checked_sab2, is_sab2}
use Rattle.sab2_model.specs.Calls.{read_sab2, read_either, read_either_of}
use Rattle.byte_slice.proofs.PutAt.{put_whole}
use Rattle.sab2_laws.proofs.Forms.{short_begins, sab1_read, sab2_fault_lem}
use Rattle.sab2_laws.proofs.Rewritten.{base_long}
use Rattle.sab2_check.proofs.Behind.{first_block, part_is}
use Rattle.read_file_check.specs.Outcome.{read_back_of}
use Rattle.read_file.specs.From.{read_from}

-- ---- the form

pub too_short : (f : List ℕ) → length f < 4 → false ≡ is_sab2 f
too_short f h = sym (short_begins f h)

pub form_is : (f : List ℕ) {t : Bool} → t ≡ same_bytes (take 4 f) letters2 → t ≡ is_sab2 f
unfolding is_sab2
form_is f e = e

-- ---- the log of an SAB2 file without a fault

pub first_lent : (f : List ℕ) → (checked_sab2 f).number ≡ 0 → length (take (512 - 0) (drop 0 f)) ≡ 512
first_lent f z = omega (arith, first_block f z, length-take 512 f)

pub behind-loaded : (f : List ℕ) → (checked_sab2 f).number ≡ 0 → {p : ℕ} {o : ReadBack} → p ≡ row_blocks f
    → o ≡ read_from (take (512 - 0) (drop 0 f)) (take (512 * (length f / 512) - 512 * p) (drop (512 * p) f)) empty_base → o ≡ read_from (block_at f 0) (record_part f) empty_base
unfolding block_at part
behind-loaded f z ep e = e ∙ rw (part_is f z ep)

-- ---- the ways out of reading an SAB2 file

module _ (log base f : List ℕ) (two : is_sab2 f ≡ true) where
  pub wrong_log : (length log ≡ 40960 → ⊥) → read_back_of 1 0 0 0 0 (replicate 8 0) log base ≡ read_either_of log base f
  unfolding read_either_of not_read
  wrong_log h = rw (ne_eqb (length log) 40960 h)

  module _ (l : length log ≡ 40960) where
    pub wrong_base : (length base ≡ 43032 → ⊥) → read_back_of 1 0 0 0 0 (replicate 8 0) log base ≡ read_either_of log base f
    unfolding read_either_of not_read
    wrong_base h = rw (eq-eqb (length log) 40960 l, ne_eqb (length base) 43032 h)

    module _ (h : length base ≡ 43032) (m q : ℕ) (e : fault m q ≡ checked_sab2 f) where
      pub file_refused : (m ≡ 0 → ⊥) → read_back_of m q 0 0 0 (replicate 8 0) log base ≡ read_either_of log base f
      unfolding read_either_of not_read fault
      file_refused z = rw (eq-eqb (length log) 40960 l, eq-eqb (length base) 43032 h, sab2_fault_lem f two, ← e, ne_eqb m 0 z)

      pub no_fault : m ≡ 0 → (checked_sab2 f).number ≡ 0
      unfolding fault
      no_fault z = sym (ap (λ (x : Fault). x.number) e) ∙ z

      pub file_read : {a u k : ℕ} {v o b s : List ℕ} → m ≡ 0 → s ≡ sab2_base f → b ≡ put_at base 0 s → read_back_of 0 0 a u k v o empty_base ≡ read_from (block_at f 0) (record_part f) empty_base
          → read_back_of 0 0 a u k v o b ≡ read_either_of log base f
      unfolding read_either_of read_either read_sab2 read_from fault sab2_counted sab2_records
      file_read {a} {u} {k} {v} {o} {b} {s} z sb eb r =
          let n : length s ≡ length base = ap (λ (x : List ℕ). length x) sb ∙ (base_long f (no_fault z) ∙ sym h) in
          let bb : b ≡ sab2_base f = eb ∙ (put_whole base s n ∙ sb) in
          let moved : read_back_of 0 0 a u k v o b ≡ read_from (block_at f 0) (record_part f) b =
          ap (λ (y : ReadBack). read_back_of y.number y.place y.archive y.sender y.records y.vector y.log b) r in
          moved ∙ rw (bb, eq-eqb (length log) 40960 l, eq-eqb (length base) 43032 h, sab2_fault_lem f two, ← e, z, two)

-- ---- an SAB1 file

pub as_sab1_lem : (log base f : List ℕ) {o : ReadBack} → is_sab2 f ≡ false → o ≡ read_of log base f → o ≡ read_either_of log base f
as_sab1_lem log base f h r = r ∙ sym (sab1_read log base f h)

pub is_form : (f : List ℕ) {t u : Bool} → t ≡ is_sab2 f → t ≡ u → is_sab2 f ≡ u
is_form f e h = sym e ∙ h
