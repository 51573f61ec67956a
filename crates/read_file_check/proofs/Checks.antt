-- Every check of a file: one law for each way out, over plain values.
-- Assumes nothing.
use Prim.Native.Nat.{ℕ, ◌-◌, ◌*◌, ◌/◌, ◌%◌, ◌≤◌}
use native.Mathlib.Omega.{arith}
use mathlib.Core.Path.{◌≡◌, refl, sym, ap, ◌∙◌}
use mathlib.Core.Logic.{◌⊎◌, inl, inr}
use mathlib.Core.Bool.{Bool, true, false, not, ◌&&◌}
use mathlib.Core.List.{List, []}
use lib.Dec.{leb, eqb}
use lib.ListN.{length, take, drop, replicate}
use borrow.Author.Tests.{eq-eqb, ne_eqb, eqb-true, eqb-false, leb-true, not-true, not-false}
use Rattle.model.specs.Bytes.{same_bytes, part}
use Rattle.model.specs.Log.{vector_of, vector_on, no_counts}
use Rattle.model.specs.Block.{letters, vector_in}
use Rattle.model.specs.File.{file_length, blocks_in, block_at, Fault, fault, blocks_fault, records_counted, file_records, counts_fault, or_else, file_fault, checked_fault}
use Rattle.sab2_model.specs.Sab2.{records_fault_on, counts_fault_on}
use Rattle.call_model.specs.Read.{ReadBack, not_read, read_back, read_of}
use Rattle.byte_slice.proofs.Numbers.{bool_cases, and_true, and_wrong}
use Rattle.block_laws.proofs.Faults.{three_passed, stored_header}
use Rattle.run_laws.proofs.Passed.{blocks_passed, block_passed}
use Rattle.run_laws.proofs.Sab1.{blocks_fault_sab1}
use Rattle.held_laws.proofs.Records.{records_sab1}
use Rattle.read_file_blocks.proofs.Agreement.{blocks_counted}
use Rattle.base_model.specs.Base.{empty_base}
use Rattle.call_laws.proofs.Reading.{checked-right}
use Rattle.call_laws.proofs.States.{empty_length}
use Rattle.log_laws.proofs.Tests.{vector_on-none}
use Rattle.log_closure.specs.declared.Tables.{Tables}
use Rattle.log_closure.specs.Tables.{tables, Indexed}
use Rattle.log_check.specs.declared.Layout.TheVariants.{File}
use Rattle.log_check.specs.Places.{laid_at}
use Rattle.read_file_check.specs.Outcome.{Judges, Left, left, records_left, tables_left, file_tables, read_back_of}

-- ---- the length

module _ (f : List ℕ) {t : Bool} (e : t ≡ file_length f) (h : not t ≡ false) where
  tests : (length f % 512 ≡ 0) × (1 ≤ length f / 512) × (length f / 512 ≤ 86)
  unfolding file_length
  tests =
      let (p, q) = and_true (eqb (length f % 512) 0) (leb 1 (length f / 512) && leb (length f / 512) 86) (sym e ∙ not-false t h) in
      let (r, s) = and_true (leb 1 (length f / 512)) (leb (length f / 512) 86) q in
      (eqb-true (length f % 512) 0 p, leb-true 1 (length f / 512) r, leb-true (length f / 512) 86 s)

  pub whole : length f ≡ 512 * (length f / 512)
  whole = omega (arith, tests.0)

  pub some_block : 1 ≤ length f / 512
  some_block = tests.1

  pub few_blocks : length f / 512 ≤ 86
  few_blocks = tests.2

-- ---- records, then the vector

module _ (m : ℕ) (v : List ℕ) (p : ℕ) (f : List ℕ) (rn rp : ℕ) (held places seens : List ℕ) (j : Judges m v p f rn rp held places seens) (n : ℕ) (b : List ℕ) where
  pub record_refused : (rn ≡ 0 → ⊥) → fault rn rp ≡ or_else (records_fault_on m v p [] 0 (file_records f)) (counts_fault_on v n (vector_in b) (file_records f))
  unfolding or_else fault
  record_refused h = sym (rw (← j.first, ne_eqb rn 0 h))

  module _ {w : List ℕ} {t : Bool} (y : rn ≡ 0) (ew : w ≡ vector_in b) (et : t ≡ same_bytes w held) where
    compared : t ≡ same_bytes (vector_in b) (vector_on v (file_records f))
    compared = rw (← (j.holds y).counts, ← ew) et

    pub vector_differs : not t ≡ true → fault 20 (n - 1) ≡ or_else (records_fault_on m v p [] 0 (file_records f)) (counts_fault_on v n (vector_in b) (file_records f))
    unfolding or_else fault counts_fault_on
    vector_differs h = sym (rw (← j.first, y, ← compared, not-true t h))

    pub nothing_refused : not t ≡ false → fault 0 0 ≡ or_else (records_fault_on m v p [] 0 (file_records f)) (counts_fault_on v n (vector_in b) (file_records f))
    unfolding or_else fault counts_fault_on
    nothing_refused h = sym (rw (← j.first, y, ← compared, not-false t h))

module _ (m : ℕ) (v : List ℕ) (p : ℕ) (f : List ℕ) (rn rp : ℕ) (held places seens : List ℕ) (j : Judges m v p f rn rp held places seens) where
  pub held_indexed : rn ≡ 0 → Indexed v (laid_at File f) (records_counted f) (file_records f) (vector_on v (file_records f)) places seens
  held_indexed y = rw (← (j.holds y).counts) (j.holds y)

pub tables-left : (v f held : List ℕ) (before after : Tables) → left held after.places after.seens ≡ records_left v f before.places before.seens → after ≡ tables_left v f before
unfolding tables_left
tables-left v f held before after e = ap (λ (x : Left). tables x.places x.seens) e

-- ---- an SAB1 file: blocks, then what they hold

file_held : (f : List ℕ) → file_fault f ≡ or_else (blocks_fault f 0 (blocks_in f)) (or_else (records_fault_on 255 no_counts 0 [] 0 (file_records f)) (counts_fault_on no_counts (blocks_in f) (vector_in (block_at f 0)) (file_records f)))
unfolding file_fault counts_fault counts_fault_on
file_held f = rw (records_sab1 (file_records f) [] 0, vector_on-none (file_records f))

module _ (f : List ℕ) (n : ℕ) (whole : length f ≡ 512 * n) where
  -- blocks without a fault count no more records than they have places
  pub few_in_blocks : 1 ≤ n → (blocks_fault f 0 n).number ≡ 0 → records_counted f ≤ 6 * n
  unfolding records_counted
  few_in_blocks some z =
      let b = block_at f (n - 1) in
      let a = block_passed letters 0 f (n - 1) (blocks_passed letters 0 f n 0 (rw (blocks_fault_sab1 f n 0) at z) (n - 1) (omega arith) (omega arith)) in
      rw (blocks_counted f n whole) (omega (arith, (stored_header b (three_passed letters b a.good).2).1))

  module _ (bn bp : ℕ) (eb : fault bn bp ≡ blocks_fault f 0 n) where
    pub few_counted : 1 ≤ n → bn ≡ 0 → records_counted f ≤ 6 * (n - 0)
    unfolding fault
    few_counted some z = let e : n - 0 ≡ n = omega arith in rw e (few_in_blocks some (sym (ap (λ (x : Fault). x.number) eb) ∙ z))

    blocks_first : file_fault f ≡ or_else (fault bn bp) (or_else (records_fault_on 255 no_counts 0 [] 0 (file_records f)) (counts_fault_on no_counts n (vector_in (block_at f 0)) (file_records f)))
    blocks_first = file_held f ∙ rw (blocks_counted f n whole, ← eb)

    pub block_refused : (bn ≡ 0 → ⊥) → fault bn bp ≡ file_fault f
    unfolding or_else fault
    block_refused h = sym (blocks_first ∙ rw (ne_eqb bn 0 h))

    pub unread_left : (t : Tables) → (bn ≡ 0 → ⊥) → t ≡ file_tables f t
    unfolding file_tables fault
    unread_left t h = rw (blocks_counted f n whole, ← eb, ne_eqb bn 0 h)

    module _ (z : bn ≡ 0) {v : List ℕ} (none : v ≡ no_counts) where
      pub held-told : (x y : ℕ) → fault x y ≡ or_else (records_fault_on 255 v 0 [] 0 (file_records f)) (counts_fault_on v n (vector_in (take (512 - 0) (drop 0 f))) (file_records f)) → fault x y ≡ file_fault f
      unfolding or_else fault block_at part
      held-told x y e = (rw none at e) ∙ sym (blocks_first ∙ rw z)

      pub read_left : (before after : Tables) → after ≡ tables_left v f before → after ≡ file_tables f before
      unfolding file_tables fault
      read_left before after e = e ∙ rw (none, blocks_counted f n whole, ← eb, z)

pub file_indexed : (f : List ℕ) {v : List ℕ} (places seens : List ℕ) → v ≡ no_counts → Indexed v (laid_at File f) (records_counted f) (file_records f) (vector_on v (file_records f)) places seens
    → Indexed no_counts (laid_at File f) (records_counted f) (file_records f) (vector_of (file_records f)) places seens
file_indexed f places seens none h = rw (← vector_on-none (file_records f)) (rw none at h)

-- ---- the ways out of `checked_fault`

module _ (f : List ℕ) {t : Bool} (e : t ≡ file_length f) where
  pub not_whole : not t ≡ true → fault 2 0 ≡ checked_fault f
  not_whole h = rw (← e, not-true t h)

  pub whole-checked : not t ≡ false → (n p : ℕ) → fault n p ≡ file_fault f → fault n p ≡ checked_fault f
  whole-checked h n p q = q ∙ rw (← e, not-false t h)

-- ---- what reading answers, where no base is lent

module _ (log f : List ℕ) where
  pub log_length : (length log ≡ 40960 → ⊥) → read_back_of 1 0 0 0 0 (replicate 8 0) log empty_base ≡ read_of log empty_base f
  unfolding read_of not_read
  log_length h = rw (ne_eqb (length log) 40960 h)

  -- a base of another length
  pub base_length : (base : List ℕ) → (length base ≡ 43032 → ⊥) → read_back_of 1 0 0 0 0 (replicate 8 0) log base ≡ read_of log base f
  unfolding read_of not_read
  base_length base h = rw (ne_eqb (length base) 43032 h, and_wrong (eqb (length log) 40960))

  module _ (l : length log ≡ 40960) (m q : ℕ) (e : fault m q ≡ checked_fault f) where
    pub file_refused : (m ≡ 0 → ⊥) → read_back_of m q 0 0 0 (replicate 8 0) log empty_base ≡ read_of log empty_base f
    unfolding read_of not_read fault
    file_refused z = rw (eq-eqb (length log) 40960 l, eq-eqb (length empty_base) 43032 empty_length, ← e, ne_eqb m 0 z)

    pub file_read : {a u k : ℕ} {v o : List ℕ} → m ≡ 0 → read_back_of 0 0 a u k v o empty_base ≡ read_back f → read_back_of 0 0 a u k v o empty_base ≡ read_of log empty_base f
    unfolding read_of fault
    file_read z r = r ∙ rw (eq-eqb (length log) 40960 l, eq-eqb (length empty_base) 43032 empty_length, ← e, z)

-- ---- what reading answers, where a base is lent

module _ (log base f : List ℕ) {n p a u k : ℕ} {v o : List ℕ} (r : read_back_of n p a u k v o empty_base ≡ read_of log empty_base f) (l : length base ≡ 43032) where
  -- what was answered of an empty base, of another
  moved : (x : ReadBack) → read_back_of n p a u k v o empty_base ≡ x → read_back_of n p a u k v o base ≡ read_back_of x.number x.place x.archive x.sender x.records x.vector x.log base
  moved x e = ap (λ (y : ReadBack). read_back_of y.number y.place y.archive y.sender y.records y.vector y.log base) e

  pub base_kept : (n ≡ 0 → ⊥) → read_back_of n p a u k v o base ≡ read_of log base f
  unfolding read_of read_back not_read
  base_kept h = go (bool_cases (eqb (length log) 40960)) (bool_cases (eqb (checked_fault f).number 0))
    where
      go : (eqb (length log) 40960 ≡ true) ⊎ (eqb (length log) 40960 ≡ false) → (eqb (checked_fault f).number 0 ≡ true) ⊎ (eqb (checked_fault f).number 0 ≡ false)
          → read_back_of n p a u k v o base ≡ read_of log base f
      go (inl x) (inl y) =
          let s : read_back_of n p a u k v o empty_base ≡ read_back f = rw (x, eq-eqb (length empty_base) 43032 empty_length, y) at r in
          absurd (h (ap (λ (b : ReadBack). b.number) s))
      go (inl x) (inr y) =
          let s : read_back_of n p a u k v o empty_base ≡ not_read log empty_base (checked_fault f).number (checked_fault f).place =
          rw (x, eq-eqb (length empty_base) 43032 empty_length, y) at r in
          rw (x, eq-eqb (length base) 43032 l, y) (moved (not_read log empty_base (checked_fault f).number (checked_fault f).place) s)
      go (inr x) y =
          let s : read_back_of n p a u k v o empty_base ≡ not_read log empty_base 1 0 = rw x at r in
          rw x (moved (not_read log empty_base 1 0) s)

  pub base_emptied : n ≡ 0 → (left : List ℕ) → left ≡ empty_base → read_back_of n p a u k v o left ≡ read_of log base f
  unfolding read_of read_back not_read
  base_emptied z left e = go (bool_cases (eqb (length log) 40960)) (bool_cases (eqb (checked_fault f).number 0))
    where
      go : (eqb (length log) 40960 ≡ true) ⊎ (eqb (length log) 40960 ≡ false) → (eqb (checked_fault f).number 0 ≡ true) ⊎ (eqb (checked_fault f).number 0 ≡ false)
          → read_back_of n p a u k v o left ≡ read_of log base f
      go (inl x) (inl y) =
          let s : read_back_of n p a u k v o empty_base ≡ read_back f = rw (x, eq-eqb (length empty_base) 43032 empty_length, y) at r in
          rw (x, eq-eqb (length base) 43032 l, y, e) s
      go (inl x) (inr y) =
          let s : read_back_of n p a u k v o empty_base ≡ not_read log empty_base (checked_fault f).number (checked_fault f).place =
          rw (x, eq-eqb (length empty_base) 43032 empty_length, y) at r in
          absurd (eqb-false (checked_fault f).number 0 y (sym (ap (λ (b : ReadBack). b.number) s) ∙ z))
      go (inr x) y =
          let s : read_back_of n p a u k v o empty_base ≡ not_read log empty_base 1 0 = rw x at r in
          absurd (omega (arith, ap (λ (b : ReadBack). b.number) s, z))

module _ (f : List ℕ) (m q : ℕ) (e : fault m q ≡ checked_fault f) (z : m ≡ 0) where
  right : (file_length f ≡ true) × ((file_fault f).number ≡ 0)
  unfolding fault
  right = checked-right f (sym (ap (λ (x : Fault). x.number) e) ∙ z)

  pub right-whole : length f ≡ 512 * (length f / 512)
  right-whole = whole f (sym right.0) refl

  pub right_some : 1 ≤ length f / 512
  right_some = some_block f (sym right.0) refl

  pub right_few : length f / 512 ≤ 86
  right_few = few_blocks f (sym right.0) refl

  pub faultless : (file_fault f).number ≡ 0
  faultless = right.1
