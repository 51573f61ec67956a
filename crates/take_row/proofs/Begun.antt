-- The ways out of taking a row, over plain values.
-- Assumes nothing.
use Prim.Native.Nat.{ℕ, zero, suc, ◌+◌, ◌-◌, ◌*◌, ◌/◌, ◌%◌, ◌≤◌, ◌<◌}
use native.Mathlib.Nat.{zero-add, sub_self}
use native.Mathlib.Omega.{arith}
use mathlib.Core.Path.{◌≡◌, refl, sym, ap, ◌∙◌}
use mathlib.Core.Bool.{Bool, true, false, not, ◌&&◌}
use mathlib.Core.List.{List, []}
use lib.Dec.{leb, eqb}
use lib.ListN.{length, get_or}
use borrow.Author.Tests.{eq-eqb, ne_eqb, eqb-true, leb-true}
use Rattle.model.specs.Bytes.{part, put_at}
use Rattle.model.specs.Log.{vector_on, records_of, sound_log_on, log_bytes}
use Rattle.base_model.specs.Base.{lists_all, base_vector, sound_base, base_in, held_on, sound_state}
use Rattle.row_model.specs.Row.{Tried, tried, row_fits, try_all, took_row, row_taken, take_row_of}
use Rattle.byte_slice.proofs.Numbers.{and_true}
use Rattle.byte_slice.proofs.PutAt.{part_put_inside}
use Rattle.log_laws.specs.Sound.{SoundOn}
use Rattle.encoding_laws.proofs.Logs.{sound_records_on, sound_few}
use Rattle.call_laws.proofs.States.{sound_back_on, state_parts}
use Rattle.log_closure.specs.Tables.{Indexed}
use Rattle.log_admit.proofs.Tables.{indexed_where}
use Rattle.log_check.specs.declared.Layout.TheVariants.{Log}
use Rattle.log_check.specs.Places.{offset_of, laid_at}
use Rattle.log_insert.specs.Where.{insert_to}
use Rattle.base_head.specs.Head.{headed}
use Rattle.call_guard.specs.Opened.{opened, open_of}
use Rattle.call_guard.proofs.Opening.{number_is, open_row}
use Rattle.take_row_store.specs.Grown.{new_at, held_in, Grown}
use Rattle.take_row_store.proofs.Runs.{held_none, held-long, held_sound}
use Rattle.take_row_judge.specs.Kept.{Footing, Kept, JudgedRow}

-- ---- the length of a row

pub part_block : (n : ℕ) → (n % 512 ≡ 0 → ⊥) → false ≡ row_fits n
unfolding row_fits
part_block n h = rw (ne_eqb (n % 512) 0 h)

pub whole_blocks : (n : ℕ) → n % 512 ≡ 0 → leb (n / 512) 86 ≡ row_fits n
unfolding row_fits
whole_blocks n h = rw (eq-eqb (n % 512) 0 h)

pub row_short : (n : ℕ) → row_fits n ≡ true → n ≤ 44032
unfolding row_fits
row_short n h =
    let (a, b) = and_true (eqb (n % 512) 0) (leb (n / 512) 86) h in
    omega (arith, eqb-true (n % 512) 0 a, leb-true (n / 512) 86 b)

-- ---- what is held at first

module _ (m : ℕ) (v log base : List ℕ) (state : sound_state log base ≡ true) (a : m ≡ get_or base 0 0) (b : v ≡ base_vector base) where
  pub row_sound : sound_log_on v log ≡ true
  row_sound = rw b (state_parts log base state).log_sound

  pub row_foot : length base ≡ 43032 → Footing m v base
  row_foot n = record { long = n; sound = (state_parts log base state).base_sound; list = a; folded = b }

  row_listed : lists_all m (vector_on v (records_of log)) ≡ true
  unfolding base_in
  row_listed = rw (a, b) (state_parts log base state).listed

  module _ (work fresh : List ℕ) (used : ℕ) (held places seens : List ℕ) (long : length log ≡ 40960) (e : used ≡ length (records_of log)) (w : work ≡ put_at fresh 0 log)
      (i : Indexed (base_vector base) (laid_at Log log) used (records_of log) held places seens) where
    few : used ≤ 512
    few = omega (arith, sound_few log)

    copied : (p : ℕ) → p < used → laid_at Log log p ≡ laid_at Log work p
    unfolding laid_at offset_of
    copied p h = rw w (sym (rw (zero-add (80 * p)) at (part_put_inside fresh 0 log (80 * p) 80 (omega (arith, few)) (omega arith))))

    none : (j : ℕ) → j ≤ 0 → SoundOn v (insert_to (records_of log) (new_at used work) j)
    unfolding insert_to
    none zero h = sound_records_on v log row_sound
    none (suc j) h = absurd (omega arith)

    pub row_kept_lem : Kept m v (records_of log) used work used held places seens
    row_kept_lem =
        record {
          grown = record { from = omega arith; few = few; first = e; sound = λ j h. none j (omega (arith, sub_self used)) };
          indexed =
              rw (held_none (records_of log) used work)
              (indexed_where v (laid_at Log log) used (records_of log) held places seens (rw b i) (laid_at Log work) used (omega arith) (omega (arith, few)) copied);
          listed = rw (held_none (records_of log) used work) row_listed;
        }

-- ---- the row is judged and its records are put in

pub judged_grown : {v base log row work held : List ℕ} {start archive u n number used : ℕ} → JudgedRow v base log start archive u row n number work used held → Grown v (records_of log) start work used
judged_grown j = j.grown

module _ (v base log row work held : List ℕ) (start archive u n number used : ℕ) (j : JudgedRow v base log start archive u row n number work used held) (o : List ℕ) (e : o ≡ log_bytes (held_in (records_of log) start work used)) where
  pub row_done : tried n number o ≡ try_all archive u log base row
  row_done = rw e j.answers

  records : records_of o ≡ held_in (records_of log) start work used
  records =
      rw e
      (sound_back_on v (held_in (records_of log) start work used) (held_sound v (records_of log) start work used j.grown) (omega (arith, held-long v (records_of log) start work used j.grown, j.grown.few)))

  pub row_used : used ≡ length (records_of o)
  row_used = rw records (held-long v (records_of log) start work used j.grown)

  pub row_counts : v ≡ base_vector base → held ≡ held_on o base
  row_counts b = rw (records, ← b) j.counts

-- ---- the call

module _ (archive u : ℕ) (log base row : List ℕ) {n m k j : ℕ} {v held : List ℕ} {used : ℕ} {fit : Bool} (l : fit ≡ row_fits (length row)) (e : opened n (headed m v k j) held used ≡ open_of u log base true fit) where
  opens : opened n (headed m v k j) held used ≡ open_of u log base true (row_fits (length row))
  opens = rw l at e

  pub row_refused : (n ≡ 0 → ⊥) → row_taken n 0 0 0 log ≡ take_row_of archive u log base row
  unfolding take_row_of
  row_refused z = rw (← number_is u log base true (row_fits (length row)) opens) (go n z)
    where
      go : (i : ℕ) → (i ≡ 0 → ⊥) → row_taken i 0 0 0 log ≡ took_row i log (try_all archive u log base row)
      go zero y = absurd (y refl)
      go (suc i) y = refl

  pub row-passes : n ≡ 0 → {i s : ℕ} {o : List ℕ} → tried i s o ≡ try_all archive u log base row → row_taken 0 0 i s o ≡ take_row_of archive u log base row
  unfolding take_row_of
  row-passes z q = rw (← number_is u log base true (row_fits (length row)) opens, z, ← q)

pub row-long : (u : ℕ) (log base row : List ℕ) {n m k j : ℕ} {v held : List ℕ} {used : ℕ} {fit : Bool} → fit ≡ row_fits (length row) → opened n (headed m v k j) held used ≡ open_of u log base true fit → n ≡ 0 → length row ≤ 44032
row-long u log base row {fit = fit} l e z = row_short (length row) (sym l ∙ open_row u log base true fit e z)
