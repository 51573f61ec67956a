-- A block judged beside the records held answers as its take would; and a row of blocks.
-- Assumes nothing.
use Prim.Native.Nat.{ℕ, zero, suc, ◌-◌, ◌*◌, ◌≤◌, ◌<◌}
use native.Mathlib.Omega.{arith}
use mathlib.Core.Path.{◌≡◌, refl, sym, ◌∙◌}
use mathlib.Core.Logic.{⊎_elim}
use mathlib.Core.Bool.{true}
use mathlib.Core.List.{List, []}
use lib.ListN.{length}
use borrow.Author.Tests.{eq-eqb, ne_eqb}
use Rattle.model.specs.Record.{Rec}
use Rattle.model.specs.Log.{vector_on, records_of, sound_log_on, log_bytes}
use Rattle.model.specs.Block.{count_in, block_fault, block_records, given_fault}
use Rattle.base_model.specs.Base.{base_in}
use Rattle.call_model.specs.Outcome.{outcome, taken, refused, takes_all, took_all, took_block, take_of}
use Rattle.byte_slice.proofs.Numbers.{eq_or_ne}
use Rattle.byte_slice.proofs.Parts.{part-take}
use Rattle.block_laws.proofs.Faults.{header_right, stored_header}
use Rattle.encoding_laws.proofs.Logs.{sound_bytes_on}
use Rattle.call_laws.proofs.States.{sound_back_on, state_good}
use Rattle.call_laws.proofs.Calls.{guarded-passes}
use Rattle.log_check.specs.declared.Layout.TheVariants.{Log}
use Rattle.log_check.specs.Places.{offset_of, laid_at}
use Rattle.row_model.specs.Row.{tried, try_from, try_all}
use Rattle.take_row_store.specs.Grown.{held_in, Grown}
use Rattle.take_row_store.proofs.Runs.{held_none, held-alike, held-long, held_sound, grown_alike}
use Rattle.std.proofs.Common.{Result, Ok, Err}
use Rattle.refusal.specs.declared.Refusal.{Refusal}
use Rattle.refusal.specs.Refusals.{number_of, code_of}
use Rattle.refusal.proofs.Refusals.{not_zero}
use Rattle.take_beside.specs.declared.Counts.{Counts}
use Rattle.take_beside.specs.Counts.{held_after, used_after}
use Rattle.take_row_judge.specs.Kept.{Footing, Kept, JudgedInto, JudgedOne, JudgedRow}

-- ---- a take into a log that is known to be sound

module _ (m : ℕ) (v base : List ℕ) (foot : Footing m v base) (archive u : ℕ) (b : List ℕ) (l : List Rec) (start : ℕ) (work : List ℕ) (i : ℕ) (held places seens : List ℕ) (k : Kept m v l start work i held places seens) (h : u ≤ 7) where
  small : length (held_in l start work i) ≤ 512
  small = omega (arith, held-long v l start work i k.grown, k.grown.few)

  back : records_of (log_bytes (held_in l start work i)) ≡ held_in l start work i
  back = sound_back_on v (held_in l start work i) (held_sound v l start work i k.grown) small

  -- the checks 1, 21 and 19 pass
  take_is : take_of archive u (log_bytes (held_in l start work i)) base b ≡ took_block (log_bytes (held_in l start work i)) base b (given_fault archive b)
  unfolding take_of base_in
  take_is =
      guarded-passes u (log_bytes (held_in l start work i)) base [] true (took_block (log_bytes (held_in l start work i)) base b (given_fault archive b)) refl h
      (state_good base (held_in l start work i) foot.long foot.sound
      (rw (← foot.folded) (held_sound v l start work i k.grown))
      small
      (rw (← foot.list, ← foot.folded) k.listed))

  module _ (f : ℕ) (e : f ≡ given_fault archive b) where
    bad : (f ≡ 0 → ⊥) → outcome f 0 (log_bytes (held_in l start work i)) [] 0 ≡ take_of archive u (log_bytes (held_in l start work i)) base b
    unfolding took_block
    bad z = rw (take_is, ← e) (go f z)
      where
        go : (n : ℕ) → (n ≡ 0 → ⊥) → outcome n 0 (log_bytes (held_in l start work i)) [] 0 ≡ took_block (log_bytes (held_in l start work i)) base b n
        go zero z = absurd (z refl)
        go (suc n) z = refl

    module _ (z : f ≡ 0) where
      good : given_fault archive b ≡ 0
      good = sym e ∙ z

      both : (length b ≡ 512) × (block_fault b ≡ 0)
      unfolding given_fault
      both =
          ⊎_elim
          (λ (n : length b ≡ 512).
          ⊎_elim
          (λ (y : block_fault b ≡ 0). (n, y))
          (λ (y : block_fault b ≡ 0 → ⊥). absurd (y (rw (eq-eqb (length b) 512 n, ne_eqb (block_fault b) 0 y) at good)))
          (eq_or_ne (block_fault b) 0))
          (λ (n : length b ≡ 512 → ⊥). absurd (let q : ◌≡◌ {A = ℕ} 2 0 = rw (ne_eqb (length b) 512 n) at good in omega arith))
          (eq_or_ne (length b) 512)

      no : {k : ℕ} → takes_all m v (held_in l start work i) (block_records b) ≡ refused k → outcome k 0 (log_bytes (held_in l start work i)) [] 0 ≡ take_of archive u (log_bytes (held_in l start work i)) base b
      unfolding took_block took_all base_in
      no q = rw (take_is, good, back, ← foot.list, ← foot.folded, q)

      yes : {w : List Rec} → takes_all m v (held_in l start work i) (block_records b) ≡ taken w → outcome 0 0 (log_bytes w) [] 0 ≡ take_of archive u (log_bytes (held_in l start work i)) base b
      unfolding took_block took_all base_in
      yes q = rw (take_is, good, back, ← foot.list, ← foot.folded, q)

pub given_long : (archive : ℕ) (b : List ℕ) (f : ℕ) → f ≡ given_fault archive b → f ≡ 0 → length b ≡ 512
unfolding given_fault
given_long archive b f e z =
    ⊎_elim
    (λ (n : length b ≡ 512). n)
    (λ (n : length b ≡ 512 → ⊥). absurd (let q : ◌≡◌ {A = ℕ} 2 0 = rw (ne_eqb (length b) 512 n) at (sym e ∙ z) in omega arith))
    (eq_or_ne (length b) 512)

pub given_few : (archive : ℕ) (b : List ℕ) (f : ℕ) → f ≡ given_fault archive b → f ≡ 0 → (n : ℕ) → n ≡ count_in b → n ≤ 6
unfolding given_fault
given_few archive b f e z n q =
    ⊎_elim
    (λ (y : block_fault b ≡ 0). rw q (stored_header b (header_right b y)).1)
    (λ (y : block_fault b ≡ 0 → ⊥). absurd (y (rw (eq-eqb (length b) 512 (given_long archive b f e z), ne_eqb (block_fault b) 0 y) at (sym e ∙ z))))
    (eq_or_ne (block_fault b) 0)

-- ---- one block

-- a refused block says nothing of what is held then
pub refused_alike : {m : ℕ} {v : List ℕ} {l : List Rec} {start i number used : ℕ} {b work work' held places seens : List ℕ} → JudgedInto m v l start b work i number work' used held places seens → (number ≡ 0 → ⊥) → (used' : ℕ) (held' : List ℕ)
    → JudgedInto m v l start b work i number work' used' held' places seens
refused_alike j y used' held' = record { refuses = j.refuses; accepts = λ x. absurd (y x); kept = λ x. absurd (y x); front = j.front }

module _ (m : ℕ) (v base : List ℕ) (foot : Footing m v base) (archive u : ℕ) (b : List ℕ) (l : List Rec) (start : ℕ) (work : List ℕ) (i : ℕ) (held places seens : List ℕ) (h : u ≤ 7) (k : Kept m v l start work i held places seens) (f : ℕ) (e : f ≡ given_fault archive b) where
  pub one_bad : (f ≡ 0 → ⊥) → JudgedOne m v base l start archive u b work i f work i held places seens
  one_bad z = record { answers = bad m v base foot archive u b l start work i held places seens k h f e z; grown = k.grown; counts = k.indexed.counts; kept = λ y. k }

  module _ (z : f ≡ 0) (number : ℕ) (work' : List ℕ) (used : ℕ) (held' places' seens' : List ℕ) (j : JudgedInto m v l start b work i number work' used held' places' seens') where
    same : (p : ℕ) → p < i → laid_at Log work p ≡ laid_at Log work' p
    unfolding laid_at offset_of
    same p q = sym (part-take work (80 * i) (80 * p) 80 (omega arith)) ∙ rw (← j.front) (part-take work' (80 * i) (80 * p) 80 (omega arith))

    pub one_refused : (number ≡ 0 → ⊥) → JudgedOne m v base l start archive u b work i number work' i held places' seens'
    one_refused y =
        record {
          answers = rw (← held-alike l start work work' i same) (no m v base foot archive u b l start work i held places seens k h f e z (j.refuses y));
          grown = grown_alike v l start work i k.grown work' same;
          counts = rw (← held-alike l start work work' i same) k.indexed.counts;
          kept = λ x. absurd (y x);
        }

    pub one_taken : number ≡ 0 → JudgedOne m v base l start archive u b work i number work' used held' places' seens'
    one_taken y =
        record {
          answers = rw y (yes m v base foot archive u b l start work i held places seens k h f e z (j.accepts y));
          grown = (j.kept y).grown;
          counts = (j.kept y).indexed.counts;
          kept = λ x. j.kept y;
        }

  pub one_answered : f ≡ 0 → (r : Result Counts Refusal) (work' places' seens' : List ℕ) → JudgedInto m v l start b work i (code_of r) work' (used_after i r) (held_after held r) places' seens'
      → JudgedOne m v base l start archive u b work i (code_of r) work' (used_after i r) (held_after held r) places' seens'
  one_answered z (Ok c) work' places' seens' j = one_taken z 0 work' c.used c.held.counts places' seens' j refl
  one_answered z (Err refusal) work' places' seens' j = one_refused z (number_of refusal) work' i held places' seens' j (not_zero refusal)

-- ---- block after block

pub row_starts : (v log base row : List ℕ) (archive u start n : ℕ) (work : List ℕ) → length log ≡ 40960 → sound_log_on v log ≡ true → try_from archive u base row log 0 (n - 0) ≡ try_all archive u log base row
    → try_from archive u base row (log_bytes (held_in (records_of log) start work start)) 0 (n - 0) ≡ try_all archive u log base row
row_starts v log base row archive u start n work long s q = rw (held_none (records_of log) start work, sound_bytes_on v log long s) q

pub row_gives : (v base log row : List ℕ) (archive u start n number : ℕ) (work : List ℕ) (used : ℕ) (held : List ℕ) → tried n number (log_bytes (held_in (records_of log) start work used)) ≡ try_all archive u log base row
    → Grown v (records_of log) start work used → held ≡ vector_on v (held_in (records_of log) start work used) → JudgedRow v base log start archive u row n number work used held
row_gives v base log row archive u start n number work used held q g c = record { answers = q; grown = g; counts = c }
