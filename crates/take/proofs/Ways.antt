-- The ways out of taking a block, over plain values.
-- Assumes nothing.
use Prim.Native.Nat.{ℕ, ◌≤◌}
use native.Mathlib.Omega.{arith}
use mathlib.Core.Path.{◌≡◌, sym, ◌∙◌}
use mathlib.Core.Logic.{⊎_elim}
use mathlib.Core.Bool.{true}
use mathlib.Core.List.{List, []}
use lib.ListN.{length}
use borrow.Author.Tests.{eq-eqb, ne_eqb}
use Rattle.model.specs.Log.{records_of, sound_log_on, log_bytes}
use Rattle.model.specs.Block.{count_in, block_fault, record_at, records_from, block_records, given_fault}
use Rattle.base_model.specs.Base.{base_vector, base_in}
use Rattle.call_model.specs.Outcome.{Outcome, outcome, refusal, or_refused, taken, takes_all, took_all, took_block, take_of}
use Rattle.byte_slice.proofs.Numbers.{eq_or_ne}
use Rattle.block_laws.proofs.Faults.{header_right, stored_header}
use Rattle.call_answer.proofs.Guards.{refused_by}
use Rattle.base_head.specs.Head.{headed}
use Rattle.call_guard.specs.Opened.{opened, open_of}
use Rattle.call_guard.proofs.Opening.{open_sound, open_list, open_folded, call_refused, call_passes}
use Rattle.encoding_laws.proofs.Logs.{sound_records_on, sound_bytes_on, sound_few}
use Rattle.log_closure.specs.Tables.{Indexed}
use Rattle.log_check.specs.declared.Layout.TheVariants.{Log}
use Rattle.log_check.specs.Places.{laid_at}
use Rattle.take_beside.specs.Judging.{Judgement, judgement, judge_of, judge_given, after_to, JudgeGives}
use Rattle.take_store.specs.Stored.{Stored}

-- ---- a block without a fault

module _ (m : ℕ) (v : List ℕ) (archive : ℕ) (b : List ℕ) (f : ℕ) (e : f ≡ given_fault archive b) where
  pub block_bad : (log : List ℕ) → (f ≡ 0 → ⊥) → outcome f 0 log [] 0 ≡ or_refused (given_fault archive b) log [] (took_all log (takes_all m v (records_of log) (block_records b)))
  block_bad log h = rw (← e) (refused_by f log [] (took_all log (takes_all m v (records_of log) (block_records b))) h)

  module _ (log held : List ℕ) (used : ℕ) (places seens : List ℕ) where
    pub bad_left : (f ≡ 0 → ⊥) → judgement f places seens ≡ judge_given m v (given_fault archive b) log b held used places seens
    unfolding judge_given
    bad_left h = rw (← e, ne_eqb f 0 h)

    pub judged_left : f ≡ 0 → (n : ℕ) → n ≡ count_in b → (o : Judgement) → o ≡ judge_of m v log b n held used places seens → o ≡ judge_given m v (given_fault archive b) log b held used places seens
    unfolding judge_given
    judged_left z n q o g = g ∙ rw (← e, z, ← q)

    pub taken_left : f ≡ 0 → (n : ℕ) → n ≡ count_in b → (k : ℕ) (p s : List ℕ) → judgement k p s ≡ judge_of m v log b n held used places seens → k ≡ 0
        → judgement 0 p s ≡ judge_given m v (given_fault archive b) log b held used places seens
    taken_left z n q k p s g w = rw w at (judged_left z n q (judgement k p s) g)

  module _ (z : f ≡ 0) (log : List ℕ) (n k : ℕ) (j : JudgeGives m v (records_of log) b n k) where
    pub block_refused : (k ≡ 0 → ⊥) → outcome k 0 log [] 0 ≡ or_refused (given_fault archive b) log [] (took_all log (takes_all m v (records_of log) (block_records b)))
    unfolding took_all
    block_refused h = rw (sym e ∙ z, j.refuses h)

    pub block_taken : k ≡ 0 → (o : List ℕ) → o ≡ log_bytes (after_to m v (records_of log) (record_at b) n) → outcome 0 0 o [] 0 ≡ or_refused (given_fault archive b) log [] (took_all log (takes_all m v (records_of log) (block_records b)))
    unfolding took_all
    block_taken h o q = rw (sym e ∙ z, j.accepts h, q)

module _ (archive : ℕ) (b : List ℕ) (f : ℕ) (e : f ≡ given_fault archive b) (z : f ≡ 0) where
  no_fault : given_fault archive b ≡ 0
  no_fault = sym e ∙ z

  both : (length b ≡ 512) × (block_fault b ≡ 0)
  unfolding given_fault
  both =
      ⊎_elim
      (λ (n : length b ≡ 512).
      ⊎_elim
      (λ (g : block_fault b ≡ 0). (n, g))
      (λ (g : block_fault b ≡ 0 → ⊥). absurd (g (rw (eq-eqb (length b) 512 n, ne_eqb (block_fault b) 0 g) at no_fault)))
      (eq_or_ne (block_fault b) 0))
      (λ (n : length b ≡ 512 → ⊥). absurd (let q : ◌≡◌ {A = ℕ} 2 0 = rw (ne_eqb (length b) 512 n) at no_fault in omega arith))
      (eq_or_ne (length b) 512)

  pub given_long : length b ≡ 512
  given_long = both.0

  pub given_few : (n : ℕ) → n ≡ count_in b → n ≤ 6
  given_few n q = rw q (stored_header b (header_right b both.1)).1

pub block_passed : (m : ℕ) (v log b : List ℕ) (n k : ℕ) → JudgeGives m v (records_of log) b n k → n ≡ count_in b → k ≡ 0
    → takes_all m v (records_of log) (records_from b 0 n) ≡ taken (after_to m v (records_of log) (record_at b) n)
unfolding block_records
block_passed m v log b n k j q h = rw (← q) at (j.accepts h)

-- a sound log is stored
pub log_stored : (v log : List ℕ) (used : ℕ) (held places seens : List ℕ) → length log ≡ 40960 → sound_log_on v log ≡ true → used ≡ length (records_of log)
    → Indexed v (laid_at Log log) used (records_of log) held places seens → Stored v (records_of log) log used held
log_stored v log used held places seens n s u i =
    record { bytes = sym (sound_bytes_on v log n s); sound = sound_records_on v log s; few = sound_few log; used_is = u; counts = i.counts }

-- ---- a state that was opened

module _ (u : ℕ) (log base : List ℕ) {n m k j : ℕ} {v held : List ℕ} {used : ℕ} (e : opened n (headed m v k j) held used ≡ open_of u log base true true) where
  pub take_refused : (archive : ℕ) (b : List ℕ) → (n ≡ 0 → ⊥) → refusal n log [] ≡ take_of archive u log base b
  unfolding take_of
  take_refused archive b h = call_refused u log base [] true e (took_block log base b (given_fault archive b)) h

  module _ (z : n ≡ 0) where
    told : v ≡ base_vector base
    told = open_folded u log base true true e z

    pub told_sound : sound_log_on v log ≡ true
    told_sound = rw told (open_sound u log base true true e z)

    pub told_indexed : (places seens : List ℕ) → Indexed (base_vector base) (laid_at Log log) used (records_of log) held places seens → Indexed v (laid_at Log log) used (records_of log) held places seens
    told_indexed places seens f = rw told f

    pub took : (archive : ℕ) (b : List ℕ) (o : Outcome) → o ≡ or_refused (given_fault archive b) log [] (took_all log (takes_all m v (records_of log) (block_records b))) → o ≡ take_of archive u log base b
    unfolding take_of took_block base_in
    took archive b o q =
        (rw (told, open_list u log base true true e z) at q)
        ∙ call_passes u log base [] true e (took_block log base b (given_fault archive b)) z
