-- The reason for which an act is refused, the log with its record, and what acting is asked, over plain values.
-- Assumes nothing.
use Prim.Native.Nat.{ℕ, zero, suc, ◌+◌, ◌*◌, ◌%◌, ◌<◌}
use native.Mathlib.Omega.{arith}
use mathlib.Core.Path.{◌≡◌, refl, sym, ap, ap₂, ◌∙◌}
use mathlib.Core.Logic.{⊎_elim}
use mathlib.Core.Bool.{true}
use mathlib.Core.List.{List, [], ◌∷◌, ◌++◌, append-nil}
use lib.Dec.{eqb}
use lib.ListN.{get_or, length, replicate}
use borrow.Author.Tests.{eqb-true}
use Rattle.model.specs.Numbers.{first_of}
use Rattle.model.specs.Bytes.{put_at, padded, joined}
use Rattle.model.specs.Record.{Rec, seen, well_formed}
use Rattle.model.specs.Log.{records_of, sound_log_on, log_bytes}
use Rattle.model.specs.Replay.{Tree, judge, reason_of}
use Rattle.model.specs.Table.{work_bytes}
use Rattle.base_model.specs.Base.{base_in, base_vector, held_on, sound_state, tree_of}
use Rattle.call_model.specs.Outcome.{Outcome, outcome, refusal, stamped, early_wish, act_number, acted, work_after, act_lent, act_of, act_work}
use Rattle.byte_slice.proofs.Numbers.{and_true, first_stops}
use Rattle.byte_slice.proofs.PutAt.{put-padded}
use Rattle.byte_slice.proofs.Words.{word_bound}
use Rattle.block_laws.proofs.Fields.{length-joined, joined-append}
use Rattle.act_laws.proofs.Act.{Free, Refused, refused_elim, early_cases, wish_fits_lem}
use Rattle.log_laws.proofs.Tests.{vector_on_get_d}
use Rattle.encoding_laws.proofs.Logs.{sound_proper_on, proper_sized, sound_records_on, sound_bytes_on}
use Rattle.base_laws.proofs.Folds.{state_log}
use Rattle.tree_table.specs.Rows.{tree_in}
use Rattle.tree_lookup.specs.Roles.{Works}
use Rattle.tree_lookup.proofs.Working.{works_tree}
use Rattle.tree_judge.specs.Judged.{verdict_of, Asks}
use Rattle.tree_judge.proofs.Verdicts.{verdict_numbers}
use Rattle.tree_replay.proofs.Sound.{formed_asks}
use Rattle.base_head.specs.Head.{headed}
use Rattle.call_answer.proofs.Guards.{refused_by}
use Rattle.call_guard.specs.Opened.{opened, open_of}
use Rattle.call_guard.proofs.Opening.{number_is, open_lent, open_unit, call_refused, call_passes}
use Rattle.act_wish.specs.Stamp.{stamped_by, early_as}
use Rattle.act_wish.proofs.Stamping.{stamped_is, early_is}
use Rattle.act.specs.Acted.{acted_on, worked_on}

-- ---- the reason

pub reason_told : (n k : ℕ) (r : Rec) (t : Tree) → verdict_of n k ≡ judge r t → n ≡ reason_of (judge r t)
reason_told n k r t e = (verdict_numbers n k (judge r t) e).0

pub reason_laid : (b register : List ℕ) (x y : ℕ) (t : Tree) (r : Rec) (n : ℕ) → Works b register x y t → n ≡ reason_of (judge r (tree_in b x y)) → n ≡ reason_of (judge r t)
reason_laid b register x y t r n w e = e ∙ ap (λ (s : Tree). reason_of (judge r s)) (works_tree b register x y t w)

-- bytes are below 256, so what a record has seen is below 65,536
pub bytes_ask : (r : Rec) → well_formed r ≡ true → ((j : ℕ) → get_or r j 0 < 256) → Asks r
unfolding seen
bytes_ask r e b = formed_asks r e (λ v k. word_bound r (4 + 2 * v) b)

-- ---- a record put behind those of a sound log

joined_one : (r : Rec) → joined (r ∷ []) ≡ r
unfolding joined
joined_one r = append-nil r

pub put_last : (v b : List ℕ) (r : Rec) → length b ≡ 40960 → sound_log_on v b ≡ true → put_at b (80 * length (records_of b)) r ≡ log_bytes (records_of b ++ (r ∷ []))
unfolding log_bytes
put_last v b r n s =
    let l : List Rec = records_of b in
    let z = proper_sized l (sound_proper_on v l (sound_records_on v b s)) in
    let j : joined (l ++ (r ∷ [])) ≡ joined l ++ r = joined-append l (r ∷ []) ∙ rw (joined_one r) in
    let back : log_bytes l ≡ b = sound_bytes_on v b n s in
    ap₂ (λ (x : List ℕ) (k : ℕ). put_at x k r) (sym back) (sym (length-joined l z)) ∙ put-padded 40960 (joined l) r ∙ ap (padded 40960) (sym j)

-- ---- the work memory

pub cleared : (b₀ b : List ℕ) → length b₀ ≡ 86020 → b ≡ replicate (length b₀) 0 → b ≡ replicate 86020 0
cleared b₀ b h e = rw h at e

pub laid : (b register : List ℕ) (x y : ℕ) (t : Tree) → Works b register x y t → b ≡ work_bytes t
laid b register x y t w = w.bytes

work_as_it_was : (n : ℕ) (t : Tree) (work : List ℕ) → (n ≡ 0 → ⊥) → work ≡ work_after n t work
work_as_it_was zero t work h = absurd (h refl)
work_as_it_was (suc n) t work h = refl

-- ---- the ways out of `act_on`

early_zero : (m u : ℕ) (v : List ℕ) (l : List Rec) (w : List ℕ) → early_wish m u v l w ≡ 0 → Free m u v l w
early_zero m u v l w e =
    ⊎_elim
    (λ (f : Free m u v l w). f)
    (λ (q : Refused m u v l w (early_wish m u v l w)).
    absurd (refused_elim (λ (n : ℕ). n ≡ 0 → ⊥) (λ z. omega arith) (λ z. omega arith) (λ z. omega arith) (λ z. omega arith) (λ z. omega arith) m u v l w (early_wish m u v l w) q e))
    (early_cases m u v l w)

module _ (u : ℕ) (log base w : List ℕ) {h : List ℕ} {m n k : ℕ} {r : Rec} (low : u < 8) (wide : length w ≡ 80) (held : h ≡ held_on log base) (list : m ≡ get_or base 0 0) (used : n ≡ length (records_of log)) (own : r ≡ stamped_by ((get_or h u 0 + 1) % 65536) h w) (told : k ≡ early_as m u h n w r) where
  early : early_wish (base_in base).list u (base_vector base) (records_of log) w ≡ k
  unfolding base_in
  early = sym (told ∙ early_is u (base_vector base) (records_of log) w low held ((get_or h u 0 + 1) % 65536) wide own m used ∙ ap (λ (x : ℕ). early_wish x u (base_vector base) (records_of log) w) list)

  number : act_number (base_in base).list u (base_vector base) (base_in base).tree (records_of log) w ≡ first_of k (reason_of (judge (stamped u (base_vector base) (records_of log) w) (tree_of log base)))
  unfolding act_number tree_of base_in
  number = ap (λ (x : ℕ). first_of x (reason_of (judge (stamped u (base_vector base) (records_of log) w) (tree_of log base)))) early

  pub early_refused : (k ≡ 0 → ⊥) → refusal k log [] ≡ acted_on u log base w
  unfolding acted_on acted
  early_refused z =
      rw (number, first_stops k (reason_of (judge (stamped u (base_vector base) (records_of log) w) (tree_of log base))) z)
      (refused_by k log [] (outcome 0 0 (log_bytes (records_of log ++ (stamped u (base_vector base) (records_of log) w ∷ []))) [] 0) z)

  pub early_kept : (k ≡ 0 → ⊥) → (work : List ℕ) → work ≡ worked_on u log base w work
  unfolding worked_on
  early_kept z work = rw early (work_as_it_was k (tree_of log base) work z)

  module _ (z : k ≡ 0) where
    pub free : Free (base_in base).list u (base_vector base) (records_of log) w
    free = early_zero (base_in base).list u (base_vector base) (records_of log) w (early ∙ z)

    pub record_is : r ≡ stamped u (base_vector base) (records_of log) w
    record_is =
        let c = free.numbered in
        own ∙ stamped_is u (base_vector base) (records_of log) w low held (omega (arith, ap (λ (x : List ℕ). get_or x u 0) held, vector_on_get_d (base_vector base) (records_of log) u low))

    pub stamped_formed : well_formed r ≡ true
    stamped_formed = rw record_is (wish_fits_lem u (base_vector base) (records_of log) w free.well).1

    pub place_free : n < 512
    place_free = let c = free.room in omega arith

    pub work_laid : {o : List ℕ} → o ≡ work_bytes (tree_of log base) → (work : List ℕ) → o ≡ worked_on u log base w work
    unfolding worked_on
    work_laid e work = rw (early, z) e

    module _ {x : ℕ} (why : x ≡ reason_of (judge r (tree_of log base))) where
      reason_is : act_number (base_in base).list u (base_vector base) (base_in base).tree (records_of log) w ≡ x
      reason_is = number ∙ rw (z, ← record_is) (sym why)

      pub stands_aside_lem : (x ≡ 0 → ⊥) → refusal x log [] ≡ acted_on u log base w
      unfolding acted_on acted
      stands_aside_lem g = rw reason_is (refused_by x log [] (outcome 0 0 (log_bytes (records_of log ++ (stamped u (base_vector base) (records_of log) w ∷ []))) [] 0) g)

      pub added : {o : List ℕ} → length log ≡ 40960 → sound_state log base ≡ true → x ≡ 0 → o ≡ put_at log (80 * n) r → outcome 0 0 o [] 0 ≡ acted_on u log base w
      unfolding acted_on acted
      added long s g e =
          let b = put_last (base_vector base) log (stamped u (base_vector base) (records_of log) w) long (state_log log base s) in
          rw (reason_is, g, e, used, record_is, b)

-- ---- what `act` is asked, and its ways out

module _ (u : ℕ) (log base w work : List ℕ) {n m k j used : ℕ} {v held : List ℕ} (e : opened n (headed m v k j) held used ≡ open_of u log base (act_lent w work) true) where
  pub guard_refused : (n ≡ 0 → ⊥) → refusal n log [] ≡ act_of u log base w work
  unfolding act_of acted_on
  guard_refused h = call_refused u log base [] (act_lent w work) e (acted_on u log base w) h

  pub guard_kept : (n ≡ 0 → ⊥) → work ≡ act_work u log base w work
  unfolding act_work
  guard_kept h =
      let t = early_wish (base_in base).list u (base_vector base) (records_of log) w in
      rw (← number_is u log base (act_lent w work) true e, first_stops n t h) (work_as_it_was n (tree_of log base) work h)

  module _ (z : n ≡ 0) where
    pub low_unit : u < 8
    low_unit = omega (arith, open_unit u log base (act_lent w work) true e z)

    lent : (eqb (length w) 80 ≡ true) × (eqb (length work) 86020 ≡ true)
    lent = and_true (eqb (length w) 80) (eqb (length work) 86020) (open_lent u log base (act_lent w work) true e z)

    pub wish_long : length w ≡ 80
    wish_long = eqb-true (length w) 80 lent.0

    pub work_long : length work ≡ 86020
    work_long = eqb-true (length work) 86020 lent.1

    pub act-done : (o : Outcome) → o ≡ acted_on u log base w → o ≡ act_of u log base w work
    unfolding act_of acted_on
    act-done o q = q ∙ call_passes u log base [] (act_lent w work) e (acted_on u log base w) z

    pub work_done : (o : List ℕ) → o ≡ worked_on u log base w work → o ≡ act_work u log base w work
    unfolding act_work worked_on
    work_done o q = q ∙ rw (sym (number_is u log base (act_lent w work) true e) ∙ z)
