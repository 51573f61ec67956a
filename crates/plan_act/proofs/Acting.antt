-- What an act of one of eight units is asked and what it leaves, over plain values.
-- Assumes nothing.
use Prim.Native.Nat.{ℕ, suc, ◌+◌, ◌-◌, ◌*◌, ◌≤◌, ◌<◌}
use native.Mathlib.Omega.{arith}
use mathlib.Core.Path.{◌≡◌, sym, ap, ◌∙◌}
use mathlib.Core.Bool.{true}
use mathlib.Core.List.{List, []}
use lib.ListN.{get_or, length, take, drop, replicate, length-replicate}
use borrow.Rule.Slice.PartMut.{put_mid}
use borrow.Author.Tests.{eq-eqb, ne_eqb, lt-ltb}
use Rattle.base_model.specs.Base.{empty_base, held_on, sound_state}
use Rattle.call_model.specs.Outcome.{Outcome, outcome, act_lent, act_of}
use Rattle.byte_slice.proofs.Numbers.{true_and}
use Rattle.call_laws.specs.Keeps.{Good}
use Rattle.call_laws.proofs.States.{empty_length}
use Rattle.call_laws.proofs.Calls.{guarded-passes, act-keeps}
use Rattle.base_head.specs.Head.{BaseHead, headed, head_of}
use Rattle.act.specs.Acted.{acted_on}
use Rattle.plan_model.specs.Plan.{round, log_at, with_log, act_answer, act_tried, act_done}
use Rattle.plan_units.specs.Units.{Units}
use Rattle.plan_units.proofs.Logs.{lent, put_back, unchanged}
use Rattle.plan_units.proofs.Events.{act_good, accepted_act}

-- ---- what acting is asked

pub base_long : (base : List ℕ) → base ≡ empty_base → length base ≡ 43032
base_long base e = rw e empty_length

pub base_head : (base : List ℕ) → base ≡ empty_base → 24 ≤ length base
base_head base e = omega (arith, base_long base e)

pub log_long : (log : List ℕ) → Good log empty_base → length log ≡ 40960
log_long log g = g.long.0

pub state_sound : (log base : List ℕ) → Good log empty_base → base ≡ empty_base → sound_state log base ≡ true
state_sound log base g e = rw e g.sound

pub held_is : (log base : List ℕ) {v : List ℕ} → base ≡ empty_base → v ≡ held_on log empty_base → v ≡ held_on log base
held_is log base e h = rw e h

module _ (base : List ℕ) {m k j : ℕ} {v : List ℕ} (e : headed m v k j ≡ head_of base) where
  pub list_is : m ≡ get_or base 0 0
  unfolding head_of
  list_is = ap (λ (h : BaseHead). h.list) e

-- ---- the act of a unit whose log is good

pub acts : (u : ℕ) (log base w : List ℕ) (o : Outcome) → Good log empty_base → base ≡ empty_base → u < 8 → length w ≡ 80
    → o ≡ acted_on u log base w → o ≡ act_of u log empty_base w (replicate 86020 0)
unfolding acted_on act_of
acts u log base w o g e h n q =
    let work : List ℕ = replicate 86020 0 in
    let lent : act_lent w work ≡ true = true_and _ _ (eq-eqb (length w) 80 n) (eq-eqb (length work) 86020 (length-replicate {A = ℕ} 86020 0)) in
    (rw e at q) ∙ sym (guarded-passes u log empty_base [] (act_lent w work) (acted_on u log empty_base w) lent (omega arith) g)

-- ---- among eight units

-- 512 records are made: whatever the act would come to, it is skipped
pub full_skips : (s : List ℕ) (m k u : ℕ) (o : Outcome) {a b : ℕ} → 512 ≤ m → a ≡ m → b ≡ k + 1 → round s a b ≡ act_done (round s m k) u o
unfolding act_done
full_skips s m k u o h e f =
    let z : act_answer m o ≡ 0 → ⊥ = λ q. omega (arith, (accepted_act m o q).1) in
    let n : k + 1 ≡ suc k = omega arith in
    rw (e, f, n, ne_eqb (act_answer m o) 0 z)

-- where there is room, an act that is accepted by itself is accepted
room_answers : (m : ℕ) (o : Outcome) → m < 512 → o.number ≡ 0 → act_answer m o ≡ 0
unfolding act_answer
room_answers m o h e = rw (e, lt-ltb m 512 h)

-- the part of unit u, lent to an act, and what the act left there
module _ (s w l : List ℕ) (m k u n : ℕ) (g : Units s) (h : u < 8) (few : m < 512)
    (e : outcome n 0 l [] 0 ≡ act_of u (take (40960 * u + 40960 - 40960 * u) (drop (40960 * u) s)) empty_base w (replicate 86020 0)) where
  done : outcome n 0 l [] 0 ≡ act_tried s u w
  unfolding act_tried
  done = rw (lent s u) at e

  number_is : (act_tried s u w).number ≡ n
  number_is = ap (λ (o : Outcome). o.number) (sym done)

  log_is : l ≡ (act_tried s u w).log
  log_is = ap (λ (o : Outcome). o.log) done

  left_is : put_mid (40960 * u) (40960 * u + 40960 - 40960 * u) s l ≡ with_log s u (act_tried s u w).log
  left_is = put_back s l u (ap (λ (x : List ℕ). length x) log_is ∙ (act_good s u g h w).long.0) ∙ ap (with_log s u) log_is

  pub refused_skips : {a b : ℕ} → (n ≡ 0 → ⊥) → a ≡ m → b ≡ k + 1
      → round (put_mid (40960 * u) (40960 * u + 40960 - 40960 * u) s l) a b ≡ act_done (round s m k) u (act_tried s u w)
  unfolding act_done act_tried
  refused_skips d p q =
      let o : Outcome = act_of u (log_at s u) empty_base w (replicate 86020 0) in
      let z : o.number ≡ 0 → ⊥ = λ x. d (sym number_is ∙ x) in
      let y : act_answer m o ≡ 0 → ⊥ = λ x. z (accepted_act m o x).0 in
      let same : with_log s u o.log ≡ s = ap (with_log s u) ((act-keeps u (log_at s u) empty_base w (replicate 86020 0)).refused z).0 ∙ unchanged s g.long u h in
      let i : k + 1 ≡ suc k = omega arith in
      rw (left_is, same, p, q, i, ne_eqb (act_answer m o) 0 y)

  pub accepted_makes : n ≡ 0 → round (put_mid (40960 * u) (40960 * u + 40960 - 40960 * u) s l) (m + 1) k ≡ act_done (round s m k) u (act_tried s u w)
  unfolding act_done
  accepted_makes d =
      let i : m + 1 ≡ suc m = omega arith in
      let y : act_answer m (act_tried s u w) ≡ 0 = room_answers m (act_tried s u w) few (number_is ∙ d) in
      rw (left_is, i, eq-eqb (act_answer m (act_tried s u w)) 0 y)
