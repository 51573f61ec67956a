-- What the checks that come first tell of a call, over plain values.
-- Assumes nothing.
use Prim.Native.Nat.{ℕ, zero, suc, ◌≤◌}
use native.Mathlib.Omega.{arith}
use mathlib.Core.Path.{◌≡◌, refl, sym, ap, ◌∙◌}
use mathlib.Core.Logic.{⊎_elim}
use mathlib.Core.Bool.{Bool, true, false, cond, ◌&&◌}
use mathlib.Core.List.{List}
use lib.Dec.{eqb}
use lib.ListN.{get_or, length, replicate}
use borrow.Author.Tests.{eqb-true}
use Rattle.std.proofs.Common.{Option, None, Some, Result, Ok, IfSome, IfOk, rules}
use Rattle.std.specs.Option.{ok_or}
use Rattle.refusal.specs.declared.Refusal.{Refusal}
use Rattle.refusal.specs.declared.Refusal.TheVariants.{UnsoundState}
use Rattle.model.specs.Bytes.{word}
use Rattle.model.specs.Log.{records_of, sound_log_on}
use Rattle.base_model.specs.Base.{lists_all, base_vector, sound_base, held_on, sound_state}
use Rattle.call_model.specs.Outcome.{Outcome, refusal, early_number, guard_number, guarded}
use Rattle.byte_slice.proofs.Numbers.{bool_cases, and_true, first_stops, first_zero}
use Rattle.call_answer.proofs.Guards.{early_long, early_based, early_lent, early_unit, early_row, refused_by}
use Rattle.base_head.specs.Head.{headed, head_of, no_head}
use Rattle.base_head.proofs.Listed.{head_list, head_folded, head_entries, head_asides}
use Rattle.log_closure.specs.declared.Tables.{Tables}
use Rattle.state_check.specs.State.{StateTold, stated, unsound, state_of, note_of}
use Rattle.state_check.specs.declared.State.{State}
use Rattle.state_check.specs.Stands.{Stands}
use Rattle.state_check.specs.Told.{state_told}
use Rattle.call_guard.specs.Told.{opening}
use Rattle.call_guard.specs.Opened.{Opening, opened, opened_by, open_of, filled_by, fill_of}

-- ---- the ways out of `open` and `open_into`

module _ (u : ℕ) (log base : List ℕ) (ok row : Bool) (n : ℕ) (e : n ≡ early_number u log base ok row) (x : n ≡ 0 → ⊥) where
  pub early_refused : opened n no_head (replicate 8 0) 0 ≡ open_of u log base ok row
  unfolding open_of opened_by
  early_refused = rw (← e, first_stops n (cond (sound_state log base) 0 19) x) (go n x)
    where
      go : (m : ℕ) → (m ≡ 0 → ⊥) → opened m no_head (replicate 8 0) 0 ≡ opened_by m log base
      go zero k = absurd (k refl)
      go (suc m) k = refl

  pub early_unfilled : (t : Tables) → t ≡ fill_of u log base ok row t
  unfolding fill_of filled_by
  early_unfilled t = rw (← e) (go n x)
    where
      go : (m : ℕ) → (m ≡ 0 → ⊥) → t ≡ filled_by m log base t
      go zero k = absurd (k refl)
      go (suc m) k = refl

module _ (u : ℕ) (log base : List ℕ) (ok row : Bool) (e : 0 ≡ early_number u log base ok row) where
  pub passed_long : length log ≡ 40960
  passed_long = early_long u log base ok row (sym e)

  pub passed_based : length base ≡ 43032
  passed_based = early_based u log base ok row (sym e)

  opens_none : sound_state log base ≡ false → opened 19 no_head (replicate 8 0) 0 ≡ open_of u log base ok row
  unfolding open_of opened_by
  opens_none t = rw (← e, t)

  opens_some : sound_state log base ≡ true → opened 0 (head_of base) (held_on log base) (length (records_of log)) ≡ open_of u log base ok row
  unfolding open_of opened_by
  opens_some t = rw (← e, t)

  state_sound : (told : StateTold) → told ≡ state_of log base → told.sound ≡ sound_state log base
  unfolding state_of
  state_sound told c = ap (λ (x : StateTold). x.sound) c ∙ go (sound_state log base)
    where
      go : (b : Bool) → (cond b (stated true (head_of base) (held_on log base) (length (records_of log))) unsound).sound ≡ b
      go true = refl
      go false = refl

  told_opens : (told : StateTold) → told ≡ state_of log base → sound_state log base ≡ true → opened 0 told.head told.held told.used ≡ open_of u log base ok row
  unfolding state_of
  told_opens told c t =
      let e : told ≡ stated true (head_of base) (held_on log base) (length (records_of log)) = c ∙ rw t in
      ap (λ (x : StateTold). opened 0 x.head x.held x.used) e ∙ opens_some t

  answered : (a : Option State) → state_told a ≡ state_of log base → opening (ok_or a UnsoundState) ≡ open_of u log base ok row
  answered None c = opens_none (sym (state_sound unsound c))
  answered (Some s) c = told_opens (state_told (Some s)) c (sym (state_sound (state_told (Some s)) c))

  pub judged_opened : (a : Option State) → state_told a ≡ state_of log base → (r : Result State Refusal) → r ≡ ok_or a UnsoundState → opening r ≡ open_of u log base ok row
  judged_opened a c r q = rw q (answered a c)

  pub passed_filled : (before after : Tables) → after ≡ note_of log base before → after ≡ fill_of u log base ok row before
  unfolding fill_of filled_by
  passed_filled before after w = rw (← e) w

pub judged_holds : (P : State → Type 0) (a : Option State) → IfSome a P → (r : Result State Refusal) → r ≡ ok_or a UnsoundState → IfOk r P
judged_holds P a h r q = rw q (go a h)
  where
    go : (a : Option State) → IfSome a P → IfOk (ok_or a UnsoundState) P
    go None h = search rules
    go (Some s) h = h

-- ---- what a call knows

opened_number : (n : ℕ) (log base : List ℕ) → (opened_by n log base).number ≡ n
unfolding opened_by
opened_number zero log base = refl
opened_number (suc n) log base = refl

module _ (u : ℕ) (log base : List ℕ) (ok row : Bool) {n m k j : ℕ} {v held : List ℕ} {used : ℕ} (e : opened n (headed m v k j) held used ≡ open_of u log base ok row) where
  pub number_is : n ≡ guard_number u log base ok row
  unfolding open_of
  number_is = ap (λ (x : Opening). x.number) e ∙ opened_number (guard_number u log base ok row) log base

  module _ (z : n ≡ 0) where
    both : (early_number u log base ok row ≡ 0) × (◌≡◌ {A = ℕ} (cond (sound_state log base) 0 19) 0)
    both = first_zero (early_number u log base ok row) (cond (sound_state log base) 0 19) (sym number_is ∙ z)

    passed : opened n (headed m v k j) held used ≡ opened 0 (head_of base) (held_on log base) (length (records_of log))
    unfolding open_of opened_by
    passed = rw (sym number_is ∙ z) at e

    pub open_long : length log ≡ 40960
    open_long = early_long u log base ok row both.0

    pub open_based : length base ≡ 43032
    open_based = early_based u log base ok row both.0

    pub open_lent : ok ≡ true
    open_lent = early_lent u log base ok row both.0

    pub open_row : row ≡ true
    open_row = early_row u log base ok row both.0

    pub open_unit : u ≤ 7
    open_unit = early_unit u log base ok row both.0

    -- ---- the state is sound

    pub open_state : sound_state log base ≡ true
    open_state = ⊎_elim (λ (t : sound_state log base ≡ true). t) (λ (t : sound_state log base ≡ false). absurd (let x : ◌≡◌ {A = ℕ} 19 0 = rw t at both.1 in omega arith)) (bool_cases (sound_state log base))

    parts : (sound_base base ≡ true) × (sound_log_on (base_vector base) log ≡ true) × (lists_all (get_or base 0 0) (held_on log base) ≡ true)
    unfolding sound_state
    parts =
        let (a, b) = and_true (sound_base base) (sound_log_on (base_vector base) log && lists_all (get_or base 0 0) (held_on log base)) open_state in
        let (c, d) = and_true (sound_log_on (base_vector base) log) (lists_all (get_or base 0 0) (held_on log base)) b in
        (a, c, d)

    pub open_base : sound_base base ≡ true
    open_base = parts.0

    pub open_sound : sound_log_on (base_vector base) log ≡ true
    open_sound = parts.1

    pub open_listed : lists_all (get_or base 0 0) (held_on log base) ≡ true
    open_listed = parts.2

    -- ---- what is told of it

    pub open_used : used ≡ length (records_of log)
    open_used = ap (λ (x : Opening). x.used) passed

    pub open_held : held ≡ held_on log base
    open_held = ap (λ (x : Opening). x.held) passed

    heads : headed m v k j ≡ head_of base
    heads = ap (λ (x : Opening). x.head) passed

    pub open_list : m ≡ get_or base 0 0
    open_list = head_list base heads

    pub open_folded : v ≡ base_vector base
    open_folded = head_folded base heads

    pub open_entries : k ≡ word base 2
    open_entries = head_entries base heads

    pub open_asides : j ≡ word base 4
    open_asides = head_asides base heads

-- the state that is told stands
pub open_stands : (u : ℕ) (log base : List ℕ) (ok row : Bool) (s : State) → opening (Ok s) ≡ open_of u log base ok row → Stands log base s
open_stands u log base ok row s e =
    record {
      known = record {
        long = open_long u log base ok row e refl;
        based = open_based u log base ok row e refl;
        sound = open_state u log base ok row e refl;
        held_is = open_held u log base ok row e refl;
        entries_are = open_entries u log base ok row e refl;
        asides_are = open_asides u log base ok row e refl;
      };
      used_is = open_used u log base ok row e refl;
    }

-- a buffer that was to have i bytes has them
pub open_buffer : (u : ℕ) (log base : List ℕ) (row : Bool) (buf : List ℕ) (i : ℕ) {n m k j : ℕ} {v held : List ℕ} {used : ℕ}
    → opened n (headed m v k j) held used ≡ open_of u log base (eqb (length buf) i) row → n ≡ 0 → length buf ≡ i
open_buffer u log base row buf i e z = eqb-true (length buf) i (open_lent u log base (eqb (length buf) i) row e z)

-- a call without a row is refused with the number, or goes on
module _ (u : ℕ) (log base lent : List ℕ) (ok : Bool) {n m k j : ℕ} {v held : List ℕ} {used : ℕ} (e : opened n (headed m v k j) held used ≡ open_of u log base ok true) (o : Outcome) where
  pub call_refused : (n ≡ 0 → ⊥) → refusal n log lent ≡ guarded u log base lent ok o
  unfolding guarded
  call_refused h = rw (← number_is u log base ok true e) (refused_by n log lent o h)

  pub call_passes : n ≡ 0 → o ≡ guarded u log base lent ok o
  unfolding guarded
  call_passes z = rw (← number_is u log base ok true e, z)
