-- What acting with an index is asked, over plain values.
-- Assumes nothing.
use Prim.Native.Nat.{ℕ, ◌+◌, ◌*◌, ◌%◌, ◌<◌}
use native.Mathlib.Omega.{arith}
use mathlib.Core.Path.{◌≡◌, refl, sym, ap, ap₂, ◌∙◌}
use mathlib.Core.Bool.{Bool, true, false, not}
use mathlib.Core.List.{List, []}
use lib.ListN.{get_or, length}
use borrow.Author.Tests.{not-true}
use Rattle.model.specs.Bytes.{put_at}
use Rattle.model.specs.Record.{Rec, identity, self_of}
use Rattle.model.specs.Log.{records_of}
use Rattle.model.specs.Replay.{Tree, Verdict, fits, aside, judge, reason_of}
use Rattle.base_model.specs.Base.{base_vector, held_on, sound_state, tree_of}
use Rattle.call_model.specs.Outcome.{Outcome, stamped, act_lent, act_of}
use Rattle.act_laws.proofs.Act.{stamped-unit, stamped-num, wish_fits_lem}
use Rattle.tree_laws.proofs.Verdicts.{Under, Reason, reason_least, reason_range}
use Rattle.tree_table.specs.Rows.{InRange, tree_in}
use Rattle.tree_lookup.specs.Roles.{Works}
use Rattle.tree_lookup.proofs.Working.{works_tree}
use Rattle.state_tree.specs.Small.{Small}
use Rattle.base_head.specs.Head.{headed}
use Rattle.act_wish.specs.Stamp.{stamped_by, early_as}
use Rattle.call_guard.specs.Opened.{opened, open_of}
use Rattle.act.specs.Acted.{acted_on, worked_on}
use Rattle.act.proofs.Acting.{free, record_is, early_refused, stands_aside_lem, added, guard_refused, guard_kept, act-done, work_done}
use Rattle.index_model.specs.Acting.{change_in, step_in}
use Rattle.index_model.specs.Kept.{index_fits, if_lent, kept, kept_of, act_kept, act_kept_work}
use Rattle.index_state.proofs.States.{state_rowed}
use Rattle.index_act.specs.Inside.{Inside}
use Rattle.index_act.proofs.Stepping.{laid_inside}
use Rattle.keep_lent.proofs.Lent.{fits_by, lent_same, wrong_index, kept_accepted, kept_refused}
use Rattle.keep_act.specs.Acted.{acted_kept}

-- ---- the index behind a record judged

reason_zero : (v : Verdict) → Under Reason v → reason_of v ≡ 0 → v ≡ fits
unfolding reason_of
reason_zero fits h e = refl
reason_zero (aside n k) h e = absurd (omega (arith, reason_least n h))

aside-leaves : (v : Verdict) (r : Rec) (t : Tree) (i : List ℕ) → (reason_of v ≡ 0 → ⊥) → step_in v r t i ≡ i
unfolding reason_of step_in
aside-leaves fits r t i h = absurd (h refl)
aside-leaves (aside n k) r t i h = refl

-- the table of a sound state has folders and entries that index rows hold
pub laid_within : (log base held : List ℕ) → length base ≡ 43032 → sound_state log base ≡ true → held ≡ held_on log base → Small held
    → (b register : List ℕ) (n m : ℕ) → Works b register n m (tree_of log base) → Inside b n
laid_within log base held long sound e small b register n m w =
    laid_inside b register n m (tree_of log base) w (state_rowed log base long sound (λ u h. rw e at (small.at u h)))

pub index_laid : (b register : List ℕ) (n m : ℕ) (t : Tree) (r : Rec) (i y : List ℕ) → Works b register n m t
    → y ≡ if_lent i (step_in (judge r (tree_in b n m)) r (tree_in b n m) i) → y ≡ if_lent i (step_in (judge r t) r t i)
index_laid b register n m t r i y w e = e ∙ ap (λ (s : Tree). if_lent i (step_in (judge r s) r s i)) (works_tree b register n m t w)

-- ---- what is asked on the way of `act_on`, and its ways out

module _ (u : ℕ) (log base i w : List ℕ) {h : List ℕ} {m n k : ℕ} {r : Rec} (low : u < 8) (wide : length w ≡ 80) (held : h ≡ held_on log base) (list : m ≡ get_or base 0 0) (used : n ≡ length (records_of log)) (own : r ≡ stamped_by ((get_or h u 0 + 1) % 65536) h w) (told : k ≡ early_as m u h n w r) where
  abbrev done : Outcome
  done = acted_on u log base w

  abbrev own-change : List ℕ
  own-change = change_in (stamped u (base_vector base) (records_of log) w) (tree_of log base) i

  pub kept_early : (k ≡ 0 → ⊥) → kept k 0 log i [] ≡ acted_kept u log base i w
  unfolding acted_kept
  kept_early z = kept_refused true log [] i done own-change refl (early_refused u log base w low wide held list used own told z) z

  module _ (z : k ≡ 0) where
    -- a number of at most 65,535 behind a unit of 0 to 7
    pub own_range : InRange (self_of r)
    unfolding self_of identity
    own_range =
        let f = free u log base w low wide held list used own told z in
        let a = (wish_fits_lem u (base_vector base) (records_of log) w f.well).0 in
        let b = stamped-unit u (base_vector base) (records_of log) w wide in
        let c = stamped-num u (base_vector base) (records_of log) w wide in
        let d = f.numbered in
        rw (record_is u log base w low wide held list used own told z) (record { low = omega arith; high = omega arith })

    module _ {x : ℕ} (why : x ≡ reason_of (judge r (tree_of log base))) {y : List ℕ} (left : y ≡ if_lent i (step_in (judge r (tree_of log base)) r (tree_of log base) i)) where
      pub kept-aside : (x ≡ 0 → ⊥) → kept x 0 log y [] ≡ acted_kept u log base i w
      unfolding acted_kept
      kept-aside g =
          let t : Tree = tree_of log base in
          let same : y ≡ i = left ∙ ap (if_lent i) (aside-leaves (judge r t) r t i (λ a. g (why ∙ a))) ∙ sym (lent_same i) in
          rw same (kept_refused true log [] i done own-change refl (stands_aside_lem u log base w low wide held list used own told z why g) g)

      pub kept_added : {o : List ℕ} → length log ≡ 40960 → sound_state log base ≡ true → x ≡ 0 → o ≡ put_at log (80 * n) r → kept 0 0 o y [] ≡ acted_kept u log base i w
      unfolding acted_kept step_in
      kept_added long s g e =
          let v : judge r (tree_of log base) ≡ fits = reason_zero (judge r (tree_of log base)) (reason_range r (tree_of log base)) (sym why ∙ g) in
          let q : y ≡ if_lent i own-change = (rw v at left) ∙ rw (record_is u log base w low wide held list used own told z) in
          kept_accepted true log [] i done own-change refl (added u log base w low wide held list used own told z why long s g e) refl y q

-- ---- what `act` is asked, and its ways out

module _ (u : ℕ) (log base i w work : List ℕ) {fit : Bool} (e : fit ≡ index_fits i) where
  abbrev act-change : List ℕ
  act-change = change_in (stamped u (base_vector base) (records_of log) w) (tree_of log base) i

  pub index_wrong : not fit ≡ true → kept 1 0 log i [] ≡ act_kept u log base i w work
  unfolding act_kept
  index_wrong h = wrong_index (index_fits i) log [] i (act_of u log base w work) act-change fit e h

  pub work_wrong : not fit ≡ true → work ≡ act_kept_work u log base i w work
  unfolding act_kept_work
  work_wrong h = rw (← e, not-true fit h)

  module _ (h : not fit ≡ false) where
    pub index_fit : index_fits i ≡ true
    index_fit = fits_by fit e h

    module _ {n m k j used : ℕ} {v held : List ℕ} (q : opened n (headed m v k j) held used ≡ open_of u log base (act_lent w work) true) where
      pub guard_stops : (n ≡ 0 → ⊥) → kept n 0 log i [] ≡ act_kept u log base i w work
      unfolding act_kept
      guard_stops z = kept_refused (index_fits i) log [] i (act_of u log base w work) act-change index_fit (guard_refused u log base w work q z) z

      pub work_left_lem : (n ≡ 0 → ⊥) → work ≡ act_kept_work u log base i w work
      unfolding act_kept_work
      work_left_lem z = rw index_fit (guard_kept u log base w work q z)

      module _ (z : n ≡ 0) where
        pub guard_passed : {x : ℕ} {o y : List ℕ} → kept x 0 o y [] ≡ acted_kept u log base i w → kept x 0 o y [] ≡ act_kept u log base i w work
        unfolding act_kept acted_kept
        guard_passed p =
            p ∙ ap₂ (λ (f : Bool) (o : Outcome). kept_of f log [] i o act-change) (sym index_fit) (act-done u log base w work q z (acted_on u log base w) refl)

        pub work_kept : {o : List ℕ} → o ≡ worked_on u log base w work → o ≡ act_kept_work u log base i w work
        unfolding act_kept_work
        work_kept {o} p = rw index_fit (work_done u log base w work q z o p)
