-- The ways out of the check of a state, over plain values.
-- Assumes nothing.
use Prim.Native.Nat.{ℕ, ◌*◌}
use mathlib.Core.Path.{◌≡◌, sym, ap, ◌∙◌, subst}
use mathlib.Core.Logic.{⊎_elim}
use mathlib.Core.Bool.{Bool, true, false, not, ◌&&◌}
use mathlib.Core.List.{List, []}
use lib.ListN.{length, drop, get_or}
use borrow.Author.Tests.{not-true, not-false}
use Rattle.model.specs.Bytes.{blank}
use Rattle.model.specs.Log.{records_of, sound_after, sound_log_on}
use Rattle.byte_slice.proofs.Numbers.{bool_cases, and_true}
use Rattle.base_model.specs.Base.{lists_all, base_vector, sound_base, held_on, sound_state}
use Rattle.base_head.specs.Head.{BaseHead, head_of}
use Rattle.log_closure.specs.declared.Tables.{Tables}
use Rattle.log_closure.specs.Tables.{tables, Indexed}
use Rattle.log_check.specs.declared.Layout.TheVariants.{Log}
use Rattle.log_check.specs.Places.{laid_at}
use Rattle.log_check.specs.InOrder.{held_of, Check, checked, check_of}
use Rattle.log_check.proofs.Sound.{checked_sound, checked_used, checked-held}
use Rattle.state_check.specs.State.{stated, unsound, state_of, note_of}

-- ---- the ways out of `check_state_into`

module _ (log base : List ℕ) {p : Bool} (e : p ≡ sound_base base) where
  module _ (f : not p ≡ true) where
    pub base_refused : unsound ≡ state_of log base
    unfolding state_of sound_state
    base_refused = rw (← e, not-true p f)

    pub base_unnoted : (t : Tables) → t ≡ note_of log base t
    unfolding note_of
    base_unnoted t = rw (← e, not-true p f)

  module _ (f : not p ≡ false) where
    based : sound_base base ≡ true
    based = sym e ∙ not-false p f

    module _ (h : BaseHead) (hd : h ≡ head_of base) (places₀ seens₀ : List ℕ) (s : Bool) (used : ℕ) (held places seens : List ℕ) (c : checked s used held places seens ≡ check_of h.folded log places₀ seens₀) where
      folded_is : h.folded ≡ base_vector base
      unfolding head_of
      folded_is = ap (λ (x : BaseHead). x.folded) hd

      list_is : h.list ≡ get_or base 0 0
      unfolding head_of
      list_is = ap (λ (x : BaseHead). x.list) hd

      behind : checked s used held places seens ≡ check_of (base_vector base) log places₀ seens₀
      behind = rw folded_is at c

      sound_is : s ≡ sound_log_on (base_vector base) log
      sound_is = checked_sound (base_vector base) log places₀ seens₀ behind

      -- of a sound log, the held vector
      held_is : s ≡ true → held ≡ held_on log base
      unfolding held_of sound_log_on
      held_is t =
          checked-held (base_vector base) log places₀ seens₀ behind
          ∙ rw (and_true (sound_after (base_vector base) [] (records_of log)) (blank (drop (80 * length (records_of log)) log)) (sym sound_is ∙ t)).0

      passes_is : (s && lists_all h.list held) ≡ sound_state log base
      unfolding sound_state
      passes_is =
          ⊎_elim
          (λ (t : s ≡ true). rw (based, ← sound_is, t, list_is, held_is t))
          (λ (t : s ≡ false). rw (based, ← sound_is, t))
          (bool_cases s)

      state_is : sound_state log base ≡ true → s ≡ true → stated true h held used ≡ state_of log base
      unfolding state_of
      state_is t y = rw (t, hd, held_is y, checked_used (base_vector base) log places₀ seens₀ behind)

      not_sound : sound_state log base ≡ false → unsound ≡ state_of log base
      unfolding state_of
      not_sound t = rw t

      pub log_refused : s ≡ false → unsound ≡ state_of log base
      log_refused y = not_sound (sym passes_is ∙ rw y)

      module _ (y : s ≡ true) {t : Bool} (g : t ≡ lists_all h.list held) where
        pub unit_refused : not t ≡ true → unsound ≡ state_of log base
        unit_refused k = not_sound (sym passes_is ∙ rw (y, ← g, not-true t k))

        pub state_sound : not t ≡ false → stated true h held used ≡ state_of log base
        state_sound k = state_is (sym passes_is ∙ rw (y, ← g, not-false t k)) y

      pub state_holds : Indexed h.folded (laid_at Log log) used (records_of log) held places seens → Indexed (base_vector base) (laid_at Log log) used (records_of log) held places seens
      state_holds i = subst (λ (v : List ℕ). Indexed v (laid_at Log log) used (records_of log) held places seens) folded_is i

    pub state_noted : (before after : Tables) (h : BaseHead) (s : Bool) (used : ℕ) (held : List ℕ) → h ≡ head_of base
        → checked s used held after.places after.seens ≡ check_of h.folded log before.places before.seens → after ≡ note_of log base before
    unfolding note_of
    state_noted before after h s used held hd c =
        rw based (ap (λ (x : Check). tables x.places x.seens) (behind h hd before.places before.seens s used held after.places after.seens c))
