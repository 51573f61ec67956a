-- A call does not tell units above 7 apart, so that the narrowed unit answers as the one given.
-- Assumes nothing.
use Prim.Native.Nat.{ℕ, suc, ◌≤◌, ◌<◌}
use mathlib.Core.Path.{◌≡◌, refl}
use mathlib.Core.Logic.{◌⊎◌, inl, inr, ⊎_elim}
use mathlib.Core.Bool.{Bool, true, false, ◌&&◌}
use mathlib.Core.List.{List, []}
use lib.Dec.{leb, eqb}
use lib.ListN.{length, take}
use borrow.Author.Tests.{le-leb, lt-leb}
use Rattle.model.specs.Numbers.{first_of}
use Rattle.model.specs.Log.{records_of}
use Rattle.model.specs.Replay.{Tree, replay_from}
use Rattle.model.specs.Block.{given_fault}
use Rattle.base_model.specs.Base.{base_vector, base_in, held_on, tree_of}
use Rattle.call_model.specs.Outcome.{Outcome, guard_number, guarded, start_of, acted, act_number, early_wish, act_lent, act_of, act_work, work_after, handed, hand_of, took_block, take_of, written, write_of}
use Rattle.call_model.specs.Fold.{list_number, run_in, fold_by, fold_of, fold_work}
use Rattle.sab_words.specs.Words.{narrowed}

-- ---- the byte

pub above : (u : ℕ) → 7 < u → 255 ≡ narrowed u
unfolding narrowed
above u h = rw (lt-leb u 7 h)

pub within : (u : ℕ) → u ≤ 7 → u ≡ narrowed u
unfolding narrowed
within u h = rw (le-leb u 7 h)

-- ---- what is answered

-- the guard refuses both, or both are the same
module _ (u : ℕ) (log base : List ℕ) where
  pub guard_alike : (ok row : Bool) → (guard_number (narrowed u) log base ok row ≡ guard_number u log base ok row) × ((narrowed u ≡ u) ⊎ ((k : ℕ) × (guard_number u log base ok row ≡ suc k)))
  unfolding narrowed
  guard_alike ok row = on (leb u 7) refl
    where
      at255 : leb u 7 ≡ false → (t : Bool) → (eqb (length log) 40960 && (eqb (length base) 43032 && ok)) ≡ t
          → (guard_number (narrowed u) log base ok row ≡ guard_number u log base ok row) × ((narrowed u ≡ u) ⊎ ((k : ℕ) × (guard_number u log base ok row ≡ suc k)))
      at255 e true x = let n : narrowed u ≡ 255 = rw e in (rw (n, e, x), inr (20, rw (e, x)))
      at255 e false x = let n : narrowed u ≡ 255 = rw e in (rw (n, e, x), inr (0, rw x))

      on : (b : Bool) → leb u 7 ≡ b → (guard_number (narrowed u) log base ok row ≡ guard_number u log base ok row) × ((narrowed u ≡ u) ⊎ ((k : ℕ) × (guard_number u log base ok row ≡ suc k)))
      on true e = let n : narrowed u ≡ u = rw e in (rw n, inl n)
      on false e = at255 e (eqb (length log) 40960 && (eqb (length base) 43032 && ok)) refl

  -- behind the checks 1, 21 and 19 the unit is 7 or below
  pub guarded-alike : (lent : List ℕ) (ok : Bool) (f : ℕ → Outcome) → guarded (narrowed u) log base lent ok (f (narrowed u)) ≡ guarded u log base lent ok (f u)
  unfolding guarded
  guarded-alike lent ok f =
      let (a, b) = guard_alike ok true in
      ⊎_elim (λ n. rw n) (λ (k, q). rw (a, q)) b

  -- and so with the work memory
  pub work_alike : (ok : Bool) (f : ℕ → ℕ) (t : ℕ → Tree) (work : List ℕ)
      → work_after (first_of (guard_number (narrowed u) log base ok true) (f (narrowed u))) (t (narrowed u)) work ≡ work_after (first_of (guard_number u log base ok true) (f u)) (t u) work
  work_alike ok f t work =
      let (a, b) = guard_alike ok true in
      ⊎_elim (λ n. rw n) (λ (k, q). rw (a, q)) b

module _ (u : ℕ) (log base : List ℕ) where
  pub start_alike : start_of (narrowed u) log base ≡ start_of u log base
  unfolding narrowed start_of
  start_alike = on (leb u 7) refl
    where
      at255 : leb u 7 ≡ false → (t : Bool) → (eqb (length log) 40960 && (eqb (length base) 43032 && true)) ≡ t → start_of (narrowed u) log base ≡ start_of u log base
      at255 e true x = let n : narrowed u ≡ 255 = rw e in rw (n, e, x)
      at255 e false x = let n : narrowed u ≡ 255 = rw e in rw (n, e, x)

      on : (b : Bool) → leb u 7 ≡ b → start_of (narrowed u) log base ≡ start_of u log base
      on true e = let n : narrowed u ≡ u = rw e in rw n
      on false e = at255 e (eqb (length log) 40960 && (eqb (length base) 43032 && true)) refl

  pub act-alike : (w work : List ℕ) → act_of (narrowed u) log base w work ≡ act_of u log base w work
  unfolding act_of
  act-alike w work =
      guarded-alike u log base [] (act_lent w work)
      (λ v. acted v log (base_vector base) w (act_number (base_in base).list v (base_vector base) (base_in base).tree (records_of log) w))

  pub act_work_alike : (w work : List ℕ) → act_work (narrowed u) log base w work ≡ act_work u log base w work
  unfolding act_work
  act_work_alike w work =
      work_alike u log base (act_lent w work) (λ v. early_wish (base_in base).list v (base_vector base) (records_of log) w) (λ _. tree_of log base) work

  pub hand_alike : (archive : ℕ) (v lent : List ℕ) → hand_of archive (narrowed u) log base v lent ≡ hand_of archive u log base v lent
  unfolding hand_of
  hand_alike archive v lent = guarded-alike u log base lent (eqb (length lent) 512) (λ n. handed archive n log base v lent)

  pub take-alike : (archive : ℕ) (b : List ℕ) → take_of archive (narrowed u) log base b ≡ take_of archive u log base b
  unfolding take_of
  take-alike archive b = guarded-alike u log base [] true (λ n. took_block log base b (given_fault archive b))

  pub write_alike : (archive : ℕ) (lent : List ℕ) → write_of archive (narrowed u) log base lent ≡ write_of archive u log base lent
  unfolding write_of
  write_alike archive lent = guarded-alike u log base lent (eqb (length lent) 44032) (λ n. written archive n log base lent)

  pub fold_alike : (m : ℕ) (work : List ℕ) → fold_of (narrowed u) log base m work ≡ fold_of u log base m work
  unfolding fold_of
  fold_alike m work = guarded-alike u log base base (eqb (length work) 86020) (λ n. fold_by m n log base)

  pub fold_work_alike : (m : ℕ) (work : List ℕ) → fold_work (narrowed u) log base m work ≡ fold_work u log base m work
  unfolding fold_work
  fold_work_alike m work =
      work_alike u log base (eqb (length work) 86020) (λ n. list_number m n (held_on log base)) (λ n. replay_from (base_in base).tree (take (run_in m n log base) (records_of log))) work
