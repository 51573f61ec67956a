-- Stores that have folded nothing may always meet.
-- Assumes nothing.
use Prim.Native.Nat.{ℕ, ◌≤◌}
use native.Mathlib.Omega.{arith}
use mathlib.Core.Path.{◌≡◌, sym, subst}
use mathlib.Core.Bool.{true}
use mathlib.Core.List.{List, []}
use lib.ListN.{length}
use Rattle.model.specs.Vector.{covers}
use Rattle.model.specs.Record.{Rec, unit}
use Rattle.model.specs.Log.{count, counts_to, vector_of, records_of, log_bytes}
use Rattle.base_model.specs.Base.{is_listed, empty_base, base_in, base_vector}
use Rattle.vector.proofs.Dominance.{all_covers}
use Rattle.log_laws.specs.Members.{Has}
use Rattle.log_laws.specs.Sound.{Sound}
use Rattle.log_laws.proofs.Counts.{unit_of_lem, no_counts_lem}
use Rattle.log_laws.proofs.Lacking.{has_lacking}
use Rattle.log_laws.proofs.Tests.{vector_on-none, means_sound}
use Rattle.take_laws.proofs.Union.{all_eight}
use Rattle.call_laws.proofs.States.{sound_back, empty_list, empty_vector, fresh_good}
use Rattle.machine.specs.Meeting.{Store, vector_by, Whole, lacked_by, Open}

-- the records l behind an empty base
abbrev pub unfolded : List Rec → Store
unfolded l = record { log = log_bytes l; base = empty_base; folded = [] }

none_counted : vector_of [] ≡ base_vector empty_base
unfolding vector_of counts_to count
none_counted = sym empty_vector

module _ (l : List Rec) (h : Sound l) (few : length l ≤ 512) where
  pub back : records_of (log_bytes l) ≡ l
  back = sound_back l h few

  pub whole : Whole (unfolded l)
  whole = record { good = fresh_good l h few; sound = rw back (means_sound l h); counted = none_counted }

  pub vector_is : vector_by (unfolded l) ≡ vector_of l
  vector_is = rw (empty_vector, back) (vector_on-none l)

-- any counts cover the empty base vector
above : (v : List ℕ) → covers v (base_vector empty_base) ≡ true
above v = all_covers v (base_vector empty_base) (λ u k. rw empty_vector (omega (arith, no_counts_lem u)))

module _ (A : List Rec) (h : Sound A) (few : length A ≤ 512) (sb : Store) (e : sb.base ≡ empty_base) where
  listed : (r : Rec) → Has r (lacked_by (unfolded A) sb) → is_listed (base_in sb.base).list (unit r) ≡ true
  unfolding lacked_by
  listed r i =
      let j : Has r A = subst (Has r) (back A h few) (has_lacking (vector_by sb) (records_of (log_bytes A)) r i) in
      rw (e, empty_list) (all_eight (unit r) (unit_of_lem [] A r h j))

  pub may_meet : Open (unfolded A) sb
  may_meet = record { above = above (vector_by sb); listed = listed; covering = λ r i. rw e (above _) }
