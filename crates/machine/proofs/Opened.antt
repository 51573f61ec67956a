-- Two units of a list of calls may meet, under the premises that folding adds, if the taking unit has what the other has folded.
-- Assumes nothing.
use Prim.Native.Nat.{ℕ, ◌<◌}
use native.Mathlib.Omega.{arith}
use mathlib.Core.Path.{◌≡◌, sym, ◌∙◌, subst}
use mathlib.Core.Logic.{◌⊎◌, inr}
use mathlib.Core.Bool.{true, false}
use mathlib.Core.List.{List, [], ◌++◌}
use lib.ListN.{get_or}
use lib.Seq.{ext_get_or}
use Rattle.model.specs.Vector.{covers}
use Rattle.model.specs.Record.{Rec, unit, num, seen_vector}
use Rattle.model.specs.Log.{vector_of, records_of}
use Rattle.base_model.specs.Base.{is_listed, base_vector, base_in}
use Rattle.vector.proofs.Dominance.{all_covers}
use Rattle.log_laws.specs.Members.{Has, Agree}
use Rattle.log_laws.proofs.Formed.{well_unit}
use Rattle.log_laws.proofs.Members.{append_has}
use Rattle.log_laws.proofs.Counts.{unit_of_lem, number_held}
use Rattle.log_laws.proofs.Lacking.{has_lacking, lacking_beyond}
use Rattle.log_laws.proofs.Tests.{vector_of-length, vector_of_get_d, seen_vector_get_d, means_sound}
use Rattle.call_laws.proofs.Given.{base_eight}
use Rattle.machine.specs.Machine.{Bench, held}
use Rattle.machine.specs.Claim.{named, is_among, steady}
use Rattle.machine.specs.Meeting.{Store, held_by, vector_by, Whole, lacked_by, Open}
use Rattle.machine.proofs.Reach.{Inv, held_used}
use Rattle.machine.proofs.Steady.{Told, steady-at, never_26, never_27}
use Rattle.machine.proofs.Meeting.{whole_vector}

-- what a unit of a bench has
abbrev pub store_at : Bench → ℕ → Store
store_at s u = record { log = s.logs u; base = s.bases u; folded = s.folded u }

module _ (archive : ℕ) (s : Bench) (i : Inv archive s) where
  pub whole-at : (u : ℕ) → Whole (store_at s u)
  unfolding base_in
  whole-at u =
      record {
        good = i.good u;
        sound = means_sound (held_by (store_at s u)) (i.stored.kept u).sound;
        counted =
            ext_get_or 0 (vector_of (s.folded u)) (base_vector (s.bases u)) (vector_of-length (s.folded u) ∙ sym (base_eight (s.bases u))) (λ x k.
            let b : x < 8 = omega (arith, vector_of-length (s.folded u)) in
            vector_of_get_d (s.folded u) x b ∙ sym ((i.stored.kept u).counts x b));
      }

  -- the premises at this moment
  module _ (t : Told s) (agree : Agree s.used s.used) (names : named s.lists s.used ≡ true) (firm : steady s.folders s.fallen ≡ true) (a b : ℕ) where
    low : (r : Rec) → Has r s.used → unit r < 8
    low r j = well_unit r (i.stored.formed r j)

    sure : (is_among b s.folders ≡ false) ⊎ (is_among b s.fallen ≡ false)
    sure = steady-at s.folders s.fallen firm b

    -- a record of a that b lacks is used, and b does not hold it
    lacked_used : (r : Rec) → Has r (lacked_by (store_at s a) (store_at s b)) → Has r s.used
    unfolding lacked_by held
    lacked_used r j =
        let l : List Rec = records_of (s.logs a) in
        held_used archive s i a r (append_has (s.folded a) l r (inr (has_lacking (vector_by (store_at s b)) l r j)))

    lacked_new : (r : Rec) → Has r (lacked_by (store_at s a) (store_at s b)) → Has r (held s b) → ⊥
    unfolding lacked_by held
    lacked_new r j h =
        let B : List Rec = s.folded b ++ records_of (s.logs b) in
        let k = unit_of_lem [] B r (i.stored.kept b).sound h in
        let v = subst (λ (v : List ℕ). get_or v (unit r) 0 < num r) (whole_vector (store_at s b) (whole-at b)) (lacking_beyond (vector_by (store_at s b)) (records_of (s.logs a)) r j) in
        omega (arith, vector_of_get_d B (unit r) k, number_held B r (i.stored.kept b).sound h)

    listed : (r : Rec) → Has r (lacked_by (store_at s a) (store_at s b)) → is_listed (base_in (s.bases b)).list (unit r) ≡ true
    listed r j = never_26 archive s i t s.used (λ x y. y) agree low names b sure r (lacked_used r j)

    covering : (r : Rec) → Has r (lacked_by (store_at s a) (store_at s b)) → covers (seen_vector r) (base_vector (s.bases b)) ≡ true
    covering r j =
        all_covers (seen_vector r) (base_vector (s.bases b)) (λ u k.
        omega (arith, never_27 archive s i t s.used (λ x y. y) agree low names b sure r (lacked_used r j) (lacked_new r j) u k, seen_vector_get_d r u k))

    pub may_meet : covers (vector_by (store_at s b)) (base_vector (s.bases a)) ≡ true → Open (store_at s a) (store_at s b)
    may_meet above = record { above = above; listed = listed; covering = covering }
