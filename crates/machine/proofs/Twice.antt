-- A number used twice, computed: unit 0 made folder A, lost its log, was started and made folder B. Unit 1 holds the first, unit 0
-- the second. Asking with the held vector brings nothing; asking carefully is refused with 10.
-- Assumes nothing.
use Prim.Native.Nat.{ℕ, ◌≤◌}
use native.Mathlib.Omega.{arith}
use mathlib.Core.Path.{◌≡◌, refl, sym, subst, ◌∙◌}
use mathlib.Core.Logic.{inl}
use mathlib.Core.Bool.{true, false, false≢true}
use mathlib.Core.List.{List, [], ◌∷◌, ◌++◌}
use lib.ListN.{replicate}
use Rattle.model.specs.Bytes.{word, long, blank, same_bytes, part}
use Rattle.model.specs.Vector as W
use Rattle.model.specs.Date as D
use Rattle.model.specs.Record as R
use Rattle.model.specs.Log as L
use Rattle.base_model.specs.Base as Base
use Rattle.call_model.specs.Outcome as O
use Rattle.byte_slice.proofs.Compare.{same_refl}
use Rattle.log_laws.proofs.Tests.{sound_means}
use Rattle.call_laws.proofs.States.{empty_vector}
use Rattle.machine.specs.Careful.{lowered, Noticed}
use Rattle.machine.proofs.Careful.{careful_asking}
use Rattle.machine.proofs.Unfolded.{unfolded, back, whole, may_meet}

-- record 0.1 makes a folder in the root on 3 March 2025
make : ℕ → R.Rec
make label = (0 ∷ 1 ∷ 1 ∷ 0 ∷ []) ++ (replicate 24 0 ++ ((233 ∷ 7 ∷ 3 ∷ 3 ∷ []) ++ (label ∷ replicate 47 0)))

pub lost : R.Rec
lost = make 65

pub again : R.Rec
again = make 66

pub A : List R.Rec
A = again ∷ []

pub B : List R.Rec
B = lost ∷ []

-- both logs are sound; nothing is lacking; carefully asked, 10; and the bytes differ
pub computed :
    (L.sound_after L.no_counts [] A ≡ true)
    × (L.sound_after L.no_counts [] B ≡ true)
    × (L.lacking (L.vector_of B) A ≡ [])
    × (O.takes_all 255 L.no_counts B (L.lacking (lowered (L.vector_of B) L.no_counts L.no_counts) A) ≡ O.refused 10)
    × (same_bytes again lost ≡ false)
    × (R.unit again ≡ R.unit lost)
    × (R.num again ≡ R.num lost)
    × (R.num lost ≡ L.count_on L.no_counts (R.unit lost) B)
unfolding make lost again A B lowered word long blank same_bytes part W.covers_to W.covers W.counts_at W.vector_at D.is_leap D.days_of D.is_date R.unit R.op R.num R.seen R.seen_vector R.text_length R.printable R.is_label R.uses_object R.uses_folder R.uses_label R.uses_mark R.unused R.names R.object_fits R.folder_fits R.label_fits R.mark_fits R.date_fits R.head_fits R.well_formed L.count L.counts_to L.counts_on_to L.vector_on L.vector_of L.by_id L.is_next L.is_within L.all_to L.nowhere_above L.is_closed L.rises L.record_fault L.sound_after L.lacking O.take_held O.is_folded O.take_one O.takes_all R.label_of Base.bits Base.is_listed
computed = (refl, refl, refl, refl, refl, refl, refl, refl)

-- so the careful asking of unit 1 ends with a refusal; the premises can be met
pub noticed : Noticed 7 0 1 (unfolded A) (unfolded B) again
unfolding A B
noticed =
    let (x, y, _, _, d, u, n, c) = computed in
    let s_a = sound_means A x in
    let s_b = sound_means B y in
    let one : 1 ≤ 512 = omega arith in
    let ra : L.records_of (L.log_bytes A) ≡ A = back A s_a one in
    let rb : L.records_of (L.log_bytes B) ≡ B = back B s_b one in
    careful_asking 7 0 1 (unfolded A) (unfolded B) (omega arith) (omega arith) (whole A s_a one) (whole B s_b one) (may_meet A s_a one (unfolded B) refl) again lost
    (record {
      first = rw ra (inl refl);
      second = rw rb (inl refl);
      same_unit = u;
      same_number = n;
      other_bytes = λ (e : again ≡ lost). false≢true (sym d ∙ subst (λ (r : R.Rec). same_bytes again r ≡ true) e (same_refl again));
    })
    (rw (empty_vector, rb) c)
