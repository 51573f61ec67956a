-- What the claims ask for is there: a good state with a folded record, whose file is accepted and cannot go back; and a base that gives 31.
-- Assumes nothing.
use Prim.Native.Nat.{ℕ}
use native.Mathlib.Omega.{arith}
use mathlib.Core.Path.{◌≡◌, refl, ap}
use mathlib.Core.Bool.{true, false}
use mathlib.Core.List.{List, [], ◌∷◌}
use lib.ListN.{length, replicate}
use Rattle.model.specs.Bytes.{blank}
use Rattle.model.specs.Log.{all_to, vector_on, records_of, log_bytes}
use Rattle.model.specs.Replay.{empty_tree}
use Rattle.model.specs.File.{fault}
use Rattle.base_model.specs.Base.{Base, bits, is_listed, lists_all, base_bytes, base_in, base_vector, sound_base}
use Rattle.sab2_model.specs.Sab2.{sab2_of, sab2_base, base_stands, checked_sab2, either_fault}
use Rattle.sab2_model.specs.Calls.{to_sab1_of}
use Rattle.tree_laws.proofs.Trees.{sound_empty}
use Rattle.base_laws.specs.Laid.{Lays}
use Rattle.base_laws.proofs.LaidTree.{bytes_length}
use Rattle.base_laws.proofs.Claims.{laid_back, laid_sound}
use Rattle.call_laws.specs.Keeps.{Good}
use Rattle.call_laws.proofs.States.{all_listed, state_good}
use Rattle.sab2_row_laws.proofs.Bases.{sound_laid}
use Rattle.sab2_laws.proofs.Written as Written
use Rattle.sab2_laws.proofs.Claims.{back_29_exactly, unsound_base_gives_31, sound_state_gives_none}

-- one record of unit 0 is folded and has left nothing; m is listed
abbrev folded : ℕ → Base
folded m = record { list = m; vector = 1 ∷ replicate 7 0; tree = empty_tree }

lays : (m : ℕ) → Lays (folded m)
unfolding empty_tree
lays m =
    record {
      eight = refl;
      few_entries = omega arith;
      few_asides = omega arith;
      sound = sound_empty (1 ∷ replicate 7 0);
      none-removed = λ e i. absurd i;
    }

abbrev base : ℕ → List ℕ
base m = base_bytes (folded m)

long : (m : ℕ) → length (base m) ≡ 43032
long m = bytes_length (folded m) (lays m)

sound : (m : ℕ) → sound_base (base m) ≡ true
sound m = laid_sound (folded m) (lays m)

vector_is : (m : ℕ) → base_vector (base m) ≡ 1 ∷ replicate 7 0
unfolding base_in
vector_is m = ap (λ (b : Base). b.vector) (laid_back (folded m) (lays m))

list_is : (m : ℕ) → (base_in (base m)).list ≡ m
list_is m = ap (λ (b : Base). b.list) (laid_back (folded m) (lays m))

-- all eight are listed, and no record is left in the log
pub state : Good (log_bytes []) (base 255)
state = state_good (base 255) [] (long 255) (sound 255) tt (omega arith) (rw (list_is 255) (all_listed (vector_on (base_vector (base 255)) [])))

-- its file is accepted
pub accepted : either_fault (sab2_of 7 3 (base 255) (records_of (log_bytes []))) ≡ fault 0 0
accepted = sound_state_gives_none 7 3 (log_bytes []) (base 255) state (omega arith)

-- and the way back of it is refused with 29
pub no_way_back : (lent : List ℕ) → length lent ≡ 44032 → (to_sab1_of (sab2_of 7 3 (base 255) (records_of (log_bytes []))) lent).number ≡ 29
unfolding blank fault
no_way_back lent n =
    let f : List ℕ = sab2_of 7 3 (base 255) (records_of (log_bytes [])) in
    let b : blank (base_vector (sab2_base f)) ≡ false = rw (Written.state_base 7 3 (log_bytes []) (base 255) state (omega arith), vector_is 255) in
    let e : (checked_sab2 f).number ≡ 0 = rw (Written.state_faultless 7 3 (log_bytes []) (base 255) state (omega arith)) in
    (back_29_exactly f lent n).1 (e, b)

-- with no unit listed the file is refused with 31
pub unlisted : either_fault (sab2_of 7 3 (base 0) []) ≡ fault 31 0
unfolding base_stands base_in lists_all all_to is_listed bits
unlisted =
    let z : base_stands (base 0) ≡ false = rw (list_is 0, vector_is 0) in
    unsound_base_gives_31 7 3 (base 0) [] (sound_laid (base 0) (long 0) (sound 0)) tt (omega arith) (omega arith) z
