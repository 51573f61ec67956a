-- A sound state part by part: base, log behind it, and the units that are listed; what keeps it sound.
-- Assumes nothing.
use Prim.Native.Nat.{ℕ, ◌≤◌, ◌<◌}
use native.Mathlib.Omega.{arith}
use mathlib.Core.Path.{◌≡◌, ap, subst}
use mathlib.Core.Logic.{◌⊎◌, inl, inr, ⊎_elim}
use mathlib.Core.Bool.{true}
use mathlib.Core.List.{List, []}
use lib.ListN.{get_or, length, replicate}
use Rattle.model.specs.Record.{Rec, unit}
use Rattle.model.specs.Log.{no_counts, count_on, vector_on, records_of, sound_log_on, log_bytes}
use Rattle.base_model.specs.Base.{Base, is_listed, lists_all, empty_base, base_vector, base_in, sound_base, held_on, sound_state}
use Rattle.byte_slice.proofs.Numbers.{lt_or_ge, eq_or_ne}
use Rattle.log_laws.specs.Members.{Has}
use Rattle.log_laws.specs.Sound.{SoundOn, Sound}
use Rattle.log_laws.proofs.Counts.{unit_of_on, own_of_on, number_held_on, find_held_on}
use Rattle.log_laws.proofs.Tests.{vector_on_get_d}
use Rattle.take_laws.proofs.Union.{all_eight}
use Rattle.base_laws.proofs.Lists as Lists
use Rattle.base_laws.proofs.Fresh.{empty_back}
use Rattle.base_laws.proofs.Folds.{state_base, state_log, state_listed, state_sound}
pub use Rattle.base_laws.proofs.Fresh.{empty_length, empty_vector, empty_tree_lem, empty_sound}
use Rattle.encoding_laws.proofs.Logs.{sound_proper_on, proper_sized, length-log_bytes, records_back, sound_records_on, log_sound_on, log_sound, empty_log}
use Rattle.call_laws.specs.Keeps.{Good, GoodLog}

-- ---- the list

-- of a unit that is counted
pub lists_at : (m : ℕ) (v : List ℕ) → lists_all m v ≡ true → (u : ℕ) → u < 8 → (get_or v u 0 ≡ 0) ⊎ (is_listed m u ≡ true)
lists_at m v e u k = ⊎_elim (λ z. inl z) (λ z. inr (Lists.all_listed m v e u k z)) (eq_or_ne (get_or v u 0) 0)

pub all_lists : (m : ℕ) (v : List ℕ) → ((u : ℕ) → u < 8 → (get_or v u 0 ≡ 0) ⊎ (is_listed m u ≡ true)) → lists_all m v ≡ true
all_lists m v h = Lists.lists_all_lem m v (λ u k z. ⊎_elim (λ a. absurd (z a)) (λ a. a) (h u k))

-- the list 255 names all
pub all_listed : (v : List ℕ) → lists_all 255 v ≡ true
all_listed v = all_lists 255 v (λ u k. inr (all_eight u k))

-- the unit of a held record is listed
pub held-listed : (m : ℕ) (v : List ℕ) (l : List Rec) → SoundOn v l → lists_all m (vector_on v l) ≡ true → (s : Rec) → Has s l → is_listed m (unit s) ≡ true
held-listed m v l h e s i =
    let k = unit_of_on v [] l s h i in
    ⊎_elim
    (λ (z : get_or (vector_on v l) (unit s) 0 ≡ 0).
    absurd (omega (arith, vector_on_get_d v l (unit s) k, number_held_on v l s h i, own_of_on v [] l s h i)))
    (λ a. a)
    (lists_at m (vector_on v l) e (unit s) k)

-- more records, each held before or of a listed unit
pub lists_grown : (m : ℕ) (v : List ℕ) (l k : List Rec) → SoundOn v l → SoundOn v k → lists_all m (vector_on v l) ≡ true
    → ((s : Rec) → Has s k → Has s l ⊎ (is_listed m (unit s) ≡ true)) → lists_all m (vector_on v k) ≡ true
lists_grown m v l k h g e f = all_lists m (vector_on v k) (λ u b. at u b (lt_or_ge (get_or v u 0) (count_on v u k)) (lists_at m (vector_on v l) e u b))
  where
    at : (u : ℕ) → u < 8 → (get_or v u 0 < count_on v u k) ⊎ (count_on v u k ≤ get_or v u 0) → (get_or (vector_on v l) u 0 ≡ 0) ⊎ (is_listed m u ≡ true)
        → (get_or (vector_on v k) u 0 ≡ 0) ⊎ (is_listed m u ≡ true)
    at u b c (inr a) = inr a
    at u b (inr c) (inl a) = inl (omega (arith, vector_on_get_d v k u b, vector_on_get_d v l u b))
    at u b (inl c) (inl a) =
        let (s, i, p, n) = find_held_on v k u (count_on v u k) g c (omega arith) in
        inr (⊎_elim (λ j. rw p at (held-listed m v l h e s j)) (λ (j : is_listed m (unit s) ≡ true). rw p at j) (f s i))

-- ---- the parts of a sound state

pub record Parts (log base : List ℕ) : Type 0 where
  pub base_sound : sound_base base ≡ true
  pub log_sound : sound_log_on (base_vector base) log ≡ true
  pub listed : lists_all (base_in base).list (held_on log base) ≡ true

pub state_parts : (log base : List ℕ) → sound_state log base ≡ true → Parts log base
unfolding base_in
state_parts log base e = record { base_sound = state_base log base e; log_sound = state_log log base e; listed = state_listed log base e }

pub parts_state : (log base : List ℕ) → Parts log base → sound_state log base ≡ true
unfolding base_in
parts_state log base p = state_sound log base p.base_sound p.log_sound p.listed

-- ---- what a good state says of its records

module _ (log base : List ℕ) (g : Good log base) where
  pub good_base : sound_base base ≡ true
  good_base = (state_parts log base g.sound).base_sound

  pub good_log : sound_log_on (base_vector base) log ≡ true
  good_log = (state_parts log base g.sound).log_sound

  pub good_records : SoundOn (base_vector base) (records_of log)
  good_records = sound_records_on (base_vector base) log good_log

  pub good_lists : lists_all (base_in base).list (held_on log base) ≡ true
  good_lists = (state_parts log base g.sound).listed

  pub good_listed : (s : Rec) → Has s (records_of log) → is_listed (base_in base).list (unit s) ≡ true
  good_listed = held-listed (base_in base).list (base_vector base) (records_of log) good_records good_lists

-- ---- a good state of given records

pub sound_back_on : (v : List ℕ) (l : List Rec) → SoundOn v l → length l ≤ 512 → records_of (log_bytes l) ≡ l
sound_back_on v l h k = records_back l (sound_proper_on v l h) k

pub sound_back : (l : List Rec) → Sound l → length l ≤ 512 → records_of (log_bytes l) ≡ l
sound_back l h k = sound_back_on no_counts l h k

-- behind a sound base
pub state_good : (base : List ℕ) (l : List Rec) → length base ≡ 43032 → sound_base base ≡ true → SoundOn (base_vector base) l → length l ≤ 512
    → lists_all (base_in base).list (vector_on (base_vector base) l) ≡ true → Good (log_bytes l) base
state_good base l n b h k e =
    record {
      long = (length-log_bytes l (proper_sized l (sound_proper_on (base_vector base) l h)) k, n);
      sound =
          parts_state (log_bytes l) base
          (record {
            base_sound = b;
            log_sound = log_sound_on (base_vector base) l h k;
            listed = rw (sound_back_on (base_vector base) l h k) e;
          });
    }

-- the records of a good state, and others of listed units
pub grown_good : (log base : List ℕ) (l : List Rec) → Good log base → SoundOn (base_vector base) l → length l ≤ 512
    → ((s : Rec) → Has s l → Has s (records_of log) ⊎ (is_listed (base_in base).list (unit s) ≡ true)) → Good (log_bytes l) base
grown_good log base l g h k f =
    state_good base l g.long.1 (good_base log base g) h k
    (lists_grown (base_in base).list (base_vector base) (records_of log) l (good_records log base g) h (good_lists log base g) f)

-- ---- the empty base

pub empty_list : (base_in empty_base).list ≡ 255
empty_list = ap (λ (b : Base). b.list) empty_back

-- sound records with nothing folded
pub log_good : (l : List Rec) → Sound l → length l ≤ 512 → GoodLog (log_bytes l)
log_good l h k = record { long = length-log_bytes l (proper_sized l (sound_proper_on no_counts l h)) k; sound = log_sound l h k }

pub fresh_good : (l : List Rec) → Sound l → length l ≤ 512 → Good (log_bytes l) empty_base
fresh_good l h k =
    state_good empty_base l empty_length empty_sound (rw empty_vector h) k (rw empty_list (all_listed (vector_on (base_vector empty_base) l)))

pub zeros_good : Good (replicate 40960 0) empty_base
zeros_good = subst (λ (b : List ℕ). Good b empty_base) empty_log (fresh_good [] tt (omega arith))
