-- An accepted merge of two files: both are good, of one archive, and their records agree and have room together; it leaves a good log. A
-- refused one leaves every byte as it was.
-- Assumes nothing.
use Prim.Native.Nat.{ℕ, ◌+◌, ◌≤◌}
use native.Mathlib.Omega.{arith}
use mathlib.Core.Path.{◌≡◌, refl, ◌∙◌}
use mathlib.Core.Logic.{⊎_elim}
use mathlib.Core.Bool.{true, false, ◌&&◌}
use mathlib.Core.List.{List}
use lib.Dec.{eqb}
use lib.ListN.{length}
use borrow.Author.Tests.{eqb-true, eqb-false, eq-eqb}
use Rattle.model.specs.Record.{Rec}
use Rattle.model.specs.Log.{vector_of, lacking}
use Rattle.model.specs.Block.{archive_in}
use Rattle.model.specs.File.{Fault, fault, file_length, block_at, file_records, or_else, file_fault, checked_fault}
use Rattle.model.specs.Merge.{union, bytes_fault, room_fault, records_clash, archive_fault, union_fault, Merged, unless, unless_any, joined_file, merge_of}
use Rattle.byte_slice.proofs.Numbers.{bool_cases, and_true, true_and}
use Rattle.log_laws.specs.Members.{Agree}
use Rattle.log_laws.specs.Sound.{Sound}
use Rattle.log_laws.proofs.Tests.{sound_means}
use Rattle.merge_laws.specs.Both.{Both}
use Rattle.merge_laws.proofs.Union.{union_both}
use Rattle.merge_laws.proofs.Counts.{union-longer}
use Rattle.merge_laws.proofs.Faults.{agree_from, agree_bytes, room_left, left_room}
use Rattle.call_laws.specs.Keeps.{Merges}
use Rattle.call_laws.proofs.States.{log_good}
use Rattle.call_laws.proofs.Reading.{no_fault, file_records_lem}

-- ---- one file

pub checked_both : (f : List ℕ) → (checked_fault f).number ≡ 0 → (file_length f ≡ true) × ((file_fault f).number ≡ 0)
unfolding fault
checked_both f z =
    ⊎_elim
    (λ (t : file_length f ≡ true). (t, rw t at z))
    (λ (t : file_length f ≡ false). absurd (let x : ◌≡◌ {A = ℕ} 2 0 = rw t at z in omega arith))
    (bool_cases (file_length f))

pub file_sound : (f : List ℕ) → (checked_fault f).number ≡ 0 → Sound (file_records f)
file_sound f z = sound_means (file_records f) (file_records_lem f (checked_both f z).1).0

pub file_few : (f : List ℕ) → (checked_fault f).number ≡ 0 → length (file_records f) ≤ 512
file_few f z = (file_records_lem f (checked_both f z).1).1

-- ---- two files

-- the archives are one
pub archives_one : (f g : List ℕ) → (union_fault f g).number ≡ 0 → archive_in (block_at g 0) ≡ archive_in (block_at f 0)
unfolding union_fault archive_fault fault
archives_one f g z =
    let a : ℕ = archive_in (block_at f 0) in
    let b : ℕ = archive_in (block_at g 0) in
    let (x, _) = no_fault (archive_fault a b) (records_clash (file_records f) (length (file_records f)) (file_records g)) z in
    ⊎_elim
    (λ (t : eqb b a ≡ true). eqb-true b a t)
    (λ (t : eqb b a ≡ false). absurd (let y : ◌≡◌ {A = ℕ} 6 0 = rw t at x in omega arith))
    (bool_cases (eqb b a))

-- the records agree, and have room
module _ (f g : List ℕ) (z : (union_fault f g).number ≡ 0) where
  faults : ((bytes_fault (file_records f) 0 (file_records g)).number ≡ 0) × ((room_fault (vector_of (file_records f)) (length (file_records f)) 0 (file_records g)).number ≡ 0)
  unfolding union_fault records_clash
  faults =
      let l : List Rec = file_records f in
      let m : List Rec = file_records g in
      let (_, d) = no_fault (archive_fault (archive_in (block_at f 0)) (archive_in (block_at g 0))) (records_clash l (length l) m) z in
      no_fault (bytes_fault l 0 m) (room_fault (vector_of l) (length l) 0 m) d

  pub files_agree : (checked_fault f).number ≡ 0 → Agree (file_records f) (file_records g)
  files_agree a = agree_from (file_records f) (file_sound f a) 0 (file_records g) faults.0

  pub files_room : (checked_fault f).number ≡ 0 → length (file_records f) + length (lacking (vector_of (file_records f)) (file_records g)) ≤ 512
  files_room a = room_left (vector_of (file_records f)) (length (file_records f)) 0 (file_records g) (file_few f a) faults.1

-- and the other way round
pub files_faultless : (f g : List ℕ) → archive_in (block_at g 0) ≡ archive_in (block_at f 0) → Agree (file_records f) (file_records g)
    → length (file_records f) + length (lacking (vector_of (file_records f)) (file_records g)) ≤ 512 → union_fault f g ≡ fault 0 0
unfolding union_fault archive_fault records_clash or_else fault
files_faultless f g e h k =
    rw (
      eq-eqb (archive_in (block_at g 0)) (archive_in (block_at f 0)) e,
      agree_bytes (file_records f) 0 (file_records g) h,
      left_room (vector_of (file_records f)) (length (file_records f)) 0 (file_records g) k,
    )

-- ---- the call

-- what an accepted merge was given
pub record Accepted (f g log lent : List ℕ) : Type 0 where
  pub log_long : length log ≡ 40960
  pub lent_long : length lent ≡ 44032
  pub first : (checked_fault f).number ≡ 0
  pub second : (checked_fault g).number ≡ 0
  pub together : (union_fault f g).number ≡ 0

unless_passed : (e : Fault) (w : ℕ) (log lent : List ℕ) (o : Merged) → (unless e w log lent o).number ≡ 0 → (e.number ≡ 0) × (o.number ≡ 0)
unfolding unless
unless_passed e w log lent o z =
    ⊎_elim
    (λ (h : eqb e.number 0 ≡ true). (eqb-true e.number 0 h, rw h at z))
    (λ (h : eqb e.number 0 ≡ false). let y : e.number ≡ 0 = rw h at z in absurd (eqb-false e.number 0 h y))
    (bool_cases (eqb e.number 0))

unless_goes : (e : Fault) (w : ℕ) (log lent : List ℕ) (o : Merged) → e.number ≡ 0 → unless e w log lent o ≡ o
unfolding unless
unless_goes e w log lent o h = rw (eq-eqb e.number 0 h)

module _ (f g log lent : List ℕ) where
  abbrev joined : Merged
  joined = joined_file f (union (file_records f) (file_records g))

  pub merge_accepted : (merge_of f g log lent).number ≡ 0 → Accepted f g log lent
  unfolding merge_of unless_any
  merge_accepted z =
      ⊎_elim
      (λ (h : (eqb (length log) 40960 && eqb (length lent) 44032) ≡ true).
      let (p, q) = and_true (eqb (length log) 40960) (eqb (length lent) 44032) h in
      let y : (unless_any (checked_fault f) (checked_fault g) (union_fault f g) log lent joined).number ≡ 0 = rw h at z in
      let (a, y₁) = unless_passed (checked_fault f) 1 log lent (unless (checked_fault g) 2 log lent (unless (union_fault f g) 2 log lent joined)) y in
      let (b, y₂) = unless_passed (checked_fault g) 2 log lent (unless (union_fault f g) 2 log lent joined) y₁ in
      let (c, _) = unless_passed (union_fault f g) 2 log lent joined y₂ in
      record { log_long = eqb-true (length log) 40960 p; lent_long = eqb-true (length lent) 44032 q; first = a; second = b; together = c })
      (λ (h : (eqb (length log) 40960 && eqb (length lent) 44032) ≡ false). absurd (let y : ◌≡◌ {A = ℕ} 1 0 = rw h at z in omega arith))
      (bool_cases (eqb (length log) 40960 && eqb (length lent) 44032))

  pub accepted_merge : Accepted f g log lent → merge_of f g log lent ≡ joined_file f (union (file_records f) (file_records g))
  unfolding merge_of unless_any
  accepted_merge x =
      rw (true_and (eqb (length log) 40960) (eqb (length lent) 44032) (eq-eqb (length log) 40960 x.log_long) (eq-eqb (length lent) 44032 x.lent_long))
      (unless_goes (checked_fault f) 1 log lent (unless (checked_fault g) 2 log lent (unless (union_fault f g) 2 log lent joined)) x.first
      ∙ unless_goes (checked_fault g) 2 log lent (unless (union_fault f g) 2 log lent joined) x.second
      ∙ unless_goes (union_fault f g) 2 log lent joined x.together)

-- the records of both
module _ (f g log lent : List ℕ) (x : Accepted f g log lent) where
  pub records_both : Both (file_records f) (file_records g) (union (file_records f) (file_records g))
  records_both =
      union_both (file_records f) (file_records g) (file_sound f x.first) (file_sound g x.second) (files_agree f g x.together x.first)

  pub records_few : length (union (file_records f) (file_records g)) ≤ 512
  records_few = omega (arith, files_room f g x.together x.first, union-longer (file_records f) (file_records g))

-- ---- what it keeps

-- a refusal leaves both buffers
abbrev Leaves : List ℕ → List ℕ → Merged → Type 0
Leaves log lent m = (m.number ≡ 0 → ⊥) → (m.log ≡ log) × (m.lent ≡ lent)

unless-leaves : (e : Fault) (w : ℕ) (log lent : List ℕ) (o : Merged) → Leaves log lent o → Leaves log lent (unless e w log lent o)
unfolding unless
unless-leaves e w log lent o h =
    ⊎_elim
    (λ (t : eqb e.number 0 ≡ true). rw t h)
    (λ (t : eqb e.number 0 ≡ false). rw t (λ _. (refl, refl)))
    (bool_cases (eqb e.number 0))

pub merge_keeps : (f g log lent : List ℕ) → Merges log lent (merge_of f g log lent)
unfolding merge_of unless_any joined_file
merge_keeps f g log lent =
    record {
      accepted = λ z.
          let x = merge_accepted f g log lent z in
          rw (accepted_merge f g log lent x)
          (log_good (union (file_records f) (file_records g)) (records_both f g log lent x).sound (records_few f g log lent x));
      refused =
          ⊎_elim
          (λ (h : (eqb (length log) 40960 && eqb (length lent) 44032) ≡ true).
          let o : Merged = joined_file f (union (file_records f) (file_records g)) in
          let both : Merged = unless (union_fault f g) 2 log lent o in
          rw h
          (unless-leaves (checked_fault f) 1 log lent (unless (checked_fault g) 2 log lent both)
          (unless-leaves (checked_fault g) 2 log lent both (unless-leaves (union_fault f g) 2 log lent o (λ z. absurd (z refl))))))
          (λ (h : (eqb (length log) 40960 && eqb (length lent) 44032) ≡ false). rw h (λ _. (refl, refl)))
          (bool_cases (eqb (length log) 40960 && eqb (length lent) 44032));
    }
