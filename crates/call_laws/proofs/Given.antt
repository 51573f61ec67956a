-- The blocks that a hand_out or a file writing gives: no fault is found in them, and they hold records of the log.
-- Assumes nothing.
use Prim.Native.Nat.{ℕ, suc, ◌*◌, ◌≤◌, ◌<◌}
use mathlib.Core.Path.{◌≡◌, sym, ap, ◌∙◌, subst}
use mathlib.Core.Logic.{◌⊎◌, inl, inr, ⊎_elim}
use mathlib.Core.Bool.{true, false}
use mathlib.Core.List.{List}
use lib.Dec.{eqb}
use lib.ListN.{length, take, drop, replicate}
use borrow.Author.Tests.{eqb-true, eq-eqb}
use Rattle.model.specs.Bytes.{blank, padded}
use Rattle.model.specs.Vector.{covers}
use Rattle.model.specs.Record.{Rec}
use Rattle.model.specs.Log.{no_counts, vector_of, records_of, lacking}
use Rattle.model.specs.Block.{block_of, block_records, given_fault}
use Rattle.model.specs.File.{block_count, header_of, file_block, file_of, block_at}
use Rattle.base_model.specs.Base.{base_vector, held_on}
use Rattle.call_model.specs.Outcome.{Outcome, outcome, refusal, hand_block, handed, hand_of, written, write_of}
use Rattle.byte_slice.proofs.Numbers.{bool_cases}
use Rattle.byte_slice.proofs.Compare.{blank-eq}
use Rattle.vector.proofs.InBytes.{vector_at-length}
use Rattle.block_laws.proofs.ReadBack.{given_faultless, block_records_lem}
use Rattle.log_laws.specs.Sound.{Sound}
use Rattle.log_laws.proofs.Members.{has_take, has_drop}
use Rattle.log_laws.proofs.Lacking.{has_lacking}
use Rattle.encoding_laws.proofs.Logs.{Proper, sound_proper_on, proper_sized}
use Rattle.encoding_laws.proofs.Files.{six, block_of_file}
use Rattle.call_laws.specs.Keeps.{Good}
use Rattle.call_laws.proofs.States.{good_records}
use Rattle.call_laws.proofs.Calls.{guarded_cases, guarded-passes}

-- a block in which no fault is found, with these records
pub record Holds (archive : ℕ) (b : List ℕ) (rs : List Rec) : Type 0 where
  pub faultless : given_fault archive b ≡ 0
  pub records : block_records b ≡ rs

-- whatever vector its header has
pub block_holds : (archive u place : ℕ) (held : List ℕ) (rs : List Rec) → u ≤ 7 → Proper rs → length rs ≤ 6 → Holds archive (block_of (header_of archive u place held) rs) rs
unfolding header_of
block_holds archive u place held rs k p n =
    record {
      faultless = given_faultless (header_of archive u place held) rs (proper_sized rs p) n k;
      records = block_records_lem (header_of archive u place held) rs (proper_sized rs p) n;
    }

module _ (archive u : ℕ) (l : List Rec) (k : u ≤ 7) (p : Proper l) where
  -- the first six or fewer that the vector lacks
  pub hand_holds : (held v : List ℕ) → Holds archive (hand_block archive u held l v) (take 6 (lacking v l))
  unfolding hand_block
  hand_holds held v =
      block_holds archive u 0 held (take 6 (lacking v l)) k (λ r i. p r (has_lacking v l r (has_take 6 (lacking v l) r i))) (six (lacking v l))

  -- six of the log, from the block's place on
  pub file_holds : (n : ℕ) → n < block_count (length l) → Holds archive (block_at (padded 44032 (file_of archive u l)) n) (take 6 (drop (6 * n) l))
  unfolding file_block
  file_holds n h =
      subst (λ (b : List ℕ). Holds archive b (take 6 (drop (6 * n) l))) (sym (block_of_file archive u l (proper_sized l p) n h))
      (block_holds archive u n (vector_of l) (take 6 (drop (6 * n) l)) k (λ r i. p r (has_drop (6 * n) l r (has_take 6 (drop (6 * n) l) r i))) (six (drop (6 * n) l)))

good_proper : (log base : List ℕ) → Good log base → Proper (records_of log)
good_proper log base g = sound_proper_on (base_vector base) (records_of log) (good_records log base g)

-- ---- the hand_out

module _ (archive u : ℕ) (log base v lent : List ℕ) where
  -- the outcome of one that is accepted
  abbrev pub handedOut : Outcome
  handedOut = outcome 0 0 log (hand_block archive u (held_on log base) (records_of log) v) 0

  pub handed-passes : covers v (base_vector base) ≡ true → handed archive u log base v lent ≡ handedOut
  unfolding handed
  handed-passes c = rw c

  pub handed-below : covers v (base_vector base) ≡ false → handed archive u log base v lent ≡ refusal 27 log lent
  unfolding handed
  handed-below c = rw c

  -- refused, or a block with records that the vector lacks; the vector covers the base vector
  pub hand_cases : ((n : ℕ) × (hand_of archive u log base v lent ≡ refusal (suc n) log lent))
      ⊎ ((hand_of archive u log base v lent ≡ handedOut)
      × Holds archive (hand_block archive u (held_on log base) (records_of log) v) (take 6 (lacking v (records_of log)))
      × (covers v (base_vector base) ≡ true)
      × Good log base)
  unfolding hand_of
  hand_cases = ⊎_elim (λ (a, b, g, e). passed b g e (bool_cases (covers v (base_vector base)))) (λ k. inl k) (guarded_cases u log base lent (eqb (length lent) 512) (handed archive u log base v lent))
    where
      passed : u ≤ 7 → Good log base → hand_of archive u log base v lent ≡ handed archive u log base v lent
          → (covers v (base_vector base) ≡ true) ⊎ (covers v (base_vector base) ≡ false)
          → ((n : ℕ) × (hand_of archive u log base v lent ≡ refusal (suc n) log lent))
          ⊎ ((hand_of archive u log base v lent ≡ handedOut)
          × Holds archive (hand_block archive u (held_on log base) (records_of log) v) (take 6 (lacking v (records_of log)))
          × (covers v (base_vector base) ≡ true)
          × Good log base)
      passed b g e (inl c) = inr (e ∙ handed-passes c, hand_holds archive u (records_of log) b (good_proper log base g) (held_on log base) v, c, g)
      passed b g e (inr c) = inl (26, e ∙ handed-below c)

  -- a vector that covers the base vector is answered
  pub hand_done : length lent ≡ 512 → u ≤ 7 → Good log base → covers v (base_vector base) ≡ true → hand_of archive u log base v lent ≡ handedOut
  unfolding hand_of
  hand_done n k g c = guarded-passes u log base lent (eqb (length lent) 512) (handed archive u log base v lent) (eq-eqb (length lent) 512 n) k g ∙ handed-passes c

  -- one that does not is refused with 27
  pub hand_below : length lent ≡ 512 → u ≤ 7 → Good log base → covers v (base_vector base) ≡ false → hand_of archive u log base v lent ≡ refusal 27 log lent
  unfolding hand_of
  hand_below n k g c =
      guarded-passes u log base lent (eqb (length lent) 512) (handed archive u log base v lent) (eq-eqb (length lent) 512 n) k g ∙ handed-below c

-- ---- the writing of a file

-- a vector of zeros counts nothing
pub blank_none : (v : List ℕ) → length v ≡ 8 → blank v ≡ true → v ≡ no_counts
blank_none v n e = blank-eq v e ∙ ap (λ (k : ℕ). replicate k 0) n

pub none-blank : (v : List ℕ) → v ≡ no_counts → blank v ≡ true
unfolding blank
none-blank v e = rw e

pub base_eight : (base : List ℕ) → length (base_vector base) ≡ 8
unfolding base_vector
base_eight base = vector_at-length base 8

module _ (archive u : ℕ) (log base lent : List ℕ) where
  abbrev pub writtenOut : Outcome
  writtenOut = outcome 0 0 log (padded 44032 (file_of archive u (records_of log))) (block_count (length (records_of log)))

  pub written-passes : base_vector base ≡ no_counts → written archive u log base lent ≡ writtenOut
  unfolding written
  written-passes c = rw (none-blank (base_vector base) c)

  pub written-folded : blank (base_vector base) ≡ false → written archive u log base lent ≡ refusal 29 log lent
  unfolding written
  written-folded c = rw c

  -- refused, or a file of blocks with the log's records; nothing is folded
  abbrev Written : Type 0
  Written =
      ((n : ℕ) × (write_of archive u log base lent ≡ refusal (suc n) log lent))
      ⊎ ((write_of archive u log base lent ≡ writtenOut)
      × ((n : ℕ) → n < block_count (length (records_of log)) → Holds archive (block_at (padded 44032 (file_of archive u (records_of log))) n) (take 6 (drop (6 * n) (records_of log))))
      × (base_vector base ≡ no_counts)
      × (u ≤ 7)
      × (length lent ≡ 44032)
      × Good log base)

  pub write_cases : Written
  unfolding write_of
  write_cases =
      ⊎_elim (λ (a, b, g, e). passed (eqb-true (length lent) 44032 a) b g e (bool_cases (blank (base_vector base)))) (λ k. inl k)
      (guarded_cases u log base lent (eqb (length lent) 44032) (written archive u log base lent))
    where
      passed : length lent ≡ 44032 → u ≤ 7 → Good log base → write_of archive u log base lent ≡ written archive u log base lent
          → (blank (base_vector base) ≡ true) ⊎ (blank (base_vector base) ≡ false) → Written
      passed a b g e (inl c) =
          let z = blank_none (base_vector base) (base_eight base) c in
          inr (e ∙ written-passes z, file_holds archive u (records_of log) b (good_proper log base g), z, b, a, g)
      passed a b g e (inr c) = inl (28, e ∙ written-folded c)

  -- where nothing is folded it is written
  pub write_done : length lent ≡ 44032 → u ≤ 7 → Good log base → base_vector base ≡ no_counts → write_of archive u log base lent ≡ writtenOut
  unfolding write_of
  write_done n k g c = guarded-passes u log base lent (eqb (length lent) 44032) (written archive u log base lent) (eq-eqb (length lent) 44032 n) k g ∙ written-passes c

  -- and where some are folded it is not
  pub write_folded : length lent ≡ 44032 → u ≤ 7 → Good log base → blank (base_vector base) ≡ false → write_of archive u log base lent ≡ refusal 29 log lent
  unfolding write_of
  write_folded n k g c =
      guarded-passes u log base lent (eqb (length lent) 44032) (written archive u log base lent) (eq-eqb (length lent) 44032 n) k g ∙ written-folded c

-- with nothing folded the records are sound alone
pub unfolded_sound : (log base : List ℕ) → Good log base → base_vector base ≡ no_counts → Sound (records_of log)
unfolded_sound log base g z = rw z at (good_records log base g)
