-- A row handed out over a base: 27, or blocks without a fault that hold all records that the vector lacks.
-- Assumes nothing.
use Prim.Native.Nat.{ℕ, suc, ◌*◌, ◌≤◌, ◌<◌}
use mathlib.Core.Path.{◌≡◌, refl, sym, ap, ◌∙◌, subst}
use mathlib.Core.Logic.{◌⊎◌, inl, inr, ⊎_elim}
use mathlib.Core.Bool.{true, false}
use mathlib.Core.List.{List}
use lib.Dec.{eqb}
use lib.ListN.{length, take, drop}
use borrow.Author.Tests.{eq-eqb}
use Rattle.model.specs.Bytes.{padded}
use Rattle.model.specs.Vector.{covers, lacks_of, blocks_for}
use Rattle.model.specs.Record.{Rec}
use Rattle.model.specs.Log.{records_of, lacking}
use Rattle.model.specs.File.{block_at}
use Rattle.base_model.specs.Base.{base_vector, held_on}
use Rattle.call_model.specs.Outcome.{Outcome, outcome, refusal}
use Rattle.row_model.specs.Row.{row_block, row_of, handed_row, hand_row_of}
use Rattle.byte_slice.proofs.Numbers.{bool_cases}
use Rattle.log_laws.proofs.Members.{has_take, has_drop}
use Rattle.log_laws.proofs.Lacking.{has_lacking}
use Rattle.encoding_laws.proofs.Logs.{Proper, sound_proper_on, proper_sized}
use Rattle.encoding_laws.proofs.Files.{six}
use Rattle.call_laws.specs.Keeps.{Good, Keeps}
use Rattle.call_laws.proofs.States.{good_records}
use Rattle.call_laws.proofs.Calls.{guarded_cases, guarded-passes, guarded-keeps, refusal-keeps}
use Rattle.call_laws.proofs.Behind.{lacking_length_on}
use Rattle.call_laws.proofs.Given.{Holds, block_holds}
use Rattle.row_laws.proofs.Raised.{block_of_row}

-- block k of the bytes holds six records from 6 times k on of those that the vector lacks, or what is left of them
pub row-holds : (archive u : ℕ) (held v : List ℕ) (l : List Rec) → u ≤ 7 → Proper l → (k : ℕ) → k < blocks_for (length (lacking v l))
    → Holds archive (block_at (padded 44032 (row_of archive u held l v)) k) (take 6 (drop (6 * k) (lacking v l)))
unfolding padded row_of row_block
row-holds archive u held v l h p k i =
    let w : List Rec = lacking v l in
    let own : Proper w = λ r j. p r (has_lacking v l r j) in
    subst (λ (b : List ℕ). Holds archive b (take 6 (drop (6 * k) w))) (sym (block_of_row archive u held w (proper_sized w own) (blocks_for (length w)) k _ i))
    (block_holds archive u 0 held (take 6 (drop (6 * k) w)) h (λ r j. own r (has_drop (6 * k) w r (has_take 6 (drop (6 * k) w) r j))) (six (drop (6 * k) w)))

module _ (archive u : ℕ) (log base v lent : List ℕ) where
  -- the outcome of a hand_out that is accepted
  abbrev pub rowOut : Outcome
  rowOut = outcome 0 0 log (padded 44032 (row_of archive u (held_on log base) (records_of log) v)) (blocks_for (length (lacking v (records_of log))))

  pub handed_row_passes : covers v (base_vector base) ≡ true → handed_row archive u log base v lent ≡ rowOut
  unfolding handed_row
  handed_row_passes c = rw c

  pub handed_row_below : covers v (base_vector base) ≡ false → handed_row archive u log base v lent ≡ refusal 27 log lent
  unfolding handed_row
  handed_row_below c = rw c

  pub hand_row_keeps : Keeps log base lent (hand_row_of archive u log base v lent)
  unfolding hand_row_of
  hand_row_keeps =
      guarded-keeps u log base lent (eqb (length lent) 44032) (handed_row archive u log base v lent) (λ a g.
      ⊎_elim
      (λ (c : covers v (base_vector base) ≡ true).
      subst (Keeps log base lent) (sym (handed_row_passes c)) (record { accepted = λ _. g; refused = λ z. absurd (z refl) }))
      (λ (c : covers v (base_vector base) ≡ false). subst (Keeps log base lent) (sym (handed_row_below c)) (refusal-keeps 26 log base lent))
      (bool_cases (covers v (base_vector base))))

  -- a vector that covers the base vector is answered, any other with 27
  pub hand_row_done : length lent ≡ 44032 → u ≤ 7 → Good log base → covers v (base_vector base) ≡ true → hand_row_of archive u log base v lent ≡ rowOut
  unfolding hand_row_of
  hand_row_done n k g c =
      guarded-passes u log base lent (eqb (length lent) 44032) (handed_row archive u log base v lent) (eq-eqb (length lent) 44032 n) k g ∙ handed_row_passes c

  pub hand_row_below : length lent ≡ 44032 → u ≤ 7 → Good log base → covers v (base_vector base) ≡ false → hand_row_of archive u log base v lent ≡ refusal 27 log lent
  unfolding hand_row_of
  hand_row_below n k g c =
      guarded-passes u log base lent (eqb (length lent) 44032) (handed_row archive u log base v lent) (eq-eqb (length lent) 44032 n) k g ∙ handed_row_below c

  -- refused, or a row of blocks with all records that the vector lacks; the vector covers the base vector
  abbrev pub RowHanded : Type 0
  RowHanded =
      ((n : ℕ) × (hand_row_of archive u log base v lent ≡ refusal (suc n) log lent))
      ⊎ ((hand_row_of archive u log base v lent ≡ rowOut)
      × ((k : ℕ) → k < blocks_for (length (lacking v (records_of log)))
      → Holds archive (block_at (padded 44032 (row_of archive u (held_on log base) (records_of log) v)) k) (take 6 (drop (6 * k) (lacking v (records_of log)))))
      × (covers v (base_vector base) ≡ true)
      × Good log base)

  pub hand_row_cases : RowHanded
  unfolding hand_row_of
  hand_row_cases =
      ⊎_elim (λ (a, b, g, e). passed b g e (bool_cases (covers v (base_vector base)))) (λ k. inl k)
      (guarded_cases u log base lent (eqb (length lent) 44032) (handed_row archive u log base v lent))
    where
      passed : u ≤ 7 → Good log base → hand_row_of archive u log base v lent ≡ handed_row archive u log base v lent
          → (covers v (base_vector base) ≡ true) ⊎ (covers v (base_vector base) ≡ false) → RowHanded
      passed b g e (inl c) =
          inr (
            e ∙ handed_row_passes c,
            row-holds archive u (held_on log base) v (records_of log) b (sound_proper_on (base_vector base) (records_of log) (good_records log base g)),
            c,
            g,
          )
      passed b g e (inr c) = inl (26, e ∙ handed_row_below c)

  -- as many blocks as what the vector lacks against the held one needs
  pub row_out_counts : Good log base → covers v (base_vector base) ≡ true → blocks_for (length (lacking v (records_of log))) ≡ blocks_for (lacks_of v (held_on log base))
  row_out_counts g c = ap blocks_for (lacking_length_on (base_vector base) v (records_of log) (good_records log base g) c)
