-- Claims L2, L3 and B4: a log has one reading; a call leaves a sound state or every byte as it was; a block taken again.
-- Assumes nothing.
use Prim.Native.Nat.{ℕ, zero, suc, ◌≤◌}
use native.Mathlib.Omega.{arith}
use mathlib.Core.Path.{◌≡◌, refl, sym, ap, ◌∙◌, subst}
use mathlib.Core.Logic.{inl, inr, ◌↔◌, ⊎_elim}
use mathlib.Core.Bool.{true}
use mathlib.Core.List.{List, []}
use lib.ListN.{length, take}
use Rattle.model.specs.Vector.{handed_count}
use Rattle.model.specs.Record.{Rec}
use Rattle.model.specs.Log.{records_of, sound_after, sound_log_on, log_bytes, lacking}
use Rattle.model.specs.Block.{block_records, count_in, given_fault}
use Rattle.model.specs.File.{header_of}
use Rattle.model.specs.Merge.{merge_of}
use Rattle.base_model.specs.Base.{base_in, base_vector, held_on}
use Rattle.call_model.specs.Read.{read_of}
use Rattle.call_model.specs.Outcome.{Outcome, outcome, start_of, act_of, hand_block, hand_of, write_of, Took, refused, taken, took_all, took_block, take_of, show_of}
use Rattle.log_laws.specs.Sound.{SoundOn}
use Rattle.log_laws.proofs.Tests.{sound_means_on, means_sound_on}
use Rattle.block_laws.proofs.ReadBack.{count_back}
use Rattle.take_laws.proofs.Take.{taken_again as records-again}
use Rattle.encoding_laws.proofs.Logs.{Proper, records_back, sound_bytes_on, sound_records_on, log_sound_on}
use Rattle.base_laws.proofs.Folds.{fold_accepted, fold_refused}
use Rattle.call_laws.specs.Keeps.{Good, Keeps, KeepsBase, FoldKeeps, Reads, Merges}
use Rattle.call_laws.proofs.States.{good_log, good_records, sound_back_on}
use Rattle.call_laws.proofs.Calls.{Guarded, guarded_cases, guarded-passes, takes_on, take_back, take_left, take_done, start_keeps, act-keeps, hand_keeps, write_keeps, take-keeps, show_keeps}
use Rattle.call_laws.proofs.Behind.{handed_count_on}
use Rattle.call_laws.proofs.Reading.{read_keeps}
use Rattle.call_laws.proofs.Merging.{merge_keeps}
use Rattle.call_laws.proofs.Given.{hand_cases}

-- L2: the log of a good state is the bytes of its records and of no others that are sound behind the base vector
pub one_reading : (log base : List ℕ) → Good log base → (l : List Rec) → sound_after (base_vector base) [] l ≡ true → length l ≤ 512 → (log_bytes l ≡ log) ↔ (l ≡ records_of log)
one_reading log base g l h k = (
  λ (e : log_bytes l ≡ log). sym (sound_back_on (base_vector base) l (sound_means_on (base_vector base) l h) k) ∙ ap records_of e,
  λ (e : l ≡ records_of log). ap log_bytes e ∙ sound_bytes_on (base_vector base) log g.long.0 (good_log log base g),
)

-- the bytes of at most 512 well-formed records are a sound log exactly if the records are sound
pub sound_bytes_exactly : (v : List ℕ) (l : List Rec) → Proper l → length l ≤ 512 → (sound_log_on v (log_bytes l) ≡ true) ↔ (sound_after v [] l ≡ true)
sound_bytes_exactly v l p k = (
  λ e. means_sound_on v l (subst (SoundOn v) (records_back l p k) (sound_records_on v (log_bytes l) e)),
  λ e. log_sound_on v l (sound_means_on v l e) k,
)

pub fold_keeps : FoldKeeps
fold_keeps u log base m work =
    record {
      accepted = λ z. let (a, b, c) = fold_accepted u m log base work z in record { long = (a, b); sound = c };
      refused = λ z. fold_refused u m log base work z;
    }

-- L3: whatever a call is lent, an accepted one leaves a good state, a refused one every byte as it was.
pub record EveryCallKeeps : Type 0 where
  pub starting : (u : ℕ) (log base : List ℕ) → KeepsBase log base (start_of u log base)
  pub acting : (u : ℕ) (log base w work : List ℕ) → Keeps log base [] (act_of u log base w work)
  pub handing_out : (archive u : ℕ) (log base v lent : List ℕ) → Keeps log base lent (hand_of archive u log base v lent)
  pub writing : (archive u : ℕ) (log base lent : List ℕ) → Keeps log base lent (write_of archive u log base lent)
  pub taking : (archive u : ℕ) (log base b : List ℕ) → Keeps log base [] (take_of archive u log base b)
  pub showing : (log base lent : List ℕ) → Keeps log base lent (show_of log base lent)
  pub folding : FoldKeeps
  pub reading : (log base f : List ℕ) → Reads log base (read_of log base f)
  pub merging : (f g log lent : List ℕ) → Merges log lent (merge_of f g log lent)

pub every_call_keeps : EveryCallKeeps
every_call_keeps =
    record { starting = start_keeps; acting = act-keeps; handing_out = hand_keeps; writing = write_keeps; taking = take-keeps; showing = show_keeps; folding = fold_keeps; reading = read_keeps; merging = merge_keeps }

-- B4: a block that was taken is taken again with 0 and changes nothing
pub taken_again : (archive u : ℕ) (log base b : List ℕ) → (take_of archive u log base b).number ≡ 0
    → take_of archive u (take_of archive u log base b).log base b ≡ outcome 0 0 (take_of archive u log base b).log [] 0
unfolding take_of took_block took_all
taken_again archive u log base b z = checks (guarded_cases u log base [] true (took_block log base b (given_fault archive b)))
  where
    Again : Outcome → Type 0
    Again o = o.number ≡ 0 → take_of archive u o.log base b ≡ outcome 0 0 o.log [] 0

    records : u ≤ 7 → Good log base → given_fault archive b ≡ 0 → (o : Took) → takes_on log base (block_records b) ≡ o → Again (took_all log o)
    records k g f (taken m) e y =
        take_done archive u (log_bytes m) base b m k (take_left log base (block_records b) m g e) f
        (rw (take_back log base (block_records b) m g e)
        (records-again (base_in base).list (base_vector base) (block_records b) (records_of log) m (good_records log base g) e))
    records k g f (refused n) e y = rw (guarded-passes u log base [] true (took_block log base b (given_fault archive b)) refl k g, f, e, y)

    blocks : u ≤ 7 → Good log base → (n : ℕ) → given_fault archive b ≡ n → Again (took_block log base b n)
    blocks k g zero f = records k g f (takes_on log base (block_records b)) refl
    blocks k g (suc n) f = λ y. absurd (omega arith)

    checks : Guarded u log base [] true (took_block log base b (given_fault archive b))
        → take_of archive u (take_of archive u log base b).log base b ≡ outcome 0 0 (take_of archive u log base b).log [] 0
    checks (inr (n, e)) = absurd (omega (arith, sym (ap (λ (o : Outcome). o.number) e) ∙ z))
    checks (inl (a, k, g, e)) = subst Again (sym e) (blocks k g (given_fault archive b) refl) z

-- the block that is handed out counts the lesser of 6 and what the asked vector lacks against the held one [F93]
pub hand_out_counts : (archive u : ℕ) (log base v lent : List ℕ) → (hand_of archive u log base v lent).number ≡ 0
    → count_in (hand_of archive u log base v lent).lent ≡ handed_count v (held_on log base)
unfolding hand_block
hand_out_counts archive u log base v lent z =
    ⊎_elim
    (λ (n, e). absurd (omega (arith, sym (ap (λ (o : Outcome). o.number) e) ∙ z)))
    (λ (e, _, c, g).
    ap (λ (o : Outcome). count_in o.lent) e
    ∙ count_back (header_of archive u 0 (held_on log base)) (take 6 (lacking v (records_of log)))
    ∙ handed_count_on (base_vector base) v (records_of log) (good_records log base g) c)
    (hand_cases archive u log base v lent)
