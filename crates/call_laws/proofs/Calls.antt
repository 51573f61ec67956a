-- What each call answers and leaves, case by case; claim L3.
-- Assumes nothing.
use Prim.Native.Nat.{ℕ, zero, suc, ◌≤◌}
use native.Mathlib.Omega.{arith}
use mathlib.Core.Path.{◌≡◌, refl, sym, ap, ◌∙◌, subst}
use mathlib.Core.Logic.{◌⊎◌, inl, inr, ⊎_elim}
use mathlib.Core.Bool.{Bool, true, false, cond, ◌&&◌}
use mathlib.Core.List.{List, [], ◌∷◌, ◌++◌}
use lib.Dec.{leb, eqb}
use lib.ListN.{length, replicate, length-append}
use borrow.Author.Tests.{eq-eqb, eqb-true, leb-true, le-leb}
use Rattle.model.specs.Bytes.{padded}
use Rattle.model.specs.Record.{Rec, unit}
use Rattle.model.specs.Log.{records_of, log_bytes}
use Rattle.model.specs.Table.{table_bytes}
use Rattle.model.specs.Block.{block_records, given_fault}
use Rattle.model.specs.File.{block_count, file_of}
use Rattle.base_model.specs.Base.{empty_base, base_in, base_vector, held_on, sound_state, tree_of}
use Rattle.call_model.specs.Outcome.{Outcome, outcome, refusal, or_refused, early_number, guard_number, guarded, start_of, stamped, act_number, acted, act_lent, act_of, hand_block, asked_number, handed, hand_of, whole_number, written, write_of, Took, refused, taken, takes_all, took_all, took_block, take_of, show_of}
use Rattle.byte_slice.proofs.Numbers.{bool_cases, and_true, first_zero}
use Rattle.log_laws.specs.Sound.{SoundOn}
use Rattle.log_laws.proofs.Members.{has_append}
use Rattle.act_laws.proofs.Act.{stamped-unit, wish_fits_lem, act_zero, act_sound}
use Rattle.take_laws.proofs.Take.{Grown, all_from}
use Rattle.encoding_laws.proofs.Logs.{sound_few}
use Rattle.call_laws.specs.Keeps.{Good, Keeps, KeepsBase}
use Rattle.call_laws.proofs.States.{good_records, grown_good}
pub use Rattle.call_laws.proofs.States.{log_good, sound_back, sound_back_on, zeros_good}

pub refusal-keeps : (n : ℕ) (log base lent : List ℕ) → Keeps log base lent (refusal (suc n) log lent)
refusal-keeps n log base lent = record { accepted = λ z. absurd (omega arith); refused = λ _. (refl, refl) }

-- ---- the checks 1, 21 and 19

module _ (u : ℕ) (log base lent : List ℕ) (ok : Bool) (o : Outcome) where
  -- they pass, or the answer is one of the three and all is left as it was
  abbrev pub Guarded : Type 0
  Guarded =
      ((ok ≡ true) × (u ≤ 7) × Good log base × (guarded u log base lent ok o ≡ o))
      ⊎ ((n : ℕ) × (guarded u log base lent ok o ≡ refusal (suc n) log lent))

  abbrev fits : Bool
  fits = eqb (length log) 40960 && (eqb (length base) 43032 && ok)

  pub guarded_cases : Guarded
  unfolding guarded
  guarded_cases = buffers (bool_cases fits)
    where
      sounds : fits ≡ true → leb u 7 ≡ true → (sound_state log base ≡ true) ⊎ (sound_state log base ≡ false) → Guarded
      sounds a b (inl c) =
          let (p, q) = and_true (eqb (length log) 40960) (eqb (length base) 43032 && ok) a in
          let (r, s) = and_true (eqb (length base) 43032) ok q in
          inl (s, leb-true u 7 b, record { long = (eqb-true (length log) 40960 p, eqb-true (length base) 43032 r); sound = c }, rw (a, b, c))
      sounds a b (inr c) = inr (18, rw (a, b, c))

      units : fits ≡ true → (leb u 7 ≡ true) ⊎ (leb u 7 ≡ false) → Guarded
      units a (inl b) = sounds a b (bool_cases (sound_state log base))
      units a (inr b) = inr (20, rw (a, b))

      buffers : (fits ≡ true) ⊎ (fits ≡ false) → Guarded
      buffers (inl a) = units a (bool_cases (leb u 7))
      buffers (inr a) = inr (0, rw a)

  pub guarded-passes : ok ≡ true → u ≤ 7 → Good log base → guarded u log base lent ok o ≡ o
  unfolding guarded
  guarded-passes a b g = rw (eq-eqb (length log) 40960 g.long.0, eq-eqb (length base) 43032 g.long.1, a, le-leb u 7 b, g.sound)

  pub guarded-keeps : (ok ≡ true → Good log base → Keeps log base lent o) → Keeps log base lent (guarded u log base lent ok o)
  guarded-keeps k = go guarded_cases
    where
      go : Guarded → Keeps log base lent (guarded u log base lent ok o)
      go (inl (a, b, g, e)) = subst (Keeps log base lent) (sym e) (k a g)
      go (inr (n, e)) = subst (Keeps log base lent) (sym e) (refusal-keeps n log base lent)

-- ---- the same of the number of the guard, which asks 2 of a row between 21 and 19

-- checks that pass
early_means : (t s r : Bool) → ◌≡◌ {A = ℕ} (cond t (cond s (cond r 0 2) 21) 1) 0 → (t ≡ true) × (s ≡ true) × (r ≡ true)
early_means true true true e = (refl, refl, refl)
early_means true true false e = absurd (omega arith)
early_means true false r e = absurd (omega arith)
early_means false s r e = absurd (omega arith)

sound_means : (b : Bool) → ◌≡◌ {A = ℕ} (cond b 0 19) 0 → b ≡ true
sound_means true e = refl
sound_means false e = absurd (omega arith)

pub guard_good : (u : ℕ) (log base : List ℕ) (ok row : Bool) → guard_number u log base ok row ≡ 0 → (ok ≡ true) × (u ≤ 7) × (row ≡ true) × Good log base
guard_good u log base ok row e =
    let (a, b) = first_zero (early_number u log base ok row) (cond (sound_state log base) 0 19) e in
    let (c, d, f) = early_means (eqb (length log) 40960 && (eqb (length base) 43032 && ok)) (leb u 7) row a in
    let (p, q) = and_true (eqb (length log) 40960) (eqb (length base) 43032 && ok) c in
    let (r, s) = and_true (eqb (length base) 43032) ok q in
    (s, leb-true u 7 d, f, record { long = (eqb-true (length log) 40960 p, eqb-true (length base) 43032 r); sound = sound_means (sound_state log base) b })

pub good_guard : (u : ℕ) (log base : List ℕ) (ok row : Bool) → ok ≡ true → u ≤ 7 → row ≡ true → Good log base → guard_number u log base ok row ≡ 0
good_guard u log base ok row a b c g =
    rw (eq-eqb (length log) 40960 g.long.0, eq-eqb (length base) 43032 g.long.1, a, le-leb u 7 b, c, g.sound)

-- a log that stays good
stays : (log base lent : List ℕ) (o : Outcome) → Good log base → o.log ≡ log → ((o.number ≡ 0 → ⊥) → o.lent ≡ lent) → Keeps log base lent o
stays log base lent o g e f = record { accepted = λ _. subst (λ (b : List ℕ). Good b base) (sym e) g; refused = λ n. (e, f n) }

-- and so where a number behind the checks is asked first
stays_or : (n : ℕ) (log base lent : List ℕ) (o : Outcome) → Good log base → o.log ≡ log → o.number ≡ 0 → Keeps log base lent (or_refused n log lent o)
stays_or zero log base lent o g e z = stays log base lent o g e (λ n. absurd (n z))
stays_or (suc n) log base lent o g e z = refusal-keeps n log base lent

-- ---- starting

pub start_keeps : (u : ℕ) (log base : List ℕ) → KeepsBase log base (start_of u log base)
unfolding start_of
start_keeps u log base = go (early_number u log base true true)
  where
    go : (n : ℕ) → KeepsBase log base (or_refused n log base (outcome 0 0 (replicate 40960 0) empty_base 0))
    go zero = record { accepted = λ _. zeros_good; refused = λ z. absurd (z refl) }
    go (suc n) = record { accepted = λ z. absurd (omega arith); refused = λ _. (refl, refl) }

-- log and base are emptied, or left
pub start_cases : (u : ℕ) (log base : List ℕ)
    → (((start_of u log base).log ≡ log) × ((start_of u log base).lent ≡ base))
    ⊎ (((start_of u log base).log ≡ replicate 40960 0) × ((start_of u log base).lent ≡ empty_base))
unfolding start_of
start_cases u log base = go (early_number u log base true true)
  where
    done : ℕ → Outcome
    done n = or_refused n log base (outcome 0 0 (replicate 40960 0) empty_base 0)

    go : (n : ℕ) → (((done n).log ≡ log) × ((done n).lent ≡ base)) ⊎ (((done n).log ≡ replicate 40960 0) × ((done n).lent ≡ empty_base))
    go zero = inr (refl, refl)
    go (suc n) = inl (refl, refl)

-- ---- acting

module _ (u : ℕ) (log base w : List ℕ) where
  -- the number behind the checks that come first
  abbrev pub wishAnswer : ℕ
  wishAnswer = act_number (base_in base).list u (base_vector base) (base_in base).tree (records_of log) w

  -- the records with the one that the wish becomes
  abbrev pub withAct : List Rec
  withAct = records_of log ++ (stamped u (base_vector base) (records_of log) w ∷ [])

  pub act_good : length w ≡ 80 → Good log base → wishAnswer ≡ 0 → SoundOn (base_vector base) withAct × (length withAct ≤ 512) × Good (log_bytes withAct) base
  act_good n g e =
      let v : List ℕ = base_vector base in
      let l : List Rec = records_of log in
      let r : Rec = stamped u v l w in
      let f = act_zero (base_in base).list u v (base_in base).tree l w e in
      let (c, d) = wish_fits_lem u v l w f.well in
      let h : SoundOn v withAct = act_sound u v l w n c d (good_records log base g) in
      let k : length withAct ≤ 512 = omega (arith, length-append l (r ∷ []), f.room) in
      let own : unit r ≡ u = stamped-unit u v l w n ∙ c in (
        h,
        k,
        grown_good log base withAct g h k (λ s i.
            ⊎_elim (λ j. inl j) (⊎_elim (λ (q : s ≡ r). inr (rw (q, own) f.listed)) (λ q. absurd q)) (has_append l (r ∷ []) s i)),
      )

  pub act-keeps : (work : List ℕ) → Keeps log base [] (act_of u log base w work)
  unfolding act_of acted
  act-keeps work = guarded-keeps u log base [] (act_lent w work) (acted u log (base_vector base) w wishAnswer) (λ a g. go (wished a) g wishAnswer refl)
    where
      wished : act_lent w work ≡ true → length w ≡ 80
      wished a = eqb-true (length w) 80 (and_true (eqb (length w) 80) (eqb (length work) 86020) a).0

      go : length w ≡ 80 → Good log base → (n : ℕ) → wishAnswer ≡ n → Keeps log base [] (acted u log (base_vector base) w n)
      go a g zero e = record { accepted = λ _. (act_good a g e).2; refused = λ z. absurd (z refl) }
      go a g (suc n) e = refusal-keeps n log base []

  -- it is refused, or its record is added
  pub act_cases : (work : List ℕ)
      → ((n : ℕ) × (act_of u log base w work ≡ refusal (suc n) log []))
      ⊎ (((act_of u log base w work).number ≡ 0) × (records_of (act_of u log base w work).log ≡ withAct) × (wishAnswer ≡ 0) × (length w ≡ 80) × Good log base)
  unfolding act_of acted
  act_cases work = go (guarded_cases u log base [] (act_lent w work) done)
    where
      done : Outcome
      done = acted u log (base_vector base) w wishAnswer

      Added : Outcome → Type 0
      Added o = (o.number ≡ 0) × (records_of o.log ≡ withAct) × (wishAnswer ≡ 0) × (length w ≡ 80) × Good log base

      wished : length w ≡ 80 → Good log base → (n : ℕ) → wishAnswer ≡ n
          → ((m : ℕ) × (acted u log (base_vector base) w n ≡ refusal (suc m) log [])) ⊎ Added (acted u log (base_vector base) w n)
      wished a g zero e = let (h, k, _) = act_good a g e in inr (refl, sound_back_on (base_vector base) withAct h k, e, a, g)
      wished a g (suc n) e = inl (n, refl)

      go : Guarded u log base [] (act_lent w work) done → ((n : ℕ) × (act_of u log base w work ≡ refusal (suc n) log [])) ⊎ Added (act_of u log base w work)
      go (inr (n, e)) = inl (n, e)
      go (inl (a, b, g, e)) =
          ⊎_elim
          (λ k. inl (k.0, e ∙ k.1))
          (λ k. inr (subst Added (sym e) k))
          (wished (eqb-true (length w) 80 (and_true (eqb (length w) 80) (eqb (length work) 86020) a).0) g wishAnswer refl)

-- ---- handing out and writing a file

pub hand_keeps : (archive u : ℕ) (log base v lent : List ℕ) → Keeps log base lent (hand_of archive u log base v lent)
unfolding hand_of handed
hand_keeps archive u log base v lent =
    guarded-keeps u log base lent (eqb (length lent) 512) (handed archive u log base v lent) (λ a g.
    stays_or (asked_number v (base_vector base)) log base lent (outcome 0 0 log (hand_block archive u (held_on log base) (records_of log) v) 0) g refl refl)

pub write_keeps : (archive u : ℕ) (log base lent : List ℕ) → Keeps log base lent (write_of archive u log base lent)
unfolding write_of written
write_keeps archive u log base lent =
    let o : Outcome = outcome 0 0 log (padded 44032 (file_of archive u (records_of log))) (block_count (length (records_of log))) in
    guarded-keeps u log base lent (eqb (length lent) 44032) (written archive u log base lent) (λ a g.
    stays_or (whole_number (base_vector base)) log base lent o g refl refl)

-- ---- taking

-- the records of a block taken, one after another
abbrev pub takes_on : List ℕ → List ℕ → List Rec → Took
takes_on log base rs = takes_all (base_in base).list (base_vector base) (records_of log) rs

module _ (log base : List ℕ) (rs m : List Rec) (g : Good log base) (e : takes_on log base rs ≡ taken m) where
  pub take_grown : Grown (base_in base).list (base_vector base) (records_of log) rs m
  take_grown = all_from (base_in base).list (base_vector base) rs (records_of log) m (good_records log base g) e

  pub take_few : length m ≤ 512
  take_few = take_grown.room (sound_few log)

  pub take_good : SoundOn (base_vector base) m × (length m ≤ 512)
  take_good = (take_grown.sound, take_few)

  pub take_back : records_of (log_bytes m) ≡ m
  take_back = sound_back_on (base_vector base) m take_grown.sound take_few

  pub take_left : Good (log_bytes m) base
  take_left =
      grown_good log base m g take_grown.sound take_few (λ s i.
      ⊎_elim (λ j. inl j) (λ j. inr (take_grown.fit s j).1) (take_grown.from s i))

module _ (archive u : ℕ) (log base b : List ℕ) where
  pub take-keeps : Keeps log base [] (take_of archive u log base b)
  unfolding take_of took_block took_all
  take-keeps = guarded-keeps u log base [] true (took_block log base b (given_fault archive b)) (λ a g. blocks g (given_fault archive b))
    where
      records : Good log base → (o : Took) → takes_on log base (block_records b) ≡ o → Keeps log base [] (took_all log o)
      records g (refused n) e = stays log base [] (refusal n log []) g refl (λ _. refl)
      records g (taken m) e = record { accepted = λ _. take_left log base (block_records b) m g e; refused = λ z. absurd (z refl) }

      blocks : Good log base → (n : ℕ) → Keeps log base [] (took_block log base b n)
      blocks g zero = records g (takes_on log base (block_records b)) refl
      blocks g (suc n) = refusal-keeps n log base []

  -- it is refused, or the block's records are taken
  pub take_cases : ((take_of archive u log base b).log ≡ log)
      ⊎ ((m : List Rec) × (takes_on log base (block_records b) ≡ taken m) × (records_of (take_of archive u log base b).log ≡ m) × Good log base)
  unfolding take_of took_block took_all
  take_cases = go (guarded_cases u log base [] true (took_block log base b (given_fault archive b)))
    where
      Cases : Outcome → Type 0
      Cases o = (o.log ≡ log) ⊎ ((m : List Rec) × (takes_on log base (block_records b) ≡ taken m) × (records_of o.log ≡ m) × Good log base)

      records : Good log base → (o : Took) → takes_on log base (block_records b) ≡ o → Cases (took_all log o)
      records g (refused n) e = inl refl
      records g (taken m) e = inr (m, e, take_back log base (block_records b) m g e, g)

      blocks : Good log base → (n : ℕ) → Cases (took_block log base b n)
      blocks g zero = records g (takes_on log base (block_records b)) refl
      blocks g (suc n) = inl refl

      go : Guarded u log base [] true (took_block log base b (given_fault archive b)) → Cases (take_of archive u log base b)
      go (inr (n, e)) = inl (ap (λ (o : Outcome). o.log) e)
      go (inl (a, c, g, e)) = subst Cases (sym e) (blocks g (given_fault archive b))

  -- a good block whose records pass is taken
  pub take_done : (m : List Rec) → u ≤ 7 → Good log base → given_fault archive b ≡ 0 → takes_on log base (block_records b) ≡ taken m
      → take_of archive u log base b ≡ outcome 0 0 (log_bytes m) [] 0
  unfolding take_of took_block took_all
  take_done m k g f e = rw (guarded-passes u log base [] true (took_block log base b (given_fault archive b)) refl k g, f, e)

-- ---- showing the tree

pub show_keeps : (log base lent : List ℕ) → Keeps log base lent (show_of log base lent)
unfolding show_of
show_keeps log base lent =
    let o : Outcome = outcome 0 0 log (table_bytes (tree_of log base)) 0 in
    guarded-keeps 0 log base lent (eqb (length lent) 86020) o (λ a g. stays log base lent o g refl (λ z. absurd (z refl)))
