-- Rows of present entries moved to the front.
-- Assumes nothing.
use Prim.Native.Nat.{ℕ, zero, suc, ◌+◌, ◌-◌, ◌*◌, ◌≤◌, ◌<◌}
use native.Mathlib.Numerals.{add-one}
use native.Mathlib.Nat.{add-zero}
use native.Mathlib.Omega.{arith}
use mathlib.Core.Path.{◌≡◌, refl, sym, ap, ◌∙◌}
use mathlib.Core.Logic.{⊎_elim}
use mathlib.Core.Bool.{Bool, true, false, cond}
use mathlib.Core.List.{List, [], ◌∷◌, ◌++◌, append-nil, append_assoc}
use lib.ListN.{get_or, length, take, drop, length-append}
use Rattle.std.specs.List.{copy_within}
use lib.Seq.{take-suc}
use borrow.Author.Tests.{eq-eqb, ne_eqb}
use Rattle.model.specs.Bytes.{part, put_at}
use Rattle.model.specs.Replay.{Entry, Aside, is_present, present_ones}
use Rattle.model.specs.Table.{entry_row, entry_rows, flagged}
use Rattle.byte_slice.proofs.Numbers.{eq_or_ne}
use Rattle.byte_slice.proofs.Parts.{part_length, get_d_part}
use Rattle.byte_slice.proofs.PutAt.{put-nil, put_more, get_d_after, part_put_after}
use Rattle.tree_table.specs.Rows.{flag_of, AllProper}
use Rattle.tree_table.proofs.Writes.{part-entry, entry_rows_append}
use Rattle.tree_lookup.proofs.Working.{blank_entry}
use Rattle.tree_finish.specs.Finishing.{kept_to, present_to, Kept, Compacted}

-- ---- one row more

pub kept-length : (b : List ℕ) (n : ℕ) → 4 + 72 * n ≤ length b → length (kept_to b n) ≡ 72 * present_to b n
unfolding kept_to present_to
kept-length b zero h = refl
kept-length b (suc n) h =
    let r = kept-length b n (omega arith) in
    let q = part_length b (4 + 72 * n) 72 (omega arith) in
    ⊎_elim (λ (e : get_or b (4 + 72 * n) 0 ≡ 0). rw (eq-eqb (get_or b (4 + 72 * n) 0) 0 e) r)
    (λ (e : get_or b (4 + 72 * n) 0 ≡ 0 → ⊥).
    rw (ne_eqb (get_or b (4 + 72 * n) 0) 0 e) (omega (arith, length-append (kept_to b n) (part b (4 + 72 * n) 72))))
    (eq_or_ne (get_or b (4 + 72 * n) 0) 0)

pub present_few : (b : List ℕ) (n : ℕ) → present_to b n ≤ n
unfolding present_to
present_few b zero = omega arith
present_few b (suc n) =
    ⊎_elim (λ (e : get_or b (4 + 72 * n) 0 ≡ 0). rw (eq-eqb (get_or b (4 + 72 * n) 0) 0 e) (omega (arith, present_few b n)))
    (λ (e : get_or b (4 + 72 * n) 0 ≡ 0 → ⊥). rw (ne_eqb (get_or b (4 + 72 * n) 0) 0 e) (omega (arith, present_few b n)))
    (eq_or_ne (get_or b (4 + 72 * n) 0) 0)

module _ (b : List ℕ) (i j : ℕ) where
  pub keeps-none : get_or b (4 + 72 * i) 0 ≡ 0 → Kept b b i j j
  keeps-none h = record { rows = rw (eq-eqb (get_or b (4 + 72 * i) 0) 0 h); count = rw (eq-eqb (get_or b (4 + 72 * i) 0) 0 h) }

  -- the row is copied where the next one stands
  copied-row : length b ≡ 86020 → i < 1024 → copy_within b (4 + 72 * i) (4 + 72 * i + 72) (4 + 72 * j) ≡ put_at b (4 + 72 * j) (part b (4 + 72 * i) 72)
  unfolding put_at part
  copied-row long low =
      let k : 4 + 72 * i + 72 - (4 + 72 * i) ≡ 72 = omega arith in
      let l : length (take 72 (drop (4 + 72 * i) b)) ≡ 72 = part_length b (4 + 72 * i) 72 (omega arith) in
      rw (k, l, append_assoc)

  pub keeps-row : length b ≡ 86020 → i < 1024 → (b' : List ℕ) → (get_or b (4 + 72 * i) 0 ≡ 0 → ⊥) → b' ≡ copy_within b (4 + 72 * i) (4 + 72 * i + 72) (4 + 72 * j) → Kept b b' i j (j + 1)
  keeps-row long low b' h c =
      let e = c ∙ copied-row long low in
      record { rows = rw (ne_eqb (get_or b (4 + 72 * i) 0) 0 h) e; count = rw (ne_eqb (get_or b (4 + 72 * i) 0) 0 h) (add-one j) }

-- what the loop of `compact` is asked, over plain values
module _ (d b : List ℕ) (i j : ℕ) (e : b ≡ put_at d 4 (kept_to d i)) (c : j ≡ present_to d i) (n : ℕ) (long : length d ≡ 86020) (fit : n ≤ 1024) (h : i < n) where
  kept-long : length (kept_to d i) ≡ 72 * j
  kept-long = kept-length d i (omega arith) ∙ ap (λ (x : ℕ). 72 * x) (sym c)

  pub row_below : j ≤ i
  row_below = omega (arith, present_few d i)

  kind_stays : get_or b (4 + 72 * i) 0 ≡ get_or d (4 + 72 * i) 0
  kind_stays = rw e (get_d_after d 4 (kept_to d i) (4 + 72 * i) (omega (arith, kept-long, row_below)) (omega arith))

  row_stays : part b (4 + 72 * i) 72 ≡ part d (4 + 72 * i) 72
  row_stays = rw e (part_put_after d 4 (kept_to d i) (4 + 72 * i) 72 (omega (arith, kept-long, row_below)) (omega arith))

  pub compact_rows : (b' : List ℕ) (k : ℕ) → Kept b b' i j k → b' ≡ put_at d 4 (kept_to d (i + 1))
  unfolding kept_to
  compact_rows b' k r =
      let z = kept-long in
      ⊎_elim
      (λ (q : get_or d (4 + 72 * i) 0 ≡ 0). r.rows ∙ rw (kind_stays, add-one i, eq-eqb (get_or d (4 + 72 * i) 0) 0 q) e)
      (λ (q : get_or d (4 + 72 * i) 0 ≡ 0 → ⊥).
      r.rows
      ∙ rw (kind_stays, row_stays, add-one i, ne_eqb (get_or d (4 + 72 * i) 0) 0 q, e)
      (rw z at (put_more d 4 (kept_to d i) (part d (4 + 72 * i) 72) (omega (arith, row_below)))))
      (eq_or_ne (get_or d (4 + 72 * i) 0) 0)

  pub compact_count : (b' : List ℕ) (k : ℕ) → Kept b b' i j k → k ≡ present_to d (i + 1)
  unfolding present_to
  compact_count b' k r =
      ⊎_elim
      (λ (q : get_or d (4 + 72 * i) 0 ≡ 0). r.count ∙ rw (kind_stays, add-one i, eq-eqb (get_or d (4 + 72 * i) 0) 0 q) c)
      (λ (q : get_or d (4 + 72 * i) 0 ≡ 0 → ⊥). r.count ∙ rw (kind_stays, add-one i, ne_eqb (get_or d (4 + 72 * i) 0) 0 q) (ap suc c))
      (eq_or_ne (get_or d (4 + 72 * i) 0) 0)

pub compact_starts : (b : List ℕ) → b ≡ put_at b 4 (kept_to b 0)
unfolding kept_to
compact_starts b = sym (put-nil b 4)

pub compact_ends : (d b : List ℕ) (i j n : ℕ) → i ≤ n → n ≤ i → b ≡ put_at d 4 (kept_to d i) → j ≡ present_to d i → Compacted d b n j
compact_ends d b i j n h g e c =
    let q : i ≡ n = omega arith in
    record { rows = rw q at e; present = rw q at c; few = omega (arith, present_few d i) }

-- ---- the rows kept are those of the entries present

present_append : (a b : List Entry) → present_ones (a ++ b) ≡ present_ones a ++ present_ones b
unfolding present_ones
present_append [] b = refl
present_append (e ∷ a) b = go (is_present e) (present_append a b)
  where
    go : (t : Bool) → present_ones (a ++ b) ≡ present_ones a ++ present_ones b
        → cond t (e ∷ present_ones (a ++ b)) (present_ones (a ++ b)) ≡ cond t (e ∷ present_ones a) (present_ones a) ++ present_ones b
    go true q = ap (λ (x : List Entry). e ∷ x) q
    go false q = q

gone : (e : Entry) → e.kind ≡ 0 → present_ones (e ∷ []) ≡ []
unfolding present_ones is_present
gone e q = rw (eq-eqb e.kind 0 q)

here : (e : Entry) → (e.kind ≡ 0 → ⊥) → present_ones (e ∷ []) ≡ e ∷ []
unfolding present_ones is_present
here e q = rw (ne_eqb e.kind 0 q)

module _ (s : List Aside) (es : List Entry) (l : List Aside) (fit : AllProper es) (room : length es ≤ 1024) where
  kind_is : (i : ℕ) → i < length es → get_or (flagged s es l) (4 + 72 * i) 0 ≡ (get_or es i blank_entry).kind
  unfolding entry_row
  kind_is i h =
      let a = rw (add-zero (4 + 72 * i)) at (get_d_part (flagged s es l) (4 + 72 * i) 72 0 (omega arith)) in
      sym a ∙ ap (λ (x : List ℕ). get_or x 0 0) (part-entry s es l fit room i blank_entry h)

  pub kept_rows : (i : ℕ) → i ≤ length es → kept_to (flagged s es l) i ≡ entry_rows s (present_ones (take i es))
  unfolding kept_to present_ones entry_rows
  kept_rows zero h = refl
  kept_rows (suc i) h =
      let e = get_or es i blank_entry in
      let f = flag_of s e in
      let k = kind_is i h in
      let split : entry_rows s (present_ones (take (suc i) es)) ≡ entry_rows s (present_ones (take i es)) ++ entry_rows s (present_ones (e ∷ [])) =
      rw (take-suc es i blank_entry h, present_append (take i es) (e ∷ []), entry_rows_append s (present_ones (take i es)) (present_ones (e ∷ []))) in
      let ih = kept_rows i (omega arith) in
      ⊎_elim
      (λ (q : e.kind ≡ 0). rw (k, eq-eqb e.kind 0 q, split, gone e q) (ih ∙ sym (append-nil (entry_rows s (present_ones (take i es))))))
      (λ (q : e.kind ≡ 0 → ⊥).
      rw (k, ne_eqb e.kind 0 q, split, here e q, part-entry s es l fit room i blank_entry h, ih, append-nil (entry_row f e)))
      (eq_or_ne e.kind 0)

  pub present_rows : (i : ℕ) → i ≤ length es → present_to (flagged s es l) i ≡ length (present_ones (take i es))
  unfolding present_to present_ones
  present_rows zero h = refl
  present_rows (suc i) h =
      let e = get_or es i blank_entry in
      let k = kind_is i h in
      let split : length (present_ones (take (suc i) es)) ≡ length (present_ones (take i es)) + length (present_ones (e ∷ [])) =
      rw (take-suc es i blank_entry h, present_append (take i es) (e ∷ []), length-append (present_ones (take i es)) (present_ones (e ∷ []))) in
      let ih = present_rows i (omega arith) in
      ⊎_elim
      (λ (q : e.kind ≡ 0). rw (k, eq-eqb e.kind 0 q, split, gone e q) (omega arith))
      (λ (q : e.kind ≡ 0 → ⊥). rw (k, ne_eqb e.kind 0 q, split, here e q) (omega arith))
      (eq_or_ne e.kind 0)
