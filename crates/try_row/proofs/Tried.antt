-- The ways out of trying a row, over plain values.
-- Assumes nothing.
use Prim.Native.Nat.{ℕ, zero, suc, ◌≤◌}
use mathlib.Core.Path.{◌≡◌, refl, sym, ap, ◌∙◌, subst}
use mathlib.Core.Bool.{Bool, true, false, ◌&&◌}
use mathlib.Core.List.{List, ◌∷◌, ◌++◌}
use lib.Dec.{eqb}
use lib.ListN.{length}
use borrow.Author.Tests.{eq-eqb, ne_eqb, eqb-true}
use Rattle.model.specs.Bytes.{word, two, padded, put_at}
use Rattle.model.specs.Vector.{vector_bytes}
use Rattle.model.specs.Log.{records_of}
use Rattle.model.specs.Table.{table_bytes}
use Rattle.base_model.specs.Base.{base_vector, held_on, sound_state, tree_of}
use Rattle.row_model.specs.Row.{Tried, tried, row_fits, try_all, Trial, trial, reported, or_untried, trial_lent, try_of}
use Rattle.byte_slice.proofs.Numbers.{and_true}
use Rattle.byte_slice.proofs.PutAt.{put_whole}
use Rattle.call_laws.specs.Keeps.{Good}
use Rattle.row_laws.proofs.Stops.{row_good}
use Rattle.log_closure.specs.Tables.{Indexed}
use Rattle.log_check.specs.declared.Layout.TheVariants.{Log}
use Rattle.log_check.specs.Places.{laid_at}
use Rattle.base_head.specs.Head.{headed}
use Rattle.call_guard.specs.Opened.{Opening, opened, open_of}
use Rattle.call_guard.proofs.Opening.{number_is, open_lent, open_row}
use Rattle.state_tree.specs.Small.{Small}
use Rattle.index_state.proofs.States.{table_few}
use Rattle.take_row.proofs.Begun.{row_short}
use Rattle.try_row_report.specs.Listed.{Shown, noted, listed_count, listed}
use Rattle.try_row_report.proofs.Told.{Counted, tree_shown, told}

-- ---- the lent buffers

module _ (copy tree report : List ℕ) where
  pub copy_wrong : (length copy ≡ 40960 → ⊥) → false ≡ trial_lent copy tree report
  unfolding trial_lent
  copy_wrong h = rw (ne_eqb (length copy) 40960 h)

  module _ (a : length copy ≡ 40960) where
    pub tree_wrong : (length tree ≡ 86020 → ⊥) → false ≡ trial_lent copy tree report
    unfolding trial_lent
    tree_wrong h = rw (eq-eqb (length copy) 40960 a, ne_eqb (length tree) 86020 h)

    pub report_decides : length tree ≡ 86020 → eqb (length report) 4116 ≡ trial_lent copy tree report
    unfolding trial_lent
    report_decides h = rw (eq-eqb (length copy) 40960 a, eq-eqb (length tree) 86020 h)

  pub all_lent : trial_lent copy tree report ≡ true → (length copy ≡ 40960) × (length tree ≡ 86020) × (length report ≡ 4116)
  unfolding trial_lent
  all_lent h =
      let (a, b) = and_true (eqb (length copy) 40960) (eqb (length tree) 86020 && eqb (length report) 4116) h in
      let (c, d) = and_true (eqb (length tree) 86020) (eqb (length report) 4116) b in
      (eqb-true (length copy) 40960 a, eqb-true (length tree) 86020 c, eqb-true (length report) 4116 d)

-- ---- opening

pub opens : (u : ℕ) (log base row copy tree report : List ℕ) {lent fit : Bool} {o : Opening} → lent ≡ trial_lent copy tree report → fit ≡ row_fits (length row) → o ≡ open_of u log base lent fit
    → o ≡ open_of u log base (trial_lent copy tree report) (row_fits (length row))
opens u log base row copy tree report l f e = rw (l, f) at e

-- ---- the copy

pub copies : (log copy fresh : List ℕ) → length log ≡ 40960 → length fresh ≡ 40960 → copy ≡ put_at fresh 0 log → copy ≡ log
copies log copy fresh n m e = e ∙ put_whole fresh log (n ∙ sym m)

module _ (log copy : List ℕ) (is : copy ≡ log) where
  pub copy_long : length log ≡ 40960 → length copy ≡ 40960
  copy_long n = rw is n

  pub copy_sound : (base : List ℕ) → sound_state log base ≡ true → sound_state copy base ≡ true
  copy_sound base s = rw is s

  pub copy_used : (used : ℕ) → used ≡ length (records_of log) → used ≡ length (records_of copy)
  copy_used used u = rw is u

  pub copy_indexed : (base : List ℕ) (used : ℕ) (held places seens : List ℕ) → Indexed (base_vector base) (laid_at Log log) used (records_of log) held places seens
      → Indexed (base_vector base) (laid_at Log copy) used (records_of copy) held places seens
  copy_indexed base used held places seens i = rw is i

  pub copy_tried : (archive u : ℕ) (base row : List ℕ) (t : Tried) → t ≡ try_all archive u copy base row → t ≡ try_all archive u log base row
  copy_tried archive u base row t q = rw is at q

-- ---- the row tried

module _ (archive u : ℕ) (log base row copy : List ℕ) (k n : ℕ) (unit : u ≤ 7) (long : length log ≡ 40960) (based : length base ≡ 43032) (sound : sound_state log base ≡ true) (q : tried k n copy ≡ try_all archive u log base row) where
  good : Good copy base
  good = subst (λ (l : List ℕ). Good l base) (ap (λ (t : Tried). t.log) (sym q)) (row_good archive u log base row unit (record { long = (long, based); sound = sound }))

  pub tried-long : length copy ≡ 40960
  tried-long = good.long.0

  pub tried_sound : sound_state copy base ≡ true
  tried_sound = good.sound

-- ---- the trees of the state and of the copy

module _ (log base held : List ℕ) (based : length base ≡ 43032) (sound : sound_state log base ≡ true) (is : held ≡ held_on log base) (small : Small held) where
  counted : Counted log base
  counted u h = rw is at (small.at u h)

  pub tree_few : (b : List ℕ) → b ≡ table_bytes (tree_of log base) → word b 0 ≤ 1024
  tree_few b e = rw e (table_few log base based sound counted)

  pub tree-shows : (b : List ℕ) → b ≡ table_bytes (tree_of log base) → length b ≡ 86020 → Shown b
  tree-shows b e n = tree_shown log base b based sound counted e n

pub notes_is : (log base b l : List ℕ) → b ≡ table_bytes (tree_of log base) → l ≡ noted b (word b 0) → l ≡ noted (table_bytes (tree_of log base)) (word (table_bytes (tree_of log base)) 0)
notes_is log base b l e q = q ∙ rw e

pub notes_within : (c : ℕ) (l : List ℕ) → length l ≡ 1024 → c ≤ 1024 → c ≤ length l
notes_within c l e h = rw e h

pub all_reported : (log copy base held v tree report l : List ℕ) (k n : ℕ) → length base ≡ 43032 → sound_state log base ≡ true → held ≡ held_on log base → Small held → sound_state copy base ≡ true → v ≡ held_on copy base → Small v
    → tree ≡ table_bytes (tree_of copy base) → l ≡ noted (table_bytes (tree_of log base)) (word (table_bytes (tree_of log base)) 0)
    → report ≡ (k ∷ n ∷ two (listed_count tree l (word tree 0))) ++ (vector_bytes v ++ padded 4096 (listed tree l (word tree 0)))
    → trial 0 0 copy tree report ≡ reported log base (tried k n copy)
unfolding reported
all_reported log copy base held v tree report l k n based sound is small sound' is' small' a b d =
    rw (
      a,
      told log copy base based sound sound' (counted log base held based sound is small) (counted copy base v based sound' is' small') k n v l tree report a b is' d,
    )

-- ---- the call

module _ (archive u : ℕ) (log base row copy tree report : List ℕ) {n m k j used : ℕ} {v held : List ℕ} (e : opened n (headed m v k j) held used ≡ open_of u log base (trial_lent copy tree report) (row_fits (length row))) where
  pub try_refused : (n ≡ 0 → ⊥) → trial n 0 copy tree report ≡ try_of archive u log base row copy tree report
  unfolding try_of
  try_refused z = rw (← number_is u log base (trial_lent copy tree report) (row_fits (length row)) e) (go n z)
    where
      go : (i : ℕ) → (i ≡ 0 → ⊥) → trial i 0 copy tree report ≡ or_untried i copy tree report (reported log base (try_all archive u log base row))
      go zero y = absurd (y refl)
      go (suc i) y = refl

  pub try_passes : n ≡ 0 → (t : Tried) → t ≡ try_all archive u log base row → (o : Trial) → o ≡ reported log base t → o ≡ try_of archive u log base row copy tree report
  unfolding try_of
  try_passes z t p o q = q ∙ ap (reported log base) p ∙ rw (← number_is u log base (trial_lent copy tree report) (row_fits (length row)) e, z)

module _ (u : ℕ) (log base copy tree report : List ℕ) (i : ℕ) {n m k j used : ℕ} {v held : List ℕ} (e : opened n (headed m v k j) held used ≡ open_of u log base (trial_lent copy tree report) (row_fits i)) (z : n ≡ 0) where
  pub try_short : i ≤ 44032
  try_short = row_short i (open_row u log base (trial_lent copy tree report) (row_fits i) e z)

  right : (length copy ≡ 40960) × (length tree ≡ 86020) × (length report ≡ 4116)
  right = all_lent copy tree report (open_lent u log base (trial_lent copy tree report) (row_fits i) e z)

  pub try_copy : length copy ≡ 40960
  try_copy = right.0

  pub try_tree : length tree ≡ 86020
  try_tree = right.1

  pub try_report : length report ≡ 4116
  try_report = right.2
