-- The rows that a tree leaves in a base and in the work memory are bytes, and fit.
-- Assumes nothing.
use Prim.Native.Nat.{ℕ, zero, suc, ◌+◌, ◌*◌, ◌/◌, ◌%◌, ◌≤◌, ◌<◌}
use native.Mathlib.Omega.{arith}
use mathlib.Core.Path.{◌≡◌, refl, sym}
use mathlib.Core.Logic.{inl, inr, ⊎_elim}
use mathlib.Core.Bool.{Bool, true, false, cond}
use mathlib.Core.List.{List, [], ◌∷◌, ◌++◌}
use lib.ListN.{get_or, length, length-append}
use Rattle.model.specs.Bytes.{two, part, padded, word}
use Rattle.model.specs.Vector.{vector_bytes}
use Rattle.model.specs.Record.{Rec, root, self_of, object_of, date_bytes, label_of, mark_of}
use Rattle.model.specs.Log.{vector_on}
use Rattle.model.specs.Replay.{Entry, Aside, Tree, is_disputed, present_ones, trim, new_entry, stored, renamed, moved, removed, changed, settled, effect, step, replay_from}
use Rattle.model.specs.Table.{identity_bytes, entry_row, aside_row, entry_rows, aside_rows, flagged, work_bytes, entry_in}
use Rattle.base_model.specs.Base.{Base, base_bytes, base_entry, base_entries, base_tree}
use Rattle.byte_slice.proofs.PutAt.{length-padded}
use Rattle.log_laws.specs.Sound.{SoundOn}
use Rattle.log_laws.proofs.Members.{All, all_append}
use Rattle.tree_laws.specs.Trees.{NamedIn, NamedOrNone, EntryFits, AsideFits, SoundTree}
use Rattle.tree_laws.proofs.Steps.{effect_elim, step_elim, all_changed, all_present}
use Rattle.fold_count_laws.proofs.Present.{changed-length, settled-length}
use Rattle.base_laws.specs.Laid.{Lays}
use Rattle.base_laws.proofs.LaidRows as LaidRows
use Rattle.claims.proofs.Bytes.{Below, Recs, Small, below-append, below-part, two-below, padded-below, zeros-below, vector_below}

-- ---- identities

identity-below : (k : ℕ) → k < 524288 → Below 256 (identity_bytes k)
unfolding identity_bytes
identity-below k h = (omega arith, (omega arith, two-below (k / 8) (omega arith)))

module _ (v : List ℕ) (small : Small v) where
  named_low : (k : ℕ) → NamedIn v k → k < 524288
  named_low k (a, b) = omega (arith, small (k % 8) (omega arith))

  none_low : (k : ℕ) → NamedOrNone v k → k < 524288
  none_low k h = ⊎_elim (λ (z : k ≡ root). omega arith) (λ n. named_low k n) h

-- ---- what the rows take over from records and bases

-- date, label and mark are bytes
abbrev pub Written : Entry → Type 0
Written e = Below 256 e.date × Below 256 e.label × Below 256 e.mark

in_written : (b : List ℕ) (at : ℕ) → Below 256 b → Written (entry_in b at)
unfolding entry_in
in_written b at h = (below-part b (at + 20) 4 h, below-part b (at + 24) 32 h, below-part b (at + 56) 16 h)

entries_written : (b : List ℕ) (i n : ℕ) → Below 256 b → All Written (base_entries b i n)
unfolding base_entries base_entry
entries_written b i zero h = tt
entries_written b i (suc n) h = (in_written b (24 + 72 * i) h, entries_written b (suc i) n h)

pub base_written : (b : List ℕ) → Below 256 b → All Written (base_tree b).entries
unfolding base_tree
base_written b h = entries_written b 0 (word b 2) h

step-written : (t : Tree) (r : Rec) → Below 256 r → All Written t.entries → All Written (step t r).entries
unfolding new_entry stored renamed moved removed date_bytes label_of mark_of
step-written t r h a =
    let P : Tree → Type 0 = λ (x : Tree). All Written x.entries in
    let d : Below 256 (date_bytes r) = below-part r 28 4 h in
    let l : Below 256 (label_of r) = below-part r 32 32 h in
    let m : Below 256 (mark_of r) = below-part r 64 16 h in
    step_elim P t r
    (λ _. effect_elim P r t
    (λ _. all_append Written t.entries (new_entry r ∷ []) a ((d, l, m), tt))
    (λ _. all_changed Written (stored r) (object_of r) t.entries (λ e _ f. (d, f.1, m)) a)
    (λ _. all_changed Written removed (object_of r) t.entries (λ e _ f. f) a)
    (λ _. all_changed Written (renamed r) (object_of r) t.entries (λ e _ f. (f.0, l, f.2)) a)
    (λ _. a)
    (λ _. all_changed Written (moved r) (object_of r) t.entries (λ e _ f. (f.0, l, f.2)) a))
    (λ x k _. a)

pub replay-written : (t : Tree) (l : List Rec) → Recs l → All Written t.entries → All Written (replay_from t l).entries
unfolding replay_from
replay-written t [] h a = a
replay-written t (r ∷ l) h a = replay-written (step t r) l (λ s i. h s (inr i)) (step-written t r (h r (inl refl)) a)

-- ---- at most one entry and one aside for a record

step_grows : (t : Tree) (r : Rec) → (length (step t r).entries ≤ suc (length t.entries)) × (length (step t r).asides ≤ suc (length t.asides))
step_grows t r =
    let P : Tree → Type 0 = λ (x : Tree). (length x.entries ≤ suc (length t.entries)) × (length x.asides ≤ suc (length t.asides)) in
    step_elim P t r
    (λ _. effect_elim P r t
    (λ _. (omega (arith, length-append t.entries (new_entry r ∷ [])), omega arith))
    (λ _. (omega (arith, changed-length (stored r) (object_of r) t.entries), omega arith))
    (λ _. (omega (arith, changed-length removed (object_of r) t.entries), omega arith))
    (λ _. (omega (arith, changed-length (renamed r) (object_of r) t.entries), omega arith))
    (λ _. (omega arith, omega (arith, settled-length (object_of r) t.asides)))
    (λ _. (omega (arith, changed-length (moved r) (object_of r) t.entries), omega arith)))
    (λ n k _. (omega arith, omega (arith, length-append t.asides (record { who = self_of r; reason = n; marked = k; is_open = true } ∷ []))))

pub replay_grows : (t : Tree) (l : List Rec)
    → (length (replay_from t l).entries ≤ length t.entries + length l) × (length (replay_from t l).asides ≤ length t.asides + length l)
unfolding replay_from
replay_grows t [] = (omega arith, omega arith)
replay_grows t (r ∷ l) =
    let (a, b) = step_grows t r in
    let (c, d) = replay_grows (step t r) l in
    (omega arith, omega arith)

-- ---- rows

flag_low : (b : Bool) → cond b 1 0 < 256
flag_low true = omega arith
flag_low false = omega arith

state_low : (b : Bool) → cond b 1 2 < 256
state_low true = omega arith
state_low false = omega arith

module _ (v : List ℕ) (small : Small v) where
  entry-below : (d : ℕ) (e : Entry) → d < 256 → EntryFits v e → Written e → Below 256 (entry_row d e)
  unfolding entry_row
  entry-below d e h f (a, b, c) =
      let id : (k : ℕ) → k < 524288 → Below 256 (identity_bytes k) = identity-below in
      let texts : Below 256 (e.date ++ (e.label ++ e.mark)) = below-append e.date (e.label ++ e.mark) a (below-append e.label e.mark b c) in
      let placed : Below 256 (identity_bytes e.placing ++ (e.date ++ (e.label ++ e.mark))) =
      below-append (identity_bytes e.placing) (e.date ++ (e.label ++ e.mark)) (id e.placing (named_low v small e.placing f.placing_named)) texts in
      let held : Below 256 (identity_bytes e.contents ++ (identity_bytes e.placing ++ (e.date ++ (e.label ++ e.mark)))) =
      below-append (identity_bytes e.contents) (identity_bytes e.placing ++ (e.date ++ (e.label ++ e.mark)))
      (id e.contents (named_low v small e.contents f.contents_named)) placed in
      let within : Below 256 (identity_bytes e.inside ++ (identity_bytes e.contents ++ (identity_bytes e.placing ++ (e.date ++ (e.label ++ e.mark))))) =
      below-append (identity_bytes e.inside) (identity_bytes e.contents ++ (identity_bytes e.placing ++ (e.date ++ (e.label ++ e.mark))))
      (id e.inside (none_low v small e.inside f.folder_named)) held in
      let kind = f.a_kind in (
        omega arith,
        (
          h,
          (
            omega arith,
            (
              omega arith,
              below-append (identity_bytes e.made) (identity_bytes e.inside ++ (identity_bytes e.contents ++ (identity_bytes e.placing ++ (e.date ++ (e.label ++ e.mark)))))
                  (id e.made (named_low v small e.made f.own_named)) within,
            ),
          ),
        ),
      )

  aside-below : (a : Aside) → AsideFits v a → Below 256 (aside_row a)
  unfolding aside_row
  aside-below a f =
      let reason : a.reason < 256 = ⊎_elim (λ (x, y). omega arith) (λ (x : a.reason ≡ 25). omega arith) f.a_reason in
      below-append (identity_bytes a.who) ((a.reason ∷ cond a.is_open 1 2 ∷ 0 ∷ 0 ∷ []) ++ identity_bytes a.marked)
      (identity-below a.who (named_low v small a.who f.who_named))
      (reason, (state_low a.is_open, (omega arith, (omega arith, identity-below a.marked (none_low v small a.marked f.mark_named)))))

  entries_below : (s : List Aside) (es : List Entry) → All (EntryFits v) es → All Written es → Below 256 (entry_rows s es)
  unfolding entry_rows
  entries_below s [] f h = tt
  entries_below s (e ∷ es) f h =
      below-append (entry_row (cond (is_disputed e.made s) 1 0) e) (entry_rows s es)
      (entry-below (cond (is_disputed e.made s) 1 0) e (flag_low (is_disputed e.made s)) f.0 h.0)
      (entries_below s es f.1 h.1)

  asides_below : (l : List Aside) → All (AsideFits v) l → Below 256 (aside_rows l)
  unfolding aside_rows
  asides_below [] f = tt
  asides_below (a ∷ l) f = below-append (aside_row a) (aside_rows l) (aside-below a f.0) (asides_below l f.1)

  -- ---- the work memory

  pub work_below : (t : Tree) → SoundTree v t → All Written t.entries → Below 256 (work_bytes t)
  unfolding work_bytes flagged
  work_below t f h =
      let es : List ℕ = entry_rows [] t.entries in
      let l : List ℕ = aside_rows t.asides in (
        omega arith,
        (
          omega arith,
          (
            omega arith,
            (
              omega arith,
              below-append (padded 73728 es) (padded 12288 l)
                  (padded-below 73728 es (entries_below [] t.entries f.entries_fit h))
                  (padded-below 12288 l (asides_below t.asides f.asides_fit)),
            ),
          ),
        ),
      )

  -- ---- the base

  pub laid_below : (m : ℕ) (t : Tree) → m < 256 → length t.entries ≤ 512 → length t.asides ≤ 512 → SoundTree v t → All Written t.entries
      → Below 256 (base_bytes (record { list = m; vector = v; tree = t }))
  unfolding base_bytes
  laid_below m t k a b f h =
      let es : List ℕ = padded 36864 (entry_rows [] t.entries) in
      let l : List ℕ = padded 6144 (aside_rows t.asides) in
      let rows : Below 256 (es ++ l) =
      below-append es l (padded-below 36864 (entry_rows [] t.entries) (entries_below [] t.entries f.entries_fit h))
      (padded-below 6144 (aside_rows t.asides) (asides_below t.asides f.asides_fit)) in
      let counted : Below 256 (vector_bytes v ++ (es ++ l)) = below-append (vector_bytes v) (es ++ l) (vector_below v small) rows in (
        k,
        (
          omega arith,
          below-append (two (length t.entries)) (two (length t.asides) ++ ((0 ∷ 0 ∷ []) ++ (vector_bytes v ++ (es ++ l)))) (two-below (length t.entries) (omega arith))
              (below-append (two (length t.asides)) ((0 ∷ 0 ∷ []) ++ (vector_bytes v ++ (es ++ l))) (two-below (length t.asides) (omega arith))
              (omega arith, (omega arith, counted))),
        ),
      )

-- ---- lengths

rows_length : (v : List ℕ) (es : List Entry) → All (EntryFits v) es → length (entry_rows [] es) ≡ 72 * length es
unfolding entry_rows is_disputed
rows_length v [] h = refl
rows_length v (e ∷ es) h =
    let z : LaidRows.Sized e = record { date_long = h.0.date_length; label_long = h.0.label_length; mark_long = h.0.mark_length } in
    omega (arith, length-append (entry_row 0 e) (entry_rows [] es), LaidRows.row-length 0 e z, rows_length v es h.1)

notes_length : (l : List Aside) → length (aside_rows l) ≡ 12 * length l
unfolding aside_rows
notes_length [] = refl
notes_length (a ∷ l) = omega (arith, length-append (aside_row a) (aside_rows l), LaidRows.aside-length a, notes_length l)

pub work_length : (v : List ℕ) (t : Tree) → SoundTree v t → length t.entries ≤ 1024 → length t.asides ≤ 1024 → length (work_bytes t) ≡ 86020
unfolding work_bytes flagged
work_length v t f a b =
    let es : List ℕ = entry_rows [] t.entries in
    let l : List ℕ = aside_rows t.asides in
    omega (
      arith,
      length-append (padded 73728 es) (padded 12288 l),
      length-padded 73728 es (omega (arith, rows_length v t.entries f.entries_fit)),
      length-padded 12288 l (omega (arith, notes_length t.asides)),
    )
