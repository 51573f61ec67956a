-- What a fold leaves is sound, from any sound state: the base, the log behind it, the list given; and it shows the same tree.
-- Assumes nothing.
use Prim.Native.Nat.{ℕ, zero, suc, ◌≤◌}
use native.Mathlib.Omega.{arith}
use mathlib.Core.Path.{◌≡◌, refl, sym, ap, ◌∙◌, subst}
use mathlib.Core.Logic.{◌⊎◌, inl, inr, ⊎_elim}
use mathlib.Core.Bool.{Bool, true, false, cond, ◌&&◌}
use mathlib.Core.List.{List, [], ◌∷◌, ◌++◌}
use lib.Dec.{leb, eqb}
use lib.ListN.{get_or, length, take, drop, take-append-drop, length-drop}
use borrow.Author.Tests.{eqb-true, le-leb, leb-true}
use Rattle.model.specs.Bytes.{word}
use Rattle.model.specs.Record.{Rec}
use Rattle.model.specs.Log.{vector_on, sound_log_on, records_of, log_bytes}
use Rattle.model.specs.Replay.{Entry, Tree, is_present, present_ones, trim, replay_from}
use Rattle.model.specs.Table.{table_bytes}
use Rattle.byte_slice.proofs.Numbers.{bool_cases, and_true, true_and, first_zero}
use Rattle.log_laws.specs.Sound.{SoundAfter}
use Rattle.log_laws.proofs.Counts.{sound_front_on}
use Rattle.log_laws.proofs.Tests.{vector_on-length, vector_on_get_d}
use Rattle.encoding_laws.proofs.Logs.{sound_proper_on, proper_sized, length-log_bytes, records_back, sound_records_on, sound_few, log_sound_on}
use Rattle.tree_laws.specs.Trees.{SoundTree}
use Rattle.tree_laws.proofs.Trees.{sound_trim, present_has}
use Rattle.tree_laws.proofs.Trimming.{table-trim}
use Rattle.base_model.specs.Base.{Base, base_bytes, base_vector, base_tree, base_in, sound_base, is_listed, lists_all, held_on, sound_state, tree_of}
use Rattle.call_model.specs.Outcome.{Outcome, refusal, or_refused, early_number, guard_number, guarded}
use Rattle.call_model.specs.Fold.{heard_run, counts_as_base, longest, run_of, folded_base, list_fits, list_number, run_in, folded, fold_by, fold_of}
use Rattle.base_laws.specs.Laid.{Lays}
use Rattle.base_laws.proofs.Numbered.{entries_count, asides_count}
use Rattle.base_laws.proofs.Trees as T
use Rattle.base_laws.proofs.LaidTree.{bytes_length, base_back, base_sound}
use Rattle.base_laws.proofs.Replaying.{sound_on, shed_on, vector_behind, replay-behind}

-- ---- a state in its parts

module _ (log base : List ℕ) (s : sound_state log base ≡ true) where
  parts : (sound_base base ≡ true) × (sound_log_on (base_vector base) log ≡ true) × (lists_all (get_or base 0 0) (held_on log base) ≡ true)
  unfolding sound_state
  parts =
      let (a, b) = and_true (sound_base base) (sound_log_on (base_vector base) log && lists_all (get_or base 0 0) (held_on log base)) s in
      let (c, d) = and_true (sound_log_on (base_vector base) log) (lists_all (get_or base 0 0) (held_on log base)) b in
      (a, c, d)

  pub state_base : sound_base base ≡ true
  state_base = parts.0

  pub state_log : sound_log_on (base_vector base) log ≡ true
  state_log = parts.1

  pub state_listed : lists_all (get_or base 0 0) (held_on log base) ≡ true
  state_listed = parts.2

  pub state_records : SoundAfter (base_vector base) [] (records_of log)
  state_records = sound_records_on (base_vector base) log state_log

  -- the tree of the records held, on the vector that counts them
  pub state_tree : length base ≡ 43032 → SoundTree (held_on log base) (tree_of log base)
  unfolding tree_of
  state_tree h = sound_on (base_vector base) (base_tree base) (records_of log) state_records (T.sound_tree base h state_base)

pub state_sound : (log base : List ℕ) → sound_base base ≡ true → sound_log_on (base_vector base) log ≡ true → lists_all (get_or base 0 0) (held_on log base) ≡ true → sound_state log base ≡ true
unfolding sound_state
state_sound log base a b c = rw (a, b, c)

-- ---- what n records leave, from any sound tree

-- a tree within 512 entries and 512 asides after n records
abbrev pub Counts : Tree → List Rec → ℕ → Type 0
Counts t l n = counts_as_base t l n ≡ true

module _ (v : List ℕ) (t : Tree) (l : List Rec) (h : SoundAfter v [] l) (n : ℕ) where
  both : SoundAfter v [] (take n l ++ drop n l)
  both = subst (SoundAfter v []) (sym (take-append-drop n l)) h

  pub left_sound : SoundAfter (vector_on v (take n l)) [] (drop n l)
  left_sound = shed_on v (vector_on v (take n l)) (take n l) (drop n l) (λ u k. vector_on_get_d v (take n l) u k) both

  pub folded_lays : (m : ℕ) → SoundTree v t → Counts t l n → Lays (folded_base m v t l n)
  unfolding folded_base trim counts_as_base
  folded_lays m s c =
      let x : Tree = replay_from t (take n l) in
      let (a, b) = and_true (leb (length (present_ones x.entries)) 512) (leb (length x.asides) 512) c in
      record {
        eight = vector_on-length v (take n l);
        few_entries = leb-true (length (present_ones x.entries)) 512 a;
        few_asides = leb-true (length x.asides) 512 b;
        sound = sound_trim (vector_on v (take n l)) x (sound_on v t (take n l) (sound_front_on v [] (take n l) (drop n l) both) s);
        none-removed = λ e i. (present_has x.entries e i).1;
      }

-- ---- which runs count

present_few : (l : List Entry) → length (present_ones l) ≤ length l
unfolding present_ones
present_few [] = omega arith
present_few (e ∷ l) =
    ⊎_elim
    (λ (c : is_present e ≡ true). rw c (omega (arith, present_few l)))
    (λ (c : is_present e ≡ false). rw c (omega (arith, present_few l)))
    (bool_cases (is_present e))

-- a sound base is within both limits
pub none-counts : (base : List ℕ) → sound_base base ≡ true → (l : List Rec) → Counts (base_tree base) l 0
unfolding counts_as_base replay_from base_tree
none-counts base e l =
    let w = T.sound_tells base e in
    true_and (leb (length (present_ones (base_tree base).entries)) 512) (leb (length (base_tree base).asides) 512)
    (le-leb (length (present_ones (base_tree base).entries)) 512 (omega (arith, present_few (base_tree base).entries, entries_count base 0 (word base 2), w.few_entries)))
    (le-leb (length (base_tree base).asides) 512 (omega (arith, asides_count base 0 (word base 4), w.few_asides)))

longest-counts : (t : Tree) (l : List Rec) (n : ℕ) → Counts t l 0 → Counts t l (longest t l n)
unfolding longest
longest-counts t l zero h = h
longest-counts t l (suc n) h = go (bool_cases (counts_as_base t l (suc n))) (longest-counts t l n h)
  where
    go : (counts_as_base t l (suc n) ≡ true) ⊎ (counts_as_base t l (suc n) ≡ false) → Counts t l (longest t l n)
        → Counts t l (cond (counts_as_base t l (suc n)) (suc n) (longest t l n))
    go (inl e) k = rw e e
    go (inr e) k = rw e k

pub run-counts : (m u : ℕ) (v : List ℕ) (t : Tree) (l : List Rec) → Counts t l 0 → Counts t l (run_of m u v t l)
unfolding run_of
run-counts m u v t l = longest-counts t l (heard_run m u v l l)

-- ---- the state afterwards

module _ (log base : List ℕ) (long : length base ≡ 43032) (s : sound_state log base ≡ true) (m n : ℕ) (c : Counts (base_tree base) (records_of log) n) where
  abbrev v : List ℕ
  v = base_vector base

  abbrev l : List Rec
  l = records_of log

  abbrev after : Base
  after = folded_base m (base_vector base) (base_tree base) (records_of log) n

  lays : Lays after
  lays = folded_lays v (base_tree base) l (state_records log base s) n m (T.sound_tree base long (state_base log base s)) c

  pub folded-length : length (base_bytes after) ≡ 43032
  folded-length = bytes_length after lays

  pub folded_back : base_in (base_bytes after) ≡ after
  folded_back = base_back after lays

  pub folded_sound : sound_base (base_bytes after) ≡ true
  folded_sound = base_sound after lays

  vector_is : base_vector (base_bytes after) ≡ vector_on v (take n l)
  unfolding base_in folded_base
  vector_is = ap (λ (b : Base). b.vector) folded_back

  list_is : get_or (base_bytes after) 0 0 ≡ m
  unfolding base_in folded_base
  list_is = ap (λ (b : Base). b.list) folded_back

  tree_is : base_tree (base_bytes after) ≡ trim (replay_from (base_tree base) (take n l))
  unfolding base_in folded_base
  tree_is = ap (λ (b : Base). b.tree) folded_back

  left : SoundAfter (vector_on v (take n l)) [] (drop n l)
  left = left_sound v (base_tree base) l (state_records log base s) n

  few : length (drop n l) ≤ 512
  few = omega (arith, length-drop n l, sound_few log)

  records_left_lem : records_of (log_bytes (drop n l)) ≡ drop n l
  records_left_lem = records_back (drop n l) (sound_proper_on (vector_on v (take n l)) (drop n l) left) few

  -- the held vector is the same
  pub folded-held : held_on (log_bytes (drop n l)) (base_bytes after) ≡ held_on log base
  folded-held = rw (records_left_lem, vector_is, vector_behind v (take n l) (drop n l), take-append-drop n l)

  -- a list that names every unit that the held vector counts is one of the state afterwards
  pub folded_state : lists_all m (held_on log base) ≡ true → sound_state (log_bytes (drop n l)) (base_bytes after) ≡ true
  folded_state e =
      state_sound (log_bytes (drop n l)) (base_bytes after) folded_sound
      (rw vector_is (log_sound_on (vector_on v (take n l)) (drop n l) left few))
      (rw (list_is, folded-held) e)

  -- the tree of the records held is the same but for the rows of removed entries, and is shown the same
  pub folded-tree : trim (tree_of (log_bytes (drop n l)) (base_bytes after)) ≡ trim (tree_of log base)
  unfolding tree_of
  folded-tree = rw (records_left_lem, tree_is, replay-behind (base_tree base) (take n l) (drop n l), take-append-drop n l)

  pub folded_shown : table_bytes (tree_of (log_bytes (drop n l)) (base_bytes after)) ≡ table_bytes (tree_of log base)
  folded_shown =
      let a = tree_of (log_bytes (drop n l)) (base_bytes after) in
      sym (table-trim a) ∙ (ap table_bytes folded-tree ∙ table-trim (tree_of log base))

  pub left-length : length (log_bytes (drop n l)) ≡ 40960
  left-length =
      length-log_bytes (drop n l) (proper_sized (drop n l) (sound_proper_on (vector_on v (take n l)) (drop n l) left)) few

-- ---- the call

fits_all : (m u : ℕ) (v : List ℕ) → list_fits m u v ≡ true → lists_all m v ≡ true
unfolding list_fits
fits_all m u v e = (and_true (is_listed m u) (lists_all m v) e).1

-- the number of a refusal, or the outcome itself
or_cases : (n : ℕ) (log lent : List ℕ) (o : Outcome) → ((n ≡ 0) × (or_refused n log lent o ≡ o)) ⊎ ((i : ℕ) × (or_refused n log lent o ≡ refusal (suc i) log lent))
or_cases zero log lent o = inl (refl, refl)
or_cases (suc i) log lent o = inr (i, refl)

test_zero : (t : Bool) (n : ℕ) → cond t 0 (suc n) ≡ 0 → t ≡ true
test_zero true n e = refl
test_zero false n e = absurd (omega arith)

early_zero : (t s r : Bool) → ◌≡◌ {A = ℕ} (cond t (cond s (cond r 0 2) 21) 1) 0 → t ≡ true
early_zero true s r e = refl
early_zero false s r e = absurd (omega arith)

module _ (u m : ℕ) (log base work : List ℕ) where
  abbrev done : Outcome
  done = folded m log base (run_in m u log base)

  -- a fold is refused and leaves every byte, or is done; then log and base were sound, and the list names all units with records
  abbrev pub FoldCases : Type 0
  FoldCases =
      ((length base ≡ 43032) × (sound_state log base ≡ true) × (lists_all m (held_on log base) ≡ true) × (fold_of u log base m work ≡ folded m log base (run_in m u log base)))
      ⊎ ((i : ℕ) × (fold_of u log base m work ≡ refusal (suc i) log base))

  abbrev ok : Bool
  ok = eqb (length work) 86020

  abbrev lengths : Bool
  lengths = eqb (length log) 40960 && (eqb (length base) 43032 && ok)

  pub fold_cases : FoldCases
  unfolding fold_of guarded fold_by
  fold_cases = guards (or_cases (guard_number u log base ok true) log base (fold_by m u log base))
    where
      lists : guard_number u log base ok true ≡ 0 → fold_of u log base m work ≡ fold_by m u log base
          → ((list_number m u (held_on log base) ≡ 0) × (fold_by m u log base ≡ done)) ⊎ ((i : ℕ) × (fold_by m u log base ≡ refusal (suc i) log base)) → FoldCases
      lists z e (inl (k, f)) =
          let (a, b) = first_zero (early_number u log base ok true) (cond (sound_state log base) 0 19) z in
          let (_, q) = and_true (eqb (length log) 40960) (eqb (length base) 43032 && ok) (early_zero lengths (leb u 7) true a) in
          let (r, _) = and_true (eqb (length base) 43032) ok q in
          let y : list_fits m u (held_on log base) ≡ true = test_zero (list_fits m u (held_on log base)) 25 k in
          inl (eqb-true (length base) 43032 r, test_zero (sound_state log base) 18 b, fits_all m u (held_on log base) y, e ∙ f)
      lists z e (inr (i, f)) = inr (i, e ∙ f)

      guards : ((guard_number u log base ok true ≡ 0) × (fold_of u log base m work ≡ fold_by m u log base)) ⊎ ((i : ℕ) × (fold_of u log base m work ≡ refusal (suc i) log base)) → FoldCases
      guards (inl (z, e)) = lists z e (or_cases (list_number m u (held_on log base)) log base done)
      guards (inr x) = inr x

  -- what a fold that is accepted leaves is sound
  pub fold_accepted : (fold_of u log base m work).number ≡ 0
      → (length (fold_of u log base m work).log ≡ 40960) × (length (fold_of u log base m work).lent ≡ 43032) × (sound_state (fold_of u log base m work).log (fold_of u log base m work).lent ≡ true)
  unfolding folded base_in
  fold_accepted z = go fold_cases
    where
      go : FoldCases → (length (fold_of u log base m work).log ≡ 40960) × (length (fold_of u log base m work).lent ≡ 43032) × (sound_state (fold_of u log base m work).log (fold_of u log base m work).lent ≡ true)
      go (inl (h, s, e, f)) =
          let c = run-counts m u (base_vector base) (base_tree base) (records_of log) (none-counts base (state_base log base s) (records_of log)) in
          let n : ℕ = run_in m u log base in
          rw f (left-length log base h s m n c, folded-length log base h s m n c, folded_state log base h s m n c e)
      go (inr (i, f)) = absurd (let y : ◌≡◌ {A = ℕ} (suc i) 0 = sym (ap (λ (o : Outcome). o.number) f) ∙ z in omega arith)

  -- it holds the same records and shows the same tree
  pub fold_same : (fold_of u log base m work).number ≡ 0
      → (held_on (fold_of u log base m work).log (fold_of u log base m work).lent ≡ held_on log base) × (table_bytes (tree_of (fold_of u log base m work).log (fold_of u log base m work).lent) ≡ table_bytes (tree_of log base))
  unfolding folded base_in
  fold_same z = go fold_cases
    where
      go : FoldCases → (held_on (fold_of u log base m work).log (fold_of u log base m work).lent ≡ held_on log base) × (table_bytes (tree_of (fold_of u log base m work).log (fold_of u log base m work).lent) ≡ table_bytes (tree_of log base))
      go (inl (h, s, e, f)) =
          let c = run-counts m u (base_vector base) (base_tree base) (records_of log) (none-counts base (state_base log base s) (records_of log)) in
          let n : ℕ = run_in m u log base in
          rw f (folded-held log base h s m n c, folded_shown log base h s m n c)
      go (inr (i, f)) = absurd (let y : ◌≡◌ {A = ℕ} (suc i) 0 = sym (ap (λ (o : Outcome). o.number) f) ∙ z in omega arith)

  -- a fold that is refused leaves every byte
  pub fold_refused : ((fold_of u log base m work).number ≡ 0 → ⊥) → ((fold_of u log base m work).log ≡ log) × ((fold_of u log base m work).lent ≡ base)
  unfolding folded
  fold_refused z = go fold_cases
    where
      go : FoldCases → ((fold_of u log base m work).log ≡ log) × ((fold_of u log base m work).lent ≡ base)
      go (inl (h, s, e, f)) = absurd (z (ap (λ (o : Outcome). o.number) f))
      go (inr (i, f)) = (ap (λ (o : Outcome). o.log) f, ap (λ (o : Outcome). o.lent) f)
