-- What folding is asked, over plain values: the run, the base that it leaves, and each way out.
-- Assumes nothing.
use Prim.Native.Nat.{ℕ, zero, suc, ◌≤◌, ◌<◌}
use native.Mathlib.Omega.{arith}
use mathlib.Core.Path.{◌≡◌, refl, sym, ap, ◌∙◌}
use mathlib.Core.Bool.{Bool, true, false, not}
use mathlib.Core.List.{List, [], ◌∷◌}
use lib.Dec.{eqb, leb}
use lib.ListN.{length, take, drop}
use borrow.Author.Tests.{le-leb, not-true, not-false}
use Rattle.model.specs.Numbers.{first_of}
use Rattle.model.specs.Bytes.{word}
use Rattle.model.specs.Log.{vector_on, records_of, log_bytes, sound_log_on}
use Rattle.model.specs.Replay.{Entry, Tree, is_present, present_ones, trim, replay_from}
use Rattle.model.specs.Table.{work_bytes}
use Rattle.base_model.specs.Base.{is_listed, lists_all, base_bytes, base_in, base_vector, base_tree, base_entries, base_asides, held_on}
use Rattle.call_model.specs.Outcome.{outcome, guard_number, guarded, work_after}
use Rattle.call_model.specs.Fold.{heard_run, counts_as_base, longest, run_of, run_in, folded_base, list_fits, list_number, folded, fold_by, fold_of, fold_work}
use Rattle.byte_slice.proofs.Numbers.{and_true}
use Rattle.encoding_laws.proofs.Logs.{sound_few}
use Rattle.base_laws.proofs.Trees.{sound_tells}
use Rattle.base_laws.proofs.Numbered.{entries_count, asides_count}
use Rattle.tree_laws.proofs.Steps.{cond_elim}
use Rattle.tree_table.specs.Rows.{AllProper, tree_in}
use Rattle.tree_table.proofs.Rows.{tree_back}
use Rattle.tree_table.proofs.Writes.{flagged-long}
use Rattle.base_head.specs.Head.{headed}
use Rattle.call_guard.specs.Opened.{opened, open_of}
use Rattle.call_guard.proofs.Opening.{number_is, open_used, open_unit, open_held}
use Rattle.state_check.specs.declared.State.{State}
use Rattle.state_check.specs.Stands.{Stands}
use Rattle.state_tree.proofs.Replayed.{state_base, state_log}
use Rattle.fold_count_laws.specs.Counted.{present_count}
use Rattle.fold_count_laws.proofs.Longest.{left_present, left_asides}
use Rattle.fold_base.specs.Written.{base_of}
use Rattle.fold_tree.specs.Table.{Table}

-- ---- a list

pub fits_own : (m u : ℕ) (v : List ℕ) (b : Bool) → b ≡ list_fits m u v → not b ≡ false → is_listed m u ≡ true
unfolding list_fits
fits_own m u v b e h = (and_true (is_listed m u) (lists_all m v) (sym e ∙ not-false b h)).0

-- ---- a state at hand

present_few : (l : List Entry) → length (present_ones l) ≤ length l
unfolding present_ones
present_few [] = omega arith
present_few (x ∷ l) =
    cond_elim (λ (y : List Entry). length y ≤ suc (length l)) (is_present x) (x ∷ present_ones l) (present_ones l) (λ _. omega (arith, present_few l)) (λ _. omega (arith, present_few l))

module _ {log base : List ℕ} {state : State} (s : Stands log base state) where
  pub few_used : state.used ≤ 512
  few_used = omega (arith, s.used_is, sound_few log)

  pub run_few : (n : ℕ) → n ≤ state.used → n ≤ length (records_of log)
  run_few n h = omega (arith, s.used_is)

  module _ (f : state.head.folded.counts ≡ base_vector base) where
    pub log_sound : sound_log_on state.head.folded.counts log ≡ true
    log_sound = rw f (state_log log base s.known.sound)

    pub held_on_is : state.held.counts ≡ vector_on state.head.folded.counts (records_of log)
    held_on_is = s.known.held_is ∙ rw f

    pub run_is : (u l k n : ℕ) → k ≡ heard_run l u state.head.folded.counts (records_of log) (records_of log) → n ≡ longest (base_tree base) (records_of log) k → n ≡ run_in l u log base
    unfolding run_of base_in
    run_is u l k n p q = q ∙ rw (p, f)

  starts_small : counts_as_base (base_tree base) (records_of log) 0 ≡ true
  unfolding counts_as_base replay_from base_tree
  starts_small =
      let t = sound_tells base (state_base log base s.known.sound) in
      let n = word base 2 in
      let k = word base 4 in
      let a : leb (length (present_ones (base_entries base 0 n))) 512 ≡ true = le-leb (length (present_ones (base_entries base 0 n))) 512 (omega (arith, present_few (base_entries base 0 n), entries_count base 0 n, t.few_entries)) in
      let c : leb (length (base_asides base 0 k)) 512 ≡ true = le-leb (length (base_asides base 0 k)) 512 (omega (arith, asides_count base 0 k, t.few_asides)) in
      rw (a, c)

  module _ (b : List ℕ) (x y u l n : ℕ) (w : Table b x y (replay_from (base_tree base) (take n (records_of log)))) (q : n ≡ run_in l u log base) where
    after : Tree
    after = replay_from (base_tree base) (take n (records_of log))

    pub table-tree : tree_in b x y ≡ replay_from (base_tree base) (take n (records_of log))
    unfolding work_bytes
    table-tree = rw (← w.rows, ← w.notes, w.bytes) (tree_back [] (replay_from (base_tree base) (take n (records_of log))) w.proper (omega (arith, w.rows, w.rows_fit_lem)))

    pub table-long : length b ≡ 86020
    unfolding work_bytes
    table-long = rw w.bytes (flagged-long [] (replay_from (base_tree base) (take n (records_of log))).entries (replay_from (base_tree base) (take n (records_of log))).asides w.proper (omega (arith, w.rows, w.rows_fit_lem)) (omega (arith, w.notes, w.notes_fit)))

    pub table_bytes_lem : b ≡ work_bytes (tree_in b x y)
    table_bytes_lem = w.bytes ∙ ap work_bytes (sym table-tree)

    pub table_proper : AllProper (tree_in b x y).entries
    table_proper = rw table-tree w.proper

    pub table_rows : x ≤ 1024
    table_rows = w.rows_fit_lem

    run-longest : n ≡ longest (base_tree base) (records_of log) (heard_run l u (base_vector base) (records_of log) (records_of log))
    unfolding run_of base_in
    run-longest = q

    pub table_asides : y ≤ 512
    table_asides =
        omega (arith, w.notes, ap (λ (k : ℕ). length (replay_from (base_tree base) (take k (records_of log))).asides) run-longest, left_asides (base_tree base) (records_of log) (heard_run l u (base_vector base) (records_of log) (records_of log)) starts_small)

    pub table_present : present_count (tree_in b x y) ≤ 512
    table_present =
        omega (arith, ap present_count table-tree, ap (λ (k : ℕ). present_count (replay_from (base_tree base) (take k (records_of log)))) run-longest, left_present (base_tree base) (records_of log) (heard_run l u (base_vector base) (records_of log) (records_of log)) starts_small)

    pub base_written : (v c : List ℕ) → state.head.folded.counts ≡ base_vector base → v ≡ vector_on state.head.folded.counts (take n (records_of log)) → c ≡ base_bytes (base_of l v (trim (tree_in b x y)))
        → c ≡ base_bytes (folded_base l (base_vector base) (base_tree base) (records_of log) n)
    unfolding folded_base
    base_written v c f g h = h ∙ rw (g, table-tree, f)

    pub work_left_lem : b ≡ work_bytes (replay_from (base_tree base) (take n (records_of log)))
    work_left_lem = w.bytes

-- ---- what the guard tells

module _ (u : ℕ) (log base : List ℕ) (ok row : Bool) {n m k j : ℕ} {v held : List ℕ} {used : ℕ} (e : opened n (headed m v k j) held used ≡ open_of u log base ok row) (z : n ≡ 0) where
  pub guard_unit : u < 8
  guard_unit = omega (arith, open_unit u log base ok row e z)

  pub guard_few : (r : ℕ) → r ≤ used → r < 65536
  guard_few r h = omega (arith, open_used u log base ok row e z, sound_few log)

-- ---- the ways out

module _ (u : ℕ) (log base work : List ℕ) (l : ℕ) {n m k j : ℕ} {v held : List ℕ} {used : ℕ} (e : opened n (headed m v k j) held used ≡ open_of u log base (eqb (length work) 86020) true) where
  pub refused_work : (n ≡ 0 → ⊥) → work ≡ fold_work u log base l work
  unfolding fold_work
  refused_work h = go n refl
    where
      go : (x : ℕ) → n ≡ x → work ≡ work_after (first_of (guard_number u log base (eqb (length work) 86020) true) (list_number l u (held_on log base))) (replay_from (base_in base).tree (take (run_in l u log base) (records_of log))) work
      go zero q = absurd (h q)
      go (suc x) q = rw (sym (number_is u log base (eqb (length work) 86020) true e) ∙ q)

  module _ (z : n ≡ 0) (b : Bool) (f : b ≡ list_fits l u held) where
    passed : guard_number u log base (eqb (length work) 86020) true ≡ 0
    passed = sym (number_is u log base (eqb (length work) 86020) true e) ∙ z

    held_is : held ≡ held_on log base
    held_is = open_held u log base (eqb (length work) 86020) true e z

    pub not_listed : not b ≡ true → outcome 26 0 log base 0 ≡ fold_of u log base l work
    unfolding fold_of fold_by guarded
    not_listed h = rw (passed, ← held_is, ← f, not-true b h)

    pub not_listed_work : not b ≡ true → work ≡ fold_work u log base l work
    unfolding fold_work
    not_listed_work h = rw (passed, ← held_is, ← f, not-true b h)

    module _ (h : not b ≡ false) (r : ℕ) (q : r ≡ run_in l u log base) where
      pub done : (log' base' : List ℕ) → log' ≡ log_bytes (drop r (records_of log)) → base' ≡ base_bytes (folded_base l (base_vector base) (base_tree base) (records_of log) r)
          → outcome 0 0 log' base' r ≡ fold_of u log base l work
      unfolding fold_of fold_by guarded folded base_in
      done log' base' x y = rw (passed, ← held_is, ← f, not-false b h, x, y, q)

      pub done_work : (work' : List ℕ) → work' ≡ work_bytes (replay_from (base_tree base) (take r (records_of log))) → work' ≡ fold_work u log base l work
      unfolding fold_work base_in
      done_work work' x = rw (passed, ← held_is, ← f, not-false b h, x, q)
