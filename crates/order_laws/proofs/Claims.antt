-- Claims about another maker's order.
-- Document 02, K12.
-- Assumes nothing.
use Prim.Native.Nat.{ℕ, zero, suc, ◌+◌, ◌*◌, ◌/◌, ◌≤◌, ◌<◌}
use native.Mathlib.Omega.{arith}
use mathlib.Core.Path.{◌≡◌, refl, sym, ap, ◌∙◌, subst}
use mathlib.Core.Logic.{◌⊎◌, inl, inr, ⊎_elim}
use mathlib.Core.Bool.{Bool, true, false, cond, not, ◌&&◌, true≢false}
use mathlib.Core.List.{List, [], ◌∷◌, ◌++◌, append_assoc}
use lib.Dec.{leb, eqb}
use lib.ListN.{get_or, length, length-append}
use borrow.Author.Tests.{eq-eqb, le-leb}
use Rattle.model.specs.Numbers.{first_of}
use Rattle.model.specs.Bytes.{word, two, blank, part}
use Rattle.model.specs.Record.{Rec, identity, unit_of, number_of, unit, num, seen, self_of}
use Rattle.model.specs.Log.{records_of, sound_log}
use Rattle.model.specs.Replay.{empty_tree, replay}
use Rattle.model.specs.Table.{identity_bytes, table_bytes}
use Rattle.base_model.specs.Base.{base_vector, base_tree, sound_base, sound_state, tree_of}
use Rattle.call_model.specs.Outcome.{guard_number, whole_number}
use Rattle.order_model.specs.Order.{name_in, name_at, names_from, name_count, names_given, times, each_once, is_held, all_held, names_all, in_order_of, sees_none, seen_first, shown_alike, failed_of, Ordered, ordered, judged_order, order_lent, order_number, or_ordered, order_of}
use Rattle.byte_slice.proofs.Numbers.{bool_cases, not_both, and_true, true_and, cond_cases}
use Rattle.byte_slice.proofs.Parts.{part_middle}
use Rattle.log_laws.specs.Members.{Has as Member}
use Rattle.log_laws.specs.Sound.{Sound}
use Rattle.encoding_laws.proofs.Logs.{sound_records}
use Rattle.tree_laws.specs.Replayed.{Has, selves}
use Rattle.order_laws.specs.Claims.{NamesEach, SeenFirst, SameShown, AcceptedExactly, FirstFailed, name_bytes, Whole, RankAccepted}
use Rattle.order_laws.proofs.Shown.{alike_means, means_alike}
use Rattle.order_laws.proofs.Rank as Rank
use Rattle.order_laws.proofs.Rank.{none_seen, all_once, has_held}
use Rattle.order_laws.proofs.Marks.{held_means, means_held, held_head, once_at}
use Rattle.order_laws.proofs.Running.{none_seen_at}
use Rattle.order_laws.proofs.Folded as Folded

-- ---- the conditions as types

held_each : (ks : List ℕ) (l : List Rec) → all_held ks l ≡ true → (k : ℕ) → Has k ks → (r : Rec) × Member r l × (self_of r ≡ k)
held_each [] l e k i = absurd i
held_each (j ∷ ks) l e k (inl q) = rw q (held_means l j (held_head j ks l e).0)
held_each (j ∷ ks) l e k (inr i) = held_each ks l (held_head j ks l e).1 k i

each_held : (ks : List ℕ) (l : List Rec) → ((k : ℕ) → Has k ks → (r : Rec) × Member r l × (self_of r ≡ k)) → all_held ks l ≡ true
unfolding all_held
each_held [] l h = refl
each_held (j ∷ ks) l h =
    let (r, i, q) = h j (inl refl) in
    true_and (is_held j l) (all_held ks l) (means_held l j r i q) (each_held ks l (λ k a. h k (inr a)))

names_mean : (ks : List ℕ) (l : List Rec) → names_all ks l ≡ true → NamesEach ks l
unfolding names_all
names_mean ks l e =
    let (a, b) = and_true (each_once ks l) (all_held ks l) e in
    record { once = λ r i. once_at ks l r a i; held = held_each ks l b }

mean_names : (ks : List ℕ) (l : List Rec) → NamesEach ks l → names_all ks l ≡ true
unfolding names_all
mean_names ks l n = true_and (each_once ks l) (all_held ks l) (all_once ks l n.once) (each_held ks l n.held)

seen_mean : (m : List Rec) → seen_first m ≡ true → SeenFirst m
unfolding seen_first
seen_mean [] e = tt
seen_mean (r ∷ m) e =
    let (a, b) = and_true (sees_none r m) (seen_first m) e in
    (none_seen_at r m a, seen_mean m b)

mean_seen : (m : List Rec) → SeenFirst m → seen_first m ≡ true
unfolding seen_first
mean_seen [] h = refl
mean_seen (r ∷ m) h = true_and (sees_none r m) (seen_first m) (none_seen r m h.0) (mean_seen m h.1)

-- ---- the answer

-- what the number says of three tests in their order
record Judged (a b c : Bool) (n : ℕ) : Type 0 where
  known : (n ≡ 0) ⊎ ((n ≡ 1) ⊎ ((n ≡ 2) ⊎ (n ≡ 3)))
  none : n ≡ 0 → (a ≡ true) × (b ≡ true) × (c ≡ true)
  first : n ≡ 1 → a ≡ false
  second : n ≡ 2 → (a ≡ true) × (b ≡ false)
  third : n ≡ 3 → (a ≡ true) × (b ≡ true) × (c ≡ false)

judged : (a b c : Bool) → Judged a b c (cond a (cond b (cond c 0 3) 2) 1)
judged false b c = record { known = inr (inl refl); none = λ e. absurd (omega arith); first = λ e. refl; second = λ e. absurd (omega arith); third = λ e. absurd (omega arith) }
judged true false c = record { known = inr (inr (inl refl)); none = λ e. absurd (omega arith); first = λ e. absurd (omega arith); second = λ e. (refl, refl); third = λ e. absurd (omega arith) }
judged true true false = record { known = inr (inr (inr refl)); none = λ e. absurd (omega arith); first = λ e. absurd (omega arith); second = λ e. absurd (omega arith); third = λ e. (refl, refl, refl) }
judged true true true = record { known = inl refl; none = λ e. (refl, refl, refl); first = λ e. absurd (omega arith); second = λ e. absurd (omega arith); third = λ e. absurd (omega arith) }

module _ (ks : List ℕ) (l : List Rec) where
  abbrev m : List Rec
  m = in_order_of ks l

  by_tests : Judged (names_all ks l) (seen_first m) (shown_alike (replay l) (replay m)) (failed_of ks l)
  unfolding failed_of
  by_tests = judged (names_all ks l) (seen_first (in_order_of ks l)) (shown_alike (replay l) (replay (in_order_of ks l)))

  -- an order is accepted exactly if it names each record once and nothing else, no record stands before one that it has seen, and both
  -- replays show the same
  pub accepted_exactly : AcceptedExactly ks l
  unfolding failed_of
  accepted_exactly = (
    λ e.
        let (a, b, c) = by_tests.none e in
        (names_mean ks l a, seen_mean (in_order_of ks l) b, alike_means (replay l) (replay (in_order_of ks l)) c),
    λ h.
        rw (mean_names ks l h.0, mean_seen (in_order_of ks l) h.1, means_alike (replay l) (replay (in_order_of ks l)) h.2),
  )

  -- what is answered is the condition that failed first
  pub first_failed : FirstFailed ks l
  first_failed =
      record {
        known = by_tests.known;
        first = λ e n. not_both (names_all ks l) (mean_names ks l n) (by_tests.first e);
        second = λ e. (names_mean ks l (by_tests.second e).0, λ s. not_both (seen_first (in_order_of ks l)) (mean_seen (in_order_of ks l) s) (by_tests.second e).1);
        third = λ e. (
          names_mean ks l (by_tests.third e).0,
          seen_mean (in_order_of ks l) (by_tests.third e).1,
          λ s. not_both (shown_alike (replay l) (replay (in_order_of ks l))) (means_alike (replay l) (replay (in_order_of ks l)) s) (by_tests.third e).2,
        );
      }

-- ---- rank order

name_back : (k : ℕ) → name_in (identity_bytes k) ≡ k
unfolding name_in identity_bytes identity word
name_back k = rw (le-leb (unit_of k) 7 (omega arith)) (omega arith)

-- the names of records, four bytes each, are read back
names_back : (l : List Rec) (p : List ℕ) (i : ℕ) → length p ≡ 4 * i → names_from (p ++ name_bytes l) i (length l) ≡ selves l
unfolding names_from name_bytes selves name_at identity_bytes
names_back [] p i e = refl
names_back (r ∷ l) p i e =
    let q : List ℕ = identity_bytes (self_of r) in
    let a : part (p ++ (q ++ name_bytes l)) (4 * i) 4 ≡ q = rw (← e) (part_middle p q (name_bytes l)) in
    let n : length (p ++ q) ≡ 4 * suc i = omega (arith, length-append p q, four (self_of r)) in
    let b = rw (append_assoc p q (name_bytes l)) at (names_back l (p ++ q) (suc i) n) in
    ap (λ (x : ℕ). x ∷ names_from (p ++ (q ++ name_bytes l)) (suc i) (length l)) (ap name_in a ∙ name_back (self_of r))
    ∙ ap (λ (x : List ℕ). self_of r ∷ x) b
  where
    four : (k : ℕ) → length (identity_bytes k) ≡ 4
    four k = refl

names-long : (l : List Rec) → length (name_bytes l) ≡ 4 * length l
unfolding name_bytes identity_bytes
names-long [] = refl
names-long (r ∷ l) = omega (arith, names-long l)

names_given_lem : (l : List Rec) → names_given (name_bytes l) ≡ selves l
unfolding names_given name_count
names_given_lem l =
    let n : (length (name_bytes l) + 3) / 4 ≡ length l = omega (arith, names-long l) in
    rw n (names_back l [] 0 refl)

module _ (log base ours theirs : List ℕ) where
  passes : Whole log base ours theirs → order_number log base ours theirs ≡ 0
  unfolding order_number
  passes w =
      rw (
        eq-eqb (length log) 40960 w.log_long,
        eq-eqb (length base) 43032 w.base_long,
        eq-eqb (length ours) 86020 w.ours_long,
        eq-eqb (length theirs) 86020 w.theirs_long,
        w.sound,
        w.unfolded,
      )

  -- rank order itself is accepted of every sound state of which nothing is folded
  pub rank_order_accepted : RankAccepted log base ours theirs
  unfolding order_of judged_order
  rank_order_accepted w =
      let l : List Rec = records_of log in
      let s : Sound l = sound_records log (Folded.plain_log log base w.base_long w.sound w.unfolded) in
      rw (
        passes w,
        names_given_lem (records_of log),
        Rank.rank_names_all (records_of log) s,
        Rank.rank_accepted (records_of log) s,
        Rank.rank_in_order (records_of log) s,
        Rank.rank_seen_first [] (records_of log) s,
        Folded.plain_tree log base w.base_long w.sound w.unfolded,
      )

-- ---- where nothing is folded

-- a sound base whose vector is all zero has an empty tree
pub unfolded_base : (base : List ℕ) → length base ≡ 43032 → sound_base base ≡ true → blank (base_vector base) ≡ true → base_tree base ≡ empty_tree
unfolded_base = Folded.no_base

-- and what a sound state then shows is the replay of its log
pub unfolded_tree : (log base : List ℕ) → length base ≡ 43032 → sound_state log base ≡ true → blank (base_vector base) ≡ true → tree_of log base ≡ replay (records_of log)
unfolded_tree = Folded.plain_tree
