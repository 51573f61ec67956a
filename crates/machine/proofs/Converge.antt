-- The base stands for all records held; equal vectors mean the same records, the same tree, and the same logs where the base vectors agree.
-- Assumes nothing.
use Prim.Native.Nat.{ℕ, ◌<◌}
use native.Mathlib.Omega.{arith}
use mathlib.Core.Path.{◌≡◌, refl, sym, ap, ◌∙◌, subst}
use mathlib.Core.Logic.{◌⊎◌, inl, inr}
use mathlib.Core.Bool.{true, false}
use mathlib.Core.List.{List, ◌++◌}
use lib.Dec.{eqb}
use lib.ListN.{length, get_or}
use borrow.Author.Tests.{eq-eqb, eqb-true}
use Rattle.model.specs.Numbers.{bad_buffer}
use Rattle.model.specs.Record.{Rec}
use Rattle.model.specs.Log.{count_on, vector_of, vector_on, records_of, log_bytes}
use Rattle.model.specs.Replay.{Tree, trim, replay_from, replay}
use Rattle.model.specs.Table.{table_bytes}
use Rattle.base_model.specs.Base.{base_vector, base_in, tree_of}
use Rattle.call_model.specs.Outcome.{Outcome, outcome, refusal, guarded, show_of}
use Rattle.byte_slice.proofs.Numbers.{bool_cases}
use Rattle.log_laws.specs.Members.{Has, Agree}
use Rattle.log_laws.specs.Sound.{Sound}
use Rattle.log_laws.proofs.Same.{counts-sub}
use Rattle.log_laws.proofs.Tests.{counts_equal, equal_counts}
use Rattle.encoding_laws.proofs.Logs.{sound_bytes_on}
use Rattle.tree_laws.proofs.Trimming.{from_base}
use Rattle.call_laws.specs.Keeps.{Good}
use Rattle.call_laws.proofs.States.{good_log}
use Rattle.call_laws.proofs.Calls.{guarded-passes}
use Rattle.fold_laws.proofs.Stores.{kept-counts, kept_vector, kept_shown}
use Rattle.fold_laws.proofs.Alike as Alike
use Rattle.machine.specs.Machine.{Bench, held, held_vector}
use Rattle.machine.specs.Claim.{distinct, Based, Converged}
use Rattle.machine.proofs.Tests.{distinct_agree}
use Rattle.machine.proofs.Stores.{store_of}
use Rattle.machine.proofs.Reach.{Inv}

-- ---- the base, with no premise

pub held_sound : (archive : ℕ) (s : Bench) → Inv archive s → (u : ℕ) → Sound (held s u)
unfolding held
held_sound archive s i u = (i.stored.kept u).sound

pub held-counts : (archive : ℕ) (s : Bench) → Inv archive s → (u : ℕ) → vector_on (base_vector (s.bases u)) (records_of (s.logs u)) ≡ held_vector s u
unfolding held held_vector base_in
held-counts archive s i u = kept_vector s.used (store_of s u) (i.stored.kept u)

good_bytes : (log base : List ℕ) → Good log base → log_bytes (records_of log) ≡ log
good_bytes log base g = sound_bytes_on (base_vector base) log g.long.0 (good_log log base g)

-- the tree that is shown
shows : (log base lent : List ℕ) → Good log base → length lent ≡ 86020 → show_of log base lent ≡ outcome 0 0 log (table_bytes (tree_of log base)) 0
unfolding show_of
shows log base lent g n = guarded-passes 0 log base lent (eqb (length lent) 86020) (outcome 0 0 log (table_bytes (tree_of log base)) 0) (eq-eqb (length lent) 86020 n) (omega arith) g

-- a table of another length is left
shows_not : (log base lent : List ℕ) → Good log base → eqb (length lent) 86020 ≡ false → show_of log base lent ≡ refusal bad_buffer log lent
unfolding show_of guarded
shows_not log base lent g n = rw (eq-eqb (length log) 40960 g.long.0, eq-eqb (length base) 43032 g.long.1, n) refl

tree-held : (archive : ℕ) (s : Bench) → Inv archive s → (u : ℕ) → table_bytes (tree_of (s.logs u) (s.bases u)) ≡ table_bytes (replay (held s u))
unfolding held tree_of base_in
tree-held archive s i u = kept_shown s.used (store_of s u) (i.stored.kept u)

tree-left : (archive : ℕ) (s : Bench) → Inv archive s → (u : ℕ) → trim (tree_of (s.logs u) (s.bases u)) ≡ trim (replay (held s u))
unfolding held tree_of base_in
tree-left archive s i u =
    let k = i.stored.kept u in
    ap (λ (t : Tree). trim (replay_from t (records_of (s.logs u)))) k.based ∙ from_base (s.folded u) (records_of (s.logs u))

pub based : (archive : ℕ) (s : Bench) → Inv archive s → (u : ℕ) → Based s u
based archive s i u =
    record {
      vector = held-counts archive s i u;
      tree = tree-left archive s i u;
      shown = λ lent n.
          shows (s.logs u) (s.bases u) lent (i.good u) n
          ∙ ap (λ (b : List ℕ). outcome 0 0 (s.logs u) b 0) (tree-held archive s i u);
    }

-- ---- equal vectors

pub converge : (archive : ℕ) (s : Bench) → Inv archive s → distinct s.used ≡ true → (u v : ℕ) → Converged s u v
unfolding held_vector held tree_of base_in
converge archive s i d u v =
    record {
      exactly = (
        λ (e : vector_of l ≡ vector_of m) (r : Rec). (λ h. subst (Has r) (one e) h, λ h. subst (Has r) (sym (one e)) h),
        λ f. equal_counts l m (λ w k. omega (arith, counts-sub l m hl hm (λ r h. (f r).0 h) w, counts-sub m l hm hl (λ r h. (f r).1 h) w)),
      );
      bytes = λ e f.
          sym (good_bytes (s.logs u) (s.bases u) (i.good u))
          ∙ ap log_bytes (Alike.same_log s.used (store_of s u) (store_of s v) agree (i.stored.kept u) (i.stored.kept v) (counts e) (λ x k. ap (λ (y : List ℕ). get_or y x 0) f))
          ∙ good_bytes (s.logs v) (s.bases v) (i.good v);
      replayed = λ e. ap replay (one e);
      shown = λ e lent. go e lent (bool_cases (eqb (length lent) 86020));
    }
  where
    l : List Rec
    l = s.folded u ++ records_of (s.logs u)

    m : List Rec
    m = s.folded v ++ records_of (s.logs v)

    hl : Sound l
    hl = (i.stored.kept u).sound

    hm : Sound m
    hm = (i.stored.kept v).sound

    agree : Agree s.used s.used
    agree = distinct_agree s.used d

    counts : vector_of l ≡ vector_of m → (x : ℕ) → x < 8 → count_on (base_vector (s.bases u)) x (records_of (s.logs u)) ≡ count_on (base_vector (s.bases v)) x (records_of (s.logs v))
    counts e x k = kept-counts s.used (store_of s u) (i.stored.kept u) x k ∙ counts_equal l m e x k ∙ sym (kept-counts s.used (store_of s v) (i.stored.kept v) x k)

    one : vector_of l ≡ vector_of m → l ≡ m
    one e = Alike.same_held s.used (store_of s u) (store_of s v) agree (i.stored.kept u) (i.stored.kept v) (counts e)

    go : vector_of l ≡ vector_of m → (lent : List ℕ) → (eqb (length lent) 86020 ≡ true) ⊎ (eqb (length lent) 86020 ≡ false)
        → ((show_of (s.logs u) (s.bases u) lent).number ≡ (show_of (s.logs v) (s.bases v) lent).number)
        × ((show_of (s.logs u) (s.bases u) lent).lent ≡ (show_of (s.logs v) (s.bases v) lent).lent)
    go e lent (inl n) =
        let k : length lent ≡ 86020 = eqb-true (length lent) 86020 n in
        let p = shows (s.logs u) (s.bases u) lent (i.good u) k in
        let q = shows (s.logs v) (s.bases v) lent (i.good v) k in (
          ap (λ (o : Outcome). o.number) p ∙ sym (ap (λ (o : Outcome). o.number) q),
          ap (λ (o : Outcome). o.lent) p ∙ Alike.same_shown s.used (store_of s u) (store_of s v) agree (i.stored.kept u) (i.stored.kept v) (counts e) ∙ sym (ap (λ (o : Outcome). o.lent) q),
        )
    go e lent (inr n) =
        let p = shows_not (s.logs u) (s.bases u) lent (i.good u) n in
        let q = shows_not (s.logs v) (s.bases v) lent (i.good v) n in (
          ap (λ (o : Outcome). o.number) p ∙ sym (ap (λ (o : Outcome). o.number) q),
          ap (λ (o : Outcome). o.lent) p ∙ sym (ap (λ (o : Outcome). o.lent) q),
        )
