-- Demand 3 of the code, proved.
-- Assumes nothing.
use Prim.Native.Nat.{ℕ}
use mathlib.Core.Path.{◌≡◌, refl, sym, ap, subst, ◌∙◌}
use mathlib.Core.Bool.{true}
use mathlib.Core.List.{List, [], ◌++◌}
use Rattle.model.specs.Block.{count_in}
use Rattle.call_model.specs.Outcome.{Outcome, show_of}
use Rattle.call_model.specs.Fold.{fold_work}
use Rattle.call_laws.specs.Keeps.{Good}
use Rattle.call_laws.proofs.Keeping.{hand_out_counts}
use Rattle.machine.specs.Machine.{Call, starts, acts, hands_out, writes, takes, folds, Bench, bare, held_vector, block_given, done, play}
use Rattle.machine.specs.Runs.{Runs}
use Rattle.machine.specs.Claim.{distinct, Based, Claim}
use Rattle.machine.proofs.Runs.{runs_are, runs_of}
use Rattle.machine.proofs.Reach.{inv_bare}
use Rattle.machine.proofs.Demand.{demand}
use Rattle.index_model.specs.Kept.{index_fits, both_fit, start_kept, act_kept, act_kept_work, take_kept, take_kept_work}
use Rattle.claims.specs.Ran.{RanShow}
use Rattle.claims.specs.Whole.{Ran, Shown, CodeClaim, Demand3}
use Rattle.claims.proofs.Ran.{ran_start, ran_act, ran_act_worked, ran_hand_out, ran_write_file, ran_take, ran_take_worked, ran_take_row_worked, ran_fold, ran_fold_worked, ran_show}
use Rattle.claims.proofs.Exist.{start_runs, act_runs, hand_out_runs, write_file_runs, take_runs, fold_runs, show_runs}
use Rattle.claims.proofs.Indexed.{runs_leave, runs_right, start_right, runs_exist}
use Rattle.claims.proofs.Typed.{fits_bare, runs_typed}
use Rattle.keep_start.proofs.start.Met.{met as start-met}
use Rattle.keep_act.proofs.act.Met.{met as act-met}
use Rattle.hand_out.proofs.hand_out.Met.{met as hand-out-met}
use Rattle.write_file.proofs.write_file.Met.{met as write-file-met}
use Rattle.keep_take.proofs.take.Met.{met as take-met}
use Rattle.keep_take_row.proofs.take_row.Met.{met as take-row-met}
use Rattle.fold.proofs.fold.Met.{met as fold-met}
use Rattle.show_tree.proofs.show_tree.Met.{met as show-tree-met}

-- the outcome of a run is the machine's
ran : (archive : ℕ) (s : Bench) (c : Call) (o : Outcome) → Ran archive s c o → o ≡ done archive s c
unfolding done
ran archive s (starts u) o (i, j, f, r) = ran_start u (s.logs u) (s.bases u) i o j f r
ran archive s (acts u w work) o (i, j, x, f, r) = ran_act u (s.logs u) (s.bases u) i w work o j x f r
ran archive s (hands_out u v lent) o r = ran_hand_out archive u (s.logs u) (s.bases u) v lent o r
ran archive s (writes u lent) o r = ran_write_file archive u (s.logs u) (s.bases u) lent o r
ran archive s (takes u n) o (i, work, j, x, f, r) = ran_take archive u (s.logs u) (s.bases u) i (block_given s n).bytes work o j x f r
ran archive s (folds u m work) o (x, r) = ran_fold u (s.logs u) (s.bases u) m work o x r

-- no index is lent, and to a take no work memory
none_fits : index_fits [] ≡ true
unfolding index_fits
none_fits = refl

neither_fits : both_fit [] [] ≡ true
unfolding both_fit
neither_fits = refl

-- and the machine's outcome is a run's
has_run : (archive : ℕ) (s : Bench) (c : Call) → Ran archive s c (done archive s c)
unfolding done
has_run archive s (starts u) = ([], (start_kept u (s.logs u) (s.bases u) []).index, none_fits, start_runs u (s.logs u) (s.bases u) [] none_fits)
has_run archive s (acts u w work) = (
  [],
  (act_kept u (s.logs u) (s.bases u) [] w work).index,
  act_kept_work u (s.logs u) (s.bases u) [] w work,
  none_fits,
  act_runs u (s.logs u) (s.bases u) [] w work none_fits,
)
has_run archive s (hands_out u v lent) = hand_out_runs archive u (s.logs u) (s.bases u) v lent
has_run archive s (writes u lent) = write_file_runs archive u (s.logs u) (s.bases u) lent
has_run archive s (takes u n) =
    let b : List ℕ = (block_given s n).bytes in (
      [],
      [],
      (take_kept archive u (s.logs u) (s.bases u) [] b []).index,
      take_kept_work archive u (s.logs u) (s.bases u) [] b [],
      neither_fits,
      take_runs archive u (s.logs u) (s.bases u) [] b [] neither_fits,
    )
has_run archive s (folds u m work) = (fold_work u (s.logs u) (s.bases u) m work, fold_runs u (s.logs u) (s.bases u) m work)

-- what a unit shows whose base stands for its records
shown_one : (t : Bench) (u : ℕ) (lent : List ℕ) (o : Outcome) → Based t u → RanShow (t.logs u) (t.bases u) lent o → Shown t u lent o
shown_one t u lent o b r =
    let e = ran_show (t.logs u) (t.bases u) lent o r in
    record {
      stated = e;
      answered = λ n. ap (λ (x : Outcome). x.number) (e ∙ b.shown lent n);
      replayed = λ n. ap (λ (x : Outcome). x.lent) (e ∙ b.shown lent n);
    }

code_claim : (archive : ℕ) (before cs : List Call) (os : List Outcome) (t : Bench) → Runs (Ran archive) bare (before ++ cs) os t → CodeClaim archive before cs os t
code_claim archive before cs os t r =
    let (p, q) = runs_are archive (Ran archive) (ran archive) (before ++ cs) bare os t r in
    let d = demand archive before cs in
    let claim : distinct t.used ≡ true → Claim archive before cs = λ x. d.claim (rw q at x) in
    let based : (u : ℕ) → Based t u = λ u. subst (λ (s : Bench). Based s u) (sym q) (d.based u) in
    record {
      answers = p;
      bench = q;
      good = λ u. subst (λ (s : Bench). Good (s.logs u) (s.bases u)) (sym q) (d.good u);
      based = based;
      claim = claim;
      shown = λ u lent o f. shown_one t u lent o (based u) f;
      alike = λ x u v lent o y e f g.
          let s : Bench = play archive bare (before ++ cs) in
          let h : held_vector s u ≡ held_vector s v = rw q at e in
          let w : ((show_of (t.logs u) (t.bases u) lent).number ≡ (show_of (t.logs v) (t.bases v) lent).number)
          × ((show_of (t.logs u) (t.bases u) lent).lent ≡ (show_of (t.logs v) (t.bases v) lent).lent) =
          rw q (((claim x).converged u v).shown h lent) in
          let a = ran_show (t.logs u) (t.bases u) lent o f in
          let b = ran_show (t.logs v) (t.bases v) lent y g in (
            ap (λ (z : Outcome). z.number) a ∙ w.0 ∙ sym (ap (λ (z : Outcome). z.number) b),
            ap (λ (z : Outcome). z.lent) a ∙ w.1 ∙ sym (ap (λ (z : Outcome). z.lent) b),
          );
    }

pub demand_3 : {M : Type 1} → Demand3 M
demand_3 =
    record {
      code =
          record {
            start = start-met;
            act = act-met;
            hand_out = hand-out-met;
            write_file = write-file-met;
            take = take-met;
            take_row = take-row-met;
            fold = fold-met;
            show_tree = show-tree-met;
          };
      runs = code_claim;
      exist = λ archive cs. runs_of archive (Ran archive) (has_run archive) cs bare;
      typed = λ archive cs a e. runs_typed archive (Ran archive) (has_run archive) cs bare a (inv_bare archive) fits_bare e;
      handed = λ archive u log base v lent o r z.
          let e = ran_hand_out archive u log base v lent o r in
          ap (λ (x : Outcome). count_in x.lent) e ∙ hand_out_counts archive u log base v lent (sym (ap (λ (x : Outcome). x.number) e) ∙ z);
      worked = record { acted = ran_act_worked; took = ran_take_worked; took_row = ran_take_row_worked; folded = ran_fold_worked };
      indexed = runs_leave;
      index_right = runs_right;
      index_started = start_right;
      index_exists = runs_exist;
      show_exists = show_runs;
    }
