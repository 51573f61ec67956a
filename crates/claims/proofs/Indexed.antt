-- What runs of a unit's calls leave of its log, its base and its index.
-- Assumes nothing.
use Prim.Native.Nat.{ℕ}
use mathlib.Core.Path.{◌≡◌, refl, sym, ap, subst, ◌∙◌}
use mathlib.Core.List.{List, [], ◌∷◌}
use lib.ListN.{length}
use Rattle.call_model.specs.Outcome.{Outcome}
use Rattle.call_model.specs.Fold.{fold_of, fold_work}
use Rattle.index_model.specs.Index.{index_size}
use Rattle.index_model.specs.Kept.{Kept, start_kept, act_kept, act_kept_work, take_kept, take_kept_work, RowKept, take_row_kept, take_row_kept_work}
use Rattle.index_claims.specs.Lists.{UnitCall, starts, acts, takes, takes_row, folds, Carried, carried, leaves, leaves_all, AllGiven, Right}
use Rattle.index_claims.proofs.Kept.{started_right, list_right}
use Rattle.claims.specs.Ran.{RanStart}
use Rattle.claims.specs.Whole.{RanKept, RunsKept}
use Rattle.claims.proofs.Ran.{ran_start_kept, ran_act_kept, ran_take_kept, ran_take_row, ran_fold}
use Rattle.claims.proofs.Exist.{answered, start_ran, act_ran, take_ran, take_row_runs, fold_runs}

carried_is : (t : Carried) {log base i : List ℕ} → t.log ≡ log → t.base ≡ base → t.index ≡ i → t ≡ carried log base i
carried_is t p q r = λ k. carried (p k) (q k) (r k)

-- of a call that carries the index
kept_is : (t : Carried) (k : Kept) {log base lent : List ℕ} {n p : ℕ} → record { number = n; place = p; log = log; index = t.index; lent = lent } ≡ k
    → t.log ≡ log → t.base ≡ base → t ≡ carried k.log base k.index
kept_is t k e p q = carried_is t (p ∙ ap (λ (x : Kept). x.log) e) q (ap (λ (x : Kept). x.index) e)

-- what a run of a call leaves is stated
ran_leaves : (archive u : ℕ) (s : Carried) (c : UnitCall) (t : Carried) → RanKept archive u s c t → t ≡ leaves archive u c s
unfolding leaves
ran_leaves archive u s starts t (o, r, p, q) =
    let e = ran_start_kept u s.log s.base s.index o t.index r in
    kept_is t (start_kept u s.log s.base s.index) e p (q ∙ ap (λ (x : Kept). x.lent) e)
ran_leaves archive u s (acts w work) t (o, x, r, p, q) =
    kept_is t (act_kept u s.log s.base s.index w work) (ran_act_kept u s.log s.base s.index w work o t.index x r) p q
ran_leaves archive u s (takes b work) t (o, x, r, p, q) =
    kept_is t (take_kept archive u s.log s.base s.index b work) (ran_take_kept archive u s.log s.base s.index b work o t.index x r) p q
ran_leaves archive u s (takes_row row work) t (o, x, r, p, q, i) =
    let e = ran_take_row archive u s.log s.base s.index row work o x r in
    carried_is t (p ∙ ap (λ (y : RowKept). y.log) e) q (i ∙ ap (λ (y : RowKept). y.index) e)
ran_leaves archive u s (folds m work) t (o, x, r, p, q, i) =
    let e = ran_fold u s.log s.base m work o x r in
    carried_is t (p ∙ ap (λ (y : Outcome). y.log) e) (q ∙ ap (λ (y : Outcome). y.lent) e) i

pub runs_leave : (archive u : ℕ) (cs : List UnitCall) (s t : Carried) → RunsKept archive u s cs t → t ≡ leaves_all archive u cs s
unfolding leaves_all
runs_leave archive u [] s t e = e
runs_leave archive u (c ∷ cs) s t (x, r, q) = runs_leave archive u cs x t q ∙ ap (leaves_all archive u cs) (ran_leaves archive u s c x r)

-- so a right index stays right
pub runs_right : (archive u : ℕ) (cs : List UnitCall) (s t : Carried) → RunsKept archive u s cs t → AllGiven cs → Right s → Right t
runs_right archive u cs s t r g h = subst Right (sym (runs_leave archive u cs s t r)) (list_right archive u cs s g h)

pub start_right : (archive u : ℕ) (s t : Carried) → length s.index ≡ index_size → (o : Outcome) → RanStart u s.log s.base s.index o t.index
    → t.log ≡ o.log → t.base ≡ o.lent → o.number ≡ 0 → Right t
start_right archive u s t n o r p q z =
    let k = ran_start_kept u s.log s.base s.index o t.index r in
    subst Right (sym (ran_leaves archive u s starts t (o, r, p, q)))
    (started_right archive u s.log s.base s.index n (sym (ap (λ (x : Kept). x.number) k) ∙ z))

-- and there are such runs of every list of calls
ran_exists : (archive u : ℕ) (c : UnitCall) (s : Carried) → RanKept archive u s c (leaves archive u c s)
unfolding leaves
ran_exists archive u starts s =
    (answered (start_kept u s.log s.base s.index), start_ran u s.log s.base s.index, refl, refl)
ran_exists archive u (acts w work) s = (
  answered (act_kept u s.log s.base s.index w work),
  act_kept_work u s.log s.base s.index w work,
  act_ran u s.log s.base s.index w work,
  refl,
  refl,
)
ran_exists archive u (takes b work) s = (
  answered (take_kept archive u s.log s.base s.index b work),
  take_kept_work archive u s.log s.base s.index b work,
  take_ran archive u s.log s.base s.index b work,
  refl,
  refl,
)
ran_exists archive u (takes_row row work) s = (
  take_row_kept archive u s.log s.base s.index row work,
  take_row_kept_work archive u s.log s.base s.index row work,
  take_row_runs archive u s.log s.base s.index row work,
  refl,
  refl,
  refl,
)
ran_exists archive u (folds m work) s = (
  fold_of u s.log s.base m work,
  fold_work u s.log s.base m work,
  fold_runs u s.log s.base m work,
  refl,
  refl,
  refl,
)

pub runs_exist : (archive u : ℕ) (cs : List UnitCall) (s : Carried) → RunsKept archive u s cs (leaves_all archive u cs s)
unfolding leaves_all
runs_exist archive u [] s = refl
runs_exist archive u (c ∷ cs) s = (leaves archive u c s, ran_exists archive u c s, runs_exist archive u cs (leaves archive u c s))
