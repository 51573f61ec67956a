-- Folding twice with one list folds nothing the second time.
-- Assumes nothing.
use Prim.Native.Nat.{ℕ, zero, suc, ◌+◌, ◌≤◌, ◌<◌}
use native.Mathlib.Omega.{arith}
use mathlib.Core.Path.{◌≡◌, refl, sym, ap, ap₂, ◌∙◌, subst}
use mathlib.Core.Logic.{◌⊎◌, inl, inr, ⊎_elim}
use mathlib.Core.Bool.{true, false, cond, ◌&&◌}
use mathlib.Core.Option.{Option, none, some}
use mathlib.Core.List.{List, [], ◌∷◌, ◌++◌}
use lib.Dec.{leb}
use lib.ListN.{get_or, length, take, drop, take-append-drop}
use lib.Seq.{take-add}
use Rattle.model.specs.Record.{Rec, unit, num}
use Rattle.model.specs.Log.{count, vector_on}
use Rattle.model.specs.Replay.{Entry, Aside, Tree, replay_from, trim}
use Rattle.byte_slice.proofs.Numbers.{eq_or_ne, lt_or_ge, bool_cases}
use Rattle.log_laws.specs.Members.{Has}
use Rattle.log_laws.proofs.Tests.{vector_on_get_d}
use Rattle.call_model.specs.Fold.{last_of, heard_from, heard_by_all, heard_run, counts_as_base, longest, run_of}
use Rattle.log_laws.proofs.Counts.{count-append}
use Rattle.tree_laws.proofs.Settling.{replay-append}
use Rattle.tree_laws.proofs.Trimming.{replay-alike, trim_again}
use Rattle.fold_laws.proofs.Hearing.{heard_self, heard_other, heard_last, heard_none, all_heard, heard_all}
use Rattle.fold_laws.proofs.Covering.{longest_most}

last_behind : (w : ℕ) (a b : List Rec) (s : Rec) → last_of w b ≡ some s → last_of w (a ++ b) ≡ some s
unfolding last_of
last_behind w [] b s e = e
last_behind w (x ∷ a) b s e = rw (last_behind w a b s e)

module _ (m u : ℕ) (v : List ℕ) (l : List Rec) (n : ℕ) where
  abbrev v' : List ℕ
  v' = vector_on v (take n l)

  abbrev l' : List Rec
  l' = drop n l

  same_vector : (x : ℕ) → x < 8 → get_or (vector_on v' l') x 0 ≡ get_or (vector_on v l) x 0
  same_vector x b =
      let c : count x l ≡ count x (take n l) + count x (drop n l) = ap (count x) (sym (take-append-drop n l)) ∙ count-append x (take n l) (drop n l) in
      omega (arith, vector_on_get_d v' l' x b, vector_on_get_d v (take n l) x b, vector_on_get_d v l x b)

  -- what was heard by all then was heard by all before
  heard_before : (q : Rec) → unit q < 8 → get_or v' (unit q) 0 < num q → heard_by_all m u v' l' q ≡ true → heard_by_all m u v l q ≡ true
  heard_before q b above e =
      heard_all m u v l q (λ w k f.
      let h = all_heard m u v' l' q e w k f in
      ⊎_elim
      (λ (d : w ≡ u).
      let h' : num q ≤ get_or (vector_on v' l') (unit q) 0 = rw (d, heard_self u v' l') at h in
      rw (d, heard_self u v l) (omega (arith, same_vector (unit q) b)))
      (λ (d : w ≡ u → ⊥). rw (heard_other u v l w d) (other w (last_of w l') refl (rw (heard_other u v' l' w d) at h)))
      (eq_or_ne w u))
    where
      other : (w : ℕ) (o : Option Rec) → last_of w l' ≡ o → num q ≤ get_or (heard_from v' (last_of w l')) (unit q) 0 → num q ≤ get_or (heard_from v (last_of w l)) (unit q) 0
      other w none z h = let y : num q ≤ get_or (heard_from v' none) (unit q) 0 = rw z at h in absurd (omega (arith, heard_none v' (unit q)))
      other w (some s) z h =
          let z₂ : last_of w l ≡ some s = ap (last_of w) (sym (take-append-drop n l)) ∙ last_behind w (take n l) (drop n l) s z in
          let y : num q ≤ get_or (heard_from v' (some s)) (unit q) 0 = rw z at h in
          rw z₂ (subst (λ (x : List ℕ). num q ≤ get_or x (unit q) 0) (heard_last v' v s) y)

  run-before : (xs : List Rec) → ((q : Rec) → Has q xs → (unit q < 8) × (get_or v' (unit q) 0 < num q)) → heard_run m u v' l' xs ≤ heard_run m u v l xs
  unfolding heard_run
  run-before [] f = omega arith
  run-before (x ∷ xs) f = go (bool_cases (heard_by_all m u v' l' x)) (run-before xs (λ q i. f q (inr i)))
    where
      go : (heard_by_all m u v' l' x ≡ true) ⊎ (heard_by_all m u v' l' x ≡ false) → heard_run m u v' l' xs ≤ heard_run m u v l xs
          → cond (heard_by_all m u v' l' x) (suc (heard_run m u v' l' xs)) 0 ≤ cond (heard_by_all m u v l x) (suc (heard_run m u v l xs)) 0
      go (inl e) k = let d = heard_before x (f x (inl refl)).0 (f x (inl refl)).1 e in rw (e, d) (omega arith)
      go (inr e) k = rw e (omega arith)

run_drop : (m u : ℕ) (v : List ℕ) (all l : List Rec) (n : ℕ) → n ≤ heard_run m u v all l → heard_run m u v all l ≡ n + heard_run m u v all (drop n l)
unfolding heard_run
run_drop m u v all l zero h = omega arith
run_drop m u v all [] (suc n) h = absurd (omega arith)
run_drop m u v all (x ∷ l) (suc n) h = go (bool_cases (heard_by_all m u v all x)) (λ k. run_drop m u v all l n k)
  where
    go : (heard_by_all m u v all x ≡ true) ⊎ (heard_by_all m u v all x ≡ false) → (n ≤ heard_run m u v all l → heard_run m u v all l ≡ n + heard_run m u v all (drop n l))
        → cond (heard_by_all m u v all x) (suc (heard_run m u v all l)) 0 ≡ suc n + heard_run m u v all (drop n l)
    go (inl e) f = let k : suc n ≤ suc (heard_run m u v all l) = rw e at h in rw e (omega (arith, f (omega arith)))
    go (inr e) f = let k : suc n ≤ 0 = rw e at h in absurd (omega arith)

pub longest_beyond : (t : Tree) (l : List Rec) (h k : ℕ) → longest t l h < k → k ≤ h → counts_as_base t l k ≡ false
unfolding longest
longest_beyond t l zero k a b = absurd (omega arith)
longest_beyond t l (suc h) k a b = go (bool_cases (counts_as_base t l (suc h))) (λ c d. longest_beyond t l h k c d)
  where
    go : (counts_as_base t l (suc h) ≡ true) ⊎ (counts_as_base t l (suc h) ≡ false) → (longest t l h < k → k ≤ h → counts_as_base t l k ≡ false) → counts_as_base t l k ≡ false
    go (inl e) f = let c : suc h < k = rw e at a in absurd (omega arith)
    go (inr e) f =
        let c : longest t l h < k = rw e at a in
        ⊎_elim (λ d. f c (omega arith)) (λ d. let q : k ≡ suc h = omega arith in ap (counts_as_base t l) q ∙ e) (lt_or_ge k (suc h))

pub counts_shift : (t : Tree) (l : List Rec) (n j : ℕ) → counts_as_base (trim (replay_from t (take n l))) (drop n l) j ≡ counts_as_base t l (n + j)
unfolding counts_as_base trim
counts_shift t l n j =
    let x : Tree = replay_from t (take n l) in
    let ys : List Rec = take j (drop n l) in
    let e : trim (replay_from (trim x) ys) ≡ trim (replay_from t (take (n + j) l)) =
    replay-alike ys (trim x) x (trim_again x) ∙ ap trim (sym (ap (replay_from t) (take-add n j l) ∙ replay-append t (take n l) ys)) in
    ap₂ (λ (a : List Entry) (b : List Aside). leb (length a) 512 && leb (length b) 512) (ap (λ (y : Tree). y.entries) e) (ap (λ (y : Tree). y.asides) e)

longest-none : (t : Tree) (l : List Rec) (h : ℕ) → ((k : ℕ) → 0 < k → k ≤ h → counts_as_base t l k ≡ false) → longest t l h ≡ 0
unfolding longest
longest-none t l zero f = refl
longest-none t l (suc h) f = rw (f (suc h) (omega arith) (omega arith)) (longest-none t l h (λ k a b. f k a (omega arith)))

-- the second run is empty
pub nothing_more : (m u : ℕ) (v : List ℕ) (t : Tree) (l : List Rec) (n : ℕ) → n ≡ run_of m u v t l
    → ((q : Rec) → Has q (drop n l) → (unit q < 8) × (get_or (vector_on v (take n l)) (unit q) 0 < num q))
    → run_of m u (vector_on v (take n l)) (trim (replay_from t (take n l))) (drop n l) ≡ 0
unfolding run_of
nothing_more m u v t l n e f =
    let h : ℕ = heard_run m u v l l in
    let le : n ≤ h = omega (arith, longest_most t l h) in
    let r = run_drop m u v l l n le in
    let s = run-before m u v l n (drop n l) f in
    longest-none (trim (replay_from t (take n l))) (drop n l) (heard_run m u (vector_on v (take n l)) (drop n l) (drop n l))
    (λ k a b. counts_shift t l n k ∙ longest_beyond t l h (n + k) (omega arith) (omega arith))
