-- A step adds one present entry, takes one away, or neither; a record that stands aside adds one aside.
-- Assumes nothing.
use Prim.Native.Nat.{ℕ, suc, ◌+◌, ◌-◌, ◌≤◌, ◌<◌}
use native.Mathlib.Omega.{arith}
use mathlib.Core.Path.{◌≡◌, refl, sym, ap, ◌∙◌}
use mathlib.Core.Logic.{◌⊎◌, ⊎_elim}
use mathlib.Core.Bool.{Bool, true, false, cond, ◌&&◌}
use mathlib.Core.Option.{Option, none, some}
use mathlib.Core.List.{List, [], ◌∷◌, ◌++◌}
use lib.Dec.{ltb, eqb}
use lib.ListN.{length, length-append}
use borrow.Author.Tests.{ne_eqb, lt-ltb, le-ltb, le-leb, lt-leb}
use Rattle.model.specs.Record.{Rec, op, object_of, self_of}
use Rattle.model.specs.Replay.{Entry, Aside, Tree, fits, aside, is_present, entry_of, judge, judge_remove, new_entry, stored, renamed, moved, removed, changed, settled, effect, step, present_ones}
use Rattle.byte_slice.proofs.Numbers.{bool_cases, and_true}
use Rattle.tree_laws.proofs.Steps.{step_elim, effect_elim}
use Rattle.tree_laws.proofs.Roots.{none_some, aside_fits_lem}
use Rattle.tree_laws.proofs.Verdicts.{judge_remove_lem}
use Rattle.fold_count_laws.specs.Counted.{present_count, count_after}

-- ---- the entries present in a list

-- 1 for an entry that is present
unfoldable weight : Entry → ℕ
weight e = cond (is_present e) 1 0

weight_yes : (e : Entry) → is_present e ≡ true → weight e ≡ 1
unfolding weight
weight_yes e q = rw q

weight_same : (e f : Entry) → e.kind ≡ f.kind → weight e ≡ weight f
unfolding weight is_present
weight_same e f q = rw q

weight_removed : (e : Entry) → weight (removed e) ≡ 0
unfolding weight is_present removed
weight_removed e = refl

present_cons : (e : Entry) (l : List Entry) → length (present_ones (e ∷ l)) ≡ weight e + length (present_ones l)
unfolding present_ones weight
present_cons e l = go (is_present e)
  where
    go : (t : Bool) → length (cond t (e ∷ present_ones l) (present_ones l)) ≡ cond t 1 0 + length (present_ones l)
    go true = omega arith
    go false = omega arith

-- one more, present, at the end
pub present_more : (l : List Entry) (e : Entry) → is_present e ≡ true → length (present_ones (l ++ (e ∷ []))) ≡ length (present_ones l) + 1
present_more [] e q = omega (arith, present_cons e [], weight_yes e q)
present_more (x ∷ l) e q = omega (arith, present_cons x (l ++ (e ∷ [])), present_cons x l, present_more l e q)

changed_here : (f : Entry → Entry) (k : ℕ) (e : Entry) (l : List Entry) → (eqb e.made k && is_present e) ≡ true → changed f k (e ∷ l) ≡ f e ∷ l
unfolding changed
changed_here f k e l q = rw q

changed_there : (f : Entry → Entry) (k : ℕ) (e : Entry) (l : List Entry) → (eqb e.made k && is_present e) ≡ false → changed f k (e ∷ l) ≡ e ∷ changed f k l
unfolding changed
changed_there f k e l q = rw q

count_of : (a b : List Entry) → a ≡ b → length (present_ones a) ≡ length (present_ones b)
count_of a b e = ap (λ (x : List Entry). length (present_ones x)) e

-- a change that keeps the kind keeps the number
pub present_changed : (f : Entry → Entry) → ((e : Entry) → (f e).kind ≡ e.kind) → (k : ℕ) (l : List Entry) → length (present_ones (changed f k l)) ≡ length (present_ones l)
unfolding changed
present_changed f h k [] = refl
present_changed f h k (e ∷ l) =
    ⊎_elim
    (λ q. omega (arith, count_of (changed f k (e ∷ l)) (f e ∷ l) (changed_here f k e l q), present_cons (f e) l, present_cons e l, weight_same (f e) e (h e)))
    (λ q. omega (arith, count_of (changed f k (e ∷ l)) (e ∷ changed f k l) (changed_there f k e l q), present_cons e (changed f k l), present_cons e l, present_changed f h k l))
    (bool_cases (eqb e.made k && is_present e))

entry_there : (k : ℕ) (e : Entry) (l : List Entry) → (eqb e.made k && is_present e) ≡ false → entry_of k (e ∷ l) ≡ entry_of k l
unfolding entry_of
entry_there k e l q = rw q

-- an entry that is there is removed
pub present_removed : (k : ℕ) (l : List Entry) (x : Entry) → entry_of k l ≡ some x → length (present_ones (changed removed k l)) + 1 ≡ length (present_ones l)
unfolding entry_of
present_removed k [] x e = none_some e
present_removed k (y ∷ l) x e =
    ⊎_elim
    (λ q.
    omega (arith, count_of (changed removed k (y ∷ l)) (removed y ∷ l) (changed_here removed k y l q), present_cons (removed y) l, present_cons y l, weight_removed y, weight_yes y (and_true (eqb y.made k) (is_present y) q).1))
    (λ q.
    omega (arith, count_of (changed removed k (y ∷ l)) (y ∷ changed removed k l) (changed_there removed k y l q), present_cons y (changed removed k l), present_cons y l, present_removed k l x (sym (entry_there k y l q) ∙ e)))
    (bool_cases (eqb y.made k && is_present y))

-- ---- how many rows there are

pub changed-length : (f : Entry → Entry) (k : ℕ) (l : List Entry) → length (changed f k l) ≡ length l
unfolding changed
changed-length f k [] = refl
changed-length f k (e ∷ l) =
    ⊎_elim
    (λ q. rw (changed_here f k e l q))
    (λ q. rw (changed_there f k e l q, changed-length f k l))
    (bool_cases (eqb e.made k && is_present e))

pub settled-length : (k : ℕ) (l : List Aside) → length (settled k l) ≡ length l
unfolding settled
settled-length k [] = refl
settled-length k (a ∷ l) = go (eqb a.who k) (settled-length k l)
  where
    go : (t : Bool) → length (settled k l) ≡ length l
        → length (cond t (record { who = a.who; reason = a.reason; marked = a.marked; is_open = false } ∷ l) (a ∷ settled k l)) ≡ suc (length l)
    go true e = refl
    go false e = rw e

-- ---- a step

-- a remove that fits has its entry
remove_there : (r : Rec) (es : List Entry) (o : Option Entry) → judge_remove r es o ≡ fits → (x : Entry) × (o ≡ some x)
unfolding judge_remove
remove_there r es none e = aside_fits_lem e
remove_there r es (some x) e = (x, refl)

-- what a step shows of itself: the number of asides, and how many entries are present then
pub record Shows (t n : Tree) (o : ℕ) : Type 0 where
  pub stood : Bool
  pub asides : length n.asides ≡ length t.asides + cond stood 1 0
  pub present : present_count n ≡ count_after o stood (present_count t)

abbrev Fits : Tree → ℕ → Tree → Type 0
Fits t o n = (length n.asides ≡ length t.asides) × (present_count n ≡ count_after o false (present_count t))

count_make : (o n : ℕ) → o ≤ 2 → count_after o false n ≡ n + 1
unfolding count_after
count_make o n h = rw (le-leb o 2 h)

count_remove : (o n : ℕ) → o ≡ 4 → count_after o false n ≡ n - 1
unfolding count_after
count_remove o n h = rw h

count_other : (o n : ℕ) → 2 < o → (o ≡ 4 → ⊥) → count_after o false n ≡ n
unfolding count_after
count_other o n h d = rw (lt-leb o 2 h, ne_eqb o 4 d)

count-aside : (o n : ℕ) → count_after o true n ≡ n
unfolding count_after
count-aside o n = refl

new_present : (r : Rec) → 1 ≤ op r → is_present (new_entry r) ≡ true
unfolding is_present new_entry
new_present r h = rw (ne_eqb (op r) 0 (λ e. omega arith))

effect-shows : (t : Tree) (r : Rec) → 1 ≤ op r → judge r t ≡ fits → Fits t (op r) (effect r t)
unfolding present_count stored renamed moved
effect-shows t r h e =
    effect_elim (Fits t (op r)) r t
    (λ o. (refl, present_more t.entries (new_entry r) (new_present r h) ∙ sym (count_make (op r) (present_count t) o)))
    (λ o. (refl, present_changed (stored r) (λ _. refl) (object_of r) t.entries ∙ sym (count_other (op r) (present_count t) (omega arith) (λ d. omega arith))))
    (λ o.
    let (x, q) = remove_there r t.entries (entry_of (object_of r) t.entries) (sym (judge_remove_lem r t o) ∙ e) in
    let less = present_removed (object_of r) t.entries x q in
    let m : length (present_ones (changed removed (object_of r) t.entries)) ≡ length (present_ones t.entries) - 1 = omega arith in
    (refl, m ∙ sym (count_remove (op r) (present_count t) o)))
    (λ o. (refl, present_changed (renamed r) (λ _. refl) (object_of r) t.entries ∙ sym (count_other (op r) (present_count t) (omega arith) (λ d. omega arith))))
    (λ o. (settled-length (object_of r) t.asides, sym (count_other (op r) (present_count t) (omega arith) (λ d. omega arith))))
    (λ o. (refl, present_changed (moved r) (λ _. refl) (object_of r) t.entries ∙ sym (count_other (op r) (present_count t) (omega arith) (λ d. omega arith))))

pub step-shows : (t : Tree) (r : Rec) → 1 ≤ op r → Shows t (step t r) (op r)
unfolding present_count
step-shows t r h =
    step_elim (λ (n : Tree). Shows t n (op r)) t r
    (λ e. let (a, p) = effect-shows t r h e in record { stood = false; asides = omega arith; present = p })
    (λ n k e.
    record {
      stood = true;
      asides = length-append t.asides (record { who = self_of r; reason = n; marked = k; is_open = true } ∷ []);
      present = sym (count-aside (op r) (present_count t));
    })

-- how many are present, by the operation and by whether there are more asides than before
pub present_step : (t : Tree) (r : Rec) → 1 ≤ op r → present_count (step t r) ≡ count_after (op r) (ltb (length t.asides) (length (step t r).asides)) (present_count t)
present_step t r h = let s = step-shows t r h in s.present ∙ ap (λ (b : Bool). count_after (op r) b (present_count t)) (sym (told s.stood (length t.asides) (length (step t r).asides) s.asides))
  where
    told : (b : Bool) (m n : ℕ) → n ≡ m + cond b 1 0 → ltb m n ≡ b
    told true m n e = lt-ltb m n (omega arith)
    told false m n e = le-ltb m n (omega arith)
