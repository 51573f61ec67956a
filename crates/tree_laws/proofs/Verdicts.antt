-- Each record fits or stands aside under one of the reasons, by operation.
-- Assumes nothing.
use Prim.Native.Nat.{ℕ, ◌≤◌, ◌<◌}
use mathlib.Core.Path.{◌≡◌, refl}
use mathlib.Core.Bool.{Bool, true, false, cond, ◌&&◌, ◌||◌}
use mathlib.Core.Logic.{◌⊎◌, inl, inr}
use mathlib.Core.Option.{Option, none, some}
use mathlib.Core.List.{List}
use native.Mathlib.Omega.{arith}
use lib.Dec.{leb, eqb}
use borrow.Author.Tests.{le-leb, lt-leb, ne_eqb}
use Rattle.model.specs.Record.{Rec, root, op, object_of, folder_of, label_of}
use Rattle.model.specs.Replay.{Entry, Aside, Tree, Verdict, fits, aside, free_label, and_then, is_folder, folder_stands, is_below, judge_place, judge_make, judge_store, judge_remove, judge_rename, judge_move, judge_settle, judge, entry_of, holder_of, has_entries, stands_aside, unseen}

-- the verdict is `fits`, or its reason is as said
abbrev pub Under : (ℕ → Type 0) → Verdict → Type 0
Under P fits = Unit {0}
Under P (aside n k) = P n

abbrev pub OneOf : ℕ → ℕ → ℕ → ℕ → Type 0
OneOf a b c n = (n ≡ a) ⊎ ((n ≡ b) ⊎ (n ≡ c))

pub under_cond : (P : ℕ → Type 0) (b : Bool) (x y : Verdict) → Under P x → Under P y → Under P (cond b x y)
under_cond P true x y p q = p
under_cond P false x y p q = q

pub under_map : (P Q : ℕ → Type 0) → ((n : ℕ) → P n → Q n) → (v : Verdict) → Under P v → Under Q v
under_map P Q f fits h = tt
under_map P Q f (aside n k) h = f n h

pub under_free : (P : ℕ → Type 0) → P 15 → (o : Option Entry) → Under P (free_label o)
unfolding free_label
under_free P p none = tt
under_free P p (some h) = p

pub under_then : (P : ℕ → Type 0) (x y : Verdict) → Under P x → Under P y → Under P (and_then x y)
unfolding and_then
under_then P fits y p q = q
under_then P (aside n k) y p q = p

under_folder : (P : ℕ → Type 0) → P 13 → P 14 → (o : Option Entry) → Under P (is_folder o)
unfolding is_folder
under_folder P p q none = p
under_folder P p q (some g) = under_cond P (eqb g.kind 1) fits (aside 14 g.made) tt q

pub under_stands : (P : ℕ → Type 0) → P 13 → P 14 → (f : ℕ) (es : List Entry) → Under P (folder_stands f es)
unfolding folder_stands
under_stands P p q f es = under_cond P (eqb f root) fits (is_folder (entry_of f es)) tt (under_folder P p q (entry_of f es))

pub make_reasons : (r : Rec) (es : List Entry) → Under (OneOf 13 14 15) (judge_make r es)
unfolding judge_make
make_reasons r es =
    under_then (OneOf 13 14 15) (folder_stands (folder_of r) es) (free_label (holder_of root (folder_of r) (label_of r) es))
    (under_stands (OneOf 13 14 15) (inl refl) (inr (inl refl)) (folder_of r) es)
    (under_free (OneOf 13 14 15) (inr (inr refl)) (holder_of root (folder_of r) (label_of r) es))

pub store_reasons : (r : Rec) (o : Option Entry) → Under (OneOf 12 14 17) (judge_store r o)
unfolding judge_store
store_reasons r none = inl refl
store_reasons r (some e) =
    under_cond (OneOf 12 14 17) (eqb e.kind 1) (aside 14 e.made) (cond (unseen r e.contents) (aside 17 e.made) fits)
    (inr (inl refl))
    (under_cond (OneOf 12 14 17) (unseen r e.contents) (aside 17 e.made) fits (inr (inr refl)) tt)

pub remove_reasons : (r : Rec) (es : List Entry) (o : Option Entry) → Under (OneOf 12 16 17) (judge_remove r es o)
unfolding judge_remove
remove_reasons r es none = inl refl
remove_reasons r es (some e) =
    let u : Bool = unseen r e.contents || unseen r e.placing in
    under_cond (OneOf 12 16 17) (eqb e.kind 1 && has_entries e.made es) (aside 16 e.made) (cond u (aside 17 e.made) fits)
    (inr (inl refl))
    (under_cond (OneOf 12 16 17) u (aside 17 e.made) fits (inr (inr refl)) tt)

pub rename_reasons : (r : Rec) (es : List Entry) (o : Option Entry) → Under (OneOf 12 17 15) (judge_rename r es o)
unfolding judge_rename
rename_reasons r es none = inl refl
rename_reasons r es (some e) =
    under_cond (OneOf 12 17 15) (unseen r e.placing) (aside 17 e.made) (free_label (holder_of e.made e.inside (label_of r) es))
    (inr (inl refl))
    (under_free (OneOf 12 17 15) (inr (inr refl)) (holder_of e.made e.inside (label_of r) es))

pub under_place : (P : ℕ → Type 0) → P 25 → P 15 → (r : Rec) (es : List Entry) (e : Entry) → Under P (judge_place r es e)
unfolding judge_place
under_place P p q r es e =
    under_cond P (is_below e.made (folder_of r) es) (aside 25 e.made) (free_label (holder_of e.made (folder_of r) (label_of r) es))
    p
    (under_free P q (holder_of e.made (folder_of r) (label_of r) es))

-- the reasons of a move
abbrev pub Moving : ℕ → Type 0
Moving n = (n ≡ 12) ⊎ ((n ≡ 17) ⊎ ((n ≡ 13) ⊎ ((n ≡ 14) ⊎ ((n ≡ 25) ⊎ (n ≡ 15)))))

pub move_reasons : (r : Rec) (es : List Entry) (o : Option Entry) → Under Moving (judge_move r es o)
unfolding judge_move
move_reasons r es none = inl refl
move_reasons r es (some e) =
    under_cond Moving (unseen r e.placing) (aside 17 e.made) (and_then (folder_stands (folder_of r) es) (judge_place r es e))
    (inr (inl refl))
    (under_then Moving (folder_stands (folder_of r) es) (judge_place r es e)
    (under_stands Moving (inr (inr (inl refl))) (inr (inr (inr (inl refl)))) (folder_of r) es)
    (under_place Moving (inr (inr (inr (inr (inl refl))))) (inr (inr (inr (inr (inr refl))))) r es e))

pub settle_reasons : (r : Rec) (l : List Aside) → Under (λ n. n ≡ 18) (judge_settle r l)
unfolding judge_settle
settle_reasons r l = under_cond (λ n. n ≡ 18) (stands_aside (object_of r) l) fits (aside 18 0) tt refl

-- a property of verdicts holds of every judgement if it holds by operation
pub judged : (P : ℕ → Type 0) (r : Rec) (t : Tree)
    → Under P (judge_make r t.entries)
    → Under P (judge_store r (entry_of (object_of r) t.entries))
    → Under P (judge_remove r t.entries (entry_of (object_of r) t.entries))
    → Under P (judge_rename r t.entries (entry_of (object_of r) t.entries))
    → Under P (judge_settle r t.asides)
    → Under P (judge_move r t.entries (entry_of (object_of r) t.entries))
    → Under P (judge r t)
unfolding judge
judged P r t a b c d e f =
    let es : List Entry = t.entries in
    let o : Option Entry = entry_of (object_of r) es in
    let v₆ : Verdict = judge_move r es o in
    let v₅ : Verdict = cond (eqb (op r) 6) (judge_settle r t.asides) v₆ in
    let v₄ : Verdict = cond (eqb (op r) 5) (judge_rename r es o) v₅ in
    let v₃ : Verdict = cond (eqb (op r) 4) (judge_remove r es o) v₄ in
    let v₂ : Verdict = cond (eqb (op r) 3) (judge_store r o) v₃ in
    under_cond P (leb (op r) 2) (judge_make r es) v₂ a
    (under_cond P (eqb (op r) 3) (judge_store r o) v₃ b
    (under_cond P (eqb (op r) 4) (judge_remove r es o) v₄ c
    (under_cond P (eqb (op r) 5) (judge_rename r es o) v₅ d
    (under_cond P (eqb (op r) 6) (judge_settle r t.asides) v₆ e f))))

abbrev pub Reason : ℕ → Type 0
Reason n = ((12 ≤ n) × (n ≤ 18)) ⊎ (n ≡ 25)

pub reason_least : (n : ℕ) → Reason n → 12 ≤ n
reason_least n (inl p) = p.0
reason_least n (inr q) = omega arith

pub reason_most : (n : ℕ) → Reason n → n ≤ 25
reason_most n (inl p) = omega (arith, p.1)
reason_most n (inr q) = omega arith

one_of : (a b c : ℕ) → Reason a → Reason b → Reason c → (n : ℕ) → OneOf a b c n → Reason n
one_of a b c p q s n (inl e) = rw e p
one_of a b c p q s n (inr (inl e)) = rw e q
one_of a b c p q s n (inr (inr e)) = rw e s

pub reason_range : (r : Rec) (t : Tree) → Under Reason (judge r t)
reason_range r t =
    let es : List Entry = t.entries in
    let o : Option Entry = entry_of (object_of r) es in
    judged Reason r t
    (under_map (OneOf 13 14 15) Reason (one_of 13 14 15 (inl (omega arith)) (inl (omega arith)) (inl (omega arith))) (judge_make r es) (make_reasons r es))
    (under_map (OneOf 12 14 17) Reason (one_of 12 14 17 (inl (omega arith)) (inl (omega arith)) (inl (omega arith))) (judge_store r o) (store_reasons r o))
    (under_map (OneOf 12 16 17) Reason (one_of 12 16 17 (inl (omega arith)) (inl (omega arith)) (inl (omega arith))) (judge_remove r es o) (remove_reasons r es o))
    (under_map (OneOf 12 17 15) Reason (one_of 12 17 15 (inl (omega arith)) (inl (omega arith)) (inl (omega arith))) (judge_rename r es o) (rename_reasons r es o))
    (under_map (λ n. n ≡ 18) Reason (λ n e. inl (omega arith)) (judge_settle r t.asides) (settle_reasons r t.asides))
    (under_map Moving Reason moving (judge_move r es o) (move_reasons r es o))
  where
    moving : (n : ℕ) → Moving n → Reason n
    moving n (inl e) = inl (omega arith)
    moving n (inr (inl e)) = inl (omega arith)
    moving n (inr (inr (inl e))) = inl (omega arith)
    moving n (inr (inr (inr (inl e)))) = inl (omega arith)
    moving n (inr (inr (inr (inr (inl e))))) = inr e
    moving n (inr (inr (inr (inr (inr e))))) = inl (omega arith)

-- ---- the judgement, by operation

pub judge_make_lem : (r : Rec) (t : Tree) → op r ≤ 2 → judge r t ≡ judge_make r t.entries
unfolding judge
judge_make_lem r t h = rw (le-leb (op r) 2 h)

pub judge_store_lem : (r : Rec) (t : Tree) → op r ≡ 3 → judge r t ≡ judge_store r (entry_of (object_of r) t.entries)
unfolding judge
judge_store_lem r t e = rw e

pub judge_remove_lem : (r : Rec) (t : Tree) → op r ≡ 4 → judge r t ≡ judge_remove r t.entries (entry_of (object_of r) t.entries)
unfolding judge
judge_remove_lem r t e = rw e

pub judge_rename_lem : (r : Rec) (t : Tree) → op r ≡ 5 → judge r t ≡ judge_rename r t.entries (entry_of (object_of r) t.entries)
unfolding judge
judge_rename_lem r t e = rw e

pub judge_settle_lem : (r : Rec) (t : Tree) → op r ≡ 6 → judge r t ≡ judge_settle r t.asides
unfolding judge
judge_settle_lem r t e = rw e

pub judge_move_lem : (r : Rec) (t : Tree) → 6 < op r → judge r t ≡ judge_move r t.entries (entry_of (object_of r) t.entries)
unfolding judge
judge_move_lem r t h =
    rw (lt-leb (op r) 2 (omega arith), ne_eqb (op r) 3 (λ e. omega arith), ne_eqb (op r) 4 (λ e. omega arith), ne_eqb (op r) 5 (λ e. omega arith), ne_eqb (op r) 6 (λ e. omega arith))
