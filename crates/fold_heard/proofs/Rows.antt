-- What each unit has heard, one record after another.
-- Assumes nothing.
use Prim.Native.Nat.{ℕ, zero, suc, ◌+◌, ◌-◌, ◌*◌, ◌≤◌, ◌<◌}
use native.Mathlib.Numerals.{add-one}
use native.Mathlib.Omega.{arith}
use mathlib.Core.Path.{◌≡◌, refl, sym, ap, ◌∙◌}
use mathlib.Core.Logic.{inl, inr, ⊎_elim}
use mathlib.Core.Bool.{Bool, true, false, cond}
use mathlib.Core.Option.{Option, none, some}
use mathlib.Core.List.{List, [], ◌∷◌, ◌++◌, append_assoc, append-nil}
use lib.Dec.{eqb}
use lib.ListN.{get_or, length, take, drop, set, replicate, length-append, length-set, get_or-append}
use lib.Seq.{get_or_at, ext_get_or, get_or-set_same, get_or-set_other, take-suc, take_all}
use borrow.Author.Tests.{eq-eqb, ne_eqb}
use Rattle.model.specs.Record.{Rec, unit, num, seen_vector}
use Rattle.model.specs.Log.{vector_on, records_of, sound_log_on}
use Rattle.call_model.specs.Fold.{last_of, heard_from, heard_by}
use Rattle.byte_slice.proofs.Numbers.{lt_or_ge, eq_or_ne}
use Rattle.log_laws.specs.Members.{Has}
use Rattle.fold_heard.specs.Rows.{rows_to, heard_rows}
use Rattle.fold_heard.proofs.Records.{record_at_lem, units_below}

-- ---- rows

pub rows_length : (n : ℕ) (f : ℕ → List ℕ) → length (rows_to n f) ≡ n
unfolding rows_to
rows_length zero f = refl
rows_length (suc n) f = omega (arith, length-append (rows_to n f) (f n ∷ []), rows_length n f)

pub rows_at : (n : ℕ) (f : ℕ → List ℕ) (w : ℕ) → w < n → get_or (rows_to n f) w [] ≡ f w
unfolding rows_to
rows_at zero f w h = absurd (omega arith)
rows_at (suc n) f w h =
    let m = rows_length n f in
    ⊎_elim
    (λ k. get_or-append (rows_to n f) (f n ∷ []) [] w (omega arith) ∙ rows_at n f w k)
    (λ k. let e : w ≡ n = omega arith in rw e (get_or_at (rows_to n f) (f n) [] [] n m))
    (lt_or_ge w n)

-- a row is replaced
rows_set : (n : ℕ) (f g : ℕ → List ℕ) (u : ℕ) (x : List ℕ) → u < n → g u ≡ x → ((w : ℕ) → (w ≡ u → ⊥) → g w ≡ f w) → set (rows_to n f) u x ≡ rows_to n g
rows_set n f g u x h e d =
    let m = rows_length n f in
    let k : length (set (rows_to n f) u x) ≡ n = length-set (rows_to n f) u x ∙ m in
    ext_get_or [] (set (rows_to n f) u x) (rows_to n g) (k ∙ sym (rows_length n g)) (λ w b.
    let c : w < n = omega arith in
    ⊎_elim
    (λ (q : w ≡ u). rw q (get_or-set_same (rows_to n f) u x [] (omega arith) ∙ sym e ∙ sym (rows_at n g u h)))
    (λ (q : w ≡ u → ⊥). get_or-set_other (rows_to n f) u w x [] q ∙ rows_at n f w c ∙ sym (d w q) ∙ sym (rows_at n g w c))
    (eq_or_ne w u))

-- ---- the last record of a unit

last_append : (w : ℕ) (l : List Rec) (r : Rec) → last_of w (l ++ (r ∷ [])) ≡ cond (eqb (unit r) w) (some r) (last_of w l)
unfolding last_of
last_append w [] r = refl
last_append w (s ∷ l) r = rw (last_append w l r) (go (eqb (unit r) w) (last_of w l))
  where
    go : (t : Bool) (o : Option Rec)
        → ◌≡◌ {A = Option Rec}
        (elim (cond t (some r) o) [ none ↦ cond (eqb (unit s) w) (some s) none | some q ↦ some q ])
        (cond t (some r) (elim o [ none ↦ cond (eqb (unit s) w) (some s) none | some q ↦ some q ]))
    go true o = refl
    go false o = refl

-- what each unit has heard by its last among some records alone
unfoldable pub told_rows : List ℕ → List Rec → List (List ℕ)
told_rows v l = rows_to 8 (λ w. heard_from v (last_of w l))

pub told_none : (v : List ℕ) → replicate 8 v ≡ told_rows v []
unfolding told_rows rows_to heard_from last_of
told_none v = refl

told_more : (v : List ℕ) (l : List Rec) (r : Rec) → unit r < 8 → set (told_rows v l) (unit r) (set (seen_vector r) (unit r) (num r)) ≡ told_rows v (l ++ (r ∷ []))
unfolding told_rows heard_from
told_more v l r h =
    rows_set 8 (λ w. heard_from v (last_of w l)) (λ w. heard_from v (last_of w (l ++ (r ∷ [])))) (unit r) (set (seen_vector r) (unit r) (num r)) h
    (rw (last_append (unit r) l r, eq-eqb (unit r) (unit r) refl))
    (λ w d. rw (last_append w l r, ne_eqb (unit r) w (λ e. d (sym e))))

-- the own unit has heard the held vector
told_own : (u : ℕ) (v : List ℕ) (l : List Rec) → u < 8 → set (told_rows v l) u (vector_on v l) ≡ heard_rows u v l
unfolding told_rows heard_rows heard_by
told_own u v l h =
    rows_set 8 (λ w. heard_from v (last_of w l)) (heard_by u v l) u (vector_on v l) h
    (rw (eq-eqb u u refl))
    (λ w d. rw (ne_eqb w u d))

-- rows after some records
unfoldable pub heard_all_lem : List (List ℕ) → List Rec → List (List ℕ)
heard_all_lem rows [] = rows
heard_all_lem rows (r ∷ l) = heard_all_lem (set rows (unit r) (set (seen_vector r) (unit r) (num r))) l

all_append : (rows : List (List ℕ)) (l : List Rec) (r : Rec) → heard_all_lem rows (l ++ (r ∷ [])) ≡ set (heard_all_lem rows l) (unit r) (set (seen_vector r) (unit r) (num r))
unfolding heard_all_lem
all_append rows [] r = refl
all_append rows (s ∷ l) r = all_append (set rows (unit s) (set (seen_vector s) (unit s) (num s))) l r

all_told : (v : List ℕ) (pre l : List Rec) → ((r : Rec) → Has r l → unit r < 8) → heard_all_lem (told_rows v pre) l ≡ told_rows v (pre ++ l)
unfolding heard_all_lem
all_told v pre [] below = rw (append-nil pre)
all_told v pre (r ∷ l) below =
    rw (told_more v pre r (below r (inl refl)))
    (all_told v (pre ++ (r ∷ [])) l (λ s i. below s (inr i)) ∙ ap (told_rows v) (append_assoc pre (r ∷ []) l))

-- ---- what `heard` is asked, over plain values

module _ (v b : List ℕ) (i used : ℕ) (whole : used ≡ length (records_of b)) (long : length b ≡ 40960) (sound : sound_log_on v b ≡ true) where
  pub hears_next : (from : List (List ℕ)) {rows o : List (List ℕ)} → i < used → rows ≡ heard_all_lem from (take i (records_of b))
      → o ≡ set rows (unit (take (80 * i + 80 - 80 * i) (drop (80 * i) b))) (set (seen_vector (take (80 * i + 80 - 80 * i) (drop (80 * i) b))) (unit (take (80 * i + 80 - 80 * i) (drop (80 * i) b))) (num (take (80 * i + 80 - 80 * i) (drop (80 * i) b))))
      → o ≡ heard_all_lem from (take (i + 1) (records_of b))
  hears_next from h e o =
      let k : i < length (records_of b) = omega arith in
      let q = record_at_lem v b long sound i k in
      o ∙ rw (e, q, add-one i, take-suc (records_of b) i [] k) (sym (all_append from (take i (records_of b)) (get_or (records_of b) i [])))

  pub hears_own : (u : ℕ) {w : ℕ} {from rows o : List (List ℕ)} {held : List ℕ} → u < 8 → w ≡ u → i ≤ used → used ≤ i → from ≡ replicate 8 v → rows ≡ heard_all_lem from (take i (records_of b))
      → held ≡ vector_on v (records_of b) → o ≡ set rows w held → o ≡ heard_rows u v (records_of b)
  hears_own u h d a c g e f o =
      o ∙ rw (d, e, g, f, take_all i (records_of b) (omega arith), told_none v, all_told v [] (records_of b) (units_below v b long sound)) (told_own u v (records_of b) h)

pub hears_none : (b : List ℕ) (from : List (List ℕ)) → from ≡ heard_all_lem from (take 0 (records_of b))
unfolding heard_all_lem
hears_none b from = refl
