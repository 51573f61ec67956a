-- One vector in the place of the rows of all listed units, and the run that it counts.
-- Assumes nothing.
use Prim.Native.Nat.{ℕ, zero, suc, ◌+◌, ◌-◌, ◌*◌, ◌≤◌, ◌<◌, min}
use native.Mathlib.Numerals.{add-one}
use native.Mathlib.Nat.{zero-add}
use native.Mathlib.Omega.{arith}
use mathlib.Core.Path.{◌≡◌, refl, sym, ap₂, ◌∙◌}
use mathlib.Core.Logic.{inl, inr, ⊎_elim}
use mathlib.Core.Bool.{Bool, true, false, cond, not, ◌&&◌, ◌||◌}
use mathlib.Core.List.{List, [], ◌∷◌}
use lib.Dec.{leb}
use lib.ListN.{get_or, length, take, drop, length-append, get_or-append}
use lib.Seq.{get_or_at, drop-cons, drop-length}
use borrow.Author.Tests.{not-true, not-false, lt-ltb, le-ltb, le-leb, lt-leb, eq-eqb}
use Rattle.model.specs.Record.{Rec, unit, num}
use Rattle.model.specs.Log.{all_to, vector_on, records_of, sound_log_on}
use Rattle.base_model.specs.Base.{is_listed}
use Rattle.call_model.specs.Fold.{heard_by, heard_by_all, heard_run}
use Rattle.byte_slice.proofs.Numbers.{lt_or_ge, bool_cases, and_right, and_wrong}
use Rattle.log_laws.specs.Members.{Has}
use Rattle.log_laws.proofs.Tests.{all_to-at}
use Rattle.fold_heard.specs.Rows.{heard_rows, lower_of, lowers_to, least_to, least_of, run_within}
use Rattle.fold_heard.proofs.Records.{record_at_lem, units_below}
use Rattle.fold_heard.proofs.Rows.{rows_at}

-- ---- the lower of two

pub lower_least : (a b : ℕ) {c : ℕ} → c ≡ min a b → c ≡ lower_of a b
unfolding lower_of
lower_least a b e = ⊎_elim (λ (h : a < b). rw (lt-ltb a b h) (omega arith)) (λ (h : b ≤ a). rw (le-ltb a b h) (omega arith)) (lt_or_ge a b)

-- a number is within the lower of two if it is within both
leb_lower : (k a b : ℕ) → leb k (lower_of a b) ≡ (leb k a && leb k b)
unfolding lower_of
leb_lower k a b =
    ⊎_elim
    (λ (h : a < b).
    rw (lt-ltb a b h)
    (⊎_elim
    (λ (q : a < k). rw (lt-leb k a q))
    (λ (q : k ≤ a). let z : k ≤ b = omega arith in rw (le-leb k a q, le-leb k b z))
    (lt_or_ge a k)))
    (λ (h : b ≤ a).
    rw (le-ltb a b h)
    (⊎_elim
    (λ (q : b < k). rw (lt-leb k b q) (sym (and_wrong (leb k a))))
    (λ (q : k ≤ b). let z : k ≤ a = omega arith in rw (le-leb k a z, le-leb k b q))
    (lt_or_ge b k)))
    (lt_or_ge a b)

lowers_length : (a b : List ℕ) (n : ℕ) → length (lowers_to a b n) ≡ n
unfolding lowers_to
lowers_length a b zero = refl
lowers_length a b (suc n) = omega (arith, length-append (lowers_to a b n) (lower_of (get_or a n 0) (get_or b n 0) ∷ []), lowers_length a b n)

lowers_at : (a b : List ℕ) (n x : ℕ) → x < n → get_or (lowers_to a b n) x 0 ≡ lower_of (get_or a x 0) (get_or b x 0)
unfolding lowers_to
lowers_at a b zero x h = absurd (omega arith)
lowers_at a b (suc n) x h =
    let m = lowers_length a b n in
    let y = lower_of (get_or a n 0) (get_or b n 0) in
    ⊎_elim
    (λ k. get_or-append (lowers_to a b n) (y ∷ []) 0 x (omega arith) ∙ lowers_at a b n x k)
    (λ k. let e : x ≡ n = omega arith in rw e (get_or_at (lowers_to a b n) y [] 0 n m))
    (lt_or_ge x n)

-- eight counts written out
pub lowers_written : (x y : List ℕ) {a b c d e f g h : ℕ}
    → a ≡ lower_of (get_or x 0 0) (get_or y 0 0) → b ≡ lower_of (get_or x 1 0) (get_or y 1 0) → c ≡ lower_of (get_or x 2 0) (get_or y 2 0) → d ≡ lower_of (get_or x 3 0) (get_or y 3 0)
    → e ≡ lower_of (get_or x 4 0) (get_or y 4 0) → f ≡ lower_of (get_or x 5 0) (get_or y 5 0) → g ≡ lower_of (get_or x 6 0) (get_or y 6 0) → h ≡ lower_of (get_or x 7 0) (get_or y 7 0)
    → a ∷ b ∷ c ∷ d ∷ e ∷ f ∷ g ∷ h ∷ [] ≡ lowers_to x y 8
unfolding lowers_to
lowers_written x y a b c d e f g h = rw (a, b, c, d, e, f, g, h)

-- ---- the least of the listed rows

and_assoc : (a b c : Bool) → ((a && b) && c) ≡ (a && (b && c))
and_assoc true b c = refl
and_assoc false b c = refl

-- a number is within the least if it is within the vector and each listed row
least_exact : (m : ℕ) (rows : List (List ℕ)) (v : List ℕ) (k x : ℕ) → x < 8 → (n : ℕ)
    → leb k (get_or (least_to m rows v n) x 0) ≡ (leb k (get_or v x 0) && all_to n (λ w. not (is_listed m w) || leb k (get_or (get_or rows w []) x 0)))
unfolding least_to all_to
least_exact m rows v k x h zero = sym (and_right (leb k (get_or v x 0)))
least_exact m rows v k x h (suc n) =
    let so = least_exact m rows v k x h n in
    let p : ℕ → Bool = λ w. not (is_listed m w) || leb k (get_or (get_or rows w []) x 0) in
    let t = leb k (get_or v x 0) in
    ⊎_elim
    (λ (q : is_listed m n ≡ true).
    rw (q, lowers_at (least_to m rows v n) (get_or rows n []) 8 x h, leb_lower k (get_or (least_to m rows v n) x 0) (get_or (get_or rows n []) x 0), so)
    (and_assoc t (all_to n p) (leb k (get_or (get_or rows n []) x 0))))
    (λ (q : is_listed m n ≡ false). rw (q, so, and_right (all_to n p)))
    (bool_cases (is_listed m n))

all_to_same : (n : ℕ) (p q : ℕ → Bool) → ((w : ℕ) → w < n → p w ≡ q w) → all_to n p ≡ all_to n q
unfolding all_to
all_to_same zero p q h = refl
all_to_same (suc n) p q h = ap₂ (λ (a b : Bool). a && b) (all_to_same n p q (λ w k. h w (omega arith))) (h n (omega arith))

-- the own unit is listed: what all listed have heard is within the held vector
heard_least : (m u : ℕ) (v : List ℕ) (l : List Rec) (r : Rec) → u < 8 → is_listed m u ≡ true → unit r < 8
    → leb (num r) (get_or (least_of m (heard_rows u v l) (vector_on v l)) (unit r) 0) ≡ heard_by_all m u v l r
unfolding least_of heard_by_all heard_rows heard_by
heard_least m u v l r h own below =
    let k = num r in
    let x = unit r in
    let p : ℕ → Bool = λ w. not (is_listed m w) || leb k (get_or (get_or (heard_rows u v l) w []) x 0) in
    let q : ℕ → Bool = λ w. not (is_listed m w) || leb k (get_or (heard_by u v l w) x 0) in
    let e : all_to 8 p ≡ all_to 8 q = all_to_same 8 p q (λ w b. rw (rows_at 8 (heard_by u v l) w b)) in
    let f : heard_by u v l u ≡ vector_on v l = rw (eq-eqb u u refl) in
    least_exact m (heard_rows u v l) (vector_on v l) k x below 8
    ∙ rw e
    (⊎_elim
    (λ (a : all_to 8 q ≡ true). let z : q u ≡ true = all_to-at 8 q a u h in let y : leb k (get_or (vector_on v l) x 0) ≡ true = rw (own, f) at z in rw (a, y))
    (λ (a : all_to 8 q ≡ false). rw a (and_wrong (leb k (get_or (vector_on v l) x 0))))
    (bool_cases (all_to 8 q)))

-- ---- what `least` is asked

module _ (m : ℕ) (rows : List (List ℕ)) (h : List ℕ) (w : ℕ) (t : Bool) (named : t ≡ is_listed m w) where
  pub least_skips : {v : List ℕ} → v ≡ least_to m rows h w → t ≡ false → v ≡ least_to m rows h (w + 1)
  unfolding least_to
  least_skips e f = rw (add-one w, ← named, f) e

  pub least_lowers : {v o : List ℕ} → v ≡ least_to m rows h w → t ≡ true → o ≡ lowers_to v (get_or rows w []) 8 → o ≡ least_to m rows h (w + 1)
  unfolding least_to
  least_lowers e f g = rw (add-one w, ← named, f, ← e) g

pub least_ends : (m : ℕ) (rows : List (List ℕ)) (h : List ℕ) (w : ℕ) {v : List ℕ} → w ≤ 8 → 8 ≤ w → v ≡ least_to m rows h w → v ≡ least_of m rows h
unfolding least_of
least_ends m rows h w a b e = let f : w ≡ 8 = omega arith in rw f at e

-- ---- the run

pub run_exact : (m u : ℕ) (v : List ℕ) (all l : List Rec) → u < 8 → is_listed m u ≡ true → ((r : Rec) → Has r l → unit r < 8)
    → run_within (least_of m (heard_rows u v all) (vector_on v all)) l ≡ heard_run m u v all l
unfolding run_within heard_run
run_exact m u v all [] h own below = refl
run_exact m u v all (r ∷ l) h own below =
    rw (heard_least m u v all r h own (below r (inl refl)), run_exact m u v all l h own (λ s i. below s (inr i)))

-- what `run_within` is asked
module _ (v base b : List ℕ) (i used : ℕ) (whole : used ≡ length (records_of b)) (so : i + run_within v (drop i (records_of b)) ≡ run_within v (records_of b)) where
  module _ (t : Bool) (long : length b ≡ 40960) (sound : sound_log_on base b ≡ true) (h : i < used)
      (judged : t ≡ leb (num (take (80 * i + 80 - 80 * i) (drop (80 * i) b))) (get_or v (unit (take (80 * i + 80 - 80 * i) (drop (80 * i) b))) 0)) where
    here : run_within v (drop i (records_of b)) ≡ cond t (suc (run_within v (drop (suc i) (records_of b)))) 0
    unfolding run_within
    here =
        let k : i < length (records_of b) = omega arith in
        rw (drop-cons (records_of b) i [] k, ← record_at_lem base b long sound i k, judged)

    pub run_stops : not t ≡ true → i ≡ run_within v (records_of b)
    run_stops f = let e = rw (not-true t f) at here in omega arith

    pub run_goes_on : not t ≡ false → i + 1 + run_within v (drop (i + 1) (records_of b)) ≡ run_within v (records_of b)
    run_goes_on f = let e = rw (not-false t f, ← add-one i) at here in omega arith

  pub run_ends : i ≤ used → used ≤ i → used ≡ run_within v (records_of b)
  unfolding run_within
  run_ends p q =
      let e : i ≡ length (records_of b) = omega arith in
      let f : run_within v (drop i (records_of b)) ≡ 0 = rw (e, drop-length (records_of b)) in
      omega arith

pub run_starts : (v b : List ℕ) → 0 + run_within v (drop 0 (records_of b)) ≡ run_within v (records_of b)
run_starts v b = zero-add (run_within v (records_of b))

-- what `heard_run` is asked
pub run_is : (m u : ℕ) (v b : List ℕ) {rows : List (List ℕ)} {held least : List ℕ} {n : ℕ} → length b ≡ 40960 → sound_log_on v b ≡ true → u < 8 → held ≡ vector_on v (records_of b) → is_listed m u ≡ true
    → rows ≡ heard_rows u v (records_of b) → least ≡ least_of m rows held → n ≡ run_within least (records_of b) → n ≡ heard_run m u v (records_of b) (records_of b)
run_is m u v b long sound h e own f g n =
    n ∙ rw (g, f, e) (run_exact m u v (records_of b) (records_of b) h own (units_below v b long sound))
