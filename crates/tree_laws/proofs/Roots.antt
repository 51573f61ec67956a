-- Each entry reaches the root, in fewer steps than there are entries: kept by every record, moves too.
-- Assumes nothing.
use Prim.Native.Nat.{ℕ, zero, suc, ◌+◌, ◌≤◌, ◌<◌}
use native.Mathlib.Omega.{arith}
use mathlib.Core.Path.{◌≡◌, refl, sym, ap, ◌∙◌, subst}
use mathlib.Core.Bool.{Bool, true, false, cond, ◌&&◌, ◌||◌, true≢false}
use mathlib.Core.Logic.{◌⊎◌, inl, inr, ⊎_elim, ◌↔◌}
use mathlib.Core.Option.{Option, none, some}
use mathlib.Core.List.{List, [], ◌∷◌, ◌++◌}
use lib.Dec.{leb, eqb}
use lib.ListN.{length}
use borrow.Author.Tests.{eqb-true, eqb-false, eq-eqb, ne_eqb}
use Rattle.byte_slice.proofs.Numbers.{eq_or_ne, lt_or_ge, bool_cases, cond_cases, and_true, and_wrong, true_and, not_both, test_false}
use Rattle.model.specs.Record.{Rec, root, op, self_of, object_of, folder_of, label_of}
use Rattle.model.specs.Replay.{Entry, Tree, Verdict, fits, aside, is_present, entry_of, is_in, has_entries, holder_of, free_label, and_then, is_folder, folder_stands, comes_to, is_below, unseen, judge_make, judge_remove, judge_place, judge_move, judge, new_entry, stored, renamed, moved, removed, changed, effect, apply, step, replay_from, present_ones}
use Rattle.tree_laws.specs.Replayed.{Has, Distinct, selves, makers}
use Rattle.tree_laws.specs.Roots.{Way, Up, Reaches, Stands, Rooted}
use Rattle.tree_laws.proofs.Steps.{makers-append, makers-changed}
use Rattle.tree_laws.proofs.Identities.{has_more, distinct_more, names-step}

pub none_some {ℓ} : {A : Type ℓ} {e : Entry} → none ≡ some e → A
none_some q = absurd (let z : ◌≡◌ {A = ℕ} 0 1 = cc in omega arith)

pub some_same : {e x : Entry} → some e ≡ some x → e ≡ x
some_same q = cc

pub aside_fits_lem {ℓ} : {A : Type ℓ} {n k : ℕ} → aside n k ≡ fits → A
aside_fits_lem q = absurd (let z : ◌≡◌ {A = ℕ} 0 1 = cc in omega arith)

-- ---- distinct numbers of a list are no more than those of the list

without : ℕ → List ℕ → List ℕ
without x [] = []
without x (y ∷ l) = cond (eqb y x) l (y ∷ without x l)

has_without : (x z : ℕ) (l : List ℕ) → Has z l → (z ≡ x → ⊥) → Has z (without x l)
unfolding without
has_without x z [] i d = i
has_without x z (y ∷ l) i d =
    ⊎_elim
    (λ (c : eqb y x ≡ true). rw c (⊎_elim (λ (q : z ≡ y). absurd (d (q ∙ eqb-true y x c))) (λ j. j) i))
    (λ (c : eqb y x ≡ false). rw c (⊎_elim (λ q. inl q) (λ j. inr (has_without x z l j d)) i))
    (bool_cases (eqb y x))

length_without : (x : ℕ) (l : List ℕ) → Has x l → suc (length (without x l)) ≡ length l
unfolding without
length_without x [] i = absurd i
length_without x (y ∷ l) i =
    ⊎_elim
    (λ (c : eqb y x ≡ true). rw c)
    (λ (c : eqb y x ≡ false). rw c (⊎_elim (λ (q : x ≡ y). absurd (eqb-false y x c (sym q))) (λ j. ap suc (length_without x l j)) i))
    (bool_cases (eqb y x))

no_more : (xs ys : List ℕ) → Distinct xs → ((x : ℕ) → Has x xs → Has x ys) → length xs ≤ length ys
no_more [] ys d h = omega arith
no_more (x ∷ xs) ys d h =
    omega (
      arith,
      length_without x ys (h x (inl refl)),
      no_more xs (without x ys) d.1 (λ z i. has_without x z ys (h z (inr i)) (λ (q : z ≡ x). d.0 (subst (λ (y : ℕ). Has y xs) q i))),
    )

-- ---- entries by identity

pub length-makers : (es : List Entry) → length (makers es) ≡ length es
unfolding makers
length-makers [] = refl
length-makers (e ∷ es) = ap suc (length-makers es)

test_of : (k : ℕ) (e : Entry) → Bool
test_of k e = eqb e.made k && is_present e

pub entry_made : (k : ℕ) (es : List Entry) (e : Entry) → entry_of k es ≡ some e → (e.made ≡ k) × (is_present e ≡ true)
unfolding entry_of
entry_made k [] e q = none_some q
entry_made k (x ∷ es) e q =
    ⊎_elim
    (λ c.
    let y : x ≡ e = some_same (sym c.1 ∙ q) in
    let (a, b) = and_true (eqb x.made k) (is_present x) c.0 in
    rw (← y) (eqb-true x.made k a, b))
    (λ c. entry_made k es e (sym c.1 ∙ q))
    (cond_cases (eqb x.made k && is_present x) (some x) (entry_of k es))

entry_named : (k : ℕ) (es : List Entry) (e : Entry) → entry_of k es ≡ some e → Has k (makers (present_ones es))
unfolding entry_of present_ones makers
entry_named k [] e q = none_some q
entry_named k (x ∷ es) e q =
    ⊎_elim
    (λ c. let (a, b) = and_true (eqb x.made k) (is_present x) c.0 in rw b (inl (sym (eqb-true x.made k a))))
    (λ c.
    ⊎_elim
    (λ (p : is_present x ≡ true). rw p (inr (entry_named k es e (sym c.1 ∙ q))))
    (λ (p : is_present x ≡ false). rw p (entry_named k es e (sym c.1 ∙ q)))
    (bool_cases (is_present x)))
    (cond_cases (eqb x.made k && is_present x) (some x) (entry_of k es))

pub entry_in_lem : (k : ℕ) (es : List Entry) (e : Entry) → entry_of k es ≡ some e → Has k (makers es)
unfolding entry_of makers
entry_in_lem k [] e q = none_some q
entry_in_lem k (x ∷ es) e q =
    ⊎_elim
    (λ c. inl (sym (eqb-true x.made k (and_true (eqb x.made k) (is_present x) c.0).0)))
    (λ c. inr (entry_in_lem k es e (sym c.1 ∙ q)))
    (cond_cases (eqb x.made k && is_present x) (some x) (entry_of k es))

unnamed : (k : ℕ) (es : List Entry) → (Has k (makers es) → ⊥) → entry_of k es ≡ none
unfolding entry_of makers
unnamed k [] d = refl
unnamed k (x ∷ es) d =
    let c : eqb x.made k ≡ false = ne_eqb x.made k (λ (q : x.made ≡ k). d (inl (sym q))) in
    rw c (unnamed k es (λ i. d (inr i)))

-- ---- a shortest way passes no entry twice

or_second : (a : Bool) → (a || true) ≡ true
or_second true = refl
or_second false = refl

-- a way is found exactly when it has fewer steps than are asked for
pub comes_way : (es : List Entry) (n k f : ℕ) → comes_to n k f es ≡ true → (s : ℕ) × Way s k f es × (s < n)
unfolding comes_to
comes_way es zero k f h = absurd (true≢false (sym h))
comes_way es (suc n) k f h =
    ⊎_elim
    (λ (c : eqb f k ≡ true). (0, eqb-true f k c, omega arith))
    (λ (c : eqb f k ≡ false). go (λ g. comes_way es n k g.inside) (entry_of f es) refl (rw c at h))
    (bool_cases (eqb f k))
  where
    go : ((g : Entry) → comes_to n k g.inside es ≡ true → (s : ℕ) × Way s k g.inside es × (s < n))
        → (o : Option Entry) → entry_of f es ≡ o → elim o [ none ↦ false | some g ↦ comes_to n k g.inside es ] ≡ true → (s : ℕ) × Way s k f es × (s < suc n)
    go more none q c = absurd (true≢false (sym c))
    go more (some g) q c = let (s, w, b) = more g c in (suc s, (g, q, w), omega arith)

pub way_comes : (es : List Entry) (n s k f : ℕ) → Way s k f es → s < n → comes_to n k f es ≡ true
unfolding comes_to
way_comes es zero s k f w h = absurd (omega arith)
way_comes es (suc n) zero k f w h = rw (eq-eqb f k w)
way_comes es (suc n) (suc s) k f (g, q, w) h = rw (q, way_comes es n s k g.inside w (omega arith)) (or_second (eqb f k))

or_false : (a b : Bool) → (a || b) ≡ false → (a ≡ false) × (b ≡ false)
or_false true b e = absurd (true≢false e)
or_false false b e = (refl, e)

module _ (es : List Entry) (k : ℕ) where
  -- s steps lead from f to k, and no fewer do
  abbrev Least : ℕ → ℕ → Type 0
  Least s f = Way s k f es × (comes_to s k f es ≡ false)

  least_same : (a b f : ℕ) → Least a f → Least b f → a ≡ b
  least_same a b f u v =
      ⊎_elim
      (λ h. absurd (not_both (comes_to b k f es) (way_comes es b a k f u.0 h) v.1))
      (λ h.
      ⊎_elim
      (λ g. absurd (not_both (comes_to a k f es) (way_comes es a b k f v.0 g) u.1))
      (λ g. omega arith)
      (lt_or_ge b a))
      (lt_or_ge a b)

  least_next : (s f : ℕ) (e : Entry) → entry_of f es ≡ some e → Way s k e.inside es → comes_to (suc s) k f es ≡ false → Least s e.inside
  unfolding comes_to
  least_next s f e q w c = (w, rw q at (or_false (eqb f k) (elim (entry_of f es) [ none ↦ false | some g ↦ comes_to s k g.inside es ]) c).1)

  passed : (s f : ℕ) → Way s k f es → List ℕ
  passed zero f w = []
  passed (suc s) f (e, q, w) = f ∷ passed s e.inside w

  passed_length : (s f : ℕ) (w : Way s k f es) → length (passed s f w) ≡ s
  unfolding passed
  passed_length zero f w = refl
  passed_length (suc s) f (e, q, w) = ap suc (passed_length s e.inside w)

  passed_named : (s f : ℕ) (w : Way s k f es) (x : ℕ) → Has x (passed s f w) → Has x (makers (present_ones es))
  unfolding passed
  passed_named zero f w x i = absurd i
  passed_named (suc s) f (e, q, w) x (inl p) = subst (λ (y : ℕ). Has y (makers (present_ones es))) (sym p) (entry_named f es e q)
  passed_named (suc s) f (e, q, w) x (inr i) = passed_named s e.inside w x i

  passed_least : (s f : ℕ) (w : Way s k f es) → comes_to s k f es ≡ false → (x : ℕ) → Has x (passed s f w) → (b : ℕ) × Least b x × (b ≤ s)
  unfolding passed
  passed_least zero f w c x i = absurd i
  passed_least (suc s) f (e, q, w) c x (inl p) = (suc s, rw p ((e, q, w), c), omega arith)
  passed_least (suc s) f (e, q, w) c x (inr i) = let (b, v, h) = passed_least s e.inside w (least_next s f e q w c).1 x i in (b, v, omega arith)

  passed_distinct : (s f : ℕ) (w : Way s k f es) → comes_to s k f es ≡ false → Distinct (passed s f w)
  unfolding passed
  passed_distinct zero f w c = tt
  passed_distinct (suc s) f (e, q, w) c = (
    λ i.
        let d = (least_next s f e q w c).1 in
        let (b, v, h) = passed_least s e.inside w d f i in
        omega (arith, least_same (suc s) b f ((e, q, w), c) v),
    passed_distinct s e.inside w (least_next s f e q w c).1,
  )

  least_few : (s f : ℕ) → Least s f → s ≤ length (present_ones es)
  least_few s f (w, c) =
      omega (
        arith,
        passed_length s f w,
        length-makers (present_ones es),
        no_more (passed s f w) (makers (present_ones es)) (passed_distinct s f w c) (passed_named s f w),
      )

  least : (n f : ℕ) → comes_to n k f es ≡ true → (s : ℕ) × Least s f × (s < n)
  unfolding comes_to
  least zero f h = absurd (true≢false (sym h))
  least (suc n) f h = go (bool_cases (comes_to n k f es)) (λ c. least n f c)
    where
      go : (comes_to n k f es ≡ true) ⊎ (comes_to n k f es ≡ false) → (comes_to n k f es ≡ true → (s : ℕ) × Least s f × (s < n)) → (s : ℕ) × Least s f × (s < suc n)
      go (inl c) more = let (s, w, b) = more c in (s, w, omega arith)
      go (inr c) more =
          let (s, w, b) = comes_way es (suc n) k f h in
          ⊎_elim
          (λ (g : s < n). absurd (not_both (comes_to n k f es) (way_comes es n s k f w g) c))
          (λ (g : n ≤ s). let e : s ≡ n = omega arith in (n, (subst (λ (y : ℕ). Way y k f es) e w, c), omega arith))
          (lt_or_ge s n)

  -- what is found by any number of steps is found by as many as there are entries
  pub comes_few : (n f : ℕ) → comes_to n k f es ≡ true → comes_to (suc (length (present_ones es))) k f es ≡ true
  comes_few n f h = let (s, w, b) = least n f h in way_comes es (suc (length (present_ones es))) s k f w.0 (omega (arith, least_few s f w))

-- ---- steps to the root

up_way : (es : List Entry) (s k : ℕ) → Up s k es → Way s root k es
up_way es zero k u = u
up_way es (suc s) k (e, q, u) = (e, q, up_way es s e.inside u)

-- no way is longer than that to the root
way_short : (es : List Entry) → entry_of root es ≡ none → (s n k f : ℕ) → Way s k f es → Up n f es → s ≤ n
way_short es no_root zero n k f w u = omega arith
way_short es no_root (suc s) zero k f (g, q, w) u = none_some (sym no_root ∙ ap (λ (x : ℕ). entry_of x es) (sym u) ∙ q)
way_short es no_root (suc s) (suc n) k f (g, q, w) (e, p, u) =
    let y : e ≡ g = some_same (sym p ∙ q) in
    let v : Up n g.inside es = subst (λ (z : Entry). Up n z.inside es) y u in
    omega (arith, way_short es no_root s n k g.inside w v)

few_steps : (es : List Entry) → entry_of root es ≡ none → (s k : ℕ) → Up s k es → s ≤ length (present_ones es)
few_steps es no_root s k u = least_few es root s k (up_way es s k u, test_false (comes_to s root k es) (λ c. later s k u c))
  where
    -- the root has no entry, so a way that ends there has one length
    ends : (a b f : ℕ) → Way a root f es → Up b f es → b ≤ a
    ends a zero f w u = omega arith
    ends zero (suc b) f w (e, q, u) = none_some (sym no_root ∙ ap (λ (x : ℕ). entry_of x es) (sym w) ∙ q)
    ends (suc a) (suc b) f (g, p, w) (e, q, u) =
        let y : e ≡ g = some_same (sym q ∙ p) in
        let v : Up b g.inside es = subst (λ (z : Entry). Up b z.inside es) y u in
        omega (arith, ends a b g.inside w v)

    later : (s k : ℕ) → Up s k es → comes_to s root k es ≡ true → ⊥
    later s k u c = let (a, w, b) = comes_way es s root k c in omega (arith, ends a s k w u)

pub present_few : (es : List Entry) → length (present_ones es) ≤ length es
unfolding present_ones
present_few [] = omega arith
present_few (e ∷ es) =
    ⊎_elim
    (λ (p : is_present e ≡ true). rw p (omega (arith, present_few es)))
    (λ (p : is_present e ≡ false). rw p (omega (arith, present_few es)))
    (bool_cases (is_present e))

-- ---- the invariant

up_from : (es : List Entry) → Rooted es → (f : ℕ) → Stands f es → (s : ℕ) × Up s f es
up_from es w f (inl q) = (0, q)
up_from es w f (inr (g, q, _)) = w.up f g q

-- an entry stands where it stood, in the same folder and of the same kind
abbrev Stays : List Entry → List Entry → Type 0
Stays es fs = (k : ℕ) (e : Entry) → entry_of k es ≡ some e → (x : Entry) × (entry_of k fs ≡ some x) × (x.inside ≡ e.inside) × (x.kind ≡ e.kind)

stays_up : (es fs : List Entry) → Stays es fs → (s k : ℕ) → Up s k es → Up s k fs
stays_up es fs h zero k u = u
stays_up es fs h (suc s) k (e, q, u) =
    let (x, p, i, _) = h k e q in
    (x, p, subst (λ (f : ℕ). Up s f fs) (sym i) (stays_up es fs h s e.inside u))

stays_stands : (es fs : List Entry) → Stays es fs → (f : ℕ) → Stands f es → Stands f fs
stays_stands es fs h f (inl q) = inl q
stays_stands es fs h f (inr (g, q, k)) = let (x, p, _, c) = h f g q in inr (x, p, c ∙ k)

-- ---- a change of one entry

abbrev pub Same : (Entry → Entry) → Type 0
Same g = (e : Entry) → (g e).made ≡ e.made

pub entry_other : (g : Entry → Entry) → Same g → (k j : ℕ) → (j ≡ k → ⊥) → (es : List Entry) → entry_of j (changed g k es) ≡ entry_of j es
unfolding entry_of changed
entry_other g h k j d [] = refl
entry_other g h k j d (e ∷ es) =
    ⊎_elim
    (λ (c : (eqb e.made k && is_present e) ≡ true).
    let q : e.made ≡ k = eqb-true e.made k (and_true (eqb e.made k) (is_present e) c).0 in
    let a : eqb e.made j ≡ false = ne_eqb e.made j (λ (p : e.made ≡ j). d (sym p ∙ q)) in
    let b : eqb (g e).made j ≡ false = ap (λ (x : ℕ). eqb x j) (h e) ∙ a in
    rw (c, a, b))
    (λ (c : (eqb e.made k && is_present e) ≡ false). rw (c, entry_other g h k j d es))
    (bool_cases (eqb e.made k && is_present e))

pub entry_same : (g : Entry → Entry) → Same g → (k : ℕ) (es : List Entry) (e : Entry) → entry_of k es ≡ some e → is_present (g e) ≡ true → entry_of k (changed g k es) ≡ some (g e)
unfolding entry_of changed
entry_same g h k [] e q p = none_some q
entry_same g h k (x ∷ es) e q p =
    ⊎_elim
    (λ (c : (eqb x.made k && is_present x) ≡ true).
    let y : x ≡ e = some_same (rw c at q) in
    let m : eqb (g x).made k ≡ true = ap (λ (z : ℕ). eqb z k) (h x) ∙ (and_true (eqb x.made k) (is_present x) c).0 in
    let n : is_present (g x) ≡ true = rw y p in
    rw (c, m, n) (ap (λ (z : Entry). some (g z)) y))
    (λ (c : (eqb x.made k && is_present x) ≡ false). rw (c, c) (entry_same g h k es e (rw c at q) p))
    (bool_cases (eqb x.made k && is_present x))

pub entry_gone : (g : Entry → Entry) → Same g → ((e : Entry) → is_present (g e) ≡ false) → (k : ℕ) (es : List Entry) → Distinct (makers es) → entry_of k (changed g k es) ≡ none
unfolding entry_of changed makers
entry_gone g h p k [] d = refl
entry_gone g h p k (x ∷ es) d =
    ⊎_elim
    (λ (c : (eqb x.made k && is_present x) ≡ true).
    let q : x.made ≡ k = eqb-true x.made k (and_true (eqb x.made k) (is_present x) c).0 in
    let u = unnamed k es (λ i. d.0 (subst (λ (z : ℕ). Has z (makers es)) (sym q) i)) in
    let n : (eqb (g x).made k && is_present (g x)) ≡ false = rw (p x) (and_wrong (eqb (g x).made k)) in
    rw (c, n) u)
    (λ (c : (eqb x.made k && is_present x) ≡ false). rw (c, c) (entry_gone g h p k es d.1))
    (bool_cases (eqb x.made k && is_present x))

-- ---- a store and a rename

pub unchanged : (g : Entry → Entry) (k : ℕ) (l : List Entry) → entry_of k l ≡ none → changed g k l ≡ l
unfolding entry_of changed
unchanged g k [] q = refl
unchanged g k (e ∷ l) q =
    ⊎_elim
    (λ (c : (eqb e.made k && is_present e) ≡ true). none_some (sym (rw c at q)))
    (λ (c : (eqb e.made k && is_present e) ≡ false). rw c (ap (λ (z : List Entry). e ∷ z) (unchanged g k l (rw c at q))))
    (bool_cases (eqb e.made k && is_present e))

module _ (es : List Entry) (w : Rooted es) (g : Entry → Entry) (h : Same g) (p : (e : Entry) → (g e).inside ≡ e.inside) (c : (e : Entry) → (g e).kind ≡ e.kind) (k : ℕ) where
  kept_present : (e : Entry) → is_present e ≡ true → is_present (g e) ≡ true
  unfolding is_present
  kept_present e q = rw (c e) q

  kept_stays : Stays es (changed g k es)
  kept_stays j e q =
      ⊎_elim
      (λ (y : j ≡ k).
      let q₁ : entry_of k es ≡ some e = ap (λ (x : ℕ). entry_of x es) (sym y) ∙ q in
      let z = entry_same g h k es e q₁ (kept_present e (entry_made k es e q₁).1) in
      (g e, ap (λ (x : ℕ). entry_of x (changed g k es)) y ∙ z, p e, c e))
      (λ (y : j ≡ k → ⊥). (e, entry_other g h k j y es ∙ q, refl, refl))
      (eq_or_ne j k)

  kept_back : (j : ℕ) (x : Entry) → entry_of j (changed g k es) ≡ some x → (e : Entry) × (entry_of j es ≡ some e) × (x.inside ≡ e.inside)
  kept_back j x q = go (entry_of j es) refl
    where
      go : (o : Option Entry) → entry_of j es ≡ o → (e : Entry) × (entry_of j es ≡ some e) × (x.inside ≡ e.inside)
      go none y =
          ⊎_elim
          (λ (z : j ≡ k).
          let a : changed g k es ≡ es = unchanged g k es (ap (λ (v : ℕ). entry_of v es) (sym z) ∙ y) in
          none_some (sym y ∙ ap (entry_of j) (sym a) ∙ q))
          (λ (z : j ≡ k → ⊥). none_some (sym y ∙ sym (entry_other g h k j z es) ∙ q))
          (eq_or_ne j k)
      go (some e) y = let (z, a, b, _) = kept_stays j e y in (e, y, ap (λ (v : Entry). v.inside) (some_same (sym q ∙ a)) ∙ b)

  kept_rooted : Rooted (changed g k es)
  kept_rooted =
      let n = makers-changed g h k es in
      record {
        alone = rw n w.alone;
        rootless = λ i. w.rootless (rw n at i);
        stands = λ j x q.
            let (e, y, i) = kept_back j x q in
            rw i (stays_stands es (changed g k es) kept_stays e.inside (w.stands j e y));
        up = λ j x q.
            let (e, y, i) = kept_back j x q in
            let (s, u) = w.up j e y in
            (s, stays_up es (changed g k es) kept_stays s j u);
      }

-- ---- a make

entry-behind : (k : ℕ) (es : List Entry) (n e : Entry) → entry_of k es ≡ some e → entry_of k (es ++ (n ∷ [])) ≡ some e
unfolding entry_of
entry-behind k [] n e q = none_some q
entry-behind k (x ∷ es) n e q =
    ⊎_elim
    (λ (c : (eqb x.made k && is_present x) ≡ true). rw c (rw c at q))
    (λ (c : (eqb x.made k && is_present x) ≡ false). rw c (entry-behind k es n e (rw c at q)))
    (bool_cases (eqb x.made k && is_present x))

pub entry_last : (k : ℕ) (es : List Entry) (n e : Entry) → entry_of k (es ++ (n ∷ [])) ≡ some e → (entry_of k es ≡ some e) ⊎ ((e ≡ n) × (n.made ≡ k))
unfolding entry_of
entry_last k [] n e q =
    ⊎_elim
    (λ (c : (eqb n.made k && is_present n) ≡ true). inr (sym (some_same (rw c at q)), eqb-true n.made k (and_true (eqb n.made k) (is_present n) c).0))
    (λ (c : (eqb n.made k && is_present n) ≡ false). none_some (rw c at q))
    (bool_cases (eqb n.made k && is_present n))
entry_last k (x ∷ es) n e q =
    ⊎_elim
    (λ (c : (eqb x.made k && is_present x) ≡ true). inl (rw c (rw c at q)))
    (λ (c : (eqb x.made k && is_present x) ≡ false). ⊎_elim (λ y. inl (rw c y)) (λ y. inr y) (entry_last k es n e (rw c at q)))
    (bool_cases (eqb x.made k && is_present x))

entry_new : (k : ℕ) (es : List Entry) (n : Entry) → entry_of k es ≡ none → n.made ≡ k → is_present n ≡ true → entry_of k (es ++ (n ∷ [])) ≡ some n
unfolding entry_of
entry_new k [] n q m p = rw (eq-eqb n.made k m, p)
entry_new k (x ∷ es) n q m p =
    ⊎_elim
    (λ (c : (eqb x.made k && is_present x) ≡ true). none_some (sym (rw c at q)))
    (λ (c : (eqb x.made k && is_present x) ≡ false). rw c (entry_new k es n (rw c at q) m p))
    (bool_cases (eqb x.made k && is_present x))

has_last : (x : ℕ) (es : List Entry) (n : Entry) → Has x (makers (es ++ (n ∷ []))) → Has x (makers es) ⊎ (x ≡ n.made)
unfolding makers
has_last x es n i = has_more (makers es) n.made x (rw (makers-append es (n ∷ [])) at i)

alone_last : (es : List Entry) (n : Entry) → Distinct (makers es) → (Has n.made (makers es) → ⊥) → Distinct (makers (es ++ (n ∷ [])))
unfolding makers
alone_last es n d h = rw (makers-append es (n ∷ [])) (distinct_more (makers es) n.made d h)

make_rooted : (es : List Entry) → Rooted es → (n : Entry) → (Has n.made (makers es) → ⊥) → (n.made ≡ root → ⊥) → is_present n ≡ true → Stands n.inside es → Rooted (es ++ (n ∷ []))
make_rooted es w n fresh proper p st =
    let fs = es ++ (n ∷ []) in
    let h : Stays es fs = λ k e q. (e, entry-behind k es n e q, refl, refl) in
    record {
      alone = alone_last es n w.alone fresh;
      rootless = λ i. ⊎_elim (λ j. w.rootless j) (λ (q : root ≡ n.made). proper (sym q)) (has_last root es n i);
      stands = λ k e q.
          ⊎_elim
          (λ y. stays_stands es fs h e.inside (w.stands k e y))
          (λ y. let a : e ≡ n = y.0 in rw a (stays_stands es fs h n.inside st))
          (entry_last k es n e q);
      up = λ k e q.
          ⊎_elim
          (λ y. let (s, u) = w.up k e y in (s, stays_up es fs h s k u))
          (λ y.
          let a : e ≡ n = y.0 in
          let (s, u) = up_from es w n.inside st in
          (suc s, (e, q, rw a (stays_up es fs h s n.inside u))))
          (entry_last k es n e q);
    }

-- ---- a remove

has_entries_lem : (f k : ℕ) (es : List Entry) (e : Entry) → entry_of k es ≡ some e → e.inside ≡ f → has_entries f es ≡ true
unfolding entry_of has_entries is_in
has_entries_lem f k [] e q i = none_some q
has_entries_lem f k (x ∷ es) e q i =
    ⊎_elim
    (λ (c : (eqb x.made k && is_present x) ≡ true).
    let y : x ≡ e = some_same (rw c at q) in
    let a = (and_true (eqb x.made k) (is_present x) c).1 in
    let b : eqb x.inside f ≡ true = rw y (eq-eqb e.inside f i) in
    rw (a, b))
    (λ (c : (eqb x.made k && is_present x) ≡ false). rw (has_entries_lem f k es e (rw c at q) i) (or_true (is_present x && eqb x.inside f)))
    (bool_cases (eqb x.made k && is_present x))
  where
    or_true : (b : Bool) → (b || true) ≡ true
    or_true true = refl
    or_true false = refl

module _ (es : List Entry) (w : Rooted es) (k : ℕ) (e : Entry) (q : entry_of k es ≡ some e) (free : (eqb e.kind 1 && has_entries e.made es) ≡ false) where
  rest : List Entry
  rest = changed removed k es

  keeps : Same removed
  unfolding removed
  keeps x = refl

  gone : entry_of k rest ≡ none
  unfolding rest removed is_present
  gone = entry_gone removed keeps (λ x. refl) k es w.alone

  other : (j : ℕ) → (j ≡ k → ⊥) → entry_of j rest ≡ entry_of j es
  unfolding rest
  other j d = entry_other removed keeps k j d es

  -- nothing lies in it
  not_inside : (j : ℕ) (x : Entry) → entry_of j es ≡ some x → x.inside ≡ k → ⊥
  not_inside j x y i =
      let (m, p) = entry_made k es e q in
      ⊎_elim
      (λ (z : x.inside ≡ root). w.rootless (subst (λ (v : ℕ). Has v (makers es)) (sym i ∙ z) (entry_in_lem k es e q)))
      (λ z.
      let (g, a, b) = z in
      let c : g ≡ e = some_same (sym a ∙ ap (λ (v : ℕ). entry_of v es) i ∙ q) in
      let d : e.kind ≡ 1 = rw (← c) b in
      let f : has_entries e.made es ≡ true = has_entries_lem e.made j es x y (i ∙ sym m) in
      not_both (eqb e.kind 1 && has_entries e.made es) (true_and (eqb e.kind 1) (has_entries e.made es) (eq-eqb e.kind 1 d) f) free)
      (w.stands j x y)

  up_still : (s j : ℕ) → (j ≡ k → ⊥) → Up s j es → Up s j rest
  up_still zero j d u = u
  up_still (suc s) j d (x, y, u) = (x, other j d ∙ y, up_still s x.inside (not_inside j x y) u)

  still : (j : ℕ) (x : Entry) → entry_of j rest ≡ some x → (j ≡ k → ⊥) × (entry_of j es ≡ some x)
  still j x y =
      let d : j ≡ k → ⊥ = λ (z : j ≡ k). none_some (sym gone ∙ ap (λ (v : ℕ). entry_of v rest) (sym z) ∙ y) in
      (d, sym (other j d) ∙ y)

  remove_rooted : Rooted rest
  unfolding rest
  remove_rooted =
      let n = makers-changed removed keeps k es in
      record {
        alone = rw n w.alone;
        rootless = λ i. w.rootless (rw n at i);
        stands = λ j x y.
            let (d, z) = still j x y in
            ⊎_elim
            (λ a. inl a)
            (λ a. let (g, b, c) = a in inr (g, other x.inside (not_inside j x z) ∙ b, c))
            (w.stands j x z);
        up = λ j x y.
            let (d, z) = still j x y in
            let (s, u) = w.up j x z in
            (s, up_still s j d u);
      }

-- ---- a move

module _ (es : List Entry) (w : Rooted es) (r : Rec) (k : ℕ) (e : Entry) (q : entry_of k es ≡ some e) (st : Stands (folder_of r) es) (apart : is_below k (folder_of r) es ≡ false) where
  turned : List Entry
  turned = changed (moved r) k es

  holds : Same (moved r)
  unfolding moved
  holds x = refl

  there : entry_of k turned ≡ some (moved r e)
  unfolding turned moved is_present
  there = entry_same (moved r) holds k es e q (entry_made k es e q).1

  others : (j : ℕ) → (j ≡ k → ⊥) → entry_of j turned ≡ entry_of j es
  unfolding turned
  others j d = entry_other (moved r) holds k j d es

  -- a way that does not come to k is still there
  avoids : (n s f : ℕ) → s < n → Up s f es → comes_to n k f es ≡ false → Up s f turned
  unfolding comes_to
  avoids zero s f h u c = absurd (omega arith)
  avoids (suc n) zero f h u c = u
  avoids (suc n) (suc s) f h (x, y, u) c =
      let (a, b) = or_false (eqb f k) (elim (entry_of f es) [ none ↦ false | some g ↦ comes_to n k g.inside es ]) c in
      let d : f ≡ k → ⊥ = eqb-false f k a in
      let v : comes_to n k x.inside es ≡ false = rw y at b in
      (x, others f d ∙ y, avoids n s x.inside (omega arith) u v)

  up_folder : (s : ℕ) × Up s (folder_of r) turned
  unfolding is_below
  up_folder =
      let (s, u) = up_from es w (folder_of r) st in
      let few = few_steps es (unnamed root es w.rootless) s (folder_of r) u in
      (s, avoids (suc (length es)) s (folder_of r) (omega (arith, present_few es)) u apart)

  up_again : (s j : ℕ) → Up s j es → (b : ℕ) × Up b j turned
  unfolding moved
  up_again zero j u = (0, u)
  up_again (suc s) j (x, y, u) =
      ⊎_elim
      (λ (z : j ≡ k).
      let (b, v) = up_folder in
      (suc b, (moved r e, ap (λ (a : ℕ). entry_of a turned) z ∙ there, v)))
      (λ (z : j ≡ k → ⊥). let (b, v) = up_again s x.inside u in (suc b, (x, others j z ∙ y, v)))
      (eq_or_ne j k)

  folder_again : (f : ℕ) → Stands f es → Stands f turned
  unfolding moved
  folder_again f (inl z) = inl z
  folder_again f (inr (g, y, c)) =
      ⊎_elim
      (λ (z : f ≡ k).
      let a : g ≡ e = some_same (sym y ∙ ap (λ (v : ℕ). entry_of v es) z ∙ q) in
      inr (moved r e, ap (λ (v : ℕ). entry_of v turned) z ∙ there, rw (← a) c))
      (λ (z : f ≡ k → ⊥). inr (g, others f z ∙ y, c))
      (eq_or_ne f k)

  move_rooted : Rooted turned
  unfolding turned moved
  move_rooted =
      let n = makers-changed (moved r) holds k es in
      record {
        alone = rw n w.alone;
        rootless = λ i. w.rootless (rw n at i);
        stands = λ j x y.
            ⊎_elim
            (λ (z : j ≡ k).
            let a : x ≡ moved r e = some_same (sym y ∙ ap (λ (v : ℕ). entry_of v turned) z ∙ there) in
            rw a (folder_again (folder_of r) st))
            (λ (z : j ≡ k → ⊥). folder_again x.inside (w.stands j x (sym (others j z) ∙ y)))
            (eq_or_ne j k);
        up = λ j x y.
            ⊎_elim
            (λ (z : j ≡ k). let (s, u) = w.up k e q in rw z (up_again s k u))
            (λ (z : j ≡ k → ⊥). let (s, u) = w.up j x (sym (others j z) ∙ y) in up_again s j u)
            (eq_or_ne j k);
      }

-- ---- what a fitting record has passed

then_fits : (v x : Verdict) → and_then v x ≡ fits → (v ≡ fits) × (x ≡ fits)
unfolding and_then
then_fits fits x h = (refl, h)
then_fits (aside n k) x h = aside_fits_lem h

folder_stands_lem : (f : ℕ) (es : List Entry) → folder_stands f es ≡ fits → Stands f es
unfolding folder_stands is_folder
folder_stands_lem f es h =
    ⊎_elim
    (λ (c : eqb f root ≡ true). inl (eqb-true f root c))
    (λ (c : eqb f root ≡ false). inr (go (entry_of f es) refl (rw c at h)))
    (bool_cases (eqb f root))
  where
    go : (o : Option Entry) → entry_of f es ≡ o → is_folder o ≡ fits → (g : Entry) × (entry_of f es ≡ some g) × (g.kind ≡ 1)
    go none q d = aside_fits_lem d
    go (some g) q d =
        ⊎_elim
        (λ c. (g, q, eqb-true g.kind 1 c.0))
        (λ c. aside_fits_lem (sym c.1 ∙ d))
        (cond_cases (eqb g.kind 1) fits (aside 14 g.made))

-- ---- one record

module _ (t : Tree) (r : Rec) (w : Rooted t.entries) (fresh : Has (self_of r) (makers t.entries) → ⊥) (proper : self_of r ≡ root → ⊥) where
  es : List Entry
  es = t.entries

  object : Option Entry
  object = entry_of (object_of r) t.entries

  made : (leb (op r) 2 ≡ true) → (op r ≡ 0 → ⊥) → judge_make r es ≡ fits → Rooted (es ++ (new_entry r ∷ []))
  unfolding judge_make es new_entry is_present
  made c z h =
      let (a, _) = then_fits (folder_stands (folder_of r) es) (free_label (holder_of root (folder_of r) (label_of r) es)) h in
      make_rooted es w (new_entry r) fresh proper (rw (ne_eqb (op r) 0 z)) (folder_stands_lem (folder_of r) es a)

  taken_away : (o : Option Entry) → object ≡ o → judge_remove r es o ≡ fits → Rooted (changed removed (object_of r) es)
  unfolding judge_remove es object rest
  taken_away none q h = aside_fits_lem h
  taken_away (some e) q h =
      ⊎_elim
      (λ c. aside_fits_lem (sym c.1 ∙ h))
      (λ c. remove_rooted es w (object_of r) e q c.0)
      (cond_cases (eqb e.kind 1 && has_entries e.made es) (aside 16 e.made) (cond (unseen r e.contents || unseen r e.placing) (aside 17 e.made) fits))

  put_elsewhere : (o : Option Entry) → object ≡ o → judge_move r es o ≡ fits → Rooted (changed (moved r) (object_of r) es)
  unfolding judge_move judge_place es object turned
  put_elsewhere none q h = aside_fits_lem h
  put_elsewhere (some e) q h =
      ⊎_elim
      (λ c. aside_fits_lem (sym c.1 ∙ h))
      (λ c.
      let last = free_label (holder_of e.made (folder_of r) (label_of r) es) in
      let (a, b) = then_fits (folder_stands (folder_of r) es) (judge_place r es e) (sym c.1 ∙ h) in
      ⊎_elim
      (λ d. aside_fits_lem (sym d.1 ∙ b))
      (λ d.
      let m : e.made ≡ object_of r = (entry_made (object_of r) es e q).0 in
      let n : is_below (object_of r) (folder_of r) es ≡ false = rw m at d.0 in
      move_rooted es w r (object_of r) e q (folder_stands_lem (folder_of r) es a) n)
      (cond_cases (is_below e.made (folder_of r) es) (aside 25 e.made) last))
      (cond_cases (unseen r e.placing) (aside 17 e.made) (and_then (folder_stands (folder_of r) es) (judge_place r es e)))

  acts : (op r ≡ 0 → ⊥) → judge r t ≡ fits → Rooted (effect r t).entries
  unfolding judge effect es object stored renamed
  acts z h =
      ⊎_elim
      (λ (c : leb (op r) 2 ≡ true). rw c (made c z (rw c at h)))
      (λ (c : leb (op r) 2 ≡ false).
      ⊎_elim
      (λ (d : eqb (op r) 3 ≡ true). rw (c, d) (kept_rooted es w (stored r) (λ e. refl) (λ e. refl) (λ e. refl) (object_of r)))
      (λ (d : eqb (op r) 3 ≡ false).
      ⊎_elim
      (λ (f : eqb (op r) 4 ≡ true). rw (c, d, f) (taken_away (entry_of (object_of r) t.entries) refl (rw (c, d, f) at h)))
      (λ (f : eqb (op r) 4 ≡ false).
      ⊎_elim
      (λ (g : eqb (op r) 5 ≡ true). rw (c, d, f, g) (kept_rooted es w (renamed r) (λ e. refl) (λ e. refl) (λ e. refl) (object_of r)))
      (λ (g : eqb (op r) 5 ≡ false).
      ⊎_elim
      (λ (i : eqb (op r) 6 ≡ true). rw (c, d, f, g, i) w)
      (λ (i : eqb (op r) 6 ≡ false). rw (c, d, f, g, i) (put_elsewhere (entry_of (object_of r) t.entries) refl (rw (c, d, f, g, i) at h)))
      (bool_cases (eqb (op r) 6)))
      (bool_cases (eqb (op r) 5)))
      (bool_cases (eqb (op r) 4)))
      (bool_cases (eqb (op r) 3)))
      (bool_cases (leb (op r) 2))

  -- one record keeps it, from any tree that has it
  pub step_rooted : (op r ≡ 0 → ⊥) → Rooted (step t r).entries
  unfolding step apply
  step_rooted z = go (judge r t) refl
    where
      go : (v : Verdict) → judge r t ≡ v → Rooted (apply v r t).entries
      go fits h = acts z h
      go (aside n k) h = w

-- ---- a list of records

pub replay_rooted : (t : Tree) (l : List Rec) → Rooted t.entries → Distinct (selves l) → (Has root (selves l) → ⊥) → ((r : Rec) → Has r l → op r ≡ 0 → ⊥)
    → ((k : ℕ) → Has k (makers t.entries) → Has k (selves l) → ⊥) → Rooted (replay_from t l).entries
unfolding replay_from selves
replay_rooted t [] w d n o a = w
replay_rooted t (r ∷ l) w d n o a =
    replay_rooted (step t r) l
    (step_rooted t r w (λ i. a (self_of r) i (inl refl)) (λ (q : self_of r ≡ root). n (inl (sym q))) (o r (inl refl)))
    d.1 (λ i. n (inr i)) (λ x i. o x (inr i))
    (λ k i j. ⊎_elim (λ y. a k y (inr j)) (λ (q : k ≡ self_of r). d.0 (subst (λ (z : ℕ). Has z (selves l)) q j)) (names-step t r k i))

pub no_entries : Rooted []
unfolding makers entry_of
no_entries = record { alone = tt; rootless = λ i. i; stands = λ j x y. none_some y; up = λ j x y. none_some y }

pub rooted_reaches : (es : List Entry) → Rooted es → Reaches es
rooted_reaches es w k e q =
    let (s, u) = w.up k e q in
    (s, u, omega (arith, few_steps es (unnamed root es w.rootless) s k u))

-- ---- which folders are at or below an entry

-- so a folder is found at or below an entry exactly when a way leads from it to the entry
pub below_exactly : (es : List Entry) → Rooted es → (k f : ℕ) → Stands f es → (is_below k f es ≡ true) ↔ ((s : ℕ) × Way s k f es)
unfolding is_below
below_exactly es w k f h = (
  λ b. let (s, v, _) = comes_way es (suc (length es)) k f b in (s, v),
  λ p.
      let (s, v) = p in
      let (n, u) = up_from es w f h in
      let no_root = unnamed root es w.rootless in
      way_comes es (suc (length es)) s k f v (omega (arith, way_short es no_root s n k f v u, few_steps es no_root n f u, present_few es)),
)
