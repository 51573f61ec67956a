-- Why 27 never strikes in a meeting: what is folded was heard of by every unit that acts.
-- Assumes nothing.
use Prim.Native.Nat.{ℕ, zero, suc, ◌≤◌, ◌<◌}
use native.Mathlib.Omega.{arith}
use mathlib.Core.Path.{◌≡◌, refl, sym, ap, ◌∙◌, subst}
use mathlib.Core.Logic.{◌⊎◌, inl, inr, ⊎_elim}
use mathlib.Core.Bool.{Bool, true, false, cond}
use mathlib.Core.Option.{Option, none, some}
use mathlib.Core.List.{List, [], ◌∷◌}
use lib.Dec.{eqb}
use lib.ListN.{get_or, take}
use borrow.Author.Tests.{eqb-true}
use Rattle.model.specs.Record.{Rec, unit, num, seen, well_formed}
use Rattle.model.specs.Log.{count}
use Rattle.model.specs.Replay.{Tree}
use Rattle.byte_slice.proofs.Numbers.{lt_or_ge, eq_or_ne, bool_cases}
use Rattle.log_laws.specs.Members.{Has, Sub, Agree}
use Rattle.log_laws.specs.Sound.{Sound}
use Rattle.log_laws.proofs.Formed.{well_unit, well_own}
use Rattle.log_laws.proofs.Counts.{number_held, find_held, seen_within}
use Rattle.base_model.specs.Base.{is_listed}
use Rattle.call_model.specs.Fold.{last_of, heard_from, heard_by_all, heard_run, counts_as_base, longest, run_of}
use Rattle.fold_laws.specs.Heard.{Heard, Made, Behind}
use Rattle.fold_laws.proofs.Hearing.{heard_other, heard_counted, heard_seen, heard_none, all_heard}

-- what a unit saw never falls
pub saw_more : (used : List Rec) → Agree used used → (s r : Rec) → Has s used → Made used r → well_formed s ≡ true → well_formed r ≡ true
    → unit s ≡ unit r → num s < num r → (v : ℕ) → v < 8 → seen s v ≤ seen r v
saw_more used g s r i m fs fr e n v k =
    let own : seen r (unit r) ≡ count (unit r) m.held = m.saw (unit r) (well_unit r fr) in
    let own' : seen r (unit r) ≡ count (unit s) m.held = own ∙ ap (λ (u : ℕ). count u m.held) (sym e) in
    let (t, j, a, b) = find_held m.held (unit s) (num s) m.sound (omega (arith, well_own s fs)) (omega (arith, well_own r fr)) in
    let q : t ≡ s = g t s (m.from t j) i a b in
    let z : seen t v ≤ count v m.held = seen_within m.held t m.sound j v k in
    omega (arith, subst (λ (x : Rec). seen x v ≤ count v m.held) q z, m.saw v k)

-- a record that the unit b does not hold has seen all that b folded
module _ (used held : List Rec) (b : ℕ) (g : Agree used used) (h : Sound held) (inU : Sub held used)
    (made : (r : Rec) → Has r used → Made used r) (form : (r : Rec) → Has r used → well_formed r ≡ true)
    (own : (r : Rec) → Has r used → unit r ≡ b → Has r held) where
  -- a number that b counts is held
  counted_held : (r : Rec) → Has r used → num r ≤ count (unit r) held → Has r held
  counted_held r i n =
      let (t, j, a, c) = find_held held (unit r) (num r) h (omega (arith, well_own r (form r i))) n in
      subst (λ (x : Rec). Has x held) (g t r (inU t j) i a c) j

  pub never_below : (q : Rec) → unit q < 8 → Behind b used held q → (r : Rec) → Has r used → (Has r held → ⊥) → num q ≤ seen r (unit q)
  never_below q q8 f r i d =
      ⊎_elim
      (λ e. absurd (d (own r i e)))
      (λ e.
      let (s, j, a, k) = f r i e in
      ⊎_elim
      (λ n.
      let fs = form s (inU s j) in
      let fr = form r i in
      ⊎_elim
      (λ x. omega (arith, saw_more used g s r (inU s j) (made r i) fs fr a n (unit q) q8))
      (λ x. let w : seen r (unit q) ≡ seen r (unit r) = ap (seen r) (x.0 ∙ a) in omega (arith, x.1, well_own r fr))
      k)
      (λ n.
      let c : num s ≤ count (unit r) held = subst (λ (u : ℕ). num s ≤ count u held) a (number_held held s h j) in
      absurd (d (counted_held r i (omega arith))))
      (lt_or_ge (num s) (num r)))
      (eq_or_ne (unit r) b)

-- ---- what a fold asks of the records that it folds

last_has : (w : ℕ) (l : List Rec) (s : Rec) → last_of w l ≡ some s → Has s l × (unit s ≡ w)
unfolding last_of
last_has w [] s e = absurd (let z : ◌≡◌ {A = ℕ} 0 1 = cc in omega arith)
last_has w (r ∷ l) s e = go (last_of w l) refl e (λ z. last_has w l s z)
  where
    here : (t : Bool) → eqb (unit r) w ≡ t → cond t (some r) none ≡ some s → Has s (r ∷ l) × (unit s ≡ w)
    here true q z = let y : s ≡ r = cc in (inl y, ap unit y ∙ eqb-true (unit r) w q)
    here false q z = absurd (let y : ◌≡◌ {A = ℕ} 0 1 = cc in omega arith)

    go : (o : Option Rec) → last_of w l ≡ o → elim o [ none ↦ cond (eqb (unit r) w) (some r) none | some t ↦ some t ] ≡ some s
        → (last_of w l ≡ some s → Has s l × (unit s ≡ w)) → Has s (r ∷ l) × (unit s ≡ w)
    go none q z k = here (eqb (unit r) w) refl z
    go (some t) q z k =
        let y : t ≡ s = cc in
        let (i, a) = k (q ∙ ap some y) in
        (inr i, a)

-- heard by all: of each listed unit but the own one a record in the log has heard of it
pub heard_some : (m u : ℕ) (v : List ℕ) (l : List Rec) (q : Rec) → get_or v (unit q) 0 < num q → unit q < 8 → heard_by_all m u v l q ≡ true
    → (w : ℕ) → w < 8 → is_listed m w ≡ true → (w ≡ u → ⊥) → (s : Rec) × Has s l × (unit s ≡ w) × Heard q s
heard_some m u v l q n q8 e w k lw d =
    go (last_of w l) refl (subst (λ (x : List ℕ). num q ≤ get_or x (unit q) 0) (heard_other u v l w d) (all_heard m u v l q e w k lw))
  where
    go : (o : Option Rec) → last_of w l ≡ o → num q ≤ get_or (heard_from v (last_of w l)) (unit q) 0 → (s : Rec) × Has s l × (unit s ≡ w) × Heard q s
    go none z h = let y : num q ≤ get_or (heard_from v none) (unit q) 0 = rw z at h in absurd (omega (arith, heard_none v (unit q)))
    go (some s) z h =
        let (i, a) = last_has w l s z in
        let y : num q ≤ get_or (heard_from v (some s)) (unit q) 0 = rw z at h in
        ⊎_elim
        (λ (x : unit q ≡ unit s).
        let c : get_or (heard_from v (some s)) (unit q) 0 ≡ num s = rw x (heard_counted v s (omega arith)) in
        (s, i, a, inr (x, omega arith)))
        (λ (x : unit q ≡ unit s → ⊥). (s, i, a, inl (omega (arith, heard_seen v s (unit q) q8 x))))
        (eq_or_ne (unit q) (unit s))

run_heard : (m u : ℕ) (v : List ℕ) (all l : List Rec) (n : ℕ) → n ≤ heard_run m u v all l → (q : Rec) → Has q (take n l) → heard_by_all m u v all q ≡ true
unfolding heard_run
run_heard m u v all l zero h q i = absurd i
run_heard m u v all [] (suc n) h q i = absurd i
run_heard m u v all (r ∷ l) (suc n) h q i = go (bool_cases (heard_by_all m u v all r)) i (λ a b. run_heard m u v all l n a q b)
  where
    go : (heard_by_all m u v all r ≡ true) ⊎ (heard_by_all m u v all r ≡ false) → Has q (r ∷ take n l)
        → (n ≤ heard_run m u v all l → Has q (take n l) → heard_by_all m u v all q ≡ true) → heard_by_all m u v all q ≡ true
    go (inl t) (inl e) f = ap (heard_by_all m u v all) e ∙ t
    go (inl t) (inr j) f = let k : suc n ≤ suc (heard_run m u v all l) = rw t at h in f (omega arith) j
    go (inr t) j f = let k : suc n ≤ 0 = rw t at h in absurd (omega arith)

pub longest_most : (t : Tree) (l : List Rec) (n : ℕ) → longest t l n ≤ n
unfolding longest
longest_most t l zero = omega arith
longest_most t l (suc n) = go (counts_as_base t l (suc n)) (longest_most t l n)
  where
    go : (b : Bool) → longest t l n ≤ n → cond b (suc n) (longest t l n) ≤ suc n
    go true k = omega arith
    go false k = omega arith

-- what is folded was heard of by each unit that acts, if the list names them
pub folded-behind : (m u : ℕ) (v : List ℕ) (t : Tree) (l used : List Rec) → ((r : Rec) → Has r used → (unit r < 8) × (is_listed m (unit r) ≡ true))
    → (q : Rec) → get_or v (unit q) 0 < num q → unit q < 8 → Has q (take (run_of m u v t l) l) → Behind u used l q
unfolding run_of
folded-behind m u v t l used named q n q8 i r j d =
    let e = run_heard m u v l l (longest t l (heard_run m u v l l)) (longest_most t l (heard_run m u v l l)) q i in
    heard_some m u v l q n q8 e (unit r) (named r j).0 (named r j).1 d
