-- What the premises that folding adds tell of every moment: lists that name each unit that acts, and vectors that do not fall. So a record
-- that a unit does not hold covers the base vector of that unit, and its unit is listed there.
-- Assumes nothing.
use Prim.Native.Nat.{ℕ, ◌≤◌, ◌<◌}
use native.Mathlib.Omega.{arith}
use mathlib.Core.Path.{◌≡◌, refl, sym, ap, ◌∙◌, subst}
use mathlib.Core.Logic.{◌⊎◌, inl, inr, ⊎_elim}
use mathlib.Core.Bool.{Bool, true, false, not, ◌||◌, false≢true}
use mathlib.Core.List.{List, [], ◌∷◌, ◌++◌}
use lib.Dec.{eqb}
use lib.ListN.{get_or, take}
use borrow.Author.Tests.{eqb-true, eq-eqb, not-true}
use Rattle.model.specs.Record.{Rec, unit, seen}
use Rattle.model.specs.Log.{count, records_of}
use Rattle.base_model.specs.Base.{is_listed, base_vector, base_in}
use Rattle.call_model.specs.Outcome.{Outcome}
use Rattle.call_model.specs.Fold.{fold_of}
use Rattle.byte_slice.proofs.Numbers.{bool_cases, and_true, true_and, cond_cases}
use Rattle.log_laws.specs.Members.{Has, Sub, Agree}
use Rattle.log_laws.proofs.Counts.{count-nil}
use Rattle.take_laws.proofs.Union.{all_eight}
use Rattle.fold_laws.specs.Worlds as F
use Rattle.fold_laws.proofs.Stores.{covers_base}
use Rattle.fold_laws.proofs.Worlds as W
use Rattle.machine.specs.Machine.{Call, starts, acts, hands_out, writes, takes, folds, unit_of, Bench, bare, held, done, folded_left, list_by, folder_by, fallen_by, after, next, play}
use Rattle.machine.specs.Claim.{names_each, named, is_among, steady}
use Rattle.machine.proofs.Folding.{fold_cases}
use Rattle.machine.proofs.Stores.{store_of, world, accepted_is, folded_zero, fresh_is, Moves, still, event}
use Rattle.machine.proofs.Reach.{Inv, moves_of, inv_next, put_cases}

-- ---- lists that grow

named_parts : (a b : List ℕ) (U : List Rec) → named (a ++ b) U ≡ true → (named a U ≡ true) × (named b U ≡ true)
unfolding named
named_parts [] b U e = (refl, e)
named_parts (m ∷ a) b U e =
    let (x, y) = and_true (names_each m U) (named (a ++ b) U) e in
    let (p, q) = named_parts a b U y in
    (true_and (names_each m U) (named a U) x p, q)

or_false : (a b : Bool) → (a || b) ≡ false → (a ≡ false) × (b ≡ false)
or_false true b e = absurd (false≢true (sym e))
or_false false b e = (refl, e)

among_parts : (u : ℕ) (a b : List ℕ) → is_among u (a ++ b) ≡ false → (is_among u a ≡ false) × (is_among u b ≡ false)
unfolding is_among
among_parts u [] b e = (refl, e)
among_parts u (x ∷ a) b e =
    let (p, q) = or_false (eqb x u) (is_among u (a ++ b)) e in
    let (y, z) = among_parts u a b q in
    (rw (p, y), z)

-- a unit that folds is not one whose vector falls
pub steady-at : (l fallen : List ℕ) → steady l fallen ≡ true → (b : ℕ) → (is_among b l ≡ false) ⊎ (is_among b fallen ≡ false)
unfolding steady is_among
steady-at [] fallen e b = inl refl
steady-at (u ∷ l) fallen e b =
    let (p, q) = and_true (not (is_among u fallen)) (steady l fallen) e in
    ⊎_elim
    (λ (k : eqb u b ≡ true). inr (subst (λ (x : ℕ). is_among x fallen ≡ false) (eqb-true u b k) (not-true (is_among u fallen) p)))
    (λ (k : eqb u b ≡ false). ⊎_elim (λ x. inl (ap (λ (t : Bool). t || is_among b l) k ∙ x)) (λ x. inr x) (steady-at l fallen q b))
    (bool_cases (eqb u b))

-- ---- what holds of every reachable bench

pub record Told (s : Bench) : Type 0 where
  pub back : (U : List Rec) → ((r : Rec) → Has r U → unit r < 8) → named s.lists U ≡ true → F.Back U (world s)
  pub lists : (U : List Rec) → ((r : Rec) → Has r U → unit r < 8) → named s.lists U ≡ true → W.Lists U (world s)
  pub own : (b : ℕ) → is_among b s.fallen ≡ false → F.Own b (world s)
  pub fresh : (b : ℕ) → is_among b s.folders ≡ false → s.folded b ≡ []

pub told-bare : Told bare
told-bare =
    record {
      back = λ U low e u q i. absurd i;
      lists = λ U low e u r i. subst (λ (s : F.Store). is_listed s.base.list (unit r) ≡ true) (sym fresh_is) (all_eight (unit r) (low r i));
      own = λ b e r i. absurd i;
      fresh = λ b e. refl;
    }

among_self : (u : ℕ) → is_among u (u ∷ []) ≡ false → ⊥
unfolding is_among
among_self u e = false≢true (sym (or_false (eqb u u) false e).0 ∙ eq-eqb u u refl)

-- nothing is folded where nothing was, but by an accepted fold
fresh-left : (archive : ℕ) (s : Bench) (c : Call) → is_among (unit_of c) (folder_by c (done archive s c)) ≡ false → s.folded (unit_of c) ≡ [] → folded_left s c (done archive s c) ≡ []
unfolding folded_left folder_by unit_of done
fresh-left archive s (starts u) e z = ⊎_elim (λ k. k.1) (λ k. k.1 ∙ z) (cond_cases (eqb (done archive s (starts u)).number 0) [] (s.folded u))
fresh-left archive s (acts u w work) e z = z
fresh-left archive s (hands_out u v lent) e z = z
fresh-left archive s (writes u lent) e z = z
fresh-left archive s (takes u n) e z = z
fresh-left archive s (folds u m work) e z =
    let o : Outcome = fold_of u (s.logs u) (s.bases u) m work in
    ⊎_elim
    (λ k. ap (λ (x : List Rec). x ++ take o.blocks (records_of (s.logs u))) z ∙ ap (λ (x : Outcome). take x.blocks (records_of (s.logs u))) k.1)
    (λ k. absurd (among_self u (subst (λ (x : List ℕ). is_among u x ≡ false) (accepted_is o (u ∷ []) (ap (λ (x : Outcome). x.number) k.0 ∙ folded_zero m (s.logs u) (s.bases u) _)) e)))
    (fold_cases u (s.logs u) (s.bases u) m work)

told_moved : (s : Bench) (c : Call) (o : Outcome) → F.Inv (world s) → Moves s c o → Told s
    → ((U : List Rec) → ((r : Rec) → Has r U → unit r < 8) → named (list_by c o ++ s.lists) U ≡ true → F.Back U (world (after s c o)) × W.Lists U (world (after s c o)))
    × ((b : ℕ) → is_among b (fallen_by (unit_of c) (held s (unit_of c)) (folded_left s c o ++ records_of o.log) ++ s.fallen) ≡ false → F.Own b (world (after s c o)))
told_moved s c o i (still q) t = (
  λ U low e.
      let (x, y) = named_parts (list_by c o) s.lists U e in
      (subst (F.Back U) (sym q) (t.back U low y), subst (W.Lists U) (sym q) (t.lists U low y)),
  λ b e.
      let (x, y) = among_parts b (fallen_by (unit_of c) (held s (unit_of c)) (folded_left s c o ++ records_of o.log)) s.fallen e in
      subst (F.Own b) (sym q) (t.own b y),
)
told_moved s c o i (event e a q names keeps) t = (
  λ U low k.
      let (x, y) = named_parts (list_by c o) s.lists U k in (
        subst (F.Back U) (sym q) (W.back_after U (world s) e low i a (names U x) (t.back U low y)),
        subst (W.Lists U) (sym q) (W.lists_after U (world s) e low (names U x) (t.lists U low y)),
      ),
  λ b k.
      let (x, y) = among_parts b (fallen_by (unit_of c) (held s (unit_of c)) (folded_left s c o ++ records_of o.log)) s.fallen k in
      subst (F.Own b) (sym q) (W.own_after b (world s) e i a (keeps b x) (t.own b y)),
)

fresh-next : (archive : ℕ) (s : Bench) (c : Call) → Told s → (b : ℕ) → is_among b (next archive s c).folders ≡ false → (next archive s c).folded b ≡ []
unfolding next after
fresh-next archive s c t b e =
    let o : Outcome = done archive s c in
    let (x, y) = among_parts b (folder_by c o) s.folders e in
    ⊎_elim
    (λ k.
    k.1
    ∙ fresh-left archive s c (subst (λ (u : ℕ). is_among u (folder_by c o) ≡ false) k.0 x) (subst (λ (u : ℕ). s.folded u ≡ []) k.0 (t.fresh b y)))
    (λ k. k.1 ∙ t.fresh b y)
    (put_cases s.folded (unit_of c) (folded_left s c o) b)

told_both : (archive : ℕ) (s : Bench) (c : Call) → Inv archive s → Told s
    → ((U : List Rec) → ((r : Rec) → Has r U → unit r < 8) → named (next archive s c).lists U ≡ true → F.Back U (world (next archive s c)) × W.Lists U (world (next archive s c)))
    × ((b : ℕ) → is_among b (next archive s c).fallen ≡ false → F.Own b (world (next archive s c)))
unfolding next after
told_both archive s c i t = told_moved s c (done archive s c) i.stored (moves_of archive s c i) t

pub told-next : (archive : ℕ) (s : Bench) (c : Call) → Inv archive s → Told s → Told (next archive s c)
told-next archive s c i t =
    let both = told_both archive s c i t in
    record { back = λ U low e. (both.0 U low e).0; lists = λ U low e. (both.0 U low e).1; own = both.1; fresh = fresh-next archive s c t }

pub told-play : (archive : ℕ) (cs : List Call) (s : Bench) → Inv archive s → Told s → Told (play archive s cs)
unfolding play
told-play archive [] s i t = t
told-play archive (c ∷ cs) s i t = told-play archive cs (next archive s c) (inv_next archive s c i) (told-next archive s c i t)

-- ---- what holds at the end held before

pub earlier : (archive : ℕ) (cs : List Call) (s : Bench)
    → ((U : List Rec) → named (play archive s cs).lists U ≡ true → named s.lists U ≡ true)
    × ((b : ℕ) → is_among b (play archive s cs).folders ≡ false → is_among b s.folders ≡ false)
    × ((b : ℕ) → is_among b (play archive s cs).fallen ≡ false → is_among b s.fallen ≡ false)
unfolding play next after
earlier archive [] s = (λ U e. e, λ b e. e, λ b e. e)
earlier archive (c ∷ cs) s =
    let o : Outcome = done archive s c in
    let (x, y, z) = earlier archive cs (next archive s c) in (
      λ U e. (named_parts (list_by c o) s.lists U (x U e)).1,
      λ b e. (among_parts b (folder_by c o) s.folders (y b e)).1,
      λ b e. (among_parts b (fallen_by (unit_of c) (held s (unit_of c)) (folded_left s c o ++ records_of o.log)) s.fallen (z b e)).1,
    )

-- ---- at a point: U, the records used up to the end

module _ (archive : ℕ) (s : Bench) (i : Inv archive s) (t : Told s) (U : List Rec) (more : Sub s.used U) (agree : Agree U U)
    (low : (r : Rec) → Has r U → unit r < 8) (all_named : named s.lists U ≡ true) (b : ℕ)
    (firm : (is_among b s.folders ≡ false) ⊎ (is_among b s.fallen ≡ false)) where
  -- a record that b does not hold covers the base of b: 27 is answered to none
  pub never_27 : (r : Rec) → Has r s.used → (Has r (held s b) → ⊥) → (u : ℕ) → u < 8 → get_or (base_vector (s.bases b)) u 0 ≤ seen r u
  unfolding held base_in
  never_27 r j d u k = go firm
    where
      go : (is_among b s.folders ≡ false) ⊎ (is_among b s.fallen ≡ false) → get_or (base_vector (s.bases b)) u 0 ≤ seen r u
      go (inl e) = omega (arith, (i.stored.kept b).counts u k, ap (count u) (t.fresh b e), count-nil u)
      go (inr e) =
          covers_base s.used b (store_of s b) (λ x y p q. agree x y (more x p) (more y q)) i.stored.formed i.stored.made (i.stored.kept b)
          (λ q p y n. t.back U low all_named b q p y (more y n)) (t.own b e) r j d u k

  -- and its unit is listed at b: nor is 26
  pub never_26 : (r : Rec) → Has r U → is_listed (base_in (s.bases b)).list (unit r) ≡ true
  never_26 = t.lists U low all_named b
