-- Rank order itself meets all three conditions: the identities of a sound log in its own order.
-- Assumes nothing.
use Prim.Native.Nat.{ℕ, suc, ◌<◌}
use native.Mathlib.Omega.{arith}
use mathlib.Core.Path.{◌≡◌, refl, sym, ap, ◌∙◌, subst}
use mathlib.Core.Logic.{inl, inr, ⊎_elim}
use mathlib.Core.Bool.{Bool, true, not, ◌&&◌, ◌||◌}
use mathlib.Core.Option.{Option, some}
use mathlib.Core.List.{List, [], ◌∷◌}
use lib.Dec.{leb, eqb}
use borrow.Author.Tests.{eq-eqb, ne_eqb, lt-leb}
use Rattle.model.specs.Record.{Rec, identity, unit_of, number_of, unit, num, seen, self_of}
use Rattle.model.specs.Log.{no_counts, by_id}
use Rattle.model.specs.Replay.{replay}
use Rattle.byte_slice.proofs.Numbers.{eq_or_ne, true_and}
use Rattle.log_laws.specs.Members.{Has as Member, Sub}
use Rattle.log_laws.specs.Sound.{SoundAfter, Sound}
use Rattle.log_laws.proofs.Counts.{count_plus, numbers, unit_of_lem, no_counts_lem}
use Rattle.log_laws.proofs.Ids.{held-by_id}
use Rattle.tree_laws.specs.Replayed.{Has, Distinct, selves}
use Rattle.tree_laws.proofs.Seen.{sound_distinct}
use Rattle.order_model.specs.Order.{times, each_once, is_held, all_held, names_all, found_first, in_order_of, has_seen, sees_none, seen_first, failed_of}
use Rattle.order_laws.proofs.Shown.{or_left, or_right, alike_itself}

-- ---- identities

pub self_unit : (r : Rec) → unit r < 8 → unit_of (self_of r) ≡ unit r
unfolding self_of identity
self_unit r h = omega arith

pub self_num : (r : Rec) → unit r < 8 → number_of (self_of r) ≡ num r
unfolding self_of identity
self_num r h = omega arith

pub member_selves : (l : List Rec) (r : Rec) → Member r l → Has (self_of r) (selves l)
unfolding selves
member_selves [] r i = absurd i
member_selves (x ∷ l) r (inl e) = inl (ap self_of e)
member_selves (x ∷ l) r (inr i) = inr (member_selves l r i)

-- ---- how often a name comes

pub times-nil : (k : ℕ) → times k [] ≡ 0
unfolding times
times-nil k = refl

pub times_own : (k : ℕ) (ks : List ℕ) → times k (k ∷ ks) ≡ suc (times k ks)
unfolding times
times_own k ks = rw (eq-eqb k k refl)

pub times_other : (j k : ℕ) (ks : List ℕ) → (k ≡ j → ⊥) → times j (k ∷ ks) ≡ times j ks
unfolding times
times_other j k ks d = rw (ne_eqb k j d)

pub times_none : (k : ℕ) (ks : List ℕ) → (Has k ks → ⊥) → times k ks ≡ 0
times_none k [] d = times-nil k
times_none k (j ∷ ks) d = times_other k j ks (λ e. d (inl (sym e))) ∙ times_none k ks (λ i. d (inr i))

times_once : (k : ℕ) (ks : List ℕ) → Distinct ks → Has k ks → times k ks ≡ 1
times_once k [] d i = absurd i
times_once k (j ∷ ks) d (inl e) =
    subst (λ (x : ℕ). times x (j ∷ ks) ≡ 1) (sym e) (times_own j ks ∙ ap suc (times_none j ks d.0))
times_once k (j ∷ ks) d (inr i) =
    times_other k j ks (λ e. d.0 (subst (λ (x : ℕ). Has x ks) (sym e) i)) ∙ times_once k ks d.1 i

-- ---- the first condition

pub all_once : (ks : List ℕ) (l : List Rec) → ((r : Rec) → Member r l → times (self_of r) ks ≡ 1) → each_once ks l ≡ true
unfolding each_once
all_once ks [] h = refl
all_once ks (r ∷ l) h =
    true_and (eqb (times (self_of r) ks) 1) (each_once ks l) (eq-eqb (times (self_of r) ks) 1 (h r (inl refl))) (all_once ks l (λ s i. h s (inr i)))

pub has_held : (l : List Rec) (r : Rec) → Member r l → is_held (self_of r) l ≡ true
unfolding is_held
has_held [] r i = absurd i
has_held (x ∷ l) r (inl e) = or_left (eqb (self_of x) (self_of r)) (is_held (self_of r) l) (eq-eqb (self_of x) (self_of r) (ap self_of (sym e)))
has_held (x ∷ l) r (inr i) = or_right (eqb (self_of x) (self_of r)) (is_held (self_of r) l) (has_held l r i)

selves-held : (m l : List Rec) → Sub m l → all_held (selves m) l ≡ true
unfolding all_held selves
selves-held [] l h = refl
selves-held (r ∷ m) l h =
    true_and (is_held (self_of r) l) (all_held (selves m) l) (has_held l r (h r (inl refl))) (selves-held m l (λ s i. h s (inr i)))

pub rank_names_all : (l : List Rec) → Sound l → names_all (selves l) l ≡ true
unfolding names_all
rank_names_all l h =
    true_and (each_once (selves l) l) (all_held (selves l) l)
    (all_once (selves l) l (λ r i. times_once (self_of r) (selves l) (sound_distinct l h) (member_selves l r i)))
    (selves-held l l (λ s i. i))

-- ---- the second

-- the records of their own identities
pub self_found : (l : List Rec) (r : Rec) → Sound l → Member r l → by_id (unit_of (self_of r)) (number_of (self_of r)) l ≡ some r
self_found l r h i =
    let b = unit_of_lem [] l r h i in
    rw (self_unit r b, self_num r b) (held-by_id l r h i)

selves_in_order : (l m : List Rec) → Sound l → Sub m l → in_order_of (selves m) l ≡ m
unfolding in_order_of selves found_first
selves_in_order l [] h k = refl
selves_in_order l (r ∷ m) h k =
    ap (λ (o : Option Rec). found_first o (in_order_of (selves m) l)) (self_found l r h (k r (inl refl)))
    ∙ ap (λ (q : List Rec). r ∷ q) (selves_in_order l m h (λ s i. k s (inr i)))

pub rank_in_order : (l : List Rec) → Sound l → in_order_of (selves l) l ≡ l
rank_in_order l h = selves_in_order l l h (λ s i. i)

pub none_seen : (r : Rec) (l : List Rec) → ((s : Rec) → Member s l → seen r (unit s) < num s) → sees_none r l ≡ true
unfolding sees_none has_seen
none_seen r [] h = refl
none_seen r (s ∷ l) h =
    true_and (not (leb (num s) (seen r (unit s)))) (sees_none r l) (ap not (lt-leb (num s) (seen r (unit s)) (h s (inl refl)))) (none_seen r l (λ t i. h t (inr i)))

pub rank_seen_first : (pre l : List Rec) → SoundAfter no_counts pre l → seen_first l ≡ true
unfolding seen_first
rank_seen_first pre [] h = refl
rank_seen_first pre (x ∷ l) h =
    true_and (sees_none x l) (seen_first l)
    (none_seen x l (λ s i.
    omega (arith, (numbers (x ∷ pre) l s h.1 i).0, h.0.within (unit s) (unit_of_lem (x ∷ pre) l s h.1 i), no_counts_lem (unit s), count_plus (unit s) x pre)))
    (rank_seen_first (x ∷ pre) l h.1)

-- ---- rank order

pub rank_accepted : (l : List Rec) → Sound l → failed_of (selves l) l ≡ 0
unfolding failed_of
rank_accepted l h =
    rw (rank_names_all l h) (rw (rank_in_order l h) (rw (rank_seen_first [] l h) (rw (alike_itself (replay l)))))
