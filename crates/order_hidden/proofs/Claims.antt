-- In an accepted order the last contents record and the last place record of every entry are those of rank order.
-- Document 02, K12.
-- Assumes nothing.
use Prim.Native.Nat.{ℕ}
use native.Mathlib.Omega.{arith}
use mathlib.Core.Path.{◌≡◌, refl, sym, ap, ◌∙◌, subst}
use mathlib.Core.Bool.{true, false}
use mathlib.Core.Logic.{◌⊎◌, inl, inr, ⊎_elim}
use mathlib.Core.Option.{some}
use mathlib.Core.List.{List, [], ◌∷◌}
use lib.Dec.{eqb}
use borrow.Author.Tests.{eq-eqb, ne_eqb}
use Rattle.byte_slice.proofs.Numbers.{true_and}
use Rattle.model.specs.Record.{Rec, self_of}
use Rattle.model.specs.Replay.{Entry, Aside, is_present, entry_of, present_ones, replay}
use Rattle.log_laws.specs.Members.{Has as Member}
use Rattle.log_laws.specs.Sound.{Sound}
use Rattle.tree_laws.specs.Replayed.{Has, Distinct, selves, makers, whos}
use Rattle.tree_laws.specs.Places.{Placing}
use Rattle.tree_laws.proofs.Seen.{sound_distinct}
use Rattle.tree_laws.proofs.Identities.{makers-distinct}
use Rattle.tree_laws.proofs.Trees.{present_has}
use Rattle.order_model.specs.Order.{is_held, all_held, in_order_of}
use Rattle.order_laws.proofs.Marks.{means_held, names_apart}
use Rattle.order_laws.proofs.Running.{in_order_named, named_in_order, in_order_distinct}
use Rattle.order_laws.proofs.Rank.{all_once}
use Rattle.order_laws.proofs.Claims.{accepted_exactly}
use Rattle.order_hidden.specs.Hidden.{Storing, HiddenToo}
use Rattle.order_hidden.proofs.Origins.{contents_step, placing_step, store_saw, place_saw, storing_makes, placing_makes}
use Rattle.order_hidden.proofs.Chains.{same_last}

-- ---- entries and asides

made_in_lem : (l : List Entry) (e : Entry) → Has e l → Has e.made (makers l)
unfolding makers
made_in_lem [] e i = absurd i
made_in_lem (x ∷ l) e (inl q) = inl (ap (λ (y : Entry). y.made) q)
made_in_lem (x ∷ l) e (inr i) = inr (made_in_lem l e i)

found : (es : List Entry) → Distinct (makers es) → (e : Entry) → Has e es → is_present e ≡ true → entry_of e.made es ≡ some e
unfolding makers entry_of
found [] d e i p = absurd i
found (x ∷ es) d e (inl q) p = let y : is_present x ≡ true = ap is_present (sym q) ∙ p in rw (q, eq-eqb x.made x.made refl, y)
found (x ∷ es) d e (inr i) p =
    let n : eqb x.made e.made ≡ false = ne_eqb x.made e.made (λ (q : x.made ≡ e.made). d.0 (subst (λ (k : ℕ). Has k (makers es)) (sym q) (made_in_lem es e i))) in
    rw n (found es d.1 e i p)

whos_of : (l : List Aside) (k : ℕ) → Has k (whos l) → (a : Aside) × Has a l × (a.who ≡ k)
unfolding whos
whos_of [] k i = absurd i
whos_of (a ∷ l) k (inl q) = (a, inl refl, sym q)
whos_of (a ∷ l) k (inr i) = let (b, j, q) = whos_of l k i in (b, inr j, q)

of_whos : (l : List Aside) (a : Aside) → Has a l → Has a.who (whos l)
unfolding whos
of_whos [] a i = absurd i
of_whos (b ∷ l) a (inl q) = inl (ap (λ (x : Aside). x.who) q)
of_whos (b ∷ l) a (inr i) = inr (of_whos l a i)

same_whos : (l m : List Aside) → ((a : Aside) → Has a l → Has a m) → (k : ℕ) → Has k (whos l) → Has k (whos m)
same_whos l m h k i = let (a, j, q) = whos_of l k i in subst (λ (x : ℕ). Has x (whos m)) q (of_whos m a (h a j))

-- each name is a record's
each_held : (ks : List ℕ) (l : List Rec) → ((k : ℕ) → Has k ks → (r : Rec) × Member r l × (self_of r ≡ k)) → all_held ks l ≡ true
unfolding all_held
each_held [] l h = refl
each_held (j ∷ ks) l h =
    let (r, i, q) = h j (inl refl) in
    true_and (is_held j l) (all_held ks l) (means_held l j r i q) (each_held ks l (λ k a. h k (inr a)))

-- ---- the claim

pub hidden_too : (ks : List ℕ) (l : List Rec) → Sound l → HiddenToo ks l
hidden_too ks l s ok e f i j q =
    let (names, first, shown) = (accepted_exactly ks l).0 ok in
    let d : Distinct (selves (in_order_of ks l)) = in_order_distinct ks l (names_apart ks l (all_once ks l names.once) (each_held ks l names.held)) in
    let own = sound_distinct l s in
    let into : (r : Rec) → Member r l → Member r (in_order_of ks l) = λ r k. named_in_order ks l r s k (omega (arith, names.once r k)) in
    let onto : (r : Rec) → Member r (in_order_of ks l) → Member r l = λ r k. (in_order_named ks l r k).0 in
    let (a, p) = present_has (replay l).entries e i in
    let (b, o) = present_has (replay (in_order_of ks l)).entries f j in
    let x = found (replay l).entries (makers-distinct l own) e a p in
    let y : entry_of e.made (replay (in_order_of ks l)).entries ≡ some f =
    subst (λ (k : ℕ). entry_of k (replay (in_order_of ks l)).entries ≡ some f) (sym q) (found (replay (in_order_of ks l)).entries (makers-distinct (in_order_of ks l) d) f b o) in
    let up = same_whos (replay l).asides (replay (in_order_of ks l)).asides shown.0.asides in
    let down = same_whos (replay (in_order_of ks l)).asides (replay l).asides shown.1.asides in (
      same_last (λ (z : Entry). z.contents) Storing contents_step storing_makes store_saw l s
          l (in_order_of ks l) (λ r k. k) onto into onto own d up down e.made e f x y,
      same_last (λ (z : Entry). z.placing) Placing placing_step placing_makes place_saw l s
          l (in_order_of ks l) (λ r k. k) onto into onto own d up down e.made e f x y,
    )
