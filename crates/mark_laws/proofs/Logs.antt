-- Two logs that differ in one content mark leave trees that differ in one mark at most.
-- Assumes nothing.
use Prim.Native.Nat.{ℕ, suc, ◌≤◌, ◌<◌}
use native.Mathlib.Omega.{arith}
use mathlib.Core.Path.{◌≡◌, refl, sym, ap, ◌∙◌}
use mathlib.Core.Bool.{true}
use mathlib.Core.Logic.{⊎_elim}
use mathlib.Core.List.{List, [], ◌∷◌, ◌++◌}
use lib.ListN.{get_or, length, take, drop}
use borrow.Author.Tests.{eq-eqb}
use Rattle.byte_slice.proofs.Numbers.{eq_or_ne}
use Rattle.model.specs.Record.{Rec, date_bytes, label_of}
use Rattle.model.specs.Replay.{Tree, aside, judge, step, empty_tree, replay_from, replay}
use Rattle.log_laws.specs.Sound.{Sound}
use Rattle.tree_laws.specs.Replayed.{Distinct, makers, Pairs, trace_of}
use Rattle.tree_laws.proofs.Steps.{step-aside}
use Rattle.tree_laws.proofs.Identities.{makers-distinct}
use Rattle.tree_laws.proofs.Seen.{sound_distinct}
use Rattle.tree_laws.proofs.Dates.{kept}
use Rattle.tree_laws.proofs.Blind.{SameRead, front_same, front_part, read_same, judge_same, blind, Alike, alike_self, replay-alike}
use Rattle.mark_laws.specs.Marks.{mark_at, SameButMark, OneMarkApart, mark_if, mark_tree, StaysSmall}
use Rattle.mark_laws.proofs.Pairs.{pairs_at, pairs_take, take_equal, drop_equal, replay-at, sound_take}
use Rattle.mark_laws.proofs.Trees.{given, given_settles, same_but_mark, judged_same, stored_same, removed_same}

-- ---- the record that differs

pub mark_read : (r s : Rec) → SameButMark r s → SameRead r s
unfolding label_of
mark_read r s e = read_same r s (λ i h. front_same mark_at r s e i (omega arith)) (front_part mark_at r s e 32 32 (omega arith))

mark_alike : (r s : Rec) (v : List ℕ) → SameButMark r s → Alike kept (given (trace_of r) v) r s
unfolding kept given date_bytes
mark_alike r s v e =
    record {
      read = mark_read r s e;
      date_alike = front_part mark_at r s e 28 4 (omega arith);
      mark_alike = rw (eq-eqb (trace_of r) (trace_of r) refl);
    }

-- ---- the logs

module _ (i : ℕ) (l m : List Rec) (a : OneMarkApart i l m) where
  abbrev r : Rec
  r = get_or l i []

  abbrev s : Rec
  s = get_or m i []

  abbrev k : ℕ
  k = trace_of r

  alike_at : (v : List ℕ) (j : ℕ) → j < length l → Alike kept (given k v) (get_or l j []) (get_or m j [])
  alike_at v j h =
      ⊎_elim
      (λ (q : j ≡ i). rw q (mark_alike r s v a.but_mark))
      (λ (q : j ≡ i → ⊥). rw (sym (a.elsewhere j h q)) (alike_self kept (given k v) (get_or l j [])))
      (eq_or_ne j i)

  marks_alike : (v : List ℕ) → Pairs (Alike kept (given k v)) l m
  marks_alike v = pairs_at (Alike kept (given k v)) l m a.as_long (alike_at v)

  -- the trees of both, up to any place and at the end
  pub small_to : (j : ℕ) (v : List ℕ) → mark_tree k v (replay (take j l)) ≡ mark_tree k v (replay (take j m))
  unfolding replay mark_tree mark_if blind kept given
  small_to j v =
      replay-alike kept (given k v) (λ _ _. refl) (given_settles k v) (take j l) (take j m) empty_tree empty_tree
      (pairs_take (Alike kept (given k v)) j l m (marks_alike v)) refl

  pub small : (v : List ℕ) → mark_tree k v (replay l) ≡ mark_tree k v (replay m)
  unfolding replay mark_tree mark_if blind kept given
  small v = replay-alike kept (given k v) (λ _ _. refl) (given_settles k v) l m empty_tree empty_tree (marks_alike v) refl

  judged_at : (j : ℕ) → j < length l → judge (get_or l j []) (replay (take j l)) ≡ judge (get_or m j []) (replay (take j m))
  judged_at j h =
      judge_same (get_or l j []) (get_or m j []) (alike_at [] j h).read (replay (take j l))
      ∙ judged_same k (replay (take j l)) (replay (take j m)) (small_to j) (get_or m j [])

  -- equal steps at a place from i on leave equal trees
  from_step : (j : ℕ) → i ≤ j → j < length l → step (replay (take j l)) (get_or l j []) ≡ step (replay (take j m)) (get_or m j []) → replay l ≡ replay m
  unfolding replay
  from_step j n h e =
      let d : drop (suc j) l ≡ drop (suc j) m = drop_equal (suc j) l m a.as_long (λ x p q. a.elsewhere x p (λ z. omega arith)) in
      replay-at empty_tree l j h ∙ (λ x. replay_from (e x) (d x)) ∙ sym (replay-at empty_tree m j (omega (arith, a.as_long)))

  stands_same : (n y : ℕ) → judge r (replay (take i l)) ≡ aside n y → replay l ≡ replay m
  stands_same n y h =
      let t : Tree = replay (take i l) in
      let f : SameRead r s = mark_read r s a.but_mark in
      let e : take i l ≡ take i m = take_equal i l m a.as_long (λ x p q. a.elsewhere x p (λ z. omega arith)) in
      from_step i (omega arith) a.there
      (step-aside t r n y h
      ∙ (λ x. record { entries = t.entries; asides = t.asides ++ (record { who = f.self_same x; reason = n; marked = y; is_open = true } ∷ []) })
      ∙ sym (step-aside t s n y (sym (judge_same r s f t) ∙ h))
      ∙ ap (λ (x : List Rec). step (replay x) s) e)

  pub stays_small : Sound l → StaysSmall i l m
  stays_small w =
      record {
        judged = judged_at;
        one = same_but_mark k (replay l) (replay m) small;
        stands_aside_lem = stands_same;
        stored_later = λ j n h o p f.
            let alone : Distinct (makers (replay (take j l)).entries) = makers-distinct (take j l) (sound_distinct (take j l) (sound_take j [] l w)) in
            let q : get_or l j [] ≡ get_or m j [] = a.elsewhere j h (λ z. omega arith) in
            from_step j (omega arith) h
            (stored_same k (replay (take j l)) (replay (take j m)) (small_to j) (get_or l j []) alone o p f ∙ ap (step (replay (take j m))) q);
        removed = removed_same k (replay l) (replay m) small;
      }
