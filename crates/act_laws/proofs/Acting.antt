-- An act: its record has seen all that stands in the tree, so it never stands aside under 17; and when it is accepted.
-- Assumes nothing.
use Prim.Native.Nat.{ℕ, ◌/◌, ◌%◌, ◌≤◌, ◌<◌}
use native.Mathlib.Omega.{arith}
use mathlib.Core.Path.{◌≡◌, refl, sym, ◌∙◌}
use mathlib.Core.Bool.{true, false}
use mathlib.Core.Logic.{inl, inr, ⊎_elim, ◌↔◌}
use mathlib.Core.List.{List, [], ◌∷◌}
use lib.ListN.{get_or, length}
use borrow.Author.Tests.{le-ltb}
use Rattle.model.specs.Record.{Rec, seen, label_of, has_stroke}
use Rattle.model.specs.Log.{count_on, vector_on}
use Rattle.model.specs.Replay.{Entry, Tree, Verdict, fits, aside, unseen, judge, replay_from, reason_of}
use Rattle.base_model.specs.Base.{is_listed}
use Rattle.call_model.specs.Outcome.{stamped, wish_fits, act_number}
use Rattle.log_laws.specs.Sound.{SoundOn}
use Rattle.log_laws.proofs.Members.{All}
use Rattle.log_laws.proofs.Tests.{vector_on_get_d}
use Rattle.tree_laws.specs.Trees.{NamedIn, EntryFits, SoundTree}
use Rattle.tree_laws.proofs.Verdicts.{Under, Reason, reason_range}
use Rattle.tree_laws.proofs.Seen.{Among, HasSeen, Not17, seen_never_17}
use Rattle.act_laws.proofs.Act.{stamped-seen, free_early, refused_elim, act_numbers, act_zero}
use Rattle.act_laws.proofs.Trees.{sound_on}

-- ---- the record of an act has seen all that the tree of the records held names

-- the last contents and place records of entries
changes_of : List Entry → List ℕ
changes_of [] = []
changes_of (e ∷ es) = e.contents ∷ e.placing ∷ changes_of es

more_among : (ks : List ℕ) (a b : ℕ) (es : List Entry) → Among ks es → Among (a ∷ b ∷ ks) es
more_among ks a b [] h = tt
more_among ks a b (e ∷ es) h = ((inr (inr h.0.0), inr (inr h.0.1)), more_among ks a b es h.1)

among_own : (es : List Entry) → Among (changes_of es) es
unfolding changes_of
among_own [] = tt
among_own (e ∷ es) = ((inl refl, inr (inl refl)), more_among (changes_of es) e.contents e.placing es (among_own es))

-- what a vector names, a record that covers it has seen
named-seen : (r : Rec) (v : List ℕ) → ((u : ℕ) → u < 8 → get_or v u 0 ≤ seen r u) → (k : ℕ) → NamedIn v k → unseen r k ≡ false
unfolding unseen
named-seen r v h k n = le-ltb (seen r (k % 8)) (k / 8) (omega (arith, n.1, h (k % 8) (omega arith)))

all_seen : (r : Rec) (v : List ℕ) → ((u : ℕ) → u < 8 → get_or v u 0 ≤ seen r u) → (es : List Entry) → All (EntryFits v) es → HasSeen r (changes_of es)
unfolding changes_of
all_seen r v h [] a k i = absurd i
all_seen r v h (e ∷ es) a k (inl q) = rw q (named-seen r v h e.contents a.0.contents_named)
all_seen r v h (e ∷ es) a k (inr (inl q)) = rw q (named-seen r v h e.placing a.0.placing_named)
all_seen r v h (e ∷ es) a k (inr (inr i)) = all_seen r v h es a.1 k i

pub act_never_17 : (u : ℕ) (v : List ℕ) (t : Tree) (l : List Rec) (w : List ℕ) → length w ≡ 80 → SoundOn v l → SoundTree v t → Under Not17 (judge (stamped u v l w) (replay_from t l))
act_never_17 u v t l w n h s =
    let es : List Entry = (replay_from t l).entries in
    seen_never_17 (stamped u v l w) (changes_of es)
    (all_seen (stamped u v l w) (vector_on v l) (λ x k. omega (arith, vector_on_get_d v l x k, stamped-seen u v l w n x k)) es (sound_on v t l h s).entries_fit)
    (replay_from t l) (among_own es)

-- ---- what an act answers

reason_zero : (v : Verdict) → Under Reason v → reason_of v ≡ 0 → v ≡ fits
unfolding reason_of
reason_zero fits h e = refl
reason_zero (aside n k) h e = absurd (⊎_elim (λ z. omega arith) (λ z. omega arith) h)

-- an act is accepted exactly when its unit is listed, its wish passes the checks of a wish, a number and a place are free, and its record fits
pub act_accepted : (m u : ℕ) (v : List ℕ) (t : Tree) (l : List Rec) (w : List ℕ)
    → (act_number m u v t l w ≡ 0)
    ↔ ((is_listed m u ≡ true) × (wish_fits u v l w ≡ true) × (has_stroke (label_of w) ≡ false) × (count_on v u l < 65535) × (length l < 512) × (judge (stamped u v l w) (replay_from t l) ≡ fits))
unfolding act_number reason_of
act_accepted m u v t l w = (
  λ e.
      let f = act_zero m u v t l w e in
      let q : reason_of (judge (stamped u v l w) (replay_from t l)) ≡ 0 = rw (free_early m u v l w f) at e in
      (f.listed, f.well, f.plain, f.numbered, f.room, reason_zero (judge (stamped u v l w) (replay_from t l)) (reason_range (stamped u v l w) (replay_from t l)) q),
  λ (a, b, c, d, e, f). rw (free_early m u v l w (record { listed = a; well = b; plain = c; numbered = d; room = e }), f),
)

pub act_answers_never_17 : (m u : ℕ) (v : List ℕ) (t : Tree) (l : List Rec) (w : List ℕ) → length w ≡ 80 → SoundOn v l → SoundTree v t → act_number m u v t l w ≡ 17 → ⊥
unfolding reason_of
act_answers_never_17 m u v t l w n h s e =
    ⊎_elim
    (λ a. not_17 (judge (stamped u v l w) (replay_from t l)) (act_never_17 u v t l w n h s) (sym a.1 ∙ e))
    (λ a. refused_elim (λ (x : ℕ). x ≡ 17 → ⊥) (λ q. omega arith) (λ q. omega arith) (λ q. omega arith) (λ q. omega arith) (λ q. omega arith) m u v l w (act_number m u v t l w) a e)
    (act_numbers m u v t l w)
  where
    not_17 : (v : Verdict) → Under Not17 v → reason_of v ≡ 17 → ⊥
    not_17 fits k q = omega arith
    not_17 (aside m j) k q = k q
