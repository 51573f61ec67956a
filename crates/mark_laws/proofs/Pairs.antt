-- Lists taken place by place.
-- Assumes nothing.
use Prim.Native.Nat.{ℕ, zero, suc, ◌≤◌, ◌<◌}
use native.Mathlib.Omega.{arith}
use mathlib.Core.Path.{◌≡◌, refl, ap}
use mathlib.Core.List.{List, [], ◌∷◌}
use lib.ListN.{get_or, length, take, drop}
use Rattle.model.specs.Record.{Rec}
use Rattle.model.specs.Log.{no_counts}
use Rattle.model.specs.Replay.{Tree, step, replay_from}
use Rattle.log_laws.specs.Sound.{SoundAfter}
use Rattle.tree_laws.specs.Replayed.{Pairs}

pub pairs_at : (R : Rec → Rec → Type 0) (l m : List Rec) → length l ≡ length m → ((j : ℕ) → j < length l → R (get_or l j []) (get_or m j [])) → Pairs R l m
pairs_at R [] [] n h = tt
pairs_at R [] (s ∷ m) n h = absurd (omega arith)
pairs_at R (r ∷ l) [] n h = absurd (omega arith)
pairs_at R (r ∷ l) (s ∷ m) n h = (h 0 (omega arith), pairs_at R l m (omega arith) (λ j k. h (suc j) (omega arith)))

pub pairs_length : (R : Rec → Rec → Type 0) (l m : List Rec) → Pairs R l m → length l ≡ length m
pairs_length R [] [] p = refl
pairs_length R [] (y ∷ m) p = absurd p
pairs_length R (x ∷ l) [] p = absurd p
pairs_length R (x ∷ l) (y ∷ m) p = ap suc (pairs_length R l m p.1)

pub pairs_get : (R : Rec → Rec → Type 0) (l m : List Rec) → Pairs R l m → (j : ℕ) → j < length l → R (get_or l j []) (get_or m j [])
pairs_get R [] m p j h = absurd (omega arith)
pairs_get R (x ∷ l) [] p j h = absurd p
pairs_get R (x ∷ l) (y ∷ m) p zero h = p.0
pairs_get R (x ∷ l) (y ∷ m) p (suc j) h = pairs_get R l m p.1 j (omega arith)

pub pairs_take : (R : Rec → Rec → Type 0) (j : ℕ) (l m : List Rec) → Pairs R l m → Pairs R (take j l) (take j m)
pairs_take R zero l m h = tt
pairs_take R (suc j) [] [] h = tt
pairs_take R (suc j) [] (s ∷ m) h = absurd h
pairs_take R (suc j) (r ∷ l) [] h = absurd h
pairs_take R (suc j) (r ∷ l) (s ∷ m) h = (h.0, pairs_take R j l m h.1)

-- lists that are equal place by place up to j, and those from j on
pub take_equal : (j : ℕ) (l m : List Rec) → length l ≡ length m → ((i : ℕ) → i < length l → i < j → get_or l i [] ≡ get_or m i []) → take j l ≡ take j m
take_equal zero l m n h = refl
take_equal (suc j) [] [] n h = refl
take_equal (suc j) [] (s ∷ m) n h = absurd (omega arith)
take_equal (suc j) (r ∷ l) [] n h = absurd (omega arith)
take_equal (suc j) (r ∷ l) (s ∷ m) n h =
    λ k. h 0 (omega arith) (omega arith) k ∷ take_equal j l m (omega arith) (λ i a b. h (suc i) (omega arith) (omega arith)) k

pub drop_equal : (j : ℕ) (l m : List Rec) → length l ≡ length m → ((i : ℕ) → i < length l → j ≤ i → get_or l i [] ≡ get_or m i []) → drop j l ≡ drop j m
drop_equal zero [] [] n h = refl
drop_equal zero [] (s ∷ m) n h = absurd (omega arith)
drop_equal zero (r ∷ l) [] n h = absurd (omega arith)
drop_equal zero (r ∷ l) (s ∷ m) n h =
    λ k. h 0 (omega arith) (omega arith) k ∷ drop_equal zero l m (omega arith) (λ i a b. h (suc i) (omega arith) (omega arith)) k
drop_equal (suc j) [] [] n h = refl
drop_equal (suc j) [] (s ∷ m) n h = absurd (omega arith)
drop_equal (suc j) (r ∷ l) [] n h = absurd (omega arith)
drop_equal (suc j) (r ∷ l) (s ∷ m) n h = drop_equal j l m (omega arith) (λ i a b. h (suc i) (omega arith) (omega arith))

-- the replay of a list is that of its front, one record, and the rest
pub replay-at : (t : Tree) (l : List Rec) (j : ℕ) → j < length l → replay_from t l ≡ replay_from (step (replay_from t (take j l)) (get_or l j [])) (drop (suc j) l)
unfolding replay_from
replay-at t [] j h = absurd (omega arith)
replay-at t (r ∷ l) zero h = refl
replay-at t (r ∷ l) (suc j) h = replay-at (step t r) l j (omega arith)

pub sound_take : (j : ℕ) (pre l : List Rec) → SoundAfter no_counts pre l → SoundAfter no_counts pre (take j l)
sound_take zero pre l h = tt
sound_take (suc j) pre [] h = tt
sound_take (suc j) pre (r ∷ l) h = (h.0, sound_take j (r ∷ pre) l h.1)
