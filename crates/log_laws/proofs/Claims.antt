-- Claims P1 and P3 of sound records: ranks are unique and follow what was seen, and the records alone fix their order.
-- Assumes nothing.
use Prim.Native.Nat.{◌≤◌, ◌<◌}
use native.Mathlib.Omega.{arith}
use mathlib.Core.Path.{◌≡◌, refl, sym, ap, ◌∙◌}
use mathlib.Core.Logic.{inl, inr, ◌↔◌}
use mathlib.Core.Bool.{true}
use mathlib.Core.List.{List, [], ◌∷◌}
use Rattle.model.specs.Record.{Rec, unit, num, seen}
use Rattle.model.specs.Log.{rank, no_counts, sound_after}
use Rattle.log_laws.specs.Members.{Has}
use Rattle.log_laws.specs.Sound.{SoundAfter, Sound}
use Rattle.log_laws.proofs.Counts.{above_all, unit_of_lem}
use Rattle.log_laws.proofs.Same.{unique, same, counts-sub}
use Rattle.log_laws.proofs.Seen.{seen_below}
use Rattle.log_laws.proofs.Tests.{sound_means, means_sound}

-- the test for sound records holds exactly of sound records
pub sound_exactly : (l : List Rec) → (sound_after no_counts [] l ≡ true) ↔ Sound l
sound_exactly l = (sound_means l, means_sound l)

distinct_ranks : (pre l : List Rec) (r s : Rec) → SoundAfter no_counts pre l → Has r l → Has s l → rank r ≡ rank s → r ≡ s
distinct_ranks pre [] r s h i j e = absurd i
distinct_ranks pre (x ∷ l) r s h (inl a) (inl b) e = a ∙ sym b
distinct_ranks pre (x ∷ l) r s h (inl a) (inr b) e = absurd (omega (arith, above_all (x ∷ pre) l x s h.1 (inl refl) b, ap rank a))
distinct_ranks pre (x ∷ l) r s h (inr a) (inl b) e = absurd (omega (arith, above_all (x ∷ pre) l x r h.1 (inl refl) a, ap rank b))
distinct_ranks pre (x ∷ l) r s h (inr a) (inr b) e = distinct_ranks (x ∷ pre) l r s h.1 a b e

-- P1: no two records have the same rank
pub rank_unique : (l : List Rec) → sound_after no_counts [] l ≡ true → (r s : Rec) → Has r l → Has s l → rank r ≡ rank s → r ≡ s
rank_unique l e r s = distinct_ranks [] l r s (sound_means l e)

-- P1: a record ranks after every record that it has seen
pub rank_follows_seen : (l : List Rec) → sound_after no_counts [] l ≡ true → (r s : Rec) → Has r l → Has s l → num s ≤ seen r (unit s) → rank s < rank r
rank_follows_seen l e r s i j n = let h = sound_means l e in seen_below [] l r s h i (inr j) (unit_of_lem [] l s h j) n

-- P3: sound records are in one order only, whatever the order in which they came
pub order_fixed : (l m : List Rec) → sound_after no_counts [] l ≡ true → sound_after no_counts [] m ≡ true → ((r : Rec) → Has r l ↔ Has r m) → l ≡ m
order_fixed l m e f k =
    let h = sound_means l e in
    let g = sound_means m f in
    same l m h g (λ r s i j. unique [] m g r s ((k r).0 i) j)
    (λ u b. omega (arith, counts-sub l m h g (λ r i. (k r).0 i) u, counts-sub m l g h (λ r i. (k r).1 i) u))
