-- Demand 3, proved: the claim holds of every list of calls.
-- Assumes nothing.
use Prim.Native.Nat.{ℕ}
use mathlib.Core.Path.{◌≡◌, refl, subst}
use mathlib.Core.Bool.{true}
use mathlib.Core.List.{List, [], ◌∷◌, ◌++◌}
use Rattle.machine.specs.Machine.{Call, Bench, bare, next, play}
use Rattle.machine.specs.Claim.{distinct, named, steady, Demand}
use Rattle.machine.proofs.Reach.{inv_bare, inv_play}
use Rattle.machine.proofs.Converge.{based, converge}
use Rattle.machine.proofs.Steady.{told-bare, told-play}
use Rattle.machine.proofs.Passing.{cover}

pub play-append : (archive : ℕ) (a b : List Call) (s : Bench) → play archive s (a ++ b) ≡ play archive (play archive s a) b
unfolding play
play-append archive [] b s = refl
play-append archive (c ∷ a) b s = play-append archive a b (next archive s c)

pub demand : Demand
demand archive before cs =
    let i = inv_play archive (before ++ cs) bare (inv_bare archive) in
    let e = play-append archive before cs bare in
    record {
      good = i.good;
      based = based archive (play archive bare (before ++ cs)) i;
      claim = λ d.
          record {
            converged = converge archive (play archive bare (before ++ cs)) i d;
            covered = λ n f a b b8 p.
                cover archive cs (play archive bare before) a b b8 (inv_play archive before bare (inv_bare archive))
                (told-play archive before bare (inv_bare archive) told-bare)
                (subst (λ (s : Bench). distinct s.used ≡ true) e d)
                (subst (λ (s : Bench). named s.lists s.used ≡ true) e n)
                (subst (λ (s : Bench). steady s.folders s.fallen ≡ true) e f)
                p;
          };
    }
