-- The first of n places that a test does not say to come before, by halving.
use Rattle.std.proofs.Common.{ℕ, Bool, ◌≡◌, ◌-◌, ◌≤◌, ◌<◌}
use Rattle.index_model.specs.Index.{halve}
use Rattle.index_find.proofs.halve.Given as goal

abbrev pub invariant-loop : goal.invariant-loop
invariant-loop g l =
    (l.lo ≤ l.n) × (l.hi ≤ l.n)
    × ((p : ℕ → Bool) → ((i : ℕ) (t : Bool) → i < l.n → goal.F-post g l.before i t → t ≡ p i) → halve p (11 - l.counter) l.lo l.hi ≡ halve p 11 0 l.n)
