-- Halving as a loop: what is left to halve gives what was sought.
-- Assumes nothing.
use Prim.Native.Nat.{ℕ, zero, suc, ◌+◌, ◌-◌, ◌*◌, ◌/◌, ◌≤◌, ◌<◌}
use native.Mathlib.Omega.{arith}
use mathlib.Core.Path.{◌≡◌, refl, sym, ap, ◌∙◌}
use mathlib.Core.Bool.{Bool, true, false, cond}
use lib.Dec.{ltb}
use borrow.Author.Tests.{lt-ltb, le-ltb}
use Rattle.index_model.specs.Index.{halve}

pub halve-none : (p : ℕ → Bool) (n lo hi : ℕ) → hi ≤ lo → halve p n lo hi ≡ lo
unfolding halve
halve-none p zero lo hi h = refl
halve-none p (suc n) lo hi h = rw (le-ltb lo hi h)

module _ (p : ℕ → Bool) (m k lo hi : ℕ) {r : ℕ} (inv : halve p (m - k) lo hi ≡ r) where
  pub seek_stops : hi ≤ lo → lo ≡ r
  seek_stops h = sym (halve-none p (m - k) lo hi h) ∙ inv

  pub seek-done : m ≤ k → lo ≡ r
  unfolding halve
  seek-done h = let e : m - k ≡ 0 = omega arith in rw e at inv

  module _ (few : k < m) (more : lo < hi) {t : Bool} (e : t ≡ p (lo + (hi - lo) / 2)) where
    pub seek_up : t ≡ true → {x y : ℕ} → x ≡ lo + (hi - lo) / 2 + 1 → y ≡ hi → halve p (m - (k + 1)) x y ≡ r
    unfolding halve
    seek_up g u v =
        let n : m - k ≡ suc (m - (k + 1)) = omega arith in
        let q : p (lo + (hi - lo) / 2) ≡ true = sym e ∙ g in
        rw (u, v) (rw (n, lt-ltb lo hi more, q) at inv)

    pub seek_down : t ≡ false → {x y : ℕ} → x ≡ lo → y ≡ lo + (hi - lo) / 2 → halve p (m - (k + 1)) x y ≡ r
    unfolding halve
    seek_down g u v =
        let n : m - k ≡ suc (m - (k + 1)) = omega arith in
        let q : p (lo + (hi - lo) / 2) ≡ false = sym e ∙ g in
        rw (u, v) (rw (n, lt-ltb lo hi more, q) at inv)
