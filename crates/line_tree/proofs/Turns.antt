-- Line behind line: the turns of the loops over the rows of a table.
-- Assumes nothing.
use Prim.Native.Nat.{ℕ, zero, suc, ◌+◌, ◌-◌, ◌*◌, ◌≤◌, ◌<◌}
use native.Mathlib.Omega.{arith}
use native.Mathlib.Numerals.{add-one}
use mathlib.Core.Path.{◌≡◌, refl, ap, ◌∙◌}
use mathlib.Core.Logic.{⊎_elim}
use mathlib.Core.List.{List, ◌++◌}
use lib.ListN.{length, take, drop, length-append}
use Rattle.model.specs.Bytes.{word, part}
use Rattle.model.specs.Listing.{entry_line, aside_line, entry_lines, aside_lines, tree_lines}
use Rattle.byte_slice.proofs.Numbers.{lt_or_ge}
use Rattle.byte_slice.proofs.Parts.{part_is}
use Rattle.line_text.specs.Written.{Wrote}
use Rattle.line_text.proofs.Written.{room_first, room_rest, wrote_length, wrote_more}

-- ---- a text that grows by lines

module _ (g h : ℕ → List ℕ) (grows : (n : ℕ) → g (suc n) ≡ g n ++ h n) where
  grown : (n i : ℕ) → i < n → length (g i) + length (h i) ≤ length (g n)
  grown zero i lt = omega arith
  grown (suc n) i lt =
      let e = ap length (grows n) ∙ length-append (g n) (h n) in
      ⊎_elim
      (λ (l : i < n). omega (arith, grown n i l))
      (λ (l : n ≤ i). let s : i ≡ n = omega arith in rw s (omega arith))
      (lt_or_ge i n)

  module _ (a b : List ℕ) (at m i n : ℕ) (room : at + length (g n) ≤ length a) (so_far : Wrote a b at m (g i)) (lt : i < n) where
    pub line_fits : m + length (h i) ≤ length b
    line_fits = let k = grown n i lt in let l = wrote_length (omega arith) so_far in omega (arith, so_far.next)

    pub wrote_line : {c : List ℕ} {r : ℕ} → Wrote b c m r (h i) → Wrote a c at r (g (i + 1))
    wrote_line x =
        let k = grown n i lt in
        let e = length-append (g i) (h i) in
        rw (add-one i, grows i) (wrote_more (omega arith) so_far x)

-- ---- entry lines

entry_lines_grow : (t : List ℕ) (n : ℕ) → entry_lines t (suc n) ≡ entry_lines t n ++ entry_line (part t (4 + 72 * n) 72)
unfolding entry_lines
entry_lines_grow t n = refl

module _ (t a b : List ℕ) (at m i n : ℕ) (room : at + length (entry_lines t n) ≤ length a) (so_far : Wrote a b at m (entry_lines t i)) (lt : i < n) where
  pub entry_line_fits : m + length (entry_line (take (4 + 72 * i + 72 - (4 + 72 * i)) (drop (4 + 72 * i) t))) ≤ length b
  entry_line_fits = rw (part_is t (4 + 72 * i) 72) (line_fits (entry_lines t) (λ k. entry_line (part t (4 + 72 * k) 72)) (entry_lines_grow t) a b at m i n room so_far lt)

  pub wrote_next_entry : {c : List ℕ} {r : ℕ} → Wrote b c m r (entry_line (take (4 + 72 * i + 72 - (4 + 72 * i)) (drop (4 + 72 * i) t))) → Wrote a c at r (entry_lines t (i + 1))
  wrote_next_entry x =
      wrote_line (entry_lines t) (λ k. entry_line (part t (4 + 72 * k) 72)) (entry_lines_grow t) a b at m i n room so_far lt (rw (part_is t (4 + 72 * i) 72) at x)

pub wrote_all_entries : (t a b : List ℕ) (at r i n : ℕ) → Wrote a b at r (entry_lines t i) → i ≤ n → n ≤ i → Wrote a b at r (entry_lines t n)
wrote_all_entries t a b at r i n w h l = let e : i ≡ n = omega arith in rw e at w

-- ---- aside lines

aside_lines_grow : (t : List ℕ) (n : ℕ) → aside_lines t (suc n) ≡ aside_lines t n ++ aside_line (part t (73732 + 12 * n) 12)
unfolding aside_lines
aside_lines_grow t n = refl

module _ (t a b : List ℕ) (at m i n : ℕ) (room : at + length (aside_lines t n) ≤ length a) (so_far : Wrote a b at m (aside_lines t i)) (lt : i < n) where
  pub aside_line_fits : m + length (aside_line (take (73732 + 12 * i + 12 - (73732 + 12 * i)) (drop (73732 + 12 * i) t))) ≤ length b
  aside_line_fits =
      rw (part_is t (73732 + 12 * i) 12) (line_fits (aside_lines t) (λ k. aside_line (part t (73732 + 12 * k) 12)) (aside_lines_grow t) a b at m i n room so_far lt)

  pub wrote_next_aside : {c : List ℕ} {r : ℕ} → Wrote b c m r (aside_line (take (73732 + 12 * i + 12 - (73732 + 12 * i)) (drop (73732 + 12 * i) t))) → Wrote a c at r (aside_lines t (i + 1))
  wrote_next_aside x =
      wrote_line (aside_lines t) (λ k. aside_line (part t (73732 + 12 * k) 12)) (aside_lines_grow t) a b at m i n room so_far lt (rw (part_is t (73732 + 12 * i) 12) at x)

pub wrote_all_asides : (t a b : List ℕ) (at r i n : ℕ) → Wrote a b at r (aside_lines t i) → i ≤ n → n ≤ i → Wrote a b at r (aside_lines t n)
wrote_all_asides t a b at r i n w h l = let e : i ≡ n = omega arith in rw e at w

-- ---- the lines of a table

module _ (t a : List ℕ) (at n k : ℕ) (room : at + length (tree_lines t) ≤ length a) (e : n ≡ word t 0) (f : k ≡ word t 2) where
  both : at + length (entry_lines t n ++ aside_lines t k) ≤ length a
  unfolding tree_lines
  both = rw (e, f) room

  pub asides_fit : {b : List ℕ} {m : ℕ} → Wrote a b at m (entry_lines t n) → m + length (aside_lines t k) ≤ length b
  asides_fit x = room_rest (aside_lines t k) both x

  pub wrote_tree : {b c : List ℕ} {m r : ℕ} → Wrote a b at m (entry_lines t n) → Wrote b c m r (aside_lines t k) → Wrote a c at r (tree_lines t)
  unfolding tree_lines
  wrote_tree x y = rw (← e, ← f) (wrote_more both x y)

pub entries_fit : (t a : List ℕ) (at n : ℕ) → at + length (tree_lines t) ≤ length a → n ≡ word t 0 → at + length (entry_lines t n) ≤ length a
entries_fit t a at n room e = room_first at (length a) (entry_lines t n) (aside_lines t (word t 2)) (both t a at n (word t 2) room e refl)
