-- A changed single byte of a good block is always noticed.
-- Assumes nothing.
use Prim.Native.Nat.{ℕ, zero, suc, ◌+◌, ◌-◌, ◌*◌, ◌/◌, ◌%◌, ◌≤◌, ◌<◌}
use native.Mathlib.Omega.{arith}
use native.Mathlib.Nat.{add-zero, add-suc}
use mathlib.Core.Path.{◌≡◌, refl, sym, ◌∙◌}
use mathlib.Core.Logic.{◌⊎◌, inl, inr, ⊎_elim}
use mathlib.Core.Bool.{true}
use mathlib.Core.List.{List, []}
use lib.ListN.{get_or, length, set, length-set}
use lib.Seq.{get_or-set_same, get_or-set_other}
use borrow.Author.Tests.{eq-eqb, ne_eqb}
use Rattle.model.specs.Bytes.{word}
use Rattle.model.specs.Block.{sums_hold, first_to, block_fault, given_fault}
use Rattle.byte_slice.proofs.Numbers.{lt_or_ge}
use Rattle.byte_slice.proofs.Words.{word_same}
use Rattle.block_laws.proofs.Sums.{first_small, first_same, second_same}
use Rattle.block_laws.proofs.Faults.{sums_right, stored_sums}

-- ---- one word

-- a word whose lower byte differs, and one whose upper byte differs, give other sums
low_differs : (a x y z : ℕ) → x < 256 → z < 256 → (x ≡ z → ⊥) → (a + (x + 256 * y)) % 65521 ≡ (a + (z + 256 * y)) % 65521 → ⊥
low_differs a x y z p q d e = omega arith

high_differs : (a x y z : ℕ) → y < 256 → z < 256 → (y ≡ z → ⊥) → (a + (x + 256 * y)) % 65521 ≡ (a + (x + 256 * z)) % 65521 → ⊥
high_differs a x y z p q d e =
    -- 65,521 divides no multiple of 256 below 65,536: the quotients are compared first
    ⊎_elim
    (λ (h : (a + (x + 256 * y)) / 65521 < (a + (x + 256 * z)) / 65521). omega arith)
    (λ (h : (a + (x + 256 * z)) / 65521 ≤ (a + (x + 256 * y)) / 65521).
    ⊎_elim
    (λ (k : (a + (x + 256 * z)) / 65521 < (a + (x + 256 * y)) / 65521). omega arith)
    (λ (k : (a + (x + 256 * y)) / 65521 ≤ (a + (x + 256 * z)) / 65521). omega arith)
    (lt_or_ge ((a + (x + 256 * z)) / 65521) ((a + (x + 256 * y)) / 65521)))
    (lt_or_ge ((a + (x + 256 * y)) / 65521) ((a + (x + 256 * z)) / 65521))

-- ---- first sums that have come apart stay apart over equal words

stays_apart : (a b w : ℕ) → a < 65521 → b < 65521 → (a ≡ b → ⊥) → (a + w) % 65521 ≡ (b + w) % 65521 → ⊥
stays_apart a b w p q d e = omega arith

apart_on : (a b : List ℕ) (k m : ℕ) → ((j : ℕ) → k ≤ j → word a (2 * j) ≡ word b (2 * j)) → (first_to a k ≡ first_to b k → ⊥) → first_to a (k + m) ≡ first_to b (k + m) → ⊥
unfolding first_to
apart_on a b k zero h d e = d (rw add-zero at e)
apart_on a b k (suc m) h d e =
    let f : (first_to a (k + m) + word a (2 * (k + m))) % 65521 ≡ (first_to b (k + m) + word b (2 * (k + m))) % 65521 = rw (add-suc k m) at e in
    stays_apart (first_to a (k + m)) (first_to b (k + m)) (word b (2 * (k + m))) (first_small a (k + m)) (first_small b (k + m)) (apart_on a b k m h d) (rw (h (k + m) (omega arith)) at f)

-- ---- one byte

-- words that the byte is no part of are as they were
other_word : (b : List ℕ) (i z j : ℕ) → (j ≡ i → ⊥) → (j + 1 ≡ i → ⊥) → word (set b i z) j ≡ word b j
other_word b i z j p q = word_same (set b i z) b j j (get_or-set_other b i j z 0 p) (get_or-set_other b i (j + 1) z 0 q)

-- the word at j with a changed byte at i
record Changed (b : List ℕ) (i z j : ℕ) : Type 0 where
  differs : word (set b i z) j ≡ word b j → ⊥
  sums_differ : (a : ℕ) → (a + word (set b i z) j) % 65521 ≡ (a + word b j) % 65521 → ⊥

changed_low : (b : List ℕ) (z j : ℕ) → j < length b → get_or b j 0 < 256 → z < 256 → (get_or b j 0 ≡ z → ⊥) → Changed b j z j
unfolding word
changed_low b z j h p q d =
    let s : get_or (set b j z) j 0 ≡ z = get_or-set_same b j z 0 h in
    let o : get_or (set b j z) (j + 1) 0 ≡ get_or b (j + 1) 0 = get_or-set_other b j (j + 1) z 0 (λ e. omega arith) in
    record {
      differs = λ e. d (omega arith);
      sums_differ = λ a e. low_differs a (get_or b j 0) (get_or b (j + 1) 0) z p q d (sym (rw (s, o) at e));
    }

changed_high : (b : List ℕ) (z j : ℕ) → j + 1 < length b → get_or b (j + 1) 0 < 256 → z < 256 → (get_or b (j + 1) 0 ≡ z → ⊥) → Changed b (j + 1) z j
unfolding word
changed_high b z j h p q d =
    let s : get_or (set b (j + 1) z) (j + 1) 0 ≡ z = get_or-set_same b (j + 1) z 0 h in
    let o : get_or (set b (j + 1) z) j 0 ≡ get_or b j 0 = get_or-set_other b (j + 1) j z 0 (λ e. omega arith) in
    record {
      differs = λ e. d (omega arith);
      sums_differ = λ a e. high_differs a (get_or b j 0) (get_or b (j + 1) 0) z p q d (sym (rw (s, o) at e));
    }

changed-word : (b : List ℕ) (i z k : ℕ) → (i ≡ 2 * k) ⊎ (i ≡ 2 * k + 1) → i < length b → get_or b i 0 < 256 → z < 256 → (get_or b i 0 ≡ z → ⊥) → Changed b i z (2 * k)
changed-word b i z k c h p q d =
    ⊎_elim
    (λ (e : i ≡ 2 * k). rw e (changed_low b z (2 * k) (rw e at h) (rw e at p) q (rw e at d)))
    (λ (e : i ≡ 2 * k + 1). rw e (changed_high b z (2 * k) (rw e at h) (rw e at p) q (rw e at d)))
    c

halves : (i : ℕ) → (i ≡ 2 * (i / 2)) ⊎ (i ≡ 2 * (i / 2) + 1)
halves i = ⊎_elim (λ (h : i % 2 < 1). inl (omega arith)) (λ (h : 1 ≤ i % 2). inr (omega arith)) (lt_or_ge (i % 2) 1)

-- the first sum over n words that the byte is a part of
first_differs : (b : List ℕ) (i z n : ℕ) → i < 2 * n → i < length b → get_or b i 0 < 256 → z < 256 → (get_or b i 0 ≡ z → ⊥) → first_to (set b i z) n ≡ first_to b n → ⊥
unfolding first_to
first_differs b i z n h inside p q d e =
    let k = i / 2 in
    let c = changed-word b i z k (halves i) inside p q d in
    let before : first_to (set b i z) k ≡ first_to b k = first_same (set b i z) b k (λ j g. other_word b i z (2 * j) (λ f. omega arith) (λ f. omega arith)) in
    let here : first_to (set b i z) (suc k) ≡ first_to b (suc k) → ⊥ = λ f. c.sums_differ (first_to b k) (rw before at f) in
    let m : n ≡ suc k + (n - suc k) = omega arith in
    apart_on (set b i z) b (suc k) (n - suc k) (λ j g. other_word b i z (2 * j) (λ f. omega arith) (λ f. omega arith)) here (rw m at e)

-- ---- the block

-- of a block whose sums hold, whatever its letters, every place and every other value: with that byte changed they do not hold
pub noticed_sums : (b : List ℕ) (i z : ℕ) → length b ≡ 512 → i < 512 → get_or b i 0 < 256 → z < 256 → (get_or b i 0 ≡ z → ⊥) → sums_hold b ≡ true → sums_hold (set b i z) ≡ true → ⊥
noticed_sums b i z l h p q d e f =
    let (s, t) = stored_sums b e in
    let (u, v) = stored_sums (set b i z) f in
    let inside : i < length b = omega arith in
    let c = changed-word b i z (i / 2) (halves i) inside p q d in
    ⊎_elim
    (λ (g : i < 508).
    first_differs b i z 254 g inside p q d (sym u ∙ other_word b i z 508 (λ x. omega arith) (λ x. omega arith) ∙ s))
    (λ (g : 508 ≤ i).
    let w : (j : ℕ) → j < 254 → word (set b i z) (2 * j) ≡ word b (2 * j) = λ j m. other_word b i z (2 * j) (λ x. omega arith) (λ x. omega arith) in
    ⊎_elim
    (λ (k : i < 510).
    let n : 2 * (i / 2) ≡ 508 = omega arith in
    (rw n at c.differs) (u ∙ first_same (set b i z) b 254 w ∙ sym s))
    (λ (k : 510 ≤ i).
    let n : 2 * (i / 2) ≡ 510 = omega arith in
    (rw n at c.differs) (v ∙ second_same (set b i z) b 254 w ∙ sym t))
    (lt_or_ge i 510))
    (lt_or_ge i 508)

-- so of a good block: the block with that byte changed is refused
pub noticed : (b : List ℕ) (i z : ℕ) → length b ≡ 512 → i < 512 → get_or b i 0 < 256 → z < 256 → (get_or b i 0 ≡ z → ⊥) → block_fault b ≡ 0 → block_fault (set b i z) ≡ 0 → ⊥
noticed b i z l h p q d e f = noticed_sums b i z l h p q d (sums_right b e) (sums_right (set b i z) f)

-- and so it is no block to take
pub altered_given : (archive : ℕ) (b : List ℕ) (i z : ℕ) → length b ≡ 512 → i < 512 → get_or b i 0 < 256 → z < 256 → (get_or b i 0 ≡ z → ⊥) → block_fault b ≡ 0 → given_fault archive (set b i z) ≡ 0 → ⊥
unfolding given_fault
altered_given archive b i z l h p q d e f =
    let m : length (set b i z) ≡ 512 = length-set b i z ∙ l in
    let n : block_fault (set b i z) ≡ 0 → ⊥ = noticed b i z l h p q d e in
    n (rw (eq-eqb (length (set b i z)) 512 m, ne_eqb (block_fault (set b i z)) 0 n) at f)
