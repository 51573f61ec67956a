-- The greatest lengths of the parts of a line.
-- Assumes nothing.
use Prim.Native.Nat.{ℕ, suc, ◌+◌, ◌*◌, ◌/◌, ◌≤◌, ◌<◌}
use native.Mathlib.Omega.{arith}
use mathlib.Core.Path.{◌≡◌, refl}
use mathlib.Core.Logic.{◌⊎◌, ⊎_elim}
use mathlib.Core.Bool.{Bool, true, false, cond, ◌||◌}
use mathlib.Core.List.{List, [], ◌∷◌}
use lib.Dec.{eqb}
use lib.ListN.{length, take, drop, get_or, length-append, length-take}
use Rattle.model.specs.Bytes.{word, blank, part}
use Rattle.model.specs.Record.{text_length}
use Rattle.model.specs.Listing.{folder_word, trace_word, disputed_word, open_word, settled_word, decimal, hex_text, identity_text, escaped, label_text, counts_text, kind_text, mark_text, disputed_text, marked_text, state_text}
use Rattle.byte_slice.proofs.Numbers.{lt_or_ge}
use Rattle.tree_laws.proofs.Steps.{cond_elim}
use Rattle.line_text.proofs.Decimal.{one_digit, more_digits, decimal-length}

-- a digit more
one_more : (n k : ℕ) → 1 ≤ k → n < 4294967296 → length (decimal (n / 10)) ≤ k → length (decimal n) ≤ k + 1
one_more n k p h l =
    ⊎_elim
    (λ (a : n < 10). omega (arith, one_digit n a))
    (λ (a : 10 ≤ n). omega (arith, more_digits n a h))
    (lt_or_ge n 10)

pub two_digits_lem : (n : ℕ) → n < 100 → length (decimal n) ≤ 2
two_digits_lem n h = one_more n 1 (omega arith) (omega arith) (omega (arith, one_digit (n / 10) (omega arith)))

pub three_digits : (n : ℕ) → n < 1000 → length (decimal n) ≤ 3
three_digits n h = one_more n 2 (omega arith) (omega arith) (two_digits_lem (n / 10) (omega arith))

pub five_digits : (n : ℕ) → n < 100000 → length (decimal n) ≤ 5
five_digits n h =
    one_more n 4 (omega arith) (omega arith)
    (one_more (n / 10) 3 (omega arith) (omega arith) (one_more (n / 10 / 10) 2 (omega arith) (omega arith) (two_digits_lem (n / 10 / 10 / 10) (omega arith))))

-- an identity's text is as long as its two numbers and a dot
identity-length : (b : List ℕ) → length (identity_text b) ≡ length (decimal (get_or b 0 0)) + suc (length (decimal (word b 2)))
unfolding identity_text
identity-length b = length-append (decimal (get_or b 0 0)) (46 ∷ decimal (word b 2))

pub identity_few : (b : List ℕ) → get_or b 0 0 < 10 → word b 2 < 100000 → length (identity_text b) ≤ 7
identity_few b h g = omega (arith, identity-length b, one_digit (get_or b 0 0) h, five_digits (word b 2) g)

escaped-length : (t : List ℕ) → length (escaped t) ≤ 2 * length t
unfolding escaped
escaped-length [] = omega arith
escaped-length (x ∷ t) =
    cond_elim (λ (s : List ℕ). length s ≤ 2 * suc (length t)) (eqb x 34 || eqb x 92) (92 ∷ x ∷ escaped t) (x ∷ escaped t)
    (λ _. omega (arith, escaped-length t))
    (λ _. omega (arith, escaped-length t))

take_few : (n : ℕ) (t : List ℕ) → length (take n t) ≤ n
take_few n t = rw (length-take n t) (omega arith)

part_few : (b : List ℕ) (at n : ℕ) → length (part b at n) ≤ n
unfolding part
part_few b at n = take_few n (drop at b)

-- a label of up to 32 bytes
pub label_length : (b : List ℕ) (at : ℕ) → length (label_text (part b at 32)) ≤ 66
unfolding label_text
label_length b at =
    let t : List ℕ = part b at 32 in
    let s : List ℕ = take (text_length t) t in
    let f : length s ≤ length t = rw (length-take (text_length t) t) (omega arith) in
    omega (arith, length-append (escaped s) (34 ∷ []), escaped-length s, part_few b at 32)

hex_length : (b : List ℕ) → length (hex_text b) ≡ 2 * length b
unfolding hex_text
hex_length [] = refl
hex_length (x ∷ b) = omega (arith, hex_length b)

-- a trace has a shorter word than a folder, and a mark of 16 bytes
pub kind_and_mark : (k : ℕ) (b : List ℕ) (at : ℕ) → length (kind_text k) + length (mark_text k (part b at 16)) ≤ 39
unfolding kind_text mark_text
kind_and_mark k b at = go (eqb k 1)
  where
    go : (t : Bool) → length (cond t folder_word trace_word) + length (cond t [] (32 ∷ hex_text (part b at 16))) ≤ 39
    go true = omega arith
    go false = omega (arith, hex_length (part b at 16), part_few b at 16)

pub disputed_length : (d : ℕ) → length (disputed_text d) ≤ 9
unfolding disputed_text
disputed_length d = cond_elim (λ (s : List ℕ). length s ≤ 9) (eqb d 1) disputed_word [] (λ _. omega arith) (λ _. omega arith)

pub marked_length : (b : List ℕ) → get_or b 0 0 < 10 → word b 2 < 100000 → length (marked_text b) ≤ 7
unfolding marked_text
marked_length b h g = cond_elim (λ (s : List ℕ). length s ≤ 7) (blank b) (45 ∷ []) (identity_text b) (λ _. omega arith) (λ _. identity_few b h g)

pub state_length : (s : ℕ) → length (state_text s) ≤ 8
unfolding state_text
state_length s = cond_elim (λ (t : List ℕ). length t ≤ 8) (eqb s 1) open_word settled_word (λ _. omega arith) (λ _. omega arith)

-- a space and up to five digits for each count
pub counts-length : (v : List ℕ) → ((i : ℕ) → i < length v → get_or v i 0 < 100000) → length (counts_text v) ≤ 6 * length v
unfolding counts_text
counts-length [] h = omega arith
counts-length (c ∷ v) h =
    omega (arith, length-append (decimal c) (counts_text v), five_digits c (h 0 (omega arith)), counts-length v (λ i g. h (suc i) (omega arith)))
