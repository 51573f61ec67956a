-- What the writings of a block give: header, records, sums.
-- Assumes nothing.
use Prim.Native.Nat.{ℕ, ◌+◌, ◌-◌, ◌≤◌}
use native.Mathlib.Omega.{arith}
use mathlib.Core.Path.{◌≡◌, refl, sym, ap, ◌∙◌}
use mathlib.Core.List.{List, [], ◌∷◌, ◌++◌, append_assoc}
use lib.ListN.{length, take, drop, replicate, drop_of_length-le, length-append}
use lib.Seq.{take-append-add}
use Rattle.model.specs.Bytes.{two, four, put_at, padded, joined}
use Rattle.model.specs.Vector.{vector_bytes}
use Rattle.model.specs.Block.{Header, letters, head_bytes, body_bytes, block_of, first_to, second_to, sealed}
use Rattle.run_model.specs.Runs.{head_as}
use Rattle.byte_slice.proofs.Parts.{take-replicate}
use Rattle.byte_slice.proofs.PutAt.{put_more, put-nil, put-padded, padded-nil}
use Rattle.block_laws.proofs.Fields.{length-head_as}
use Rattle.block_laws.proofs.Sums.{first_take, second_take}

-- the two sums are written behind the 254 words
pub seals : (d m o : List ℕ) {p q : ℕ} → length d ≡ 512 → p ≡ first_to d 254 → q ≡ second_to d 254 → m ≡ put_at d 508 (two p) → o ≡ put_at m 510 (two q) → o ≡ sealed (take 508 d)
unfolding sealed put_at
seals d m o {p} {q} n e f g h =
    let s = two p ++ two q in
    let w : put_at (put_at d 508 (two p)) 510 (two q) ≡ put_at d 508 s = put_more d 508 (two p) (two q) (omega arith) in
    let z : drop 512 d ≡ [] = drop_of_length-le d {i = 512} (omega arith) in
    let r : take 508 d ++ s ≡ take 508 d ++ (two (first_to (take 508 d) 254) ++ two (second_to (take 508 d) 254)) =
    rw (first_take d 254 508 (omega arith), second_take d 254 508 (omega arith), e, f) in
    h ∙ rw g (w ∙ rw z r)

-- the fields of the header are written one behind another
pub headed : (d t : List ℕ) (a u n p : ℕ) (v : List ℕ) → length d ≡ 512 → length t ≡ 4
    → put_at (put_at (put_at (put_at (put_at d 0 t) 4 (four a)) 8 (u ∷ n ∷ [])) 10 (two p)) 12 (vector_bytes v) ≡ put_at d 0 (head_as t (record { archive = a; sender = u; place = p; vector = v }) n)
unfolding head_as
headed d t a u n p v e k =
    let h₂ = t ++ four a in
    let h₃ = h₂ ++ (u ∷ n ∷ []) in
    let h₄ = h₃ ++ two p in
    let l₂ : length h₂ ≡ 8 = omega (arith, length-append t (four a)) in
    let l₃ : length h₃ ≡ 10 = omega (arith, length-append h₂ (u ∷ n ∷ [])) in
    let l₄ : length h₄ ≡ 12 = omega (arith, length-append h₃ (two p)) in
    let g₁ : put_at (put_at d 0 t) 4 (four a) ≡ put_at d 0 h₂ = rw k at (put_more d 0 t (four a) (omega arith)) in
    let g₂ : put_at (put_at d 0 h₂) 8 (u ∷ n ∷ []) ≡ put_at d 0 h₃ = rw l₂ at (put_more d 0 h₂ (u ∷ n ∷ []) (omega arith)) in
    let g₃ : put_at (put_at d 0 h₃) 10 (two p) ≡ put_at d 0 h₄ = rw l₃ at (put_more d 0 h₃ (two p) (omega arith)) in
    let g₄ : put_at (put_at d 0 h₄) 12 (vector_bytes v) ≡ put_at d 0 (h₄ ++ vector_bytes v) = rw l₄ at (put_more d 0 h₄ (vector_bytes v) (omega arith)) in
    let j : h₄ ++ vector_bytes v ≡ t ++ (four a ++ ((u ∷ n ∷ []) ++ (two p ++ vector_bytes v))) = simp append_assoc in
    rw (g₁, g₂, g₃, ← j) g₄

-- the letters SAB1 are a case
head_sab1 : (h : Header) (n : ℕ) → head_as letters h n ≡ head_bytes h n
unfolding head_as head_bytes
head_sab1 h n = refl

-- ---- a fresh block, filled from the front

take-padded : (m n : ℕ) (s : List ℕ) → m ≤ n → length s ≤ m → take m (padded n s) ≡ padded m s
unfolding padded
take-padded m n s h g =
    let e : m ≡ length s + (m - length s) = omega arith in
    let f : take (length s + (m - length s)) (s ++ replicate (n - length s) 0) ≡ s ++ replicate (m - length s) 0 =
    take-append-add s (replicate (n - length s) 0) (m - length s) ∙ ap (λ (t : List ℕ). s ++ t) (take-replicate (m - length s) (n - length s) 0 (omega arith)) in
    rw (← e) at f

padded-behind : (n : ℕ) (p s : List ℕ) → padded (length p + n) (p ++ s) ≡ p ++ padded n s
unfolding padded
padded-behind n p s =
    let e : length p + n - length (p ++ s) ≡ n - length s = omega (arith, length-append p s) in
    rw (e, append_assoc p s)

-- header, then records, in a block of zeros
filled : (h s : List ℕ) → length h ≡ 28 → length s ≤ 480 → take 508 (put_at (put_at (replicate 512 0) 0 h) 28 s) ≡ h ++ padded 480 s
filled h s e g =
    let a : put_at (replicate 512 0) 0 h ≡ padded 512 h = rw (padded-nil 512) at (put-padded 512 [] h) in
    let b : put_at (padded 512 h) 28 s ≡ padded 512 (h ++ s) = rw e at (put-padded 512 h s) in
    let c : take 508 (padded 512 (h ++ s)) ≡ padded 508 (h ++ s) = take-padded 508 512 (h ++ s) (omega arith) (omega (arith, length-append h s)) in
    let d : padded 508 (h ++ s) ≡ h ++ padded 480 s = rw e at (padded-behind 480 h s) in
    rw (a, b, c, d)

pub filled_block : (t : List ℕ) (w : Header) (n : ℕ) (s : List ℕ) {d f o : List ℕ} → length t ≡ 4 → length s ≤ 480 → d ≡ put_at (replicate 512 0) 0 (head_as t w n) → f ≡ put_at d 28 s → o ≡ sealed (take 508 f)
    → o ≡ sealed (head_as t w n ++ padded 480 s)
filled_block t w n s q h e g k = k ∙ ap sealed (rw (g, e) (filled (head_as t w n) s (length-head_as t q w n) h))

pub filled_sab1 : (w : Header) (n : ℕ) (s : List ℕ) {o : List ℕ} → o ≡ sealed (head_as letters w n ++ padded 480 s) → o ≡ sealed (head_bytes w n ++ padded 480 s)
filled_sab1 w n s e = rw (head_sab1 w n) at e

pub fresh_block : (w : Header) {d o : List ℕ} → d ≡ put_at (replicate 512 0) 0 (head_as letters w 0) → o ≡ sealed (take 508 d) → o ≡ block_of w []
unfolding block_of body_bytes joined
fresh_block w {d} e k = filled_sab1 w 0 [] (filled_block letters w 0 [] refl (omega arith) e (sym (put-nil d 28)) k)

-- what the goals of this crate ask for
pub ruleset ways = (headed, filled_block, filled_sab1, fresh_block)
