-- What the writings of a head give.
-- Assumes nothing.
use Prim.Native.Nat.{ℕ}
use native.Mathlib.Omega.{arith}
use mathlib.Core.Path.{◌≡◌}
use mathlib.Core.List.{List, [], ◌∷◌, ◌++◌}
use lib.ListN.{length}
use Rattle.model.specs.Bytes.{two, four, put_at}
use Rattle.model.specs.Vector.{vector_bytes}
use Rattle.byte_slice.proofs.PutAt.{put_more, put_whole}
use Rattle.vector.proofs.InBytes.{vector_bytes-length}
use Rattle.sab_words.specs.Words.{head_of}

-- the fields of the head are written one behind another
pub heads : (d : List ℕ) (a u k : ℕ) (v : List ℕ) → length d ≡ 24
    → put_at (put_at (put_at (put_at d 0 (four a)) 4 (u ∷ 0 ∷ [])) 6 (two k)) 8 (vector_bytes v) ≡ head_of a u k v
unfolding head_of
heads d a u k v n =
    let h₁ = four a in
    let h₂ = h₁ ++ (u ∷ 0 ∷ []) in
    let h₃ = h₂ ++ two k in
    let g₁ : put_at (put_at d 0 h₁) 4 (u ∷ 0 ∷ []) ≡ put_at d 0 h₂ = put_more d 0 h₁ (u ∷ 0 ∷ []) (omega arith) in
    let g₂ : put_at (put_at d 0 h₂) 6 (two k) ≡ put_at d 0 h₃ = put_more d 0 h₂ (two k) (omega arith) in
    let g₃ : put_at (put_at d 0 h₃) 8 (vector_bytes v) ≡ put_at d 0 (h₃ ++ vector_bytes v) = put_more d 0 h₃ (vector_bytes v) (omega arith) in
    rw (g₁, g₂, g₃) (put_whole d (h₃ ++ vector_bytes v) (omega (arith, vector_bytes-length v)))
