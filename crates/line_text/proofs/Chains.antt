-- Texts of two to four parts: the room for each part, and the whole once all are written.
-- Assumes nothing.
use Prim.Native.Nat.{ℕ, ◌+◌, ◌≤◌}
use mathlib.Core.Path.{◌≡◌}
use mathlib.Core.List.{List, ◌++◌}
use lib.ListN.{length}
use Rattle.line_text.specs.Written.{Wrote}
use Rattle.line_text.proofs.Written.{room_first, room_rest, wrote_more}

-- ---- a text and its parts

pub record InTwo (w s t : List ℕ) : Type 0 where
  pub parts : w ≡ s ++ t

pub record InThree (w s t u : List ℕ) : Type 0 where
  pub parts : w ≡ s ++ (t ++ u)

pub record InFour (w s t u v : List ℕ) : Type 0 where
  pub parts : w ≡ s ++ (t ++ (u ++ v))

-- ---- two

module _ {w s t : List ℕ} (p : InTwo w s t) where
  pub first_of_two : (at n : ℕ) → at + length w ≤ n → at + length s ≤ n
  first_of_two at n room = room_first at n s t (rw p.parts at room)

  module _ {a b : List ℕ} {at m : ℕ} (room : at + length w ≤ length a) (x : Wrote a b at m s) where
    pub last_of_two : m + length t ≤ length b
    last_of_two = room_rest t (rw p.parts at room) x

    pub wrote_two : {c : List ℕ} {r : ℕ} → Wrote b c m r t → Wrote a c at r w
    wrote_two y = rw p.parts (wrote_more (rw p.parts at room) x y)

-- ---- three

module _ {w s t u : List ℕ} (p : InThree w s t u) where
  rest_of_three : InTwo w s (t ++ u)
  rest_of_three = record { parts = p.parts }

  pub first_of_three : (at n : ℕ) → at + length w ≤ n → at + length s ≤ n
  first_of_three = first_of_two rest_of_three

  module _ {a b : List ℕ} {at m : ℕ} (room : at + length w ≤ length a) (x : Wrote a b at m s) where
    pub second_of_three : m + length t ≤ length b
    second_of_three = room_first m (length b) t u (last_of_two rest_of_three room x)

    module _ {c : List ℕ} {k : ℕ} (y : Wrote b c m k t) where
      pub last_of_three : k + length u ≤ length c
      last_of_three = room_rest u (last_of_two rest_of_three room x) y

      pub wrote_three : {d : List ℕ} {r : ℕ} → Wrote c d k r u → Wrote a d at r w
      wrote_three z = wrote_two rest_of_three room x (wrote_more (last_of_two rest_of_three room x) y z)

-- ---- four

module _ {w s t u v : List ℕ} (p : InFour w s t u v) where
  rest_of_four : InThree w s t (u ++ v)
  rest_of_four = record { parts = p.parts }

  pub first_of_four : (at n : ℕ) → at + length w ≤ n → at + length s ≤ n
  first_of_four = first_of_three rest_of_four

  module _ {a b : List ℕ} {at m : ℕ} (room : at + length w ≤ length a) (x : Wrote a b at m s) where
    pub second_of_four : m + length t ≤ length b
    second_of_four = second_of_three rest_of_four room x

    module _ {c : List ℕ} {k : ℕ} (y : Wrote b c m k t) where
      pub third_of_four : k + length u ≤ length c
      third_of_four = room_first k (length c) u v (last_of_three rest_of_four room x y)

      module _ {d : List ℕ} {l : ℕ} (z : Wrote c d k l u) where
        pub last_of_four : l + length v ≤ length d
        last_of_four = room_rest v (last_of_three rest_of_four room x y) z

        pub wrote_four : {e : List ℕ} {r : ℕ} → Wrote d e l r v → Wrote a e at r w
        wrote_four q = wrote_three rest_of_four room x y (wrote_more (last_of_three rest_of_four room x y) z q)
