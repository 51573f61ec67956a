-- One text written behind another.
-- Assumes nothing.
use Prim.Native.Nat.{ℕ, ◌+◌, ◌≤◌, ◌<◌}
use native.Mathlib.Omega.{arith}
use native.Mathlib.Numerals.{add-one}
use mathlib.Core.Path.{◌≡◌, sym, ap, ◌∙◌}
use mathlib.Core.List.{List, [], ◌∷◌, ◌++◌}
use lib.ListN.{length, take, drop, get_or, length-append, take-append-drop}
use lib.Seq.{take-suc, take_all}
use Rattle.byte_slice.proofs.PutAt.{put_more, put-nil, length-put}
use Rattle.line_text.specs.Written.{Wrote}

-- what was written leaves the length
pub wrote_length : {a b : List ℕ} {at r : ℕ} {s : List ℕ} → at + length s ≤ length a → Wrote a b at r s → length b ≡ length a
wrote_length {a} {b} {at} {r} {s} room w = ap length w.bytes ∙ length-put a at s room

-- room for a text has room for its first part
pub room_first : (at n : ℕ) (s t : List ℕ) → at + length (s ++ t) ≤ n → at + length s ≤ n
room_first at n s t room = let e = length-append s t in omega arith

-- and, behind that, for the rest
pub room_rest : {a b : List ℕ} {at m : ℕ} {s : List ℕ} (t : List ℕ) → at + length (s ++ t) ≤ length a → Wrote a b at m s → m + length t ≤ length b
room_rest {a} {b} {at} {m} {s} t room w =
    let e = length-append s t in
    omega (arith, w.next, wrote_length (room_first at (length a) s t room) w)

-- a text behind a text
pub wrote_then : {a b c : List ℕ} {at m r : ℕ} {s t : List ℕ}
    → at + length (s ++ t) ≤ length a → Wrote a b at m s → (m + length t ≤ length b → Wrote b c m r t) → Wrote a c at r (s ++ t)
wrote_then {a} {b} {c} {at} {m} {r} {s} {t} room v then =
    let n : length (s ++ t) ≡ length s + length t = length-append s t in
    let w = then (room_rest t room v) in
    record {
      bytes = w.bytes ∙ rw (v.bytes, v.next) (put_more a at s t (omega arith));
      next = omega (arith, v.next, w.next);
    }

pub wrote_more : {a b c : List ℕ} {at m r : ℕ} {s t : List ℕ} → at + length (s ++ t) ≤ length a → Wrote a b at m s → Wrote b c m r t → Wrote a c at r (s ++ t)
wrote_more room v w = wrote_then room v (λ _. w)

pub wrote_none : (a : List ℕ) (at : ℕ) → Wrote a a at at []
wrote_none a at = record { bytes = sym (put-nil a at); next = omega arith }

-- the same text by another name
pub wrote_same : {a b : List ℕ} {at r : ℕ} (s t : List ℕ) → s ≡ t → Wrote a b at r s → Wrote a b at r t
wrote_same s t e w = rw (← e) w

-- ---- texts that are written element by element

-- of a text that goes over lists laid end to end: the next element, and the room for it
module _ (f : List ℕ → List ℕ) (over : (s t : List ℕ) → f (s ++ t) ≡ f s ++ f t) (t : List ℕ) where
  pub next_text : (i : ℕ) → i < length t → f (take (i + 1) t) ≡ f (take i t) ++ f (get_or t i 0 ∷ [])
  next_text i h = rw (add-one i, take-suc t i 0 h) (over (take i t) (get_or t i 0 ∷ []))

  pub text_room : (i : ℕ) → i < length t → length (f (take i t)) + length (f (get_or t i 0 ∷ [])) ≤ length (f t)
  text_room i h =
      let e : f t ≡ f (take (i + 1) t) ++ f (drop (i + 1) t) = ap f (sym (take-append-drop (i + 1) t)) ∙ over (take (i + 1) t) (drop (i + 1) t) in
      let n = ap length e ∙ length-append (f (take (i + 1) t)) (f (drop (i + 1) t)) in
      let m = ap length (next_text i h) ∙ length-append (f (take i t)) (f (get_or t i 0 ∷ [])) in
      omega arith

-- a turn of a loop that writes element by element, and its end
module _ (f : List ℕ → List ℕ) (over : (s t : List ℕ) → f (s ++ t) ≡ f s ++ f t) (a b c t : List ℕ) (at m r i : ℕ) where
  pub wrote_next : at + length (f t) ≤ length a → i < length t → Wrote a b at m (f (take i t)) → Wrote b c m r (f (get_or t i 0 ∷ [])) → Wrote a c at r (f (take (i + 1) t))
  wrote_next room h v w =
      let n = length-append (f (take i t)) (f (get_or t i 0 ∷ [])) in
      rw (next_text f over t i h) (wrote_more (omega (arith, text_room f over t i h)) v w)

  -- the room for the next element
  pub next_fits : at + length (f t) ≤ length a → i < length t → Wrote a b at m (f (take i t)) → m + length (f (get_or t i 0 ∷ [])) ≤ length b
  next_fits room h v =
      let n = text_room f over t i h in
      let l = wrote_length (omega arith) v in
      omega (arith, v.next)

pub wrote_all : (f : List ℕ → List ℕ) (a b t : List ℕ) (at r i : ℕ) → length t ≤ i → Wrote a b at r (f (take i t)) → Wrote a b at r (f t)
wrote_all f a b t at r i h w = rw (← take_all i t h) w
