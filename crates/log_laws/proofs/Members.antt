-- Members of parts of lists, and what holds of all.
-- Assumes nothing.
use Prim.Native.Nat.{ℕ, zero, suc, ◌<◌}
use native.Mathlib.Omega.{arith}
use mathlib.Core.Logic.{◌⊎◌, inl, inr, ⊎_elim}
use mathlib.Core.List.{List, [], ◌∷◌, ◌++◌}
use lib.ListN.{length, get_or, take, drop}
use Rattle.model.specs.Record.{Rec}
use Rattle.log_laws.specs.Members.{Has, Sub}

-- ---- members

pub has_append : (a b : List Rec) (r : Rec) → Has r (a ++ b) → Has r a ⊎ Has r b
has_append [] b r h = inr h
has_append (x ∷ a) b r (inl e) = inl (inl e)
has_append (x ∷ a) b r (inr h) = ⊎_elim (λ i. inl (inr i)) (λ i. inr i) (has_append a b r h)

pub append_has : (a b : List Rec) (r : Rec) → Has r a ⊎ Has r b → Has r (a ++ b)
append_has [] b r (inl h) = absurd h
append_has [] b r (inr h) = h
append_has (x ∷ a) b r (inl (inl e)) = inl e
append_has (x ∷ a) b r (inl (inr h)) = inr (append_has a b r (inl h))
append_has (x ∷ a) b r (inr h) = inr (append_has a b r (inr h))

pub has_take : (n : ℕ) (l : List Rec) → Sub (take n l) l
has_take zero l r h = absurd h
has_take (suc n) [] r h = absurd h
has_take (suc n) (x ∷ l) r (inl e) = inl e
has_take (suc n) (x ∷ l) r (inr h) = inr (has_take n l r h)

pub has_drop : (n : ℕ) (l : List Rec) → Sub (drop n l) l
has_drop zero l r h = h
has_drop (suc n) [] r h = absurd h
has_drop (suc n) (x ∷ l) r h = inr (has_drop n l r h)

-- ---- all

abbrev pub All {ℓ κ} : {A : Type ℓ} → (A → Type κ) → List A → Type κ
All P [] = Unit {κ}
All P (x ∷ l) = P x × All P l

pub all_map {ℓ κ} : {A : Type ℓ} {P Q : A → Type κ} → ((x : A) → P x → Q x) → (l : List A) → All P l → All Q l
all_map f [] h = tt
all_map f (x ∷ l) h = (f x h.0, all_map f l h.1)

pub all_append {ℓ κ} : {A : Type ℓ} (P : A → Type κ) (l m : List A) → All P l → All P m → All P (l ++ m)
all_append P [] m h k = k
all_append P (x ∷ l) m h k = (h.0, all_append P l m h.1 k)

pub all_at {ℓ κ} : {A : Type ℓ} (P : A → Type κ) (l : List A) (n : ℕ) (d : A) → n < length l → All P l → P (get_or l n d)
all_at P [] n d k h = absurd (omega arith)
all_at P (x ∷ l) zero d k h = h.0
all_at P (x ∷ l) (suc n) d k h = all_at P l n d (omega arith) h.1

pub all_drop {ℓ κ} : {A : Type ℓ} (P : A → Type κ) (n : ℕ) (l : List A) → All P l → All P (drop n l)
all_drop P zero l h = h
all_drop P (suc n) [] h = h
all_drop P (suc n) (x ∷ l) h = all_drop P n l h.1
