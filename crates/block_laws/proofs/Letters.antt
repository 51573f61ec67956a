-- A block with any four letters that was written is read back: every field, no fault, and what stands in its places.
-- Assumes nothing.
use Prim.Native.Nat.{ℕ, ◌+◌, ◌-◌, ◌*◌, ◌≤◌}
use native.Mathlib.Omega.{arith}
use mathlib.Core.Path.{◌≡◌, refl, ◌∙◌}
use mathlib.Core.Bool.{true}
use mathlib.Core.List.{List, [], ◌∷◌, ◌++◌, append_assoc}
use lib.ListN.{length, take, replicate, length-append, length-replicate}
use borrow.Author.Tests.{le-leb}
use Rattle.model.specs.Bytes.{two, four, part, blank, padded, joined}
use Rattle.model.specs.Vector.{vector_bytes}
use Rattle.model.specs.Record.{Rec}
use Rattle.model.specs.Block.{Header, sealed, first_to, second_to, count_in, sender_in, archive_in, place_in, vector_in, sums_hold, header_holds, block_records}
use Rattle.run_model.specs.Runs.{head_as, body_as, block_as, block_fault_as}
use Rattle.byte_slice.proofs.Parts.{part_middle}
use Rattle.byte_slice.proofs.Words.{word_at, long-at}
use Rattle.byte_slice.proofs.Compare.{same_refl, blank-zeros}
use Rattle.vector.proofs.InBytes.{vector_back}
use Rattle.block_laws.proofs.Fields.{Sized, length-joined, records_back, length-head_as, length-body_as}
use Rattle.block_laws.proofs.Sums.{sealed-holds}

-- what holds of any four numbers holds of any four letters
pub by_four : (P : List ℕ → Type 0) → ((a b c d : ℕ) → P (a ∷ b ∷ c ∷ d ∷ [])) → (t : List ℕ) → length t ≡ 4 → P t
by_four P f [] e = absurd (omega arith)
by_four P f (a ∷ []) e = absurd (omega arith)
by_four P f (a ∷ b ∷ []) e = absurd (omega arith)
by_four P f (a ∷ b ∷ c ∷ []) e = absurd (omega arith)
by_four P f (a ∷ b ∷ c ∷ d ∷ []) e = f a b c d
by_four P f (a ∷ b ∷ c ∷ d ∷ x ∷ t) e = absurd (omega arith)

-- the unused places are zero
unused-blank : (l : List Rec) (p t : List ℕ) → Sized l → length l ≤ 6 → length p ≡ 28 → blank (part (p ++ (padded 480 (joined l) ++ t)) (28 + 80 * length l) (480 - 80 * length l)) ≡ true
unfolding padded
unused-blank l p t z k e =
    let j : length (joined l) ≡ 80 * length l = length-joined l z in
    let m : 480 - length (joined l) ≡ 480 - 80 * length l = omega arith in
    let o : List ℕ = replicate (480 - length (joined l)) 0 in
    let n : length (p ++ joined l) ≡ 28 + 80 * length l = omega (arith, length-append p (joined l)) in
    let q : length o ≡ 480 - 80 * length l = length-replicate {A = ℕ} (480 - length (joined l)) 0 ∙ m in
    let f : part ((p ++ joined l) ++ (o ++ t)) (28 + 80 * length l) (480 - 80 * length l) ≡ o = rw (n, q) at (part_middle (p ++ joined l) o t) in
    rw (append_assoc (joined l) o t, ← append_assoc p (joined l) (o ++ t), f) (blank-zeros (480 - length (joined l)))

module _ (t : List ℕ) (t4 : length t ≡ 4) (h : Header) (l : List Rec) where
  behind_head : block_as t h l ≡ head_as t h (length l) ++ (padded 480 (joined l) ++ (two (first_to (body_as t h l) 254) ++ two (second_to (body_as t h l) 254)))
  unfolding block_as sealed body_as
  behind_head = append_assoc (head_as t h (length l)) (padded 480 (joined l)) _

  pub sender_back : sender_in (block_as t h l) ≡ h.sender
  unfolding sender_in block_as sealed body_as head_as
  sender_back = by_four (λ (x : List ℕ). sender_in (block_as x h l) ≡ h.sender) (λ a b c d. refl) t t4

  pub count_back : count_in (block_as t h l) ≡ length l
  unfolding count_in block_as sealed body_as head_as
  count_back = by_four (λ (x : List ℕ). count_in (block_as x h l) ≡ length l) (λ a b c d. refl) t t4

  pub letters_back : take 4 (block_as t h l) ≡ t
  unfolding block_as sealed body_as head_as
  letters_back = by_four (λ (x : List ℕ). take 4 (block_as x h l) ≡ x) (λ a b c d. refl) t t4

  pub archive_back : archive_in (block_as t h l) ≡ h.archive
  unfolding archive_in block_as sealed body_as head_as
  archive_back = by_four (λ (x : List ℕ). archive_in (block_as x h l) ≡ h.archive) (λ a b c d. long-at (a ∷ b ∷ c ∷ d ∷ []) h.archive _) t t4

  pub place_back : place_in (block_as t h l) ≡ h.place
  unfolding place_in block_as sealed body_as head_as
  place_back =
      by_four (λ (x : List ℕ). place_in (block_as x h l) ≡ h.place)
      (λ a b c d. word_at ((a ∷ b ∷ c ∷ d ∷ []) ++ (four h.archive ++ (h.sender ∷ length l ∷ []))) h.place _) t t4

  pub vector_in_back : length h.vector ≡ 8 → vector_in (block_as t h l) ≡ h.vector
  unfolding vector_in block_as sealed body_as head_as
  vector_in_back e =
      by_four (λ (x : List ℕ). vector_in (block_as x h l) ≡ h.vector)
      (λ a b c d.
      let x : List ℕ = a ∷ b ∷ c ∷ d ∷ [] in
      let v : List ℕ = vector_bytes h.vector in
      let s : List ℕ = two (first_to (body_as x h l) 254) ++ two (second_to (body_as x h l) 254) in
      let p : List ℕ = x ++ (four h.archive ++ ((h.sender ∷ length l ∷ []) ++ two h.place)) in
      rw (append_assoc v (padded 480 (joined l)) s) (vector_back p h.vector (padded 480 (joined l) ++ s) e)) t t4

  module _ (z : Sized l) (k : length l ≤ 6) where
    sums_hold_lem : sums_hold (block_as t h l) ≡ true
    unfolding block_as
    sums_hold_lem = sealed-holds (body_as t h l) (length-body_as t t4 h l z k)

    header_holds_lem : h.sender ≤ 7 → header_holds (block_as t h l) ≡ true
    unfolding header_holds
    header_holds_lem s =
        let u : blank (part (block_as t h l) (28 + 80 * length l) (480 - 80 * length l)) ≡ true = rw behind_head (unused-blank l (head_as t h (length l)) _ z k (length-head_as t t4 h (length l))) in
        rw (sender_back, count_back, le-leb h.sender 7 s, le-leb (length l) 6 k, u)

    -- no fault is found in a block that was written
    pub faultless : h.sender ≤ 7 → block_fault_as t (block_as t h l) ≡ 0
    unfolding block_fault_as
    faultless s = rw (letters_back, same_refl t, sums_hold_lem, header_holds_lem s)

    -- its rows are read back
    pub block_rows : block_records (block_as t h l) ≡ l
    unfolding block_records padded
    block_rows =
        let o : List ℕ = replicate (480 - length (joined l)) 0 in
        let s : List ℕ = two (first_to (body_as t h l) 254) ++ two (second_to (body_as t h l) 254) in
        rw (count_back, behind_head, append_assoc (joined l) o s) (records_back l (head_as t h (length l)) (o ++ s) 0 z (length-head_as t t4 h (length l)))
