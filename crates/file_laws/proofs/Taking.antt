-- The records of a good file, taken block by block, are taken as if they came one after another.
-- Assumes nothing.
use Prim.Native.Nat.{ℕ, zero, suc, ◌+◌, ◌-◌, ◌*◌, ◌≤◌, ◌<◌}
use native.Mathlib.Omega.{arith}
use mathlib.Core.Path.{◌≡◌, refl, sym, ap, ◌∙◌}
use mathlib.Core.Bool.{true}
use mathlib.Core.List.{List, [], ◌∷◌, ◌++◌}
use lib.ListN.{length, take, drop, take-append-drop, drop_of_length-le}
use lib.Seq.{drop-drop}
use borrow.Author.Tests.{eq-eqb}
use Rattle.model.specs.Record.{Rec}
use Rattle.model.specs.Log.{records_of, log_bytes}
use Rattle.model.specs.Block.{letters, archive_in, block_fault, given_fault}
use Rattle.model.specs.File.{block_count, file_length, blocks_in, block_at, file_records, file_fault}
use Rattle.base_model.specs.Base.{base_in, base_vector}
use Rattle.call_model.specs.Outcome.{outcome, Took, refused, taken, take_one, takes_all, take_of}
use Rattle.byte_slice.proofs.Parts.{part_length}
use Rattle.block_laws.proofs.Faults.{fault_sab1}
use Rattle.take_laws.proofs.Take.{refused_taken, taken_same, take_all-nil, take_all_goes, take_all_stops}
use Rattle.call_laws.specs.Keeps.{Good}
use Rattle.call_laws.proofs.Calls.{takes_on, take_back, take_left, take_done}
use Rattle.file_laws.specs.Taking.{TakesBlocks}
use Rattle.run_laws.specs.Fits.{Agreeing}
use Rattle.file_laws.proofs.Rewritten.{agreeing, lengths, length-right, records_right}

-- records taken one after another are taken in two parts
parted : (p : ℕ) (v : List ℕ) (l rs more m : List Rec) → takes_all p v l (rs ++ more) ≡ taken m → (x : List Rec) × (takes_all p v l rs ≡ taken x) × (takes_all p v x more ≡ taken m)
parted p v l [] more m e = (l, take_all-nil p v l, e)
parted p v l (r ∷ rs) more m e = go (take_one p v l r) refl (λ y q. parted p v y rs more m q)
  where
    go : (o : Took) → take_one p v l r ≡ o
        → ((y : List Rec) → takes_all p v y (rs ++ more) ≡ taken m → (x : List Rec) × (takes_all p v y rs ≡ taken x) × (takes_all p v x more ≡ taken m))
        → (x : List Rec) × (takes_all p v l (r ∷ rs) ≡ taken x) × (takes_all p v x more ≡ taken m)
    go (refused n) q k = refused_taken (sym (take_all_stops p v l r (rs ++ more) n q) ∙ e)
    go (taken y) q k =
        let (x, a, b) = k y (sym (take_all_goes p v l r (rs ++ more) y q) ∙ e) in
        (x, take_all_goes p v l r rs y q ∙ a, b)

module _ (g : List ℕ) (a : file_length g ≡ true) (e : (file_fault g).number ≡ 0) (u : ℕ) (own : u ≤ 7) where
  abbrev archive : ℕ
  archive = archive_in (block_at g 0)

  given : (k : ℕ) → k < blocks_in g → given_fault archive (block_at g k) ≡ 0
  unfolding given_fault block_at
  given k h =
      let w : 512 * k + 512 ≤ length g = omega (arith, (lengths g a e).0) in
      let A : Agreeing letters 0 g k = agreeing g a e k h in
      let G : block_fault (block_at g k) ≡ 0 = fault_sab1 (block_at g k) ∙ A.good in
      rw (eq-eqb (length (block_at g k)) 512 (part_length g (512 * k) 512 w), eq-eqb (archive_in (block_at g k)) archive A.archived, G)

  -- the records that the base takes into l
  module _ (base : List ℕ) where
    abbrev takes : List Rec → List Rec → Took
    takes l rs = takes_all (base_in base).list (base_vector base) l rs

    -- the records from block k on
    blocks_taken : (n k : ℕ) (l m : List Rec) → k + n ≡ blocks_in g → Good (log_bytes l) base → records_of (log_bytes l) ≡ l → takes l (drop (6 * k) (file_records g)) ≡ taken m
        → TakesBlocks archive u base g k n (log_bytes l) (log_bytes m)
    unfolding block_count
    blocks_taken zero k l m h s back t =
        let r : List Rec = file_records g in
        let z : drop (6 * k) r ≡ [] = drop_of_length-le r {i = 6 * k} (omega (arith, length-right g a e)) in
        ap log_bytes (taken_same (sym (take_all-nil (base_in base).list (base_vector base) l) ∙ ap (takes l) (sym z) ∙ t))
    blocks_taken (suc n) k l m h s back t =
        let r : List Rec = file_records g in
        let d : List Rec = drop (6 * k) r in
        let b : List ℕ = block_at g k in
        let (x, p, q) = parted (base_in base).list (base_vector base) l (take 6 d) (drop 6 d) m (ap (takes l) (take-append-drop 6 d) ∙ t) in
        let now : takes_on (log_bytes l) base (take 6 d) ≡ taken x = rw back p in
        let o : take_of archive u (log_bytes l) base b ≡ outcome 0 0 (log_bytes x) [] 0 =
        take_done archive u (log_bytes l) base b x own s (given k (omega arith)) (rw (← records_right g a e k (omega arith)) now) in
        let six : 6 * k + 6 ≡ 6 * suc k = omega arith in
        let rest = blocks_taken n (suc k) x m (omega arith) (take_left (log_bytes l) base (take 6 d) x s now) (take_back (log_bytes l) base (take 6 d) x s now)
        (ap (λ (i : ℕ). takes x (drop i r)) (sym six) ∙ ap (takes x) (sym (drop-drop 6 (6 * k) r)) ∙ q) in
        rw o (refl, rest)

    -- a log takes the blocks of the file as it takes its records
    pub file_taken : (l m : List Rec) → Good (log_bytes l) base → records_of (log_bytes l) ≡ l → takes l (file_records g) ≡ taken m
        → TakesBlocks archive u base g 0 (blocks_in g) (log_bytes l) (log_bytes m)
    file_taken l m s back t = blocks_taken (blocks_in g) 0 l m (omega arith) s back t
