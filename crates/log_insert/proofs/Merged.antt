-- Records put in by rank, in the bytes of a log: what the loop of `insert_records` is asked, over plain values.
-- Assumes nothing.
use Prim.Native.Nat.{ℕ, zero, suc, ◌+◌, ◌-◌, ◌*◌, ◌≤◌, ◌<◌}
use native.Mathlib.Nat.{sub_self}
use native.Mathlib.Omega.{arith}
use mathlib.Core.Path.{◌≡◌, refl, sym, ap, ◌∙◌}
use mathlib.Core.Bool.{true}
use mathlib.Core.List.{List, [], ◌∷◌, ◌++◌, append_assoc, append-nil}
use lib.ListN.{length, take, drop, replicate, take-append-drop, length-append, length-drop, length-replicate}
use lib.Seq.{drop-drop, take-take}
use Rattle.model.specs.Bytes.{blank, part, put_at, padded, joined}
use Rattle.model.specs.Record.{Rec}
use Rattle.model.specs.Log.{rank, insert, records_of, log_bytes}
use Rattle.byte_slice.proofs.Parts.{part_is, part_split, part_none, part_length, part_start, part-take}
use Rattle.byte_slice.proofs.PutAt.{put_front, take_put, drop_put_at}
use Rattle.byte_slice.proofs.Compare.{blank-eq, blank-drop}
use Rattle.block_laws.proofs.Fields.{joined-append}
use Rattle.log_check.specs.declared.Layout.TheVariants.{Log}
use Rattle.log_check.specs.Places.{offset_of, laid_at}
use Rattle.log_check.specs.InOrder.{listed}
use Rattle.log_check.proofs.Sound.{listed_records}
use Rattle.log_insert.specs.Where.{place_behind, Rising, Ordered, insert_to}
use Rattle.log_insert.proofs.Ranked.{place_at_most, place_same, insert-at}
use Rattle.log_insert.proofs.Rising.{insertFrom, insert_front, either_way}

joined-cons : (r : Rec) (l : List Rec) → joined (r ∷ l) ≡ r ++ joined l
unfolding joined
joined-cons r l = refl

-- records in a row are the bytes from the first to the last
joined-listed : (l : List ℕ) (i n : ℕ) → joined (listed (laid_at Log l) i n) ≡ part l (80 * i) (80 * n)
unfolding joined listed laid_at offset_of
joined-listed l i zero = sym (part_none l (80 * i))
joined-listed l i (suc n) =
    let e : 80 * suc i ≡ 80 * i + 80 = omega arith in
    let f : 80 * suc n ≡ 80 + 80 * n = omega arith in
    rw (joined-listed l (suc i) n, e, f) (sym (part_split l (80 * i) 80 (80 * n)))

-- the records from the place `left` on are in; the log has its first `end` records where they were, a gap, and the rest
pub record Merging (log₀ recs : List ℕ) (n k : ℕ) (log : List ℕ) (end left : ℕ) : Type 0 where
  pub rest : List Rec
  pub parted : insertFrom (laid_at Log recs) (records_of log₀) left (k - left) ≡ listed (laid_at Log log₀) 0 end ++ rest
  pub above : (r : Rec) (m : List Rec) → (left < k → rank r < rank (laid_at Log recs left)) → insert r (m ++ rest) ≡ insert r m ++ rest
  pub front : take (80 * end) log ≡ take (80 * end) log₀
  pub back : drop (80 * (end + left)) log ≡ joined rest ++ replicate (40960 - 80 * (n + k)) 0

module _ (log₀ recs : List ℕ) (n k : ℕ) (long : length log₀ ≡ 40960) (s : Ordered log₀ n) (e : n ≡ length (records_of log₀)) (room : n + k ≤ 512) (up : Rising (laid_at Log recs) k) where
  -- behind the records of the log there are zeros
  rest_zero : drop (80 * (n + k)) log₀ ≡ replicate (40960 - 80 * (n + k)) 0
  rest_zero =
      let f : 80 * n + 80 * k ≡ 80 * (n + k) = omega arith in
      let d : blank (drop (80 * (n + k)) log₀) ≡ true = rw (drop-drop (80 * k) (80 * n) log₀, f) at (blank-drop (80 * k) (drop (80 * n) log₀) s.clear) in
      let m : length (drop (80 * (n + k)) log₀) ≡ 40960 - 80 * (n + k) = simp length-drop (omega arith) in
      rw m at (blank-eq (drop (80 * (n + k)) log₀) d)

  pub merging_starts : Merging log₀ recs n k log₀ n k
  unfolding insertFrom joined
  merging_starts =
      record {
        rest = [];
        parted = rw (sub_self, append-nil (listed (laid_at Log log₀) 0 n)) (sym (listed_records log₀ n e));
        above = λ r m h. rw (append-nil m, append-nil (insert r m));
        front = refl;
        back = rest_zero;
      }

  module _ (log : List ℕ) (end left : ℕ) (m : Merging log₀ recs n k log end left) (same : length log ≡ length log₀) (g : end ≤ n) (h : left ≤ k) where
    pub merging_ends : left ≤ 0 → log ≡ log_bytes (insert_to (records_of log₀) (laid_at Log recs) k)
    unfolding log_bytes padded
    merging_ends z =
        let q : left ≡ 0 = omega arith in
        let o : end + 0 ≡ end = omega arith in
        let w : k - 0 ≡ k = omega arith in
        let zs : List ℕ = replicate (40960 - 80 * (n + k)) 0 in
        let b : drop (80 * end) log ≡ joined m.rest ++ zs = rw (q, o) at m.back in
        let t : take (80 * end) log ≡ joined (listed (laid_at Log log₀) 0 end) = m.front ∙ rw (joined-listed log₀ 0 end) (sym (part_start log₀ (80 * end))) in
        let a : joined (insert_to (records_of log₀) (laid_at Log recs) k) ≡ joined (listed (laid_at Log log₀) 0 end) ++ joined m.rest = rw (← either_way (laid_at Log recs) k up (records_of log₀) k (omega arith)) (ap joined (rw (q, w) at m.parted) ∙ joined-append (listed (laid_at Log log₀) 0 end) m.rest) in
        let c : log ≡ joined (insert_to (records_of log₀) (laid_at Log recs) k) ++ zs = sym (take-append-drop (80 * end) log) ∙ rw (t, b, a, append_assoc (joined (listed (laid_at Log log₀) 0 end)) (joined m.rest) zs) in
        let y : length log ≡ length (joined (insert_to (records_of log₀) (laid_at Log recs) k)) + (40960 - 80 * (n + k)) = ap length c ∙ simp (length-append, length-replicate) in
        let x : 40960 - length (joined (insert_to (records_of log₀) (laid_at Log recs) k)) ≡ 40960 - 80 * (n + k) = omega arith in
        rw x c

    module _ (pos : 0 < left) (p v : ℕ) (v-is : v ≡ rank (take (80 * (left - 1) + 80 - 80 * (left - 1)) (drop (80 * (left - 1)) recs))) (p-is : p ≡ place_behind (laid_at Log log) v end) where
      r : Rec
      r = laid_at Log recs (left - 1)

      lent_is : take (80 * (left - 1) + 80 - 80 * (left - 1)) (drop (80 * (left - 1)) recs) ≡ r
      unfolding r laid_at offset_of
      lent_is = part_is recs (80 * (left - 1)) 80

      -- the records before the gap are those of the log as it was
      same_record : (j : ℕ) → j < end → laid_at Log log j ≡ laid_at Log log₀ j
      unfolding laid_at offset_of
      same_record j l = sym (part-take log (80 * end) (80 * j) 80 (omega arith)) ∙ rw m.front (part-take log₀ (80 * end) (80 * j) 80 (omega arith))

      place : p ≡ place_behind (laid_at Log log₀) (rank r) end
      place =
          let w : v ≡ rank r = v-is ∙ ap rank lent_is in
          p-is ∙ ap (λ (x : ℕ). place_behind (laid_at Log log) x end) w ∙ place_same (laid_at Log log) (laid_at Log log₀) (rank r) end same_record

      pub place_within : p ≤ end
      place_within = rw place (place_at_most (laid_at Log log₀) (rank r) end)

      moved : List Rec
      moved = listed (laid_at Log log₀) p (end - p)

      put_in : insert r (listed (laid_at Log log₀) 0 end) ≡ listed (laid_at Log log₀) 0 p ++ r ∷ moved
      unfolding moved
      put_in = rw (← place) at (insert-at (laid_at Log log₀) r n s.rising end g)

      -- what is moved up, in bytes
      bytes : part log (80 * p) (80 * end - 80 * p) ≡ joined moved
      unfolding moved
      bytes =
          let w = place_within in
          let f : 80 * (end - p) ≡ 80 * end - 80 * p = omega arith in
          rw (joined-listed log₀ p (end - p), f) (sym (part-take log (80 * end) (80 * p) (80 * end - 80 * p) (omega arith)) ∙ rw m.front (part-take log₀ (80 * end) (80 * p) (80 * end - 80 * p) (omega arith)))

      module _ (u o : List ℕ) (u-is : u ≡ put_at log (80 * p + 80 * (left - 1 + 1)) (part log (80 * p) (80 * end - 80 * p)))
          (o_is : o ≡ put_at u (80 * (p + (left - 1))) (take (80 * (left - 1) + 80 - 80 * (left - 1)) (drop (80 * (left - 1)) recs))) (sized : length recs ≡ 80 * k) where
        r_long : length r ≡ 80
        unfolding r laid_at offset_of
        r_long = part_length recs (80 * (left - 1)) 80 (omega arith)

        moved-long : length (joined moved) ≡ 80 * end - 80 * p
        moved-long = let w = place_within in sym (ap length bytes) ∙ part_length log (80 * p) (80 * end - 80 * p) (omega arith)

        once : o ≡ put_at log (80 * (p + (left - 1))) (r ++ joined moved)
        once =
            let w = place_within in
            let f : 80 * p + 80 * (left - 1 + 1) ≡ 80 * (p + (left - 1)) + 80 = omega arith in
            o_is ∙ rw (u-is, lent_is, bytes, f) (rw r_long at (put_front log (80 * (p + (left - 1))) r (joined moved) (omega (arith, r_long, moved-long))))

        new_front : take (80 * p) o ≡ take (80 * p) log₀
        new_front =
            let w = place_within in
            sym (take-take (80 * p) (80 * (p + (left - 1))) o (omega arith))
            ∙ rw (once, take_put log (80 * (p + (left - 1))) (r ++ joined moved) (omega arith), take-take (80 * p) (80 * (p + (left - 1))) log (omega arith))
            (sym (take-take (80 * p) (80 * end) log (omega arith)) ∙ rw (m.front, take-take (80 * p) (80 * end) log₀ (omega arith)))

        new_back : drop (80 * (p + (left - 1))) o ≡ joined (r ∷ (moved ++ m.rest)) ++ replicate (40960 - 80 * (n + k)) 0
        new_back =
            let w = place_within in
            let zs : List ℕ = replicate (40960 - 80 * (n + k)) 0 in
            let f : 80 * (p + (left - 1)) + length (r ++ joined moved) ≡ 80 * (end + left) = simp length-append (omega (arith, r_long, moved-long)) in
            rw (once, drop_put_at log (80 * (p + (left - 1))) (r ++ joined moved) (omega arith), f, m.back, joined-cons, joined-append, append_assoc r (joined moved), append_assoc r (joined moved ++ joined m.rest), append_assoc (joined moved) (joined m.rest))

        new_parted : insertFrom (laid_at Log recs) (records_of log₀) (left - 1) (k - (left - 1)) ≡ listed (laid_at Log log₀) 0 p ++ r ∷ (moved ++ m.rest)
        unfolding insertFrom r
        new_parted =
            let f : k - (left - 1) ≡ suc (k - left) = omega arith in
            let d : suc (left - 1) ≡ left = omega arith in
            let lower : left < k → rank r < rank (laid_at Log recs left) = λ l. rw d at (up.rises (left - 1) (omega arith)) in
            rw (f, d, m.parted, m.above r (listed (laid_at Log log₀) 0 end) lower, put_in) (append_assoc (listed (laid_at Log log₀) 0 p) (r ∷ moved) m.rest)

        pub merging_next : Merging log₀ recs n k o p (left - 1)
        unfolding r laid_at
        merging_next =
            record {
              rest = r ∷ (moved ++ m.rest);
              parted = new_parted;
              above = λ q l c. insert_front q r l (moved ++ m.rest) (c (omega arith));
              front = new_front;
              back = new_back;
            }
