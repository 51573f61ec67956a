-- Two files that go together become one: what each step is asked, over plain values.
-- Assumes nothing.
use Prim.Native.Nat.{ℕ, zero, suc, ◌+◌, ◌-◌, ◌*◌, ◌≤◌, ◌<◌, max}
use native.Mathlib.Nat.{sub-zero}
use native.Mathlib.Numerals.{add-one}
use native.Mathlib.Omega.{arith}
use mathlib.Core.Path.{◌≡◌, refl, sym, ap, ◌∙◌, subst}
use mathlib.Core.Bool.{true}
use mathlib.Core.List.{List, [], ◌∷◌, ◌++◌, append-nil}
use lib.ListN.{get_or, length, take, drop}
use lib.Seq.{take_at}
use Rattle.model.specs.Bytes.{joined, padded, put_at}
use Rattle.model.specs.Record.{Rec}
use Rattle.model.specs.Log.{no_counts, insert, vector_of, records_of, sound_log, log_bytes, lacking}
use Rattle.model.specs.Block.{archive_in, sender_in}
use Rattle.model.specs.File.{block_at, block_count, file_of, records_counted, file_records_from, file_records}
use Rattle.model.specs.Merge.{insert_all, union, union_fault, merged, joined_file}
use Rattle.block_laws.proofs.Fields.{Sized, length-joined, joined_at}
use Rattle.vector.proofs.Higher.{eight}
use Rattle.log_laws.specs.Sound.{Sound}
use Rattle.log_laws.proofs.Counts.{formed}
use Rattle.log_laws.proofs.Lacking.{has_lacking}
use Rattle.log_laws.proofs.Tests.{vector_of_get_d, vector_of-length}
use Rattle.merge_laws.proofs.Union.{union_both}
use Rattle.merge_laws.proofs.Counts.{union-longer, union-counts, lacking-rises}
use Rattle.encoding_laws.proofs.Logs.{sound_proper, proper_sized, length-log_bytes, records_back, log_sound}
use Rattle.call_laws.proofs.Merging.{file_sound, file_few, files_agree, files_room}
use Rattle.log_check.specs.declared.Layout.TheVariants.{File, Log}
use Rattle.log_check.specs.Places.{offset_of, laid_at}
use Rattle.log_check.specs.InOrder.{listed}
use Rattle.log_check.proofs.Lists.{listed_more}
use Rattle.log_insert.specs.Where.{Rising, Ordered, insert_to}
use Rattle.log_insert.proofs.Ordered.{sound_ordered}
use Rattle.merge_check.specs.Tables.{Fine}
use Rattle.merge_join.specs.Highest.{highest}

-- ---- the records of both

module _ (f g : List ℕ) (used total : ℕ) (a : Fine f used) (b : Fine g total) (z : (union_fault f g).number ≡ 0) where
  union_sound : Sound (union (file_records f) (file_records g))
  union_sound =
      (union_both (file_records f) (file_records g) (file_sound f a.right) (file_sound g b.right) (files_agree f g z a.right)).sound

  union_room : length (file_records f) + length (lacking (vector_of (file_records f)) (file_records g)) ≤ 512
  union_room = files_room f g z a.right

  union_few : length (union (file_records f) (file_records g)) ≤ 512
  union_few = omega (arith, union_room, union-longer (file_records f) (file_records g))

union_vector : (a b : List Rec) → Sound b → highest (vector_of a) (vector_of b) ≡ vector_of (union a b)
unfolding highest
union_vector a b sb =
    let at : (u : ℕ) → u < 8 → max (get_or (vector_of a) u 0) (get_or (vector_of b) u 0) ≡ get_or (vector_of (union a b)) u 0 =
    λ u k. omega (arith, vector_of_get_d a u k, vector_of_get_d b u k, vector_of_get_d (union a b) u k, union-counts a b sb u k) in
    rw (at 0 (omega arith), at 1 (omega arith), at 2 (omega arith), at 3 (omega arith), at 4 (omega arith), at 5 (omega arith), at 6 (omega arith), at 7 (omega arith))
    (eight (vector_of (union a b)) (vector_of-length (union a b)))

-- ---- records laid one behind another

listed_of : (at : ℕ → Rec) (m : List Rec) (i : ℕ) → ((j : ℕ) → j < length m → at (i + j) ≡ get_or m j []) → listed at i (length m) ≡ m
unfolding listed
listed_of at [] i h = refl
listed_of at (r ∷ m) i h =
    let a : at i ≡ r = (let e : i + 0 ≡ i = omega arith in rw e at (h 0 (omega arith))) in
    let b = listed_of at m (suc i) (λ j k. (let e : i + suc j ≡ suc i + j = omega arith in rw e at (h (suc j) (omega arith)))) in
    rw (a, b)

insert_all_last : (l m : List Rec) (r : Rec) → insert_all l (m ++ (r ∷ [])) ≡ insert r (insert_all l m)
unfolding insert_all
insert_all_last l [] r = refl
insert_all_last l (x ∷ m) r = insert_all_last (insert x l) m r

inserted_none : (l : List Rec) (at : ℕ → Rec) → l ≡ insert_all l (listed at 0 0)
unfolding insert_all listed
inserted_none l at = refl

inserted : (l : List Rec) (at : ℕ → Rec) (n : ℕ) → insert_to l at n ≡ insert_all l (listed at 0 n)
unfolding insert_to
inserted l at zero = inserted_none l at
inserted l at (suc n) =
    let z : 0 + n ≡ n = omega arith in
    ap (insert (at n)) (inserted l at n) ∙ sym (rw (← add-one n, listed_more at 0 n, z) (insert_all_last l (listed at 0 n) (at n)))

sized_lacking : (v : List ℕ) (l : List Rec) → Sound l → Sized (lacking v l)
sized_lacking v l s = proper_sized (lacking v l) (λ r i. formed [] l r s (has_lacking v l r i))

-- ---- the log of both

module _ (f g : List ℕ) (used total : ℕ) (a : Fine f used) (b : Fine g total) (z : (union_fault f g).number ≡ 0) (ec : used ≡ records_counted f) (log : List ℕ) (el : log ≡ log_bytes (file_records_from f 0 used)) where
  copied : log ≡ log_bytes (file_records f)
  unfolding file_records
  copied = rw (← ec) el

  pub copied_long : length log ≡ 40960
  copied_long = rw copied (length-log_bytes (file_records f) (proper_sized (file_records f) (sound_proper (file_records f) (file_sound f a.right))) (file_few f a.right))

  copied_sound : sound_log log ≡ true
  copied_sound = rw copied (log_sound (file_records f) (file_sound f a.right) (file_few f a.right))

  copied_back : records_of log ≡ file_records f
  copied_back = rw copied (records_back (file_records f) (sound_proper (file_records f) (file_sound f a.right)) (file_few f a.right))

  pub copied_used : used ≡ length (records_of log)
  copied_used = rw copied_back a.counted

  pub copied_ordered : Ordered log used
  unfolding sound_log
  copied_ordered = sound_ordered no_counts log used copied_sound copied_used

  module _ (held : List ℕ) (eh : held ≡ vector_of (file_records f)) (k : ℕ) (ek : k ≡ length (lacking held (listed (laid_at File g) 0 total))) where
    new_count : k ≡ length (lacking (vector_of (file_records f)) (file_records g))
    new_count = rw (b.records, ← eh) ek

    pub new_room : used + k ≤ 512
    new_room = omega (arith, new_count, union_room f g used total a b z, a.counted)

    pub new_total : used + k ≡ length (union (file_records f) (file_records g))
    new_total = omega (arith, new_count, a.counted, union-longer (file_records f) (file_records g))

    module _ (file lent : List ℕ) (ef : file ≡ put_at lent 0 (joined (lacking held (listed (laid_at File g) 0 total)))) where
      news_sized : Sized (lacking (vector_of (file_records f)) (file_records g))
      news_sized = sized_lacking (vector_of (file_records f)) (file_records g) (file_sound g b.right)

      news_long : length (joined (lacking (vector_of (file_records f)) (file_records g))) ≡ 80 * k
      news_long = omega (arith, length-joined (lacking (vector_of (file_records f)) (file_records g)) news_sized, new_count)

      laid_news : take (80 * k) file ≡ joined (lacking (vector_of (file_records f)) (file_records g))
      unfolding put_at
      laid_news =
          let s : List ℕ = joined (lacking (vector_of (file_records f)) (file_records g)) in
          let q : file ≡ put_at lent 0 s = rw (b.records, ← eh) ef in
          rw q (take_at s (drop (0 + length s) lent) (80 * k) news_long)

      lent_news : take (80 * k - 0) (drop 0 file) ≡ joined (lacking (vector_of (file_records f)) (file_records g))
      lent_news = rw (sub-zero (80 * k)) laid_news

      pub new_length : length (take (80 * k - 0) (drop 0 file)) ≡ 80 * k
      new_length = rw lent_news news_long

      new_at_lem : (j : ℕ) → j < k → laid_at Log (take (80 * k - 0) (drop 0 file)) j ≡ get_or (lacking (vector_of (file_records f)) (file_records g)) j []
      unfolding laid_at offset_of
      new_at_lem j h = rw (lent_news, ← append-nil (joined (lacking (vector_of (file_records f)) (file_records g)))) (joined_at (lacking (vector_of (file_records f)) (file_records g)) j [] news_sized (omega (arith, new_count)))

      pub new_rising : Rising (laid_at Log (take (80 * k - 0) (drop 0 file))) k
      new_rising =
          record {
            rises = λ j h. rw (new_at_lem j (omega arith), new_at_lem (suc j) h) (lacking-rises (vector_of (file_records f)) [] (file_records g) (file_sound g b.right) j (omega (arith, new_count)));
          }

      pub log_joined : (o : List ℕ) → o ≡ log_bytes (insert_to (records_of log) (laid_at Log (take (80 * k - 0) (drop 0 file))) k) → o ≡ log_bytes (union (file_records f) (file_records g))
      unfolding union
      log_joined o eo =
          let q : listed (laid_at Log (take (80 * k - 0) (drop 0 file))) 0 k ≡ (lacking (vector_of (file_records f)) (file_records g)) =
          subst (λ (x : ℕ). listed (laid_at Log (take (80 * k - 0) (drop 0 file))) 0 x ≡ lacking (vector_of (file_records f)) (file_records g)) (sym new_count) at_news in
          eo ∙ rw (copied_back, inserted (file_records f) (laid_at Log (take (80 * k - 0) (drop 0 file))) k, q)
        where
          at_news : listed (laid_at Log (take (80 * k - 0) (drop 0 file))) 0 (length (lacking (vector_of (file_records f)) (file_records g))) ≡ (lacking (vector_of (file_records f)) (file_records g))
          at_news = listed_of (laid_at Log (take (80 * k - 0) (drop 0 file))) (lacking (vector_of (file_records f)) (file_records g)) 0 (λ j h. (let y : 0 + j ≡ j = omega arith in rw y (new_at_lem j (omega (arith, new_count)))))

-- ---- the file of both

module _ (f g : List ℕ) (used total : ℕ) (a : Fine f used) (b : Fine g total) where
  module _ (z : (union_fault f g).number ≡ 0) (log : List ℕ) (el : log ≡ log_bytes (union (file_records f) (file_records g))) where
    pub both_long : length log ≡ 40960
    both_long = rw el (length-log_bytes (union (file_records f) (file_records g)) (proper_sized (union (file_records f) (file_records g)) (sound_proper (union (file_records f) (file_records g)) (union_sound f g used total a b z))) (union_few f g used total a b z))

    pub both_sound : sound_log log ≡ true
    both_sound = rw el (log_sound (union (file_records f) (file_records g)) (union_sound f g used total a b z) (union_few f g used total a b z))

    both_back : records_of log ≡ union (file_records f) (file_records g)
    both_back = rw el (records_back (union (file_records f) (file_records g)) (sound_proper (union (file_records f) (file_records g)) (union_sound f g used total a b z)) (union_few f g used total a b z))

    pub both_used : (k : ℕ) → used + k ≡ length (union (file_records f) (file_records g)) → used + k ≡ length (records_of log)
    both_used k e = rw both_back e

    pub both_held : (v w m : List ℕ) → v ≡ vector_of (file_records f) → w ≡ vector_of (file_records g) → m ≡ highest v w → m ≡ vector_of (records_of log)
    both_held v w m ev ew em =
        em ∙ rw (ev, ew, both_back) (union_vector (file_records f) (file_records g) (file_sound g b.right))

    pub both_written : (x y k : ℕ) (o : List ℕ) → x ≡ archive_in (block_at f 0) → y ≡ sender_in (block_at f 0) → k ≡ block_count (length (records_of log)) → o ≡ padded 44032 (file_of x y (records_of log))
        → merged 0 0 0 k log o ≡ joined_file f (union (file_records f) (file_records g))
    unfolding joined_file
    both_written x y k o ex ey ek eo = rw (ek, eo, ex, ey, both_back, el)
