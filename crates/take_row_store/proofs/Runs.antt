-- What putting in the records of a row is asked, over plain values.
-- Assumes nothing.
use Prim.Native.Nat.{ℕ, zero, suc, ◌+◌, ◌-◌, ◌*◌, ◌≤◌, ◌<◌}
use native.Mathlib.Nat.{add-zero, sub_self}
use native.Mathlib.Numerals.{add-one}
use native.Mathlib.Omega.{arith}
use mathlib.Core.Path.{◌≡◌, refl, sym, ap, ◌∙◌}
use mathlib.Core.Logic.{⊎_elim}
use mathlib.Core.Bool.{true}
use mathlib.Core.List.{List}
use lib.ListN.{length, take, drop}
use Rattle.model.specs.Bytes.{part}
use Rattle.model.specs.Record.{Rec}
use Rattle.model.specs.Log.{rank, insert, records_of, sound_log_on, log_bytes}
use Rattle.byte_slice.proofs.Numbers.{lt_or_ge}
use Rattle.byte_slice.proofs.Parts.{part_is, part-part}
use Rattle.log_laws.specs.Sound.{SoundOn}
use Rattle.log_laws.proofs.Insert.{length-insert}
use Rattle.encoding_laws.proofs.Logs.{sound_proper_on, records_back, sound_bytes_on, log_sound_on}
use Rattle.log_check.specs.declared.Layout.TheVariants.{Log}
use Rattle.log_check.specs.Places.{offset_of, laid_at}
use Rattle.log_insert.specs.Where.{Rising, Ordered, insert_to}
use Rattle.log_insert.proofs.Ordered.{sound_ordered}
use Rattle.take_row_store.specs.Grown.{new_at, held_in, Grown, Run}

-- ---- lists of records put in

pub insert-alike : (l : List Rec) (a b : ℕ → Rec) (n : ℕ) → ((j : ℕ) → j < n → a j ≡ b j) → insert_to l a n ≡ insert_to l b n
unfolding insert_to
insert-alike l a b zero h = refl
insert-alike l a b (suc n) h = rw (h n (omega arith), insert-alike l a b n (λ j k. h j (omega arith)))

-- some, and then those behind them
insert_more : (l : List Rec) (a : ℕ → Rec) (p q : ℕ) → insert_to (insert_to l a p) (λ j. a (p + j)) q ≡ insert_to l a (p + q)
unfolding insert_to
insert_more l a p zero = rw (add-zero p)
insert_more l a p (suc q) = let e : p + suc q ≡ suc (p + q) = omega arith in rw (e, insert_more l a p q)

pub length_inserted : (l : List Rec) (a : ℕ → Rec) (n : ℕ) → length (insert_to l a n) ≡ length l + n
unfolding insert_to
length_inserted l a zero = omega arith
length_inserted l a (suc n) = omega (arith, length-insert (a n) (insert_to l a n), length_inserted l a n)

-- ---- what is held

pub held_none : (l : List Rec) (start : ℕ) (work : List ℕ) → held_in l start work start ≡ l
unfolding held_in insert_to
held_none l start work = rw (sub_self start)

pub held-alike : (l : List Rec) (start : ℕ) (work work' : List ℕ) (used : ℕ) → ((p : ℕ) → p < used → laid_at Log work p ≡ laid_at Log work' p)
    → held_in l start work used ≡ held_in l start work' used
unfolding held_in new_at
held-alike l start work work' used h = insert-alike l (new_at start work) (new_at start work') (used - start) (λ j k. h (start + j) (omega arith))

module _ (v : List ℕ) (l : List Rec) (start : ℕ) (work : List ℕ) (used : ℕ) (g : Grown v l start work used) where
  pub held-long : used ≡ length (held_in l start work used)
  unfolding held_in
  held-long = omega (arith, length_inserted l (new_at start work) (used - start), g.from, g.first)

  pub held_sound : SoundOn v (held_in l start work used)
  unfolding held_in
  held_sound = g.sound (used - start) (omega arith)

  pub grown_alike : (work' : List ℕ) → ((p : ℕ) → p < used → laid_at Log work p ≡ laid_at Log work' p) → Grown v l start work' used
  unfolding new_at
  grown_alike work' h =
      record {
        from = g.from;
        few = g.few;
        first = g.first;
        sound = λ j k. rw (← insert-alike l (new_at start work) (new_at start work') j (λ i n. h (start + i) (omega arith))) (g.sound j k);
      }

-- ---- a rising run

pub run_one : (work : List ℕ) (from : ℕ) → Run work from (from + 1)
run_one work from = record { rises = λ j a b. absurd (omega arith) }

module _ (work : List ℕ) (from last : ℕ) where
  pub run_first : last ≡ rank (take (80 * from + 80 - 80 * from) (drop (80 * from) work)) → last ≡ rank (laid_at Log work (from + 1 - 1))
  unfolding laid_at offset_of
  run_first e = let f : from + 1 - 1 ≡ from = omega arith in rw f (rw (part_is work (80 * from) 80) at e)

  module _ (i : ℕ) (p : last ≡ rank (laid_at Log work (i - 1))) (r : Run work from i) (h : from < i) (k : ℕ) (e : k ≡ rank (take (80 * i + 80 - 80 * i) (drop (80 * i) work))) (up : last < k) where
    rank_is : k ≡ rank (laid_at Log work i)
    unfolding laid_at offset_of
    rank_is = rw (part_is work (80 * i) 80) at e

    pub run_last : k ≡ rank (laid_at Log work (i + 1 - 1))
    run_last = let f : i + 1 - 1 ≡ i = omega arith in rw f rank_is

    pub run-next : Run work from (i + 1)
    run-next =
        record {
          rises = λ j a b.
              ⊎_elim
              (λ (c : suc j < i). r.rises j a c)
              (λ (c : i ≤ suc j).
              let f : j ≡ i - 1 = omega arith in
              let g : suc (i - 1) ≡ i = omega arith in
              rw (f, g) (omega (arith, rank_is)))
              (lt_or_ge (suc j) i);
        }

-- ---- run after run

module _ (v : List ℕ) (l : List Rec) (start : ℕ) (work : List ℕ) (used : ℕ) (g : Grown v l start work used) (log : List ℕ) (done : ℕ) (lo : start ≤ done) (hi : done ≤ used) (e : log ≡ log_bytes (held_in l start work done)) where
  until : Grown v l start work done
  until = record { from = lo; few = omega (arith, g.few); first = g.first; sound = λ j k. g.sound j (omega arith) }

  small : length (held_in l start work done) ≤ 512
  small = omega (arith, held-long v l start work done until, g.few)

  records : records_of log ≡ held_in l start work done
  records = rw e (records_back (held_in l start work done) (sound_proper_on v (held_in l start work done) (held_sound v l start work done until)) small)

  pub puts_used : done ≡ length (records_of log)
  puts_used = rw records (held-long v l start work done until)

  pub puts_ordered : Ordered log done
  puts_ordered = sound_ordered v log done (rw e (log_sound_on v (held_in l start work done) (held_sound v l start work done until) small)) puts_used

  module _ (end : ℕ) (a : done < end) (b : end ≤ used) where
    pub puts_room : done + (end - done) ≤ 512
    puts_room = omega (arith, g.few)

    lent : (j : ℕ) → j < end - done → laid_at Log (take (80 * end - 80 * done) (drop (80 * done) work)) j ≡ laid_at Log work (done + j)
    unfolding laid_at offset_of part
    lent j h =
        let f : 80 * (done + j) ≡ 80 * done + 80 * j = omega arith in
        rw f (part-part work (80 * done) (80 * end - 80 * done) (80 * j) 80 (omega arith))

    pub puts_rising : Run work done end → Rising (laid_at Log (take (80 * end - 80 * done) (drop (80 * done) work))) (end - done)
    puts_rising r =
        record {
          rises = λ j h.
              let f : done + suc j ≡ suc (done + j) = omega arith in
              rw (lent j (omega arith), lent (suc j) h, f) (r.rises (done + j) (omega arith) (omega arith));
        }

    pub puts_next : (log' : List ℕ) → log' ≡ log_bytes (insert_to (records_of log) (laid_at Log (take (80 * end - 80 * done) (drop (80 * done) work))) (end - done)) → log' ≡ log_bytes (held_in l start work end)
    unfolding held_in new_at
    puts_next log' q =
        let s : List ℕ = take (80 * end - 80 * done) (drop (80 * done) work) in
        let p : ℕ = done - start in
        let f : p + (end - done) ≡ end - start = omega arith in
        let same : insert_to (records_of log) (laid_at Log s) (end - done) ≡ insert_to (records_of log) (λ j. new_at start work (p + j)) (end - done) =
        insert-alike (records_of log) (laid_at Log s) (λ j. new_at start work (p + j)) (end - done) (λ j h. let w : done + j ≡ start + (p + j) = omega arith in lent j h ∙ ap (laid_at Log work) w) in
        q ∙ ap log_bytes (same ∙ rw records (insert_more l (new_at start work) p (end - done) ∙ ap (insert_to l (new_at start work)) f))

pub puts_starts : (v : List ℕ) (start : ℕ) (work log : List ℕ) → length log ≡ 40960 → sound_log_on v log ≡ true → log ≡ log_bytes (held_in (records_of log) start work start)
puts_starts v start work log n s = rw (held_none (records_of log) start work) (sym (sound_bytes_on v log n s))

pub puts_ends : (l : List Rec) (start : ℕ) (work log : List ℕ) (done used : ℕ) → done ≤ used → used ≤ done → log ≡ log_bytes (held_in l start work done) → log ≡ log_bytes (held_in l start work used)
puts_ends l start work log done used a b e = let f : done ≡ used = omega arith in rw f at e

pub grown_from : {v : List ℕ} {l : List Rec} {start used : ℕ} {work : List ℕ} → Grown v l start work used → start ≤ used
grown_from g = g.from

pub grown_few : {v : List ℕ} {l : List Rec} {start used : ℕ} {work : List ℕ} → Grown v l start work used → used ≤ 512
grown_few g = g.few
