-- What storing the records of a block that passed is asked, over plain values.
-- Assumes nothing.
use Prim.Native.Nat.{ℕ, suc, ◌+◌, ◌-◌, ◌*◌, ◌≤◌, ◌<◌}
use native.Mathlib.Numerals.{add-one}
use native.Mathlib.Omega.{arith}
use mathlib.Core.Path.{◌≡◌, sym, ap, ◌∙◌, subst}
use mathlib.Core.Logic.{◌⊎◌, ⊎_elim}
use mathlib.Core.Bool.{Bool, true, false, not}
use mathlib.Core.List.{List, ◌∷◌}
use lib.ListN.{length, get_or, set, take, drop}
use lib.Seq.{ext_get_or}
use borrow.Author.Tests.{ltb-true, ltb-false, not-true, not-false}
use Rattle.model.specs.Record.{Rec, unit, num}
use Rattle.model.specs.Log.{insert, count_on, vector_on, records_of, log_bytes}
use Rattle.model.specs.Block.{record_at, records_from}
use Rattle.call_model.specs.Outcome.{taken, is_folded, take_one, takes_all}
use Rattle.byte_slice.proofs.Parts.{part_is, part-whole}
use Rattle.log_laws.specs.Members.{Has}
use Rattle.log_laws.proofs.Formed.{well_unit}
use Rattle.log_laws.proofs.Counts.{count-nil, number_held_on}
use Rattle.log_laws.proofs.Insert.{length-insert, count-insert, insert_sound_on}
use Rattle.take_laws.proofs.Take.{New, Known, folded_within, one_fits, one_from}
use Rattle.log_laws.proofs.Tests.{vector_on-length, vector_on_get_d}
use Rattle.encoding_laws.proofs.Logs.{sound_proper_on, records_back, log_sound_on}
use Rattle.log_admit.proofs.Counts.{vector_cons}
use Rattle.log_check.specs.declared.Layout.TheVariants.{Log}
use Rattle.log_check.specs.Places.{offset_of, laid_at}
use Rattle.take_beside.specs.Judging.{after, after_to}
use Rattle.log_insert.specs.Where.{Rising, Ordered, insert_to}
use Rattle.log_insert.proofs.Ordered.{sound_ordered}
use Rattle.take_store.specs.Stored.{Stored}
use Rattle.take_store.specs.New.{is_new}
use Rattle.take_store.proofs.News.{each_taken}

vector_insert : (v : List ℕ) (r : Rec) (l : List Rec) → vector_on v (insert r l) ≡ vector_on v (r ∷ l)
vector_insert v r l =
    ext_get_or 0 (vector_on v (insert r l)) (vector_on v (r ∷ l)) (vector_on-length v (insert r l) ∙ sym (vector_on-length v (r ∷ l)))
    (λ u k.
    let h : u < 8 = omega (arith, vector_on-length v (insert r l)) in
    vector_on_get_d v (insert r l) u h ∙ ap (λ (x : ℕ). get_or v u 0 + x) (count-insert u r l) ∙ sym (vector_on_get_d v (r ∷ l) u h))

-- ---- one record

-- one record alone rises
pub one_rising : (r : Rec) → Rising (laid_at Log r) 1
one_rising r = record { rises = λ j h. absurd (omega arith) }

one_inserted : (l : List Rec) (r : Rec) → length r ≡ 80 → insert_to l (laid_at Log r) 1 ≡ insert r l
unfolding insert_to laid_at offset_of
one_inserted l r z = ap (λ (x : Rec). insert x l) (rw z at (part-whole r))

module _ (v log : List ℕ) (used : ℕ) (held : List ℕ) (g : Stored v (records_of log) log used held) where
  pub stored-ordered : Ordered log used
  stored-ordered = sound_ordered v log used (rw g.bytes (log_sound_on v (records_of log) g.sound g.few)) g.used_is

  module _ (m : ℕ) (r : Rec) (t : take_one m v (records_of log) r ≡ taken (after m v (records_of log) r)) where
    l : List Rec
    l = records_of log

    way : Known v l r (after m v l r) ⊎ New v l r (after m v l r)
    unfolding l
    way = one_from m v l r (after m v l r) g.sound t

    pub unit_formed : unit r < 8
    unit_formed = well_unit r (one_fits m v (records_of log) r (after m v (records_of log) r) t).0

    held_is : get_or held (unit r) 0 ≡ count_on v (unit r) l
    unfolding l
    held_is = rw g.counts (vector_on_get_d v l (unit r) unit_formed)

    own_next : New v l r (after m v l r) → num r ≡ suc (count_on v (unit r) l)
    own_next x = omega (arith, x.joins.next, count-nil (unit r))

    module _ (b : Bool) (e : b ≡ is_new held r) where
      -- a record that is held or folded is not stored again
      pub store_held : not b ≡ true → Stored v (after m v (records_of log) r) log used held
      unfolding l is_new
      store_held h =
          let k : num r ≤ get_or held (unit r) 0 = ltb-false (get_or held (unit r) 0) (num r) (sym e ∙ not-true b h) in
          ⊎_elim
          (λ (x : Known v l r (after m v l r)). subst (λ (k : List Rec). Stored v k log used held) (sym x.0) g)
          (λ (x : New v l r (after m v l r)). absurd (omega (arith, own_next x, held_is)))
          way

      module _ (h : not b ≡ false) where
        above : get_or held (unit r) 0 < num r
        unfolding is_new
        above = ltb-true (get_or held (unit r) 0) (num r) (sym e ∙ not-false b h)

        new : New v l r (after m v l r)
        unfolding l
        new =
            ⊎_elim
            (λ (x : Known v l r (after m v l r)).
            ⊎_elim
            (λ (y : is_folded v r ≡ true). absurd (omega (arith, above, folded_within v r y, held_is)))
            (λ (y : Has r l). absurd (omega (arith, above, number_held_on v l r g.sound y, held_is)))
            x.1)
            (λ (x : New v l r (after m v l r)). x)
            way

        pub store_room : used + 1 ≤ 512
        unfolding l
        store_room = omega (arith, new.room, g.used_is)

        module _ (u : ℕ) (a : u ≡ unit r) where
          pub unit-stored : u < 8
          unit-stored = rw a unit_formed

          pub count_above : (c : ℕ) → c ≡ num r → get_or held u 0 < c
          count_above c q = rw (a, q) above

          -- a new record is put in by rank
          pub store_new : (o held' : List ℕ) → o ≡ log_bytes (insert_to (records_of log) (laid_at Log r) 1) → length r ≡ 80 → held' ≡ set held u (get_or held u 0 + 1)
              → Stored v (after m v (records_of log) r) o (used + 1) held'
          unfolding l
          store_new o held' p z q =
              rw new.inserted
              record {
                bytes = p ∙ ap log_bytes (one_inserted l r z);
                sound = insert_sound_on v l r g.sound new.joins;
                few = omega (arith, length-insert r l, new.room);
                used_is = omega (arith, length-insert r l, g.used_is);
                counts = q ∙ rw (g.counts, a) (sym (vector_cons v r l unit_formed) ∙ sym (vector_insert v r l));
              }

-- ---- one record after another

-- the first j of n records are stored
pub storing_starts : (m : ℕ) (v log b : List ℕ) (used : ℕ) (held : List ℕ) → Stored v (records_of log) log used held → Stored v (after_to m v (records_of log) (record_at b) 0) log used held
unfolding after_to
storing_starts m v log b used held s = s

module _ (m : ℕ) (v : List ℕ) (l : List Rec) (b : List ℕ) (n j : ℕ) (log : List ℕ) (used : ℕ) (held : List ℕ) (s : Stored v (after_to m v l (record_at b) j) log used held) where
  same_records_lem : records_of log ≡ after_to m v l (record_at b) j
  same_records_lem = rw s.bytes (records_back (after_to m v l (record_at b) j) (sound_proper_on v (after_to m v l (record_at b) j) s.sound) s.few)

  pub storing_stored : Stored v (records_of log) log used held
  storing_stored = rw same_records_lem s

  module _ (h : j < n) where
    lent : List ℕ
    lent = take (28 + 80 * j + 80 - (28 + 80 * j)) (drop (28 + 80 * j) b)

    lent_is : lent ≡ record_at b j
    unfolding lent record_at
    lent_is = part_is b (28 + 80 * j) 80

    pub storing_takes : takes_all m v l (records_from b 0 n) ≡ taken (after_to m v l (record_at b) n) → take_one m v (records_of log) (take (28 + 80 * j + 80 - (28 + 80 * j)) (drop (28 + 80 * j) b))
        ≡ taken (after m v (records_of log) (take (28 + 80 * j + 80 - (28 + 80 * j)) (drop (28 + 80 * j) b)))
    unfolding lent
    storing_takes t = rw (same_records_lem, lent_is) (each_taken m v l b n t j h)

    pub storing_next : (log' : List ℕ) (used' : ℕ) (held' : List ℕ) → Stored v (after m v (records_of log) (take (28 + 80 * j + 80 - (28 + 80 * j)) (drop (28 + 80 * j) b))) log' used' held'
        → Stored v (after_to m v l (record_at b) (j + 1)) log' used' held'
    unfolding lent after_to
    storing_next log' used' held' p = rw (add-one j) (rw (same_records_lem, lent_is) at p)
