-- What merging is asked, over plain values: a file without a fault, and each way out of the call.
-- Assumes nothing.
use Prim.Native.Nat.{ℕ, zero, suc, ◌+◌, ◌-◌, ◌*◌, ◌/◌, ◌≤◌, ◌<◌}
use native.Mathlib.Nat.{zero-add}
use native.Mathlib.Omega.{arith}
use mathlib.Core.Path.{◌≡◌, refl, sym, ap, subst, ◌∙◌}
use mathlib.Core.Logic.{inl, inr}
use mathlib.Core.List.{List, []}
use lib.ListN.{length, take, drop}
use borrow.Author.Tests.{eq-eqb, ne_eqb}
use Rattle.model.specs.Bytes.{part}
use Rattle.model.specs.Record.{Rec}
use Rattle.model.specs.Log.{vector_of, no_counts}
use Rattle.model.specs.Block.{vector_in}
use Rattle.model.specs.File.{block_at, Fault, fault, records_counted, file_records, checked_fault}
use Rattle.model.specs.Merge.{union, union_fault, Merged, merged, unless, unless_any, joined_file, merge_of}
use Rattle.log_laws.specs.Members.{Has}
use Rattle.log_laws.proofs.Counts.{no_counts_lem, formed}
use Rattle.log_laws.proofs.Tests.{vector_on-none}
use Rattle.call_laws.proofs.Merging.{checked_both, file_sound, file_few}
use Rattle.run_laws.proofs.Records.{length-file_records}
use Rattle.file_laws.proofs.Rewritten.{vector_right}
use Rattle.log_closure.specs.Tables.{Indexed}
use Rattle.log_check.specs.declared.Layout.TheVariants.{File}
use Rattle.log_check.specs.Places.{offset_of, laid_at, Laid}
use Rattle.log_check.specs.InOrder.{listed}
use Rattle.read_file_check.proofs.Checks.{whole, some_block, few_blocks}
use Rattle.read_file_check.proofs.Records.{file_listed}
use Rattle.read_file.proofs.Copied.{few_in_file}
use Rattle.merge_check.specs.Tables.{Positioned, AllFormed, Fine}

-- ---- the first file

-- the tables that a check leaves have the positions
pub positions : (f : List ℕ) (places seens : List ℕ)
    → Indexed no_counts (laid_at File f) (records_counted f) (file_records f) (vector_of (file_records f)) places seens
    → Positioned (laid_at File f) (records_counted f) (file_records f) (vector_of (file_records f)) places
positions f places seens i =
    record {
      counts = i.counts ∙ vector_on-none (file_records f);
      long = i.places_long;
      few = i.few;
      room = i.room;
      below = λ u c a b d. (i.stands u c a b d).below;
      found = λ u c a b d. rw (no_counts_lem u, zero-add) at (i.stands u c a b d).found;
      beyond = λ u c d. i.beyond u c (omega (arith, no_counts_lem u));
    }

-- ---- a file without a fault

has_listed : (at : ℕ → Rec) (i n j : ℕ) → j < n → Has (at (i + j)) (listed at i n)
unfolding listed
has_listed at i zero j h = absurd (omega arith)
has_listed at i (suc n) zero h = inl (let e : i + 0 ≡ i = omega arith in rw e)
has_listed at i (suc n) (suc j) h = inr (subst (λ (x : ℕ). Has (at x) (listed at (suc i) n)) (let e : suc i + j ≡ i + suc j = omega arith in e) (has_listed at (suc i) n j (omega arith)))

module _ (f : List ℕ) (z : (checked_fault f).number ≡ 0) where
  pub checked-whole : length f ≡ 512 * (length f / 512)
  checked-whole = whole f (sym (checked_both f z).0) refl

  pub checked_some : 1 ≤ length f / 512
  checked_some = some_block f (sym (checked_both f z).0) refl

  pub checked_few : length f / 512 ≤ 186
  checked_few = omega (arith, few_blocks f (sym (checked_both f z).0) refl)

  pub checked_512 : 512 ≤ length f
  checked_512 = omega (arith, checked_some)

  pub header_counts : (v : List ℕ) → v ≡ vector_in (take (512 - 0) (drop 0 f)) → v ≡ vector_of (file_records f)
  unfolding block_at part
  header_counts v e = e ∙ vector_right f (checked_both f z).0 (checked_both f z).1

  module _ (t : ℕ) (e : t ≡ records_counted f) where
    pub checked_places : t ≤ 6 * (length f / 512)
    checked_places = few_in_file f (length f / 512) checked-whole e (checked_both f z).1 checked_some

    listed_is : file_records f ≡ listed (laid_at File f) 0 t
    unfolding file_records
    listed_is = rw (← e) (file_listed f 0 t)

    counted_is : t ≡ length (file_records f)
    unfolding file_records
    counted_is = e ∙ sym (length-file_records f 0 (records_counted f))

    lies : Laid File f t
    unfolding offset_of
    lies = let k = checked_places in let w = checked-whole in record { inside = λ i j. omega arith }

    all_formed : AllFormed (laid_at File f) t
    all_formed =
        record {
          each = λ i h.
              formed [] (file_records f) (laid_at File f i) (file_sound f z)
              (rw listed_is (let q : 0 + i ≡ i = omega arith in rw q at (has_listed (laid_at File f) 0 t i h)));
        }

    pub checked_fine : Fine f t
    checked_fine =
        record {
          right = z;
          few = omega (arith, counted_is, file_few f z);
          laid = lies;
          formed = all_formed;
          records = listed_is;
          counted = counted_is;
        }

    pub checked_positions : (v places : List ℕ) → v ≡ vector_of (file_records f)
        → Positioned (laid_at File f) (records_counted f) (file_records f) (vector_of (file_records f)) places → Positioned (laid_at File f) t (file_records f) v places
    checked_positions v places ev p = rw (e, ev) p

-- ---- each way out

pub right_is : (f : List ℕ) (n p : ℕ) → fault n p ≡ checked_fault f → n ≡ 0 → (checked_fault f).number ≡ 0
unfolding fault
right_is f n p e z = sym (ap (λ (x : Fault). x.number) e) ∙ z

pub union_right : (f g : List ℕ) (n p : ℕ) → fault n p ≡ union_fault f g → n ≡ 0 → (union_fault f g).number ≡ 0
unfolding fault
union_right f g n p e z = sym (ap (λ (x : Fault). x.number) e) ∙ z

module _ (f g log lent : List ℕ) where
  pub log_wrong : (length log ≡ 40960 → ⊥) → merged 1 0 0 0 log lent ≡ merge_of f g log lent
  unfolding merge_of
  log_wrong h = rw (ne_eqb (length log) 40960 h)

  module _ (l : length log ≡ 40960) where
    pub lent_wrong : (length lent ≡ 44032 → ⊥) → merged 1 0 0 0 log lent ≡ merge_of f g log lent
    unfolding merge_of
    lent_wrong h = rw (eq-eqb (length log) 40960 l, ne_eqb (length lent) 44032 h)

    module _ (m : length lent ≡ 44032) (n p : ℕ) (e : fault n p ≡ checked_fault f) where
      pub first_refused : (n ≡ 0 → ⊥) → merged n p 1 0 log lent ≡ merge_of f g log lent
      unfolding merge_of unless_any unless fault
      first_refused h = rw (eq-eqb (length log) 40960 l, eq-eqb (length lent) 44032 m, ← e, ne_eqb n 0 h)

      module _ (z : n ≡ 0) (n₂ p₂ : ℕ) (e₂ : fault n₂ p₂ ≡ checked_fault g) where
        pub second_refused_lem : (n₂ ≡ 0 → ⊥) → merged n₂ p₂ 2 0 log lent ≡ merge_of f g log lent
        unfolding merge_of unless_any unless fault
        second_refused_lem h = rw (eq-eqb (length log) 40960 l, eq-eqb (length lent) 44032 m, ← e, z, ← e₂, ne_eqb n₂ 0 h)

        pub both_joined : n₂ ≡ 0 → (x : Merged) → x ≡ unless (union_fault f g) 2 log lent (joined_file f (union (file_records f) (file_records g))) → x ≡ merge_of f g log lent
        unfolding merge_of unless_any fault unless
        both_joined z₂ x r = r ∙ rw (eq-eqb (length log) 40960 l, eq-eqb (length lent) 44032 m, ← e, z, ← e₂, z₂)

  module _ (n p : ℕ) (e : fault n p ≡ union_fault f g) where
    pub union_refused : (n ≡ 0 → ⊥) → merged n p 2 0 log lent ≡ unless (union_fault f g) 2 log lent (joined_file f (union (file_records f) (file_records g)))
    unfolding unless fault
    union_refused h = rw (← e, ne_eqb n 0 h)

    pub union-joined : n ≡ 0 → (k : ℕ) (o q : List ℕ) → merged 0 0 0 k o q ≡ joined_file f (union (file_records f) (file_records g))
        → merged 0 0 0 k o q ≡ unless (union_fault f g) 2 log lent (joined_file f (union (file_records f) (file_records g)))
    unfolding unless fault
    union-joined h k o q w = w ∙ rw (← e, h)
