-- Every number that a call answers is 0 or one of the refusal table, so that an answer of the code's own type has it.
-- Assumes nothing.
use Prim.Native.Nat.{ℕ, zero, suc, ◌≤◌, ◌<◌}
use native.Mathlib.Omega.{arith}
use mathlib.Core.Path.{◌≡◌, refl, sym, ap, subst, ◌∙◌}
use mathlib.Core.Bool.{Bool, true, false, cond, ◌&&◌, ◌||◌}
use mathlib.Core.Logic.{◌⊎◌, inl, inr, ⊎_elim}
use mathlib.Core.Option.{Option, none, some}
use mathlib.Core.List.{List, [], ◌∷◌}
use lib.Dec.{leb, ltb, eqb}
use lib.ListN.{length, take}
use borrow.Author.Tests.{le-leb, leb-true, eqb-true}
use Rattle.std.proofs.Common.{Result, Ok, Err, Some, None}
use Rattle.std.specs.Prelude.{Option as Maybe}
use Rattle.model.specs.Numbers.{first_of}
use Rattle.model.specs.Bytes.{blank, same_bytes}
use Rattle.model.specs.Vector.{covers}
use Rattle.model.specs.Record.{Rec, unit, num, seen_vector, well_formed}
use Rattle.model.specs.Log.{by_id, is_next, is_within, is_closed, all_to, records_of}
use Rattle.model.specs.Replay.{Tree, Verdict, fits, aside, judge, replay_from, reason_of}
use Rattle.model.specs.Block.{sums_hold, header_holds, block_fault, archive_in, block_records, letters, given_fault}
use Rattle.base_model.specs.Base.{is_listed, base_vector, base_in, held_on, sound_state}
use Rattle.call_model.specs.Outcome.{Outcome, outcome, refusal, or_refused, early_number, guard_number, guarded, start_of, stamped, act_number, acted, act_lent, act_of, asked_number, handed, hand_of, whole_number, written, write_of, Took, refused, taken, take_new, take_held, is_folded, take_one, takes_all, took_all, took_block, take_of, show_of}
use Rattle.call_model.specs.Fold.{list_fits, list_number, folded, fold_by, fold_of}
use Rattle.byte_slice.proofs.Numbers.{and_true, or_true, lt_or_ge}
use Rattle.take_laws.proofs.Take.{take_all-nil, take_all_goes, take_all_stops}
use Rattle.act_laws.proofs.Act.{refused_elim, act_numbers}
use Rattle.tree_laws.proofs.Verdicts.{Under, Reason, reason_range}
use Rattle.row_model.specs.Row.{Tried, tried, try_from, try_all, took_row, row_fits, take_row_of}
use Rattle.model.specs.File.{blocks_in, block_at}
use Rattle.index_model.specs.Kept.{index_of_log, if_lent, both_fit, Kept, kept, kept_of, RowKept, row_kept, row_kept_of, take_row_kept}
use Rattle.write_file.specs.Told.{blocks_of}
use Rattle.fold.specs.Records.{records_folded}
use Rattle.take_row_judge.specs.Stopped.{stop_code}
use Rattle.take_row.specs.Answer.{taken_of, stopped_of}
use Rattle.take_row.specs.declared.RowTaken.{RowTaken}
use Rattle.refusal.specs.declared.Refusal.{Refusal}
use Rattle.refusal.specs.declared.Refusal.TheVariants.{BadBuffer, BadLength, BadLetters, BadSum, BadHeader, OtherArchive, Malformed, NotNext, NotClosed, OtherBytes, FullLog, NoObject, NoFolder, WrongKind, LabelHeld, NotEmpty, UnseenChange, NotAside, UnsoundState, BadFile, BadUnit, StrokeInLabel, IntoItself, Unlisted, BelowBase, LastNumber, FoldedRecords, NotAnEvent}
use Rattle.refusal.specs.Refusals.{number_of, code_of}

-- ---- the table

-- 1 to 21 and 24 to 30, and 0
abbrev pub in_table : ℕ → Bool
in_table n = leb n 21 || (leb 24 n && leb n 30)

-- the refusal of each number
unfoldable pub refusal_of : ℕ → Refusal
refusal_of n =
    cond (eqb n 1) BadBuffer (
    cond (eqb n 2) BadLength (
    cond (eqb n 3) BadLetters (
    cond (eqb n 4) BadSum (
    cond (eqb n 5) BadHeader (
    cond (eqb n 6) OtherArchive (
    cond (eqb n 7) Malformed (
    cond (eqb n 8) NotNext (
    cond (eqb n 9) NotClosed (
    cond (eqb n 10) OtherBytes (
    cond (eqb n 11) FullLog (
    cond (eqb n 12) NoObject (
    cond (eqb n 13) NoFolder (
    cond (eqb n 14) WrongKind (
    cond (eqb n 15) LabelHeld (
    cond (eqb n 16) NotEmpty (
    cond (eqb n 17) UnseenChange (
    cond (eqb n 18) NotAside (
    cond (eqb n 19) UnsoundState (
    cond (eqb n 20) BadFile (
    cond (eqb n 21) BadUnit (
    cond (eqb n 24) StrokeInLabel (
    cond (eqb n 25) IntoItself (
    cond (eqb n 26) Unlisted (
    cond (eqb n 27) BelowBase (
    cond (eqb n 28) LastNumber (
    cond (eqb n 29) FoldedRecords (
    NotAnEvent)))))))))))))))))))))))))))

-- a number above 0 of the table has its refusal
abbrev has_refusal : ℕ → Bool
has_refusal n = eqb n 0 || cond (in_table n) (eqb (number_of (refusal_of n)) n) true

all_have : all_to 31 has_refusal ≡ true
unfolding all_to refusal_of
all_have = refl

at_each : (n : ℕ) (p : ℕ → Bool) → all_to n p ≡ true → (k : ℕ) → k < n → p k ≡ true
unfolding all_to
at_each zero p h k l = absurd (omega (arith, l))
at_each (suc n) p h k l =
    let (a, b) = and_true (all_to n p) (p n) h in
    ⊎_elim (λ (q : k < n). at_each n p a k q) (λ (q : n ≤ k). let e : n ≡ k = omega (arith, l, q) in subst (λ (m : ℕ). p m ≡ true) e b) (lt_or_ge k n)

table_most : (n : ℕ) → in_table n ≡ true → n < 31
table_most n h =
    ⊎_elim (λ (a : leb n 21 ≡ true). omega (arith, leb-true n 21 a))
    (λ (b : (leb 24 n && leb n 30) ≡ true). omega (arith, leb-true n 30 (and_true (leb 24 n) (leb n 30) b).1))
    (or_true (leb n 21) (leb 24 n && leb n 30) h)

table_has : (n : ℕ) → in_table (suc n) ≡ true → number_of (refusal_of (suc n)) ≡ suc n
table_has n h =
    ⊎_elim (λ (z : eqb (suc n) 0 ≡ true). absurd (let q : suc n ≡ 0 = eqb-true (suc n) 0 z in omega (arith, q)))
    (λ (c : cond (in_table (suc n)) (eqb (number_of (refusal_of (suc n))) (suc n)) true ≡ true). eqb-true (number_of (refusal_of (suc n))) (suc n) (rw h at c))
    (or_true (eqb (suc n) 0) (cond (in_table (suc n)) (eqb (number_of (refusal_of (suc n))) (suc n)) true) (at_each 31 has_refusal all_have (suc n) (table_most (suc n) h)))

-- ---- numbers in the table

in_cond : (b : Bool) (x y : ℕ) → in_table x ≡ true → in_table y ≡ true → in_table (cond b x y) ≡ true
in_cond true x y h k = h
in_cond false x y h k = k

in_first : (m n : ℕ) → in_table m ≡ true → in_table n ≡ true → in_table (first_of m n) ≡ true
in_first zero n h k = k
in_first (suc m) n h k = h

early_in : (u : ℕ) (log base : List ℕ) (ok row : Bool) → in_table (early_number u log base ok row) ≡ true
early_in u log base ok row =
    in_cond (eqb (length log) 40960 && (eqb (length base) 43032 && ok)) (cond (leb u 7) (cond row 0 2) 21) 1
    (in_cond (leb u 7) (cond row 0 2) 21 (in_cond row 0 2 refl refl) refl) refl

pub guard_in : (u : ℕ) (log base : List ℕ) (ok row : Bool) → in_table (guard_number u log base ok row) ≡ true
guard_in u log base ok row =
    in_first (early_number u log base ok row) (cond (sound_state log base) 0 19) (early_in u log base ok row) (in_cond (sound_state log base) 0 19 refl refl)

reason_in : (r : Rec) (t : Tree) → in_table (reason_of (judge r t)) ≡ true
unfolding reason_of
reason_in r t = go (judge r t) (reason_range r t)
  where
    go : (v : Verdict) → Under Reason v → in_table (reason_of v) ≡ true
    go fits h = refl
    go (aside n k) (inl p) = rw (le-leb n 21 (omega (arith, p.1))) refl
    go (aside n k) (inr q) = subst (λ (m : ℕ). in_table m ≡ true) (sym q) refl

act_in : (m u : ℕ) (v : List ℕ) (t : Tree) (l : List Rec) (w : List ℕ) → in_table (act_number m u v t l w) ≡ true
act_in m u v t l w =
    ⊎_elim
    (λ (f, e). subst (λ (n : ℕ). in_table n ≡ true) (sym e) (reason_in (stamped u v l w) (replay_from t l)))
    (λ q. refused_elim (λ (n : ℕ). in_table n ≡ true) refl refl refl refl refl m u v l w (act_number m u v t l w) q)
    (act_numbers m u v t l w)

given_in : (archive : ℕ) (b : List ℕ) → in_table (given_fault archive b) ≡ true
unfolding given_fault block_fault
given_in archive b =
    let f : in_table (block_fault b) ≡ true =
    in_cond (same_bytes (take 4 b) letters) (cond (sums_hold b) (cond (header_holds b) 0 5) 4) 3
    (in_cond (sums_hold b) (cond (header_holds b) 0 5) 4 (in_cond (header_holds b) 0 5 refl refl) refl) refl in
    in_cond (eqb (length b) 512) (cond (eqb (block_fault b) 0) (cond (eqb (archive_in b) archive) 0 6) (block_fault b)) 2
    (in_cond (eqb (block_fault b) 0) (cond (eqb (archive_in b) archive) 0 6) (block_fault b) (in_cond (eqb (archive_in b) archive) 0 6 refl refl) f) refl

-- a take is refused with such a number, if at all
abbrev TookIn : Took → Type 0
TookIn (refused n) = in_table n ≡ true
TookIn (taken m) = Unit {0}

took_cond : (b : Bool) (x y : Took) → TookIn x → TookIn y → TookIn (cond b x y)
took_cond true x y h k = h
took_cond false x y h k = k

one_in : (m : ℕ) (v : List ℕ) (l : List Rec) (r : Rec) → TookIn (take_one m v l r)
unfolding take_one take_held take_new
one_in m v l r =
    took_cond (well_formed r) _ _ (took_cond (is_listed m (unit r)) _ _ (took_cond (is_folded v r) _ _ tt (go (by_id (unit r) (num r) l))) refl) refl
  where
    go : (o : Option Rec) → TookIn (take_held v o l r)
    go (some s) = took_cond (same_bytes s r) _ _ tt refl
    go none =
        took_cond (is_next v l r && is_within v l r) _ _
        (took_cond (covers (seen_vector r) v) _ _
        (took_cond (is_closed v l r) _ _ (took_cond (ltb (length l) 512) _ _ tt refl) refl) refl) refl

all_in : (m : ℕ) (v : List ℕ) (rs l : List Rec) → TookIn (takes_all m v l rs)
all_in m v [] l = subst TookIn (sym (take_all-nil m v l)) tt
all_in m v (r ∷ rs) l = go (take_one m v l r) refl (one_in m v l r) (λ k. all_in m v rs k)
  where
    go : (o : Took) → take_one m v l r ≡ o → TookIn o → ((k : List Rec) → TookIn (takes_all m v k rs)) → TookIn (takes_all m v l (r ∷ rs))
    go (refused n) e h k = subst TookIn (sym (take_all_stops m v l r rs n e)) h
    go (taken x) e h k = subst TookIn (sym (take_all_goes m v l r rs x e)) (k x)

-- ---- what the calls answer

-- the number is in the table, the place 0, and nothing is counted behind a refusal
pub record Told (o : Outcome) : Type 0 where
  pub number : in_table o.number ≡ true
  pub place : o.place ≡ 0
  pub count : (o.number ≡ 0 → ⊥) → o.blocks ≡ 0

told_done : {log lent : List ℕ} {k : ℕ} → Told (outcome 0 0 log lent k)
told_done = record { number = refl; place = refl; count = λ z. absurd (z refl) }

told_refused : {log lent : List ℕ} (n : ℕ) → in_table n ≡ true → Told (refusal n log lent)
told_refused n h = record { number = h; place = refl; count = λ z. refl }

told_or : (n : ℕ) (log lent : List ℕ) (o : Outcome) → in_table n ≡ true → Told o → Told (or_refused n log lent o)
told_or zero log lent o h k = k
told_or (suc n) log lent o h k = told_refused (suc n) h

told_guarded : (u : ℕ) (log base lent : List ℕ) (ok : Bool) (o : Outcome) → Told o → Told (guarded u log base lent ok o)
unfolding guarded
told_guarded u log base lent ok o k = told_or (guard_number u log base ok true) log lent o (guard_in u log base ok true) k

pub start_told : (u : ℕ) (log base : List ℕ) → Told (start_of u log base)
unfolding start_of
start_told u log base = told_or (early_number u log base true true) log base _ (early_in u log base true true) told_done

pub act_told : (u : ℕ) (log base w work : List ℕ) → Told (act_of u log base w work)
unfolding act_of acted
act_told u log base w work =
    let n : ℕ = act_number (base_in base).list u (base_vector base) (base_in base).tree (records_of log) w in
    told_guarded u log base [] (act_lent w work) (acted u log (base_vector base) w n)
    (told_or n log [] _ (act_in (base_in base).list u (base_vector base) (base_in base).tree (records_of log) w) told_done)

took_told : (log : List ℕ) (t : Took) → TookIn t → Told (took_all log t)
unfolding took_all
took_told log (refused n) h = told_refused n h
took_told log (taken m) h = told_done

pub take_told : (archive u : ℕ) (log base b : List ℕ) → Told (take_of archive u log base b)
unfolding take_of took_block
take_told archive u log base b =
    told_guarded u log base [] true (took_block log base b (given_fault archive b))
    (told_or (given_fault archive b) log [] _ (given_in archive b)
    (took_told log (takes_all (base_in base).list (base_vector base) (records_of log) (block_records b)) (all_in (base_in base).list (base_vector base) (block_records b) (records_of log))))

pub hand_told : (archive u : ℕ) (log base v lent : List ℕ) → Told (hand_of archive u log base v lent)
unfolding hand_of handed
hand_told archive u log base v lent =
    told_guarded u log base lent (eqb (length lent) 512) (handed archive u log base v lent)
    (told_or (asked_number v (base_vector base)) log lent _ (in_cond (covers v (base_vector base)) 0 27 refl refl) told_done)

pub write_told : (archive u : ℕ) (log base lent : List ℕ) → Told (write_of archive u log base lent)
unfolding write_of written
write_told archive u log base lent =
    told_guarded u log base lent (eqb (length lent) 44032) (written archive u log base lent)
    (told_or (whole_number (base_vector base)) log lent _ (in_cond (blank (base_vector base)) 0 29 refl refl) told_done)

pub fold_told : (u : ℕ) (log base : List ℕ) (m : ℕ) (work : List ℕ) → Told (fold_of u log base m work)
unfolding fold_of fold_by folded
fold_told u log base m work =
    told_guarded u log base base (eqb (length work) 86020) (fold_by m u log base)
    (told_or (list_number m u (held_on log base)) log base _ (in_cond (list_fits m u (held_on log base)) 0 26 refl refl) told_done)

pub show_told : (log base lent : List ℕ) → Told (show_of log base lent)
unfolding show_of
show_told log base lent = told_guarded 0 log base lent (eqb (length lent) 86020) _ told_done

-- ---- an answer of the code's own type

unfoldable pub answer : ℕ → Result (Unit {0}) Refusal
answer zero = Ok tt
answer (suc n) = Err (refusal_of (suc n))

pub answer_code : (n : ℕ) → in_table n ≡ true → code_of (answer n) ≡ n
unfolding answer
answer_code zero h = refl
answer_code (suc n) h = table_has n h

unfoldable pub counted : ℕ → ℕ → Result ℕ Refusal
counted zero k = Ok k
counted (suc n) k = Err (refusal_of (suc n))

pub counted_code : (n k : ℕ) → in_table n ≡ true → code_of (counted n k) ≡ n
unfolding counted
counted_code zero k h = refl
counted_code (suc n) k h = table_has n h

-- what is counted, by the answers that count: none behind a refusal
pub counted_blocks : (n k : ℕ) → ((n ≡ 0 → ⊥) → k ≡ 0) → blocks_of (counted n k) ≡ k
unfolding counted
counted_blocks zero k h = refl
counted_blocks (suc n) k h = sym (h (λ z. absurd (omega (arith, z))))

pub counted_records : (n k : ℕ) → ((n ≡ 0 → ⊥) → k ≡ 0) → records_folded (counted n k) ≡ k
unfolding counted
counted_records zero k h = refl
counted_records (suc n) k h = sym (h (λ z. absurd (omega (arith, z))))

-- ---- rows

-- what stops a row
unfoldable pub stop : ℕ → Maybe Refusal
stop zero = None
stop (suc n) = Some (refusal_of (suc n))

pub stop_has : (n : ℕ) → in_table n ≡ true → stop_code (stop n) ≡ n
unfolding stop
stop_has zero h = refl
stop_has (suc n) h = table_has n h

unfoldable pub row_answer : ℕ → ℕ → ℕ → Result RowTaken Refusal
row_answer zero k s = Ok (record { taken = k; stopped = stop s })
row_answer (suc n) k s = Err (refusal_of (suc n))

-- the numbers of a row are in the table, its place is 0, and a refusal takes nothing
pub record RowTold (o : RowKept) : Type 0 where
  pub number : in_table o.number ≡ true
  pub place : o.place ≡ 0
  pub stop : in_table o.stopped ≡ true
  pub none : (o.number ≡ 0 → ⊥) → (o.taken ≡ 0) × (o.stopped ≡ 0)

tried_in : (archive u : ℕ) (base row log : List ℕ) (k n : ℕ) → in_table (try_from archive u base row log k n).stopped ≡ true
unfolding try_from
tried_in archive u base row log k zero = refl
tried_in archive u base row log k (suc n) =
    go (eqb (take_of archive u log base (block_at row k)).number 0) (tried_in archive u base row (take_of archive u log base (block_at row k)).log (suc k) n)
  where
    o : Outcome
    o = take_of archive u log base (block_at row k)

    go : (b : Bool) → in_table (try_from archive u base row o.log (suc k) n).stopped ≡ true → in_table (cond b (try_from archive u base row o.log (suc k) n) (tried k o.number log)).stopped ≡ true
    go true h = h
    go false h = (take_told archive u log base (block_at row k)).number

pub row_told : (archive u : ℕ) (log base i row work : List ℕ) → RowTold (take_row_kept archive u log base i row work)
unfolding take_row_kept row_kept_of take_row_of try_all
row_told archive u log base i row work = fit (both_fit i work)
  where
    t : Tried
    t = try_from archive u base row log 0 (blocks_in row)

    took : (n : ℕ) → in_table n ≡ true → RowTold (row_kept (took_row n log t).number (took_row n log t).place (took_row n log t).taken (took_row n log t).stopped (took_row n log t).log (cond (eqb (took_row n log t).taken 0) i (if_lent i (index_of_log (took_row n log t).log base))))
    took zero h = record { number = refl; place = refl; stop = tried_in archive u base row log 0 (blocks_in row); none = λ z. absurd (z refl) }
    took (suc n) h = record { number = h; place = refl; stop = refl; none = λ z. (refl, refl) }

    fit : (b : Bool) → RowTold (row_kept_of b log base i (took_row (guard_number u log base true (row_fits (length row))) log t))
    fit true = took (guard_number u log base true (row_fits (length row))) (guard_in u log base true (row_fits (length row)))
    fit false = record { number = refl; place = refl; stop = refl; none = λ z. (refl, refl) }

pub row_code : (n k s : ℕ) → in_table n ≡ true → code_of (row_answer n k s) ≡ n
unfolding row_answer
row_code zero k s h = refl
row_code (suc n) k s h = table_has n h

pub row_taken_of : (n k s : ℕ) → ((n ≡ 0 → ⊥) → (k ≡ 0) × (s ≡ 0)) → taken_of (row_answer n k s) ≡ k
unfolding row_answer
row_taken_of zero k s h = refl
row_taken_of (suc n) k s h = sym (h (λ z. absurd (omega (arith, z)))).0

pub row_stopped_of : (n k s : ℕ) → in_table s ≡ true → ((n ≡ 0 → ⊥) → (k ≡ 0) × (s ≡ 0)) → stopped_of (row_answer n k s) ≡ s
unfolding row_answer
row_stopped_of zero k s i h = stop_has s i
row_stopped_of (suc n) k s i h = sym (h (λ z. absurd (omega (arith, z)))).1

-- ---- calls that carry an index

-- the number is in the table and the place 0
pub record KeptTold (o : Kept) : Type 0 where
  pub number : in_table o.number ≡ true
  pub place : o.place ≡ 0

pub kept_told : (fit : Bool) (log lent i : List ℕ) (o : Outcome) (j : List ℕ) → Told o → KeptTold (kept_of fit log lent i o j)
unfolding kept_of
kept_told true log lent i o j h = record { number = h.number; place = h.place }
kept_told false log lent i o j h = record { number = refl; place = refl }
