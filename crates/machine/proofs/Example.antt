-- Claim D4: the premises can be met. A list of calls with conflicts, losses, repeats, a restart, a fold and refused calls, computed.
-- Assumes nothing.
use Prim.Native.Nat.{ℕ, zero, suc, ◌+◌, ◌≤◌}
use native.Mathlib.Omega.{arith}
use mathlib.Core.Path.{◌≡◌, refl, sym, ◌∙◌}
use mathlib.Core.Bool.{Bool, true, ◌&&◌}
use mathlib.Core.List.{List, [], ◌∷◌, ◌++◌}
use lib.ListN.{length, get_or, replicate}
use lib.Dec.{leb, eqb}
use borrow.Author.Tests.{eqb-true, leb-true}
use Rattle.model.specs.Bytes.{word, long, blank, same_bytes, part, padded, joined}
use Rattle.model.specs.Vector as W
use Rattle.model.specs.Date as D
use Rattle.model.specs.Record as R
use Rattle.model.specs.Log as L
use Rattle.model.specs.Replay as P
use Rattle.model.specs.Table as T
use Rattle.model.specs.Block as B
use Rattle.model.specs.File as F
use Rattle.base_model.specs.Base as Q
use Rattle.call_model.specs.Outcome as O
use Rattle.call_model.specs.Fold as G
use Rattle.machine.specs.Machine.{Call, starts, acts, hands_out, writes, takes, folds, Bench, bare, play, outcomes}
use Rattle.machine.specs.Machine as M
use Rattle.machine.specs.Callable.{all_below, is_slice, is_vector, callable, all_callable}
use Rattle.machine.specs.Claim as C
use Rattle.machine.specs.Meeting as N
use Rattle.machine.specs.Meeting.{held_by, Meets}
use Rattle.machine.specs.Careful.{Passes}
use Rattle.byte_slice.proofs.Numbers.{and_true}
use Rattle.byte_slice.proofs.Compare.{same_eq}
use Rattle.log_laws.specs.Members.{Agree}
use Rattle.machine.proofs.Tests.{distinct_agree}
use Rattle.machine.proofs.Reach.{Inv, inv_bare, inv_play}
use Rattle.machine.proofs.Quick.{quick, quick_play, quick_outcomes, quick_passing, quick_flow, play_is, outcomes_is, passing_is, flow_is}
use Rattle.machine.proofs.Steady.{Told, told-bare, told-play}
use Rattle.machine.proofs.Demand.{play-append, demand}
use Rattle.machine.proofs.Meeting.{every_meeting}
use Rattle.machine.proofs.Careful.{careful_passing}
use Rattle.machine.proofs.Opened.{store_at, whole-at, may_meet}

-- a wish of 3 March 2025: unit, operation, object, folder, label, mark
wish : ℕ → ℕ → List ℕ → List ℕ → List ℕ → List ℕ → List ℕ
wish u o object folder label mark =
    (u ∷ o ∷ []) ++ (replicate 18 0 ++ (object ++ (folder ++ ((233 ∷ 7 ∷ 3 ∷ 3 ∷ []) ++ (padded 32 label ++ mark)))))

none : List ℕ
none = replicate 4 0

plain : List ℕ
plain = replicate 16 0

block : List ℕ
block = replicate 512 7

file : List ℕ
file = replicate 44032 7

work : List ℕ
work = replicate 86020 7

-- the vector of the first three units
pub vector : ℕ → ℕ → ℕ → List ℕ
vector x y z = x ∷ y ∷ z ∷ replicate 5 0

-- Unit 0 makes folder B (0.1), unit 1 trace A (1.1), unit 0 another trace A (0.2); a third is refused (15). Unit 1 hands out
-- 1.1 (block 0), unit 0 hands out 0.2 (block 1); a lent block of no length is refused (1). Unit 0 takes block 0 twice: 1.1
-- ranks before 0.2, which now stands aside. Unit 2 is refused block 1, whose record is not next (8). Unit 0 makes folder D (0.3). Unit 1
-- starts again, takes its own record back, stores new contents (1.2), takes what unit 0 hands out (block 2), stores again (1.3) and
-- writes a file (block 3). Unit 2 takes it and makes folder C (2.1). It folds: a list without it is refused (26); by the list 0, 1, 2 the
-- records 0.1, 1.1 and 0.2 are folded, which units 0 and 1 have heard of. It hands out 2.1 (block 4), refuses one who lacks what is folded
-- (27) and a file (29). Unit 4 takes blocks 3 and 4. Unit 0 makes folder E (0.4).
pub before : List Call
before =
    acts 0 (wish 0 1 none none (66 ∷ []) plain) work
    ∷ acts 1 (wish 1 2 none none (65 ∷ []) (replicate 16 17)) work
    ∷ acts 0 (wish 0 2 none none (65 ∷ []) (replicate 16 34)) work
    ∷ acts 0 (wish 0 2 none none (65 ∷ []) (replicate 16 34)) work
    ∷ hands_out 1 (vector 0 0 0) block
    ∷ hands_out 0 (vector 1 0 0) block
    ∷ hands_out 0 (vector 0 0 0) []
    ∷ takes 0 0
    ∷ takes 0 0
    ∷ takes 2 1
    ∷ acts 0 (wish 0 1 none none (68 ∷ []) plain) work
    ∷ starts 1
    ∷ takes 1 0
    ∷ acts 1 (wish 1 3 (1 ∷ 0 ∷ 1 ∷ 0 ∷ []) none [] (replicate 16 51)) work
    ∷ hands_out 0 (vector 0 1 0) block
    ∷ takes 1 2
    ∷ acts 1 (wish 1 3 (1 ∷ 0 ∷ 1 ∷ 0 ∷ []) none [] (replicate 16 68)) work
    ∷ writes 1 file
    ∷ takes 2 3
    ∷ acts 2 (wish 2 1 none none (67 ∷ []) plain) work
    ∷ folds 2 3 work
    ∷ folds 2 7 work
    ∷ hands_out 2 (vector 3 3 0) block
    ∷ hands_out 2 (vector 0 0 0) block
    ∷ writes 2 file
    ∷ takes 4 3
    ∷ takes 4 4
    ∷ acts 0 (wish 0 1 none none (69 ∷ []) plain) work
    ∷ []

-- Unit 0 passes to unit 2: it hands out what unit 2 lacks (block 5), again (block 6, never taken), and writes a file (block 7).
-- Meanwhile unit 1 acts. Unit 2 takes the file's block, of which it has folded three records and holds one, and then block 5, which
-- holds nothing new; units 3 and 4 take the file's block too.
pub passing : List Call
passing =
    hands_out 0 (vector 3 3 1) block
    ∷ hands_out 0 (vector 3 3 1) block
    ∷ writes 0 file
    ∷ acts 1 (wish 1 1 none none (70 ∷ []) plain) work
    ∷ takes 2 7
    ∷ takes 2 5
    ∷ takes 3 7
    ∷ takes 4 7
    ∷ []

pub numbers : List O.Outcome → List ℕ
numbers [] = []
numbers (o ∷ os) = o.number ∷ numbers os

-- every answer of the list
pub expected : List ℕ
expected =
    0 ∷ 0 ∷ 0 ∷ 15 ∷ 0 ∷ 0 ∷ 1 ∷ 0 ∷ 0 ∷ 8 ∷ 0 ∷ 0 ∷ 0 ∷ 0 ∷ 0 ∷ 0 ∷ 0 ∷ 0 ∷ 0 ∷ 0 ∷ 26 ∷ 0 ∷ 0 ∷ 27 ∷ 29 ∷ 0 ∷ 0 ∷ 0 ∷ 0 ∷ 0 ∷ 0 ∷ 0 ∷ 0 ∷ 0 ∷ 0 ∷ 0 ∷ []

every : List Bool → Bool
every [] = true
every (b ∷ l) = b && every l

every_at : (l : List Bool) (n : ℕ) → every l ≡ true → get_or l n true ≡ true
unfolding every
every_at [] n e = refl
every_at (b ∷ l) zero e = (and_true b (every l) e).0
every_at (b ∷ l) (suc n) e = every_at l n (and_true b (every l) e).1

-- what is asked and shown of the bench s at the point, of what unit 2 takes, and of the bench at the end
asked : Bench → List R.Rec → Bench → List Bool
asked s f t =
    C.holds_all f (C.lacked s 0 2)
    ∷ C.rising (C.firsts (M.held s 2) f)
    ∷ leb (length (C.lacked s 0 2) + length (L.records_of (s.logs 2))) 512
    ∷ C.distinct t.used
    ∷ C.named t.lists t.used
    ∷ C.steady t.folders t.fallen
    ∷ same_bytes (M.held_vector t 0) (vector 4 1 0)
    ∷ same_bytes (M.held_vector t 3) (vector 4 1 0)
    ∷ same_bytes (Q.base_vector (t.bases 0)) (vector 0 0 0)
    ∷ same_bytes (Q.base_vector (t.bases 3)) (vector 0 0 0)
    ∷ same_bytes (M.held_vector t 2) (vector 4 3 1)
    ∷ same_bytes (M.held_vector t 4) (vector 4 3 1)
    ∷ same_bytes (Q.base_vector (t.bases 2)) (vector 2 1 0)
    ∷ P.stands_aside (R.identity 0 2) (P.replay (M.held t 2)).asides
    ∷ W.covers (N.vector_by (store_at t 2)) (Q.base_vector (t.bases 1))
    ∷ eqb (length (N.lacked_by (store_at t 1) (store_at t 2))) 1
    ∷ leb (length (N.lacked_by (store_at t 1) (store_at t 2)) + length (L.records_of (t.logs 2))) 512
    ∷ []

passed : Bench → Bool
passed s = quick_passing 7 0 2 (length s.given) s passing && every (asked s (quick_flow 7 2 s passing) (quick_play 7 s passing))

computed : (passed (quick_play 7 bare before) && same_bytes (numbers (quick_outcomes 7 bare (before ++ passing))) expected) ≡ true
unfolding wish none plain block file work vector before passing numbers expected every asked passed quick quick_play quick_outcomes quick_passing quick_flow word long blank same_bytes part padded joined W.covers_to W.covers W.counts_at W.vector_at W.count_bytes W.vector_bytes D.is_leap D.days_of D.is_date R.identity R.unit R.op R.num R.seen R.seen_vector R.identity_at R.self_of R.object_of R.folder_of R.date_bytes R.label_of R.mark_of R.text_length R.printable R.is_label R.uses_object R.uses_folder R.uses_label R.uses_mark R.unused R.names R.object_fits R.folder_fits R.label_fits R.mark_fits R.date_fits R.head_fits R.well_formed R.has_stroke L.rank L.insert L.count L.counts_to L.counts_on_to L.vector_on L.vector_of L.by_id L.is_next L.is_within L.all_to L.nowhere_above L.is_closed L.rises L.record_fault L.sound_after L.records_in L.records_of L.sound_log_on L.sound_log L.log_bytes L.lacking P.empty_tree P.is_present P.lower P.label_key P.same_label P.entry_of P.is_in P.is_holder P.holder_of P.has_entries P.stands_aside P.unseen P.free_label P.and_then P.is_folder P.folder_stands P.judge_make P.judge_store P.judge_remove P.judge_rename P.comes_to P.is_below P.judge_place P.judge_move P.judge_settle P.judge P.new_entry P.stored P.renamed P.moved P.removed P.changed P.settled P.effect P.apply P.step P.replay_from P.replay P.present_ones P.reason_of P.trim T.identity_bytes T.entry_row T.aside_row T.entry_rows T.aside_rows T.flagged T.entry_in T.aside_in B.first_to B.second_to B.head_bytes B.body_bytes B.sealed B.block_of B.count_in B.archive_in B.sender_in B.place_in B.vector_in B.sums_hold B.header_holds B.block_fault B.given_fault B.record_at B.records_from B.block_records F.block_count F.header_of F.file_block F.file_to F.file_of F.block_at Q.bits Q.is_listed Q.lists_all Q.base_bytes Q.empty_base Q.base_entry Q.base_aside Q.base_entries Q.base_asides Q.base_vector Q.base_tree Q.base_in Q.sound_state Q.tree_of O.start_of O.guarded O.stamped O.wish_fits O.early_wish O.act_number O.acted O.act_of O.hand_block O.handed O.hand_of O.written O.write_of O.take_new O.take_held O.is_folded O.take_one O.takes_all O.took_all O.took_block O.take_of G.last_of G.heard_from G.heard_by G.heard_by_all G.heard_run G.counts_as_base G.longest G.run_of G.folded_base G.list_fits G.folded G.fold_by G.fold_of M.unit_of M.held M.held_vector M.block_given M.done M.if_accepted M.blocks_to M.gives M.uses M.base_left M.folded_left M.list_by M.folder_by M.put M.fallen_by M.after M.next M.play M.outcomes C.is_some C.holds C.distinct C.passes C.passing C.flow_of C.flow C.lacked C.holds_all C.firsts C.below C.rising C.zeros C.names_each C.named C.is_among C.steady N.lacked_by
computed = refl

-- the types of the entry points can hold the arguments
pub callable_list : all_callable (before ++ passing) ≡ true
unfolding wish none plain block file work vector before passing padded all_below is_slice is_vector callable all_callable
callable_list = refl

-- ---- what was computed holds of the machine itself

-- the premises and what the bench at the end shows
record Met (s : Bench) : Type 0 where
  premises : C.Passed 7 0 2 s passing
  once : C.distinct (play 7 s passing).used ≡ true
  names : C.named (play 7 s passing).lists (play 7 s passing).used ≡ true
  firm : C.steady (play 7 s passing).folders (play 7 s passing).fallen ≡ true
  vectors_0_3 : M.held_vector (play 7 s passing) 0 ≡ M.held_vector (play 7 s passing) 3
  bases_0_3 : Q.base_vector ((play 7 s passing).bases 0) ≡ Q.base_vector ((play 7 s passing).bases 3)
  vectors_2_4 : M.held_vector (play 7 s passing) 2 ≡ M.held_vector (play 7 s passing) 4
  base_2 : Q.base_vector ((play 7 s passing).bases 2) ≡ vector 2 1 0
  conflict : P.stands_aside (R.identity 0 2) (P.replay (M.held (play 7 s passing) 2)).asides ≡ true
  above : W.covers (N.vector_by (store_at (play 7 s passing) 2)) (Q.base_vector ((play 7 s passing).bases 1)) ≡ true
  one : length (N.lacked_by (store_at (play 7 s passing) 1) (store_at (play 7 s passing) 2)) ≡ 1
  fit : length (N.lacked_by (store_at (play 7 s passing) 1) (store_at (play 7 s passing) 2)) + length (L.records_of ((play 7 s passing).logs 2)) ≤ 512

met_at : (s : Bench) → Inv 7 s → passed s ≡ true → Met s
unfolding passed asked
met_at s i e =
    let n : ℕ = length s.given in
    let f : List R.Rec = C.flow 7 2 s passing in
    let t : Bench = play 7 s passing in
    let h : (C.passing 7 0 2 n s passing && every (asked s f t)) ≡ true = rw (passing_is 7 0 2 n passing s i, flow_is 7 2 passing s i, play_is 7 passing s i) at e in
    let (a, b) = and_true (C.passing 7 0 2 n s passing) (every (asked s f t)) h in
    let is : (k : ℕ) → get_or (asked s f t) k true ≡ true = λ k. every_at (asked s f t) k b in
    record {
      premises = record { calls = a; all = is 0; order = is 1; union = is 2 };
      once = is 3;
      names = is 4;
      firm = is 5;
      vectors_0_3 = same_eq (M.held_vector t 0) (vector 4 1 0) (is 6) ∙ sym (same_eq (M.held_vector t 3) (vector 4 1 0) (is 7));
      bases_0_3 = same_eq (Q.base_vector (t.bases 0)) (vector 0 0 0) (is 8) ∙ sym (same_eq (Q.base_vector (t.bases 3)) (vector 0 0 0) (is 9));
      vectors_2_4 = same_eq (M.held_vector t 2) (vector 4 3 1) (is 10) ∙ sym (same_eq (M.held_vector t 4) (vector 4 3 1) (is 11));
      base_2 = same_eq (Q.base_vector (t.bases 2)) (vector 2 1 0) (is 12);
      conflict = is 13;
      above = is 14;
      one = eqb-true (length (N.lacked_by (store_at t 1) (store_at t 2))) 1 (is 15);
      fit = leb-true (length (N.lacked_by (store_at t 1) (store_at t 2)) + length (L.records_of (t.logs 2))) 512 (is 16);
    }

both : (passed (quick_play 7 bare before) ≡ true) × (same_bytes (numbers (quick_outcomes 7 bare (before ++ passing))) expected ≡ true)
both = and_true (passed (quick_play 7 bare before)) (same_bytes (numbers (quick_outcomes 7 bare (before ++ passing))) expected) computed

met : Met (play 7 bare before)
met = met_at (play 7 bare before) (inv_play 7 before bare (inv_bare 7)) (rw (play_is 7 before bare (inv_bare 7)) at both.0)

-- the premises of the claim hold of the list
pub premises : C.Passed 7 0 2 (play 7 bare before) passing
premises = met.premises

pub no_number_twice : C.distinct (play 7 bare (before ++ passing)).used ≡ true
no_number_twice = rw (play-append 7 before passing bare) met.once

pub lists_name_all : C.named (play 7 bare (before ++ passing)).lists (play 7 bare (before ++ passing)).used ≡ true
lists_name_all = rw (play-append 7 before passing bare) met.names

pub no_folder_falls : C.steady (play 7 bare (before ++ passing)).folders (play 7 bare (before ++ passing)).fallen ≡ true
no_folder_falls = rw (play-append 7 before passing bare) met.firm

-- refused calls among accepted ones
pub answers : numbers (outcomes 7 bare (before ++ passing)) ≡ expected
answers = same_eq (numbers (outcomes 7 bare (before ++ passing))) expected (rw (outcomes_is 7 (before ++ passing) bare (inv_bare 7)) at both.1)

-- three records are folded at unit 2
pub base_vector_lem : Q.base_vector ((play 7 bare (before ++ passing)).bases 2) ≡ vector 2 1 0
base_vector_lem = rw (play-append 7 before passing bare) met.base_2

-- 0.2 stands aside at unit 2, which has folded it
pub conflict : P.stands_aside (R.identity 0 2) (P.replay (M.held (play 7 bare (before ++ passing)) 2)).asides ≡ true
conflict = rw (play-append 7 before passing bare) met.conflict

-- so by the claim unit 2 covers unit 0, units 0 and 3 have the same log, and units 2 and 4 show the same though their bases differ
pub covers_it : C.Covered 7 0 2 (play 7 bare before) passing
covers_it = ((demand 7 before passing).claim no_number_twice).covered lists_name_all no_folder_falls 0 2 (omega arith) premises

pub same_log : (play 7 bare (before ++ passing)).logs 0 ≡ (play 7 bare (before ++ passing)).logs 3
same_log =
    (((demand 7 before passing).claim no_number_twice).converged 0 3).bytes (rw (play-append 7 before passing bare) met.vectors_0_3) (rw (play-append 7 before passing bare) met.bases_0_3)

pub same_tree : (lent : List ℕ) → (O.show_of ((play 7 bare (before ++ passing)).logs 2) ((play 7 bare (before ++ passing)).bases 2) lent).lent
    ≡ (O.show_of ((play 7 bare (before ++ passing)).logs 4) ((play 7 bare (before ++ passing)).bases 4) lent).lent
same_tree lent = ((((demand 7 before passing).claim no_number_twice).converged 2 4).shown (rw (play-append 7 before passing bare) met.vectors_2_4) lent).1

-- ---- unit 1, whose last record unit 2 lacks, and unit 2, which has folded three, may meet then, carefully too

met_end : Met (play 7 bare before) → Inv 7 (play 7 (play 7 bare before) passing) → Told (play 7 (play 7 bare before) passing)
    → Meets 7 1 2 (store_at (play 7 (play 7 bare before) passing) 1) (store_at (play 7 (play 7 bare before) passing) 2)
    × Passes 7 1 2 (store_at (play 7 (play 7 bare before) passing) 1) (store_at (play 7 (play 7 bare before) passing) 2)
met_end m i told =
    let t : Bench = play 7 (play 7 bare before) passing in
    let agree = distinct_agree t.used m.once in
    let both : Agree (held_by (store_at t 1)) (held_by (store_at t 2)) = λ x y p q. agree x y ((i.stored.kept 1).from x p) ((i.stored.kept 2).from y q) in
    let ways = may_meet 7 t i told agree m.names m.firm 1 2 m.above in (
      every_meeting 7 1 2 (store_at t 1) (store_at t 2) (omega arith) (omega arith) (whole-at 7 t i 1) (whole-at 7 t i 2) both ways m.fit,
      careful_passing 7 1 2 (store_at t 1) (store_at t 2) (omega arith) (omega arith) (whole-at 7 t i 1) (whole-at 7 t i 2) ways both m.fit,
    )

pub meets_a_folder : Meets 7 1 2 (store_at (play 7 (play 7 bare before) passing) 1) (store_at (play 7 (play 7 bare before) passing) 2)
    × Passes 7 1 2 (store_at (play 7 (play 7 bare before) passing) 1) (store_at (play 7 (play 7 bare before) passing) 2)
meets_a_folder =
    let i = inv_play 7 before bare (inv_bare 7) in
    met_end met (inv_play 7 passing (play 7 bare before) i) (told-play 7 passing (play 7 bare before) i (told-play 7 before bare (inv_bare 7) told-bare))

pub lacks_one : length (N.lacked_by (store_at (play 7 (play 7 bare before) passing) 1) (store_at (play 7 (play 7 bare before) passing) 2)) ≡ 1
lacks_one = met.one
