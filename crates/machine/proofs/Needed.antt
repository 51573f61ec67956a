-- Each of the two premises that folding adds is needed: two lists of calls that keep all others, in which a take of the passing is refused.
-- Assumes nothing.
use Prim.Native.Nat.{ℕ, zero, suc, ◌+◌}
use mathlib.Core.Path.{◌≡◌, refl}
use mathlib.Core.Bool.{Bool, true, false, not, ◌&&◌, ◌||◌, false≢true}
use mathlib.Core.List.{List, [], ◌∷◌, ◌++◌}
use lib.ListN.{length, get_or, replicate}
use lib.Dec.{leb}
use Rattle.model.specs.Bytes.{word, long, blank, same_bytes, part, padded, joined}
use Rattle.model.specs.Vector as W
use Rattle.model.specs.Date as D
use Rattle.model.specs.Record as R
use Rattle.model.specs.Log as L
use Rattle.model.specs.Replay as P
use Rattle.model.specs.Table as T
use Rattle.model.specs.Block as B
use Rattle.model.specs.File as F
use Rattle.base_model.specs.Base as Q
use Rattle.call_model.specs.Outcome as O
use Rattle.call_model.specs.Fold as G
use Rattle.machine.specs.Machine.{Call, starts, acts, hands_out, takes, folds, Bench, bare, play, outcomes}
use Rattle.machine.specs.Machine as M
use Rattle.machine.specs.Claim as C
use Rattle.byte_slice.proofs.Numbers.{and_true}
use Rattle.machine.proofs.Quick.{quick, quick_play, quick_outcomes, quick_passing, quick_flow, play_is, outcomes_is, passing_is, flow_is}
use Rattle.byte_slice.proofs.Compare.{same_eq}
use Rattle.machine.proofs.Reach.{Inv, inv_bare, inv_play}

-- a wish of 3 March 2025 to make a folder in the root, and what is lent
wish : ℕ → ℕ → List ℕ
wish u label = (u ∷ 1 ∷ []) ++ (replicate 26 0 ++ ((233 ∷ 7 ∷ 3 ∷ 3 ∷ []) ++ (label ∷ replicate 47 0)))

work : List ℕ
work = replicate 86020 0

block : List ℕ
block = replicate 512 0

nothing : List ℕ
nothing = replicate 8 0

makes : ℕ → ℕ → Call
makes u label = acts u (wish u label) work

-- Unit 2 takes 0.1 (block 0) and folds it by the list 0, 2; then unit 1, which the list leaves out, acts
pub unnamed_before : List Call
unnamed_before = makes 0 65 ∷ hands_out 0 nothing block ∷ takes 2 0 ∷ folds 2 5 work ∷ makes 1 66 ∷ []

-- and passes to unit 2
pub unnamed_passing : List Call
unnamed_passing = hands_out 1 nothing block ∷ takes 2 1 ∷ []

-- Unit 2 makes 2.1 and hands it out (block 0). Unit 3 makes 3.1 (block 1); unit 0 takes it, makes 0.1, hands it out (block 2) and takes 2.1.
-- Unit 2 starts again, takes 3.1 and 0.1, and by the list 0, 2, 3 folds 3.1, which 2.1 had not seen
pub fallen_before : List Call
fallen_before =
    makes 2 65
    ∷ hands_out 2 nothing block
    ∷ makes 3 66
    ∷ hands_out 3 nothing block
    ∷ takes 0 1
    ∷ makes 0 67
    ∷ hands_out 0 nothing block
    ∷ takes 0 0
    ∷ starts 2
    ∷ takes 2 2
    ∷ folds 2 13 work
    ∷ []

-- unit 0 passes 2.1 back to unit 2
pub fallen_passing : List Call
fallen_passing = hands_out 0 (1 ∷ 0 ∷ 0 ∷ 1 ∷ replicate 4 0) block ∷ takes 2 3 ∷ []

pub numbers : List O.Outcome → List ℕ
numbers [] = []
numbers (o ∷ os) = o.number ∷ numbers os

every : List Bool → Bool
every [] = true
every (b ∷ l) = b && every l

every_at : (l : List Bool) (n : ℕ) → every l ≡ true → get_or l n true ≡ true
unfolding every
every_at [] n e = refl
every_at (b ∷ l) zero e = (and_true b (every l) e).0
every_at (b ∷ l) (suc n) e = every_at l n (and_true b (every l) e).1

-- a passes to b = 2: the premises at the point and at the end, and the two of folding as they are
asked : ℕ → Bool → Bool → Bench → List R.Rec → Bench → List Bool
asked a x y s f t =
    C.holds_all f (C.lacked s a 2)
    ∷ C.rising (C.firsts (M.held s 2) f)
    ∷ leb (length (C.lacked s a 2) + length (L.records_of (s.logs 2))) 512
    ∷ C.distinct t.used
    ∷ (not x || C.named t.lists t.used)
    ∷ (not y || C.steady t.folders t.fallen)
    ∷ []

passed : ℕ → Bool → Bool → List Call → Bench → Bool
passed a x y cs s = quick_passing 7 a 2 (length s.given) s cs && every (asked a x y s (quick_flow 7 2 s cs) (quick_play 7 s cs))

pub expected : List ℕ → ℕ → List ℕ
expected l n = l ++ (n ∷ [])

computed :
    ((passed 1 false true unnamed_passing (quick_play 7 bare unnamed_before) && same_bytes (numbers (quick_outcomes 7 bare (unnamed_before ++ unnamed_passing))) (expected (replicate 6 0) 26)) ≡ true)
    × ((passed 0 true false fallen_passing (quick_play 7 bare fallen_before) && same_bytes (numbers (quick_outcomes 7 bare (fallen_before ++ fallen_passing))) (expected (replicate 12 0) 27)) ≡ true)
unfolding wish work block nothing makes asked passed expected unnamed_before unnamed_passing fallen_before fallen_passing every numbers quick quick_play quick_outcomes quick_passing quick_flow word long blank same_bytes part padded joined W.covers_to W.covers W.counts_at W.vector_at W.count_bytes W.vector_bytes D.is_leap D.days_of D.is_date R.identity R.unit R.op R.num R.seen R.seen_vector R.identity_at R.self_of R.object_of R.folder_of R.date_bytes R.label_of R.mark_of R.text_length R.printable R.is_label R.uses_object R.uses_folder R.uses_label R.uses_mark R.unused R.names R.object_fits R.folder_fits R.label_fits R.mark_fits R.date_fits R.head_fits R.well_formed R.has_stroke L.rank L.insert L.count L.counts_to L.counts_on_to L.vector_on L.vector_of L.by_id L.is_next L.is_within L.all_to L.nowhere_above L.is_closed L.rises L.record_fault L.sound_after L.records_in L.records_of L.sound_log_on L.sound_log L.log_bytes L.lacking P.empty_tree P.is_present P.lower P.label_key P.same_label P.entry_of P.is_in P.is_holder P.holder_of P.has_entries P.stands_aside P.unseen P.free_label P.and_then P.is_folder P.folder_stands P.judge_make P.judge_store P.judge_remove P.judge_rename P.comes_to P.is_below P.judge_place P.judge_move P.judge_settle P.judge P.new_entry P.stored P.renamed P.moved P.removed P.changed P.settled P.effect P.apply P.step P.replay_from P.replay P.present_ones P.reason_of P.trim T.identity_bytes T.entry_row T.aside_row T.entry_rows T.aside_rows T.flagged T.entry_in T.aside_in B.first_to B.second_to B.head_bytes B.body_bytes B.sealed B.block_of B.count_in B.archive_in B.sender_in B.place_in B.vector_in B.sums_hold B.header_holds B.block_fault B.given_fault B.record_at B.records_from B.block_records F.block_count F.header_of F.file_block F.file_to F.file_of F.block_at Q.bits Q.is_listed Q.lists_all Q.base_bytes Q.empty_base Q.base_entry Q.base_aside Q.base_entries Q.base_asides Q.base_vector Q.base_tree Q.base_in Q.sound_state Q.tree_of O.start_of O.guarded O.stamped O.wish_fits O.early_wish O.act_number O.acted O.act_of O.hand_block O.handed O.hand_of O.written O.write_of O.take_new O.take_held O.is_folded O.take_one O.takes_all O.took_all O.took_block O.take_of G.last_of G.heard_from G.heard_by G.heard_by_all G.heard_run G.counts_as_base G.longest G.run_of G.folded_base G.list_fits G.folded G.fold_by G.fold_of M.unit_of M.held M.held_vector M.block_given M.done M.if_accepted M.blocks_to M.gives M.uses M.base_left M.folded_left M.list_by M.folder_by M.put M.fallen_by M.after M.next M.play M.outcomes C.is_some C.holds C.distinct C.passes C.passing C.flow_of C.flow C.lacked C.holds_all C.firsts C.below C.rising C.zeros C.names_each C.named C.is_among C.steady
computed = (refl, refl)

-- ---- so it is of the machine itself

-- every premise of passing to unit 2 but those two holds, and the last call, a take of unit 2, answers n
pub record Refused (a : ℕ) (before cs : List Call) (l : List ℕ) (n : ℕ) (named steady : Bool) : Type 0 where
  pub premises : C.Passed 7 a 2 (play 7 bare before) cs
  pub once : C.distinct (play 7 (play 7 bare before) cs).used ≡ true
  pub names : named ≡ true → C.named (play 7 (play 7 bare before) cs).lists (play 7 (play 7 bare before) cs).used ≡ true
  pub firm : steady ≡ true → C.steady (play 7 (play 7 bare before) cs).folders (play 7 (play 7 bare before) cs).fallen ≡ true
  pub answers : numbers (outcomes 7 bare (before ++ cs)) ≡ expected l n

asked_for : (x y : Bool) → (not x || y) ≡ true → x ≡ true → y ≡ true
asked_for true y e p = e
asked_for false y e p = absurd (false≢true p)

refused_from : (a : ℕ) (before cs : List Call) (l : List ℕ) (n : ℕ) (x y : Bool)
    → (passed a x y cs (quick_play 7 bare before) && same_bytes (numbers (quick_outcomes 7 bare (before ++ cs))) (expected l n)) ≡ true → Refused a before cs l n x y
unfolding passed asked
refused_from a before cs l n x y e =
    let s : Bench = play 7 bare before in
    let i : Inv 7 s = inv_play 7 before bare (inv_bare 7) in
    let t : Bench = play 7 s cs in
    let f : List R.Rec = C.flow 7 2 s cs in
    let (p, q) = and_true (passed a x y cs (quick_play 7 bare before)) (same_bytes (numbers (quick_outcomes 7 bare (before ++ cs))) (expected l n)) e in
    let p₁ : passed a x y cs s ≡ true = rw (play_is 7 before bare (inv_bare 7)) at p in
    let p₂ : (C.passing 7 a 2 (length s.given) s cs && every (asked a x y s f t)) ≡ true = rw (passing_is 7 a 2 (length s.given) cs s i, flow_is 7 2 cs s i, play_is 7 cs s i) at p₁ in
    let (c, d) = and_true (C.passing 7 a 2 (length s.given) s cs) (every (asked a x y s f t)) p₂ in
    let is : (k : ℕ) → get_or (asked a x y s f t) k true ≡ true = λ k. every_at (asked a x y s f t) k d in
    record {
      premises = record { calls = c; all = is 0; order = is 1; union = is 2 };
      once = is 3;
      names = asked_for x (C.named t.lists t.used) (is 4);
      firm = asked_for y (C.steady t.folders t.fallen) (is 5);
      answers = same_eq (numbers (outcomes 7 bare (before ++ cs))) (expected l n) (rw (outcomes_is 7 (before ++ cs) bare (inv_bare 7)) at q);
    }

-- a list that leaves out a unit that acts: 26
pub named_needed : Refused 1 unnamed_before unnamed_passing (replicate 6 0) 26 false true
named_needed = refused_from 1 unnamed_before unnamed_passing (replicate 6 0) 26 false true computed.0

-- a unit that folds after its vector fell: 27
pub steady_needed : Refused 0 fallen_before fallen_passing (replicate 12 0) 27 true false
steady_needed = refused_from 0 fallen_before fallen_passing (replicate 12 0) 27 true false computed.1
