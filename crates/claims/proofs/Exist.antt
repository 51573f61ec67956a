-- Every call has a run: arguments, result and exit that its contract allows.
-- Assumes nothing.
use Prim.Native.Nat.{ℕ}
use mathlib.Core.Path.{◌≡◌, refl, sym, ap, subst, ◌∙◌}
use mathlib.Core.Bool.{Bool, true, false}
use mathlib.Core.Logic.{inl, inr, ⊎_elim}
use mathlib.Core.List.{List, []}
use lib.ListN.{replicate}
use denote.Ref.{Bor, MutBor}
use Rattle.model.specs.Log.{records_of}
use Rattle.base_model.specs.Base.{base_vector, tree_of}
use Rattle.call_model.specs.Outcome.{Outcome, outcome, start_of, stamped, act_of, hand_of, write_of, take_of, show_of}
use Rattle.call_model.specs.Fold.{fold_of, fold_work}
use Rattle.index_model.specs.Index.{index_size}
use Rattle.index_model.specs.Acting.{change_in}
use Rattle.index_model.specs.Kept.{index_of_log, index_fits, both_fit, Kept, kept, kept_of, start_kept, act_kept, act_kept_work, take_kept, take_kept_work, RowKept, row_kept, take_row_kept, take_row_kept_work}
use Rattle.byte_slice.proofs.Numbers.{bool_cases}
use Rattle.refusal.specs.Refusals.{code_of}
use Rattle.write_file.specs.Told.{blocks_of}
use Rattle.fold.specs.Records.{records_folded}
use Rattle.take_row.specs.Answer.{taken_of, stopped_of}
use Rattle.claims.proofs.Table.{Told, start_told, act_told, take_told, hand_told, write_told, fold_told, show_told, answer, answer_code, counted, counted_code, counted_blocks, counted_records, RowTold, row_told, row_answer, row_code, row_taken_of, row_stopped_of, KeptTold, kept_told}
use Rattle.claims.specs.Ran.{RanStart, RanAct, RanHandOut, RanWriteFile, RanTake, RanTakeRow, RanFold, RanShow}
use Rattle.claims.proofs.Outcomes.{uncounted, changing, changing_uncounted, reading, writing, folding, start_made, act_made, take_made, hand_made, write_made, fold_made, show_made}

-- ---- the runs

-- a slice with these bytes
abbrev slice : List ℕ → Bor (List ℕ)
slice b = record { ref_ptr = (0, 0); now = b }

-- one that is lent for writing
abbrev lent_slice : List ℕ → MutBor (List ℕ)
lent_slice b = record { ref_ptr = (0, 0); ghost_name = 0; now = b }

-- what a call that carries an index answers, as an outcome: of a start with the base, of the others with nothing lent
abbrev pub answered : Kept → Outcome
answered o = outcome o.number o.place o.log o.lent 0

-- the outcome of a call that carries an index of one of the two lengths
kept_gives : (fit : Bool) (log lent i : List ℕ) (o : Outcome) (j : List ℕ) → fit ≡ true → uncounted o ≡ o → o ≡ answered (kept_of fit log lent i o j)
unfolding kept_of
kept_gives fit log lent i o j f c = rw f (sym c)

-- one that is lent nothing else for writing leaves nothing else
nothing_lent : (fit : Bool) (log i : List ℕ) (o : Outcome) (j : List ℕ) → changing o ≡ o → (kept_of fit log [] i o j).lent ≡ []
unfolding kept_of
nothing_lent true log i o j c = sym (ap (λ (x : Outcome). x.lent) c)
nothing_lent false log i o j c = refl

nothing_kept : (k : Kept) → k.lent ≡ [] → kept k.number k.place k.log k.index [] ≡ k
nothing_kept k e = λ i. kept k.number k.place k.log k.index (sym e i)

-- the same answer, once by the code's own type
kept_same : (log index lent : List ℕ) {a b c d : ℕ} → a ≡ b → c ≡ d → kept a c log index lent ≡ kept b d log index lent
kept_same log index lent e f = λ i. kept (e i) (f i) log index lent

outcome_same : (log lent : List ℕ) {a b c d k l : ℕ} → a ≡ b → c ≡ d → k ≡ l → outcome a c log lent k ≡ outcome b d log lent l
outcome_same log lent e f g = λ i. outcome (e i) (f i) log lent (g i)

row_same : (log index : List ℕ) {a b c d k l s t : ℕ} → a ≡ b → c ≡ d → k ≡ l → s ≡ t → row_kept a c k s log index ≡ row_kept b d l t log index
row_same log index e f g h = λ i. row_kept (e i) (f i) (g i) (h i) log index

start_kept_told : (u : ℕ) (log base i : List ℕ) → KeptTold (start_kept u log base i)
unfolding start_kept
start_kept_told u log base i = kept_told (index_fits i) log base i (start_of u log base) (replicate index_size 0) (start_told u log base)

act_kept_told : (u : ℕ) (log base i w work : List ℕ) → KeptTold (act_kept u log base i w work)
unfolding act_kept
act_kept_told u log base i w work = kept_told (index_fits i) log [] i (act_of u log base w work) _ (act_told u log base w work)

take_kept_told : (archive u : ℕ) (log base i b work : List ℕ) → KeptTold (take_kept archive u log base i b work)
unfolding take_kept
take_kept_told archive u log base i b work = kept_told (both_fit i work) log [] i (take_of archive u log base b) _ (take_told archive u log base b)

pub start_ran : (u : ℕ) (log base i : List ℕ) → RanStart u log base i (answered (start_kept u log base i)) (start_kept u log base i).index
start_ran u log base i =
    let o : Kept = start_kept u log base i in
    let h : KeptTold o = start_kept_told u log base i in
    record {
      κs = ([], ([], ([], tt)));
      args = (lent_slice log, (lent_slice base, (lent_slice i, (0, (u, tt)))));
      result = answer o.number;
      exit = (lent_slice o.log, (lent_slice o.lent, (lent_slice o.index, (0, (u, tt)))));
      learnt = kept_same o.log o.index o.lent (answer_code o.number h.number) (sym h.place);
      given = (refl, refl, refl, refl);
      gave = outcome_same o.log o.lent (sym (answer_code o.number h.number)) h.place refl;
      kept = refl;
    }

pub start_runs : (u : ℕ) (log base i : List ℕ) → index_fits i ≡ true → RanStart u log base i (start_of u log base) (start_kept u log base i).index
unfolding start_kept
start_runs u log base i f =
    subst (λ (o : Outcome). RanStart u log base i o (start_kept u log base i).index)
    (sym (kept_gives (index_fits i) log base i (start_of u log base) (replicate index_size 0) f (start_made u log base))) (start_ran u log base i)

module _ (u : ℕ) (log base i w work : List ℕ) where
  abbrev acted : Kept
  acted = act_kept u log base i w work

  acted-none : acted.lent ≡ []
  unfolding act_kept
  acted-none =
      nothing_lent (index_fits i) log i (act_of u log base w work) (change_in (stamped u (base_vector base) (records_of log) w) (tree_of log base) i) (act_made u log base w work)

  pub act_ran : RanAct u log base i w work (answered acted) acted.index (act_kept_work u log base i w work)
  act_ran =
      let x : List ℕ = act_kept_work u log base i w work in
      let h : KeptTold acted = act_kept_told u log base i w work in
      record {
        κs = ([], ([], ([], ([], ([], tt)))));
        args = (lent_slice log, (slice base, (lent_slice i, (0, (u, (slice w, (lent_slice work, tt)))))));
        result = answer acted.number;
        exit = (lent_slice acted.log, (slice base, (lent_slice acted.index, (0, (u, (slice w, (lent_slice x, tt)))))));
        learnt = (kept_same acted.log acted.index [] (answer_code acted.number h.number) (sym h.place) ∙ nothing_kept acted acted-none, refl);
        given = (refl, refl, refl, refl, refl, refl);
        gave = ap (λ (b : List ℕ). outcome acted.number acted.place acted.log b 0) acted-none ∙ outcome_same acted.log [] (sym (answer_code acted.number h.number)) h.place refl;
        kept = refl;
        worked = refl;
      }

  pub act_runs : index_fits i ≡ true → RanAct u log base i w work (act_of u log base w work) acted.index (act_kept_work u log base i w work)
  unfolding act_kept
  act_runs f =
      subst (λ (o : Outcome). RanAct u log base i w work o acted.index (act_kept_work u log base i w work))
      (sym
      (kept_gives (index_fits i) log [] i (act_of u log base w work) (change_in (stamped u (base_vector base) (records_of log) w) (tree_of log base) i) f
      (changing_uncounted (act_of u log base w work) (act_made u log base w work))))
      act_ran

pub hand_out_runs : (archive u : ℕ) (log base v lent : List ℕ) → RanHandOut archive u log base v lent (hand_of archive u log base v lent)
hand_out_runs archive u log base v lent =
    let o : Outcome = hand_of archive u log base v lent in
    let h : Told o = hand_told archive u log base v lent in
    let e : outcome (code_of (answer o.number)) 0 log o.lent 0 ≡ o = outcome_same log o.lent (answer_code o.number h.number) (sym h.place) refl ∙ hand_made archive u log base v lent in
    record {
      κs = ([], ([], ([], tt)));
      args = (slice log, (slice base, (archive, (u, (record { counts = v }, (lent_slice lent, tt))))));
      result = answer o.number;
      exit = (slice log, (slice base, (archive, (u, (record { counts = v }, (lent_slice o.lent, tt))))));
      learnt = e;
      given = (refl, refl, refl, refl, refl, refl);
      gave = sym e;
    }

pub write_file_runs : (archive u : ℕ) (log base lent : List ℕ) → RanWriteFile archive u log base lent (write_of archive u log base lent)
write_file_runs archive u log base lent =
    let o : Outcome = write_of archive u log base lent in
    let h : Told o = write_told archive u log base lent in
    let e : outcome (code_of (counted o.number o.blocks)) 0 log o.lent (blocks_of (counted o.number o.blocks)) ≡ o =
    outcome_same log o.lent (counted_code o.number o.blocks h.number) (sym h.place) (counted_blocks o.number o.blocks h.count) ∙ write_made archive u log base lent in
    record {
      κs = ([], ([], ([], tt)));
      args = (slice log, (slice base, (archive, (u, (lent_slice lent, tt)))));
      result = counted o.number o.blocks;
      exit = (slice log, (slice base, (archive, (u, (lent_slice o.lent, tt)))));
      learnt = e;
      given = (refl, refl, refl, refl, refl);
      gave = sym e;
    }

module _ (archive u : ℕ) (log base i b work : List ℕ) where
  abbrev took : Kept
  took = take_kept archive u log base i b work

  took_none : took.lent ≡ []
  unfolding take_kept
  took_none =
      nothing_lent (both_fit i work) log i (take_of archive u log base b) (index_of_log (take_of archive u log base b).log base) (take_made archive u log base b)

  pub take_ran : RanTake archive u log base i b work (answered took) took.index (take_kept_work archive u log base i b work)
  take_ran =
      let x : List ℕ = take_kept_work archive u log base i b work in
      let h : KeptTold took = take_kept_told archive u log base i b work in
      record {
        κs = ([], ([], ([], ([], ([], tt)))));
        args = (lent_slice log, (slice base, (lent_slice i, (lent_slice work, (archive, (u, (slice b, tt)))))));
        result = answer took.number;
        exit = (lent_slice took.log, (slice base, (lent_slice took.index, (lent_slice x, (archive, (u, (slice b, tt)))))));
        learnt = (kept_same took.log took.index [] (answer_code took.number h.number) (sym h.place) ∙ nothing_kept took took_none, refl);
        given = (refl, refl, refl, refl, refl, refl, refl);
        gave = ap (λ (y : List ℕ). outcome took.number took.place took.log y 0) took_none ∙ outcome_same took.log [] (sym (answer_code took.number h.number)) h.place refl;
        kept = refl;
        worked = refl;
      }

  pub take_runs : both_fit i work ≡ true → RanTake archive u log base i b work (take_of archive u log base b) took.index (take_kept_work archive u log base i b work)
  unfolding take_kept
  take_runs f =
      subst (λ (o : Outcome). RanTake archive u log base i b work o took.index (take_kept_work archive u log base i b work))
      (sym
      (kept_gives (both_fit i work) log [] i (take_of archive u log base b) (index_of_log (take_of archive u log base b).log base) f
      (changing_uncounted (take_of archive u log base b) (take_made archive u log base b))))
      take_ran

pub take_row_runs : (archive u : ℕ) (log base i row work : List ℕ)
    → RanTakeRow archive u log base i row work (take_row_kept archive u log base i row work) (take_row_kept_work archive u log base i row work)
take_row_runs archive u log base i row work =
    let o : RowKept = take_row_kept archive u log base i row work in
    let x : List ℕ = take_row_kept_work archive u log base i row work in
    let h : RowTold o = row_told archive u log base i row work in
    let e : row_kept (code_of (row_answer o.number o.taken o.stopped)) 0 (taken_of (row_answer o.number o.taken o.stopped)) (stopped_of (row_answer o.number o.taken o.stopped)) o.log o.index ≡ o =
    row_same o.log o.index (row_code o.number o.taken o.stopped h.number) (sym h.place) (row_taken_of o.number o.taken o.stopped h.none) (row_stopped_of o.number o.taken o.stopped h.stop h.none) in
    record {
      κs = ([], ([], ([], ([], ([], tt)))));
      args = (lent_slice log, (slice base, (lent_slice i, (lent_slice work, (archive, (u, (slice row, tt)))))));
      result = row_answer o.number o.taken o.stopped;
      exit = (lent_slice o.log, (slice base, (lent_slice o.index, (lent_slice x, (archive, (u, (slice row, tt)))))));
      learnt = (e, refl);
      given = (refl, refl, refl, refl, refl, refl, refl);
      gave = sym e;
      worked = refl;
    }

pub fold_runs : (u : ℕ) (log base : List ℕ) (m : ℕ) (work : List ℕ) → RanFold u log base m work (fold_of u log base m work) (fold_work u log base m work)
fold_runs u log base m work =
    let o : Outcome = fold_of u log base m work in
    let h : Told o = fold_told u log base m work in
    let e : outcome (code_of (counted o.number o.blocks)) 0 o.log o.lent (records_folded (counted o.number o.blocks)) ≡ o =
    outcome_same o.log o.lent (counted_code o.number o.blocks h.number) refl (counted_records o.number o.blocks h.count) ∙ fold_made u log base m work in
    record {
      κs = ([], ([], ([], tt)));
      args = (lent_slice log, (lent_slice base, (0, (u, (m, (lent_slice work, tt))))));
      result = counted o.number o.blocks;
      exit = (lent_slice o.log, (lent_slice o.lent, (0, (u, (m, (lent_slice (fold_work u log base m work), tt))))));
      learnt = (e, refl);
      given = (refl, refl, refl, refl, refl);
      gave = sym e;
      worked = refl;
    }

pub show_runs : (log base lent : List ℕ) → RanShow log base lent (show_of log base lent)
show_runs log base lent =
    let o : Outcome = show_of log base lent in
    let h : Told o = show_told log base lent in
    let e : outcome (code_of (answer o.number)) 0 log o.lent 0 ≡ o = outcome_same log o.lent (answer_code o.number h.number) (sym h.place) refl ∙ show_made log base lent in
    record {
      κs = ([], ([], ([], tt)));
      args = (slice log, (slice base, (lent_slice lent, tt)));
      result = answer o.number;
      exit = (slice log, (slice base, (lent_slice o.lent, tt)));
      learnt = e;
      given = (refl, refl, refl);
      gave = sym e;
    }
