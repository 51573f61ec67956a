-- The list given, and what folding returns and leaves, over plain values.
-- Assumes nothing.
use Prim.Native.Nat.{ℕ, ◌≤◌, ◌<◌}
use mathlib.Core.Path.{◌≡◌, refl, ◌∙◌}
use mathlib.Core.Bool.{false}
use mathlib.Core.List.{List}
use lib.Dec.{eqb}
use lib.ListN.{get_or, length}
use borrow.Author.Tests.{le-leb, lt-leb}
use Rattle.base_model.specs.Base.{bits, is_listed}
use Rattle.call_model.specs.Outcome.{outcome, refusal, guarded}
use Rattle.call_model.specs.Fold.{list_fits, fold_by, fold_of, fold_work}
use Rattle.log_laws.proofs.Counts.{no_counts_lem}
use Rattle.sab_words.specs.Words.{packed, narrowed}
use Rattle.sab_words.specs.Called.{called_both, told_work}
use Rattle.sab_words.proofs.Told.{tells_work}
use Rattle.sab_words.proofs.Units.{fold_alike, fold_work_alike}
use Rattle.std.proofs.Common.{Result, Ok, Err}
use Rattle.refusal.specs.declared.Refusal.{Refusal}
use Rattle.fold.specs.Records.{records_folded}
use Rattle.sab_words.specs.Answers.{count_of}
use Rattle.sab_fold.specs.Given.{list_given}

-- ---- the list

pub above : (m : ℕ) → 255 < m → 0 ≡ list_given m
unfolding list_given
above m h = rw (lt-leb m 255 h)

pub within : (m : ℕ) → m ≤ 255 → m ≡ list_given m
unfolding list_given
within m h = rw (le-leb m 255 h)

none-listed : (u : ℕ) → is_listed 0 u ≡ false
unfolding is_listed bits
none-listed u = let q : get_or (bits 8 0) u 0 ≡ 0 = no_counts_lem u in rw q

-- a list above 255 is refused with 26, behind 1, 21 and 19 [F139]
pub wide_list_refused : (u : ℕ) {m : ℕ} (log base work : List ℕ) → 255 < m → fold_of u log base (list_given m) work ≡ guarded u log base base (eqb (length work) 86020) (refusal 26 log base)
unfolding fold_of fold_by list_fits
wide_list_refused u {m} log base work h = rw (← above m h, none-listed u)

-- ---- the call

pub folds : (u m : ℕ) {v l r n k : ℕ} (log base work : List ℕ) {log' base' work' : List ℕ} → v ≡ narrowed u → l ≡ list_given m → outcome n 0 log' base' k ≡ fold_of v log base l work → work' ≡ fold_work v log base l work → r ≡ packed n 0 k
    → called_both r log' base' work' ≡ told_work (fold_of u log base (list_given m) work) (fold_work u log base (list_given m) work)
folds u m log base work given i e h w =
    tells_work (e ∙ rw (given, i) (fold_alike u log base (list_given m) work)) (h ∙ rw (given, i) (fold_work_alike u log base (list_given m) work)) w

-- what an answer counts is what was folded
pub counts_folded : (answer : Result ℕ Refusal) → count_of answer ≡ records_folded answer
counts_folded (Ok records) = refl
counts_folded (Err refusal) = refl
