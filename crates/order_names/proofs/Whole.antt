-- The first condition of a whole list.
-- Assumes nothing.
use Prim.Native.Nat.{ℕ, zero, suc, ◌≤◌}
use native.Mathlib.Omega.{arith}
use mathlib.Core.Path.{◌≡◌, refl, sym, ap, ◌∙◌, subst}
use mathlib.Core.Bool.{Bool, true, false, ◌&&◌}
use mathlib.Core.List.{List}
use lib.Dec.{eqb}
use lib.ListN.{get_or, length, replicate, length-replicate}
use borrow.Author.Tests.{eq-eqb, ne_eqb}
use Rattle.model.specs.Log.{vector_of, records_of, sound_log}
use Rattle.byte_slice.proofs.Compare.{blank-zeros, blank_get_d}
use Rattle.log_laws.proofs.Tests.{vector_of_get_d}
use Rattle.encoding_laws.proofs.Logs.{sound_records, sound_few}
use Rattle.log_admit.proofs.Counts.{count_few}
use Rattle.order_model.specs.Order.{names_from, name_count, names_given, names_all}
use Rattle.order_laws.specs.Marking.{marks_all}
use Rattle.order_laws.proofs.Marks.{names_by_marks}
use Rattle.order_names.specs.Named.{Few}

pub names-length : (b : List ℕ) (i n : ℕ) → length (names_from b i n) ≡ n
unfolding names_from
names-length b i zero = refl
names-length b i (suc n) = ap suc (names-length b (suc i) n)

pub few_held : (log held : List ℕ) → held ≡ vector_of (records_of log) → Few held
few_held log held e =
    record { few = λ u b. subst (λ (v : List ℕ). get_or v u 0 ≤ 512) (sym e) (omega (arith, vector_of_get_d (records_of log) u b, count_few u (records_of log), sound_few log)) }

whole : (log list : List ℕ) → sound_log log ≡ true → names_all (names_given list) (records_of log) ≡ (eqb (length (names_given list)) (length (records_of log)) && marks_all (vector_of (records_of log)) (replicate 4096 0) (names_given list))
whole log list s =
    names_by_marks (records_of log) (sound_records log s) (sound_few log) (names_given list) (replicate 4096 0) (length-replicate {A = ℕ} 4096 0) (λ i. blank_get_d (replicate 4096 0) i (blank-zeros 4096))

pub names_differ : (log list : List ℕ) (n k : ℕ) → sound_log log ≡ true → n ≡ length (records_of log) → k ≡ name_count list → (k ≡ n → ⊥) → false ≡ names_all (names_given list) (records_of log)
unfolding names_given
names_differ log list n k s e f d =
    sym (whole log list s
    ∙ ap (λ (x : Bool). x && marks_all (vector_of (records_of log)) (replicate 4096 0) (names_from list 0 (name_count list)))
    (ne_eqb (length (names_from list 0 (name_count list))) (length (records_of log)) (λ q. d (omega (arith, names-length list 0 (name_count list))))))

pub names_same : (log list held : List ℕ) (n k : ℕ) (r : Bool) → sound_log log ≡ true → n ≡ length (records_of log) → k ≡ name_count list → k ≡ n → held ≡ vector_of (records_of log) → r ≡ marks_all held (replicate 4096 0) (names_from list 0 n) → r ≡ names_all (names_given list) (records_of log)
unfolding names_given
names_same log list held n k r s e f q v m =
    let w : n ≡ name_count list = omega arith in
    m
    ∙ ap (λ (x : List ℕ). marks_all x (replicate 4096 0) (names_from list 0 n)) v
    ∙ ap (λ (x : ℕ). marks_all (vector_of (records_of log)) (replicate 4096 0) (names_from list 0 x)) w
    ∙ sym (whole log list s
    ∙ ap (λ (x : Bool). x && marks_all (vector_of (records_of log)) (replicate 4096 0) (names_from list 0 (name_count list)))
    (eq-eqb (length (names_from list 0 (name_count list))) (length (records_of log)) (omega (arith, names-length list 0 (name_count list)))))
