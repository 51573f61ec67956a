-- Of the first n records the longest run that counts, and its table in the work memory, which may hold anything before.
use Rattle.std.proofs.Common.{◌≡◌, ◌≤◌, ◌∙◌, ℕ, length, refl, arith}
use Rattle.std.proofs.lemmas.List.{length-replicate}
use Rattle.model.specs.Log.{records_of}
use Rattle.tree_maps.specs.Keys.{register_size}
use Rattle.fold_tree.proofs.Tables.{zeroed, works_table, run_loads, run_lies, run_plays, run_holds, run_present, run_entries, run_asides, run_both, run_nodes, run-longest, run_works, run_replayed}
use Rattle.fold_tree.proofs.fold_tree.Goals as goal

pub load-requires : goal.load-requires
load-requires c =
    let k = c.requires.0 in
    let e = c.size-size.ensures.0 ∙ k.entries_are in
    let f = c.size-size.ensures.1 ∙ k.asides_are in
    (search (run_loads, e, f), zeroed _ _ _ c.requires.2 (c.fill.ensures.after (λ y g. g)), refl)

pub longest_run-run-requires : goal.longest_run-run-requires
longest_run-run-requires c =
    let w = c.load.ensures.0 in
    let s = c.small_counts.ensures in
    let k = c.requires.0 in
    let e = c.size-size.ensures.0 ∙ k.entries_are in
    let f = c.size-size.ensures.1 ∙ k.asides_are in
    (search, search (run_lies, e, f), search (run_plays _ _ _ _ _ w _ s, e, f), search (run_holds), run_present _ _ _ _ _ w _ s _ k.sound k.held_is k.based e f, search (run_entries, e, f), search (run_asides, e, f), search (run_both, e, f), search (run_nodes, e, f))

pub returns-then-records-n-clause-run : goal.returns-then-records-n-clause-run
returns-then-records-n-clause-run c =
    let k = c.requires.0 in
    let e = c.size-size.ensures.0 ∙ k.entries_are in
    let f = c.size-size.ensures.1 ∙ k.asides_are in
    (run-longest _ _ _ _ _ c.load.ensures.0 _ _ e f c.longest_run-run.ensures.best.0, c.longest_run-run.ensures.best.1)

pub returns-then-records-n-clause-laid : goal.returns-then-records-n-clause-laid
returns-then-records-n-clause-laid c =
    let k = c.requires.0 in
    let e = c.size-size.ensures.0 ∙ k.entries_are in
    let f = c.size-size.ensures.1 ∙ k.asides_are in
    let all : c.longest_run-run.result.best ≡ c.args.n = c.if-records-n.true in
    rw all (works_table _ _ _ _ _ (run_works _ _ _ _ _ c.load.ensures.0 _ _ _ _ _ e f c.longest_run-run.ensures.replayed))

pub load-requires-2 : goal.load-requires-2
load-requires-2 c =
    let k = c.requires.0 in
    let e = c.size-size.ensures.0 ∙ k.entries_are in
    let f = c.size-size.ensures.1 ∙ k.asides_are in
    let table : length c.longest_run-run.new.table ≡ 86020 = omega arith in
    let register : length c.longest_run-run.new.register ≡ register_size = omega (arith, length-replicate {A = ℕ} register_size 0) in (
      run_loads _ _ k.sound _ c.small_counts.ensures k.held_is k.based _ _ e f _ c.requires.1,
      zeroed _ _ _ table (c.fill-2.ensures.after (λ y g. g)),
      zeroed _ _ _ register (c.fill-3.ensures.after (λ y g. g)),
    )

pub replay-size-requires : goal.replay-size-requires
replay-size-requires c =
    let w = c.load-2.ensures.0 in
    let s = c.small_counts.ensures in
    let k = c.requires.0 in
    let e = c.size-size.ensures.0 ∙ k.entries_are in
    let f = c.size-size.ensures.1 ∙ k.asides_are in
    let few : c.longest_run-run.result.best ≤ length (records_of c.args.log.now) = omega (arith, c.longest_run-run.ensures.best.1) in
    (search (run_lies, e, f), search (run_plays _ _ _ _ _ w _ s, e, f), search (run_holds _ _ _ _ _ w), search (run_entries, e, f), search (run_asides, e, f), search (run_both, e, f), search (run_nodes, e, f))

pub returns-clause-run : goal.returns-clause-run
returns-clause-run c =
    let k = c.requires.0 in
    let e = c.size-size.ensures.0 ∙ k.entries_are in
    let f = c.size-size.ensures.1 ∙ k.asides_are in
    (run-longest _ _ _ _ _ c.load.ensures.0 _ _ e f c.longest_run-run.ensures.best.0, c.longest_run-run.ensures.best.1)

pub returns-clause-laid : goal.returns-clause-laid
returns-clause-laid c =
    let k = c.requires.0 in
    let e = c.size-size.ensures.0 ∙ k.entries_are in
    let f = c.size-size.ensures.1 ∙ k.asides_are in
    let few : c.longest_run-run.result.best ≤ length (records_of c.args.log.now) = omega (arith, c.longest_run-run.ensures.best.1) in
    works_table _ _ _ _ _ (run_replayed _ _ _ _ _ c.load-2.ensures.0 _ _ _ _ _ _ few e f c.replay-size.ensures.0)
