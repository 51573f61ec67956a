-- A label comes before another, byte by byte, A to Z as a to z; one that is a front of the other comes first.
use Rattle.std.proofs.Common.{◌≡◌, ◌+◌, length}
use Rattle.std.specs.Iterator.Adapters.{zip_first, zip_second}
use Rattle.std.specs.Slice.Iter.{iter_rest}
use Rattle.model.specs.Replay.{label_key}
use Rattle.index_model.specs.Index.{comes_before}
use Rattle.index_find.proofs.comes_before.Given as goal

abbrev pub invariant-loop-x : goal.invariant-loop-x
invariant-loop-x l =
    (length l.a + length (iter_rest (zip_second l.x-iterator)) ≡ length l.b + length (iter_rest (zip_first l.x-iterator)))
    × (comes_before (label_key (iter_rest (zip_first l.x-iterator))) (label_key (iter_rest (zip_second l.x-iterator))) ≡ comes_before (label_key l.a) (label_key l.b))
