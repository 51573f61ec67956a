-- Stores whose vectors are equal hold the same records and show the same tree; with equal base vectors their logs are the same.
-- Assumes nothing.
use Prim.Native.Nat.{ℕ, ◌<◌}
use mathlib.Core.Path.{◌≡◌, sym, ap, ◌∙◌}
use mathlib.Core.List.{List, []}
use lib.ListN.{get_or, length, drop}
use lib.Seq.{drop-append_seam}
use Rattle.model.specs.Record.{Rec}
use Rattle.model.specs.Log.{sum_to, count, count_on}
use Rattle.model.specs.Replay.{replay_from, replay}
use Rattle.model.specs.Table.{table_bytes}
use Rattle.log_laws.specs.Members.{Agree}
use Rattle.log_laws.proofs.Sums.{sum_to-eq}
use Rattle.log_laws.proofs.Counts.{length-counts, unit_of_lem, sound_front}
use Rattle.log_laws.proofs.Same.{same}
use Rattle.fold_laws.specs.Worlds.{Store, held_of, Kept}
use Rattle.fold_laws.proofs.Stores.{kept-counts, kept_shown}

-- two stores whose records were used, no number twice by its unit
module _ (used : List Rec) (s t : Store) (g : Agree used used) (k : Kept used s) (n : Kept used t)
    (e : (x : ℕ) → x < 8 → count_on s.base.vector x s.log ≡ count_on t.base.vector x t.log) where
  pub same_held : held_of s ≡ held_of t
  same_held =
      same (held_of s) (held_of t) k.sound n.sound (λ r q x y u z. g r q (k.from r x) (n.from q y) u z)
      (λ x c. sym (kept-counts used s k x c) ∙ e x c ∙ kept-counts used t n x c)

  pub same_shown : table_bytes (replay_from s.base.tree s.log) ≡ table_bytes (replay_from t.base.tree t.log)
  same_shown = kept_shown used s k ∙ ap (λ (l : List Rec). table_bytes (replay l)) same_held ∙ sym (kept_shown used t n)

  pub same_log : ((x : ℕ) → x < 8 → get_or s.base.vector x 0 ≡ get_or t.base.vector x 0) → s.log ≡ t.log
  same_log f =
      let long : (y : Store) → Kept used y → sum_to 8 (λ x. count x y.folded) ≡ length y.folded = λ y q.
      length-counts y.folded (λ r j. unit_of_lem [] y.folded r (sound_front [] y.folded y.log q.sound) j) in
      let m : length s.folded ≡ length t.folded =
      sym (long s k) ∙ sum_to-eq 8 (λ x. count x s.folded) (λ x. count x t.folded) (λ x c. sym (k.counts x c) ∙ f x c ∙ n.counts x c) ∙ long t n in
      sym (drop-append_seam s.folded s.log) ∙ ap (drop (length s.folded)) same_held ∙ ap (λ (x : ℕ). drop x (held_of t)) m ∙ drop-append_seam t.folded t.log
