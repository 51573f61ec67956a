-- A state stands that was made of the head of its base.
-- Assumes nothing.
use Prim.Native.Nat.{ℕ}
use mathlib.Core.Path.{◌≡◌}
use mathlib.Core.Bool.{true}
use mathlib.Core.List.{List}
use lib.ListN.{length}
use Rattle.model.specs.Log.{records_of}
use Rattle.base_model.specs.Base.{held_on, sound_state}
use Rattle.base_head.specs.Head.{headed, head_of}
use Rattle.base_head.proofs.Listed.{head_entries, head_asides}
use Rattle.state_check.specs.declared.State.{State}
use Rattle.state_check.specs.Stands.{Stands}

pub head-stands : (log base : List ℕ) (s : State) → headed s.head.list s.head.folded.counts s.head.entries s.head.asides ≡ head_of base
    → length log ≡ 40960 → length base ≡ 43032 → sound_state log base ≡ true → s.used ≡ length (records_of log) → s.held.counts ≡ held_on log base
    → Stands log base s
head-stands log base s e long based sound used held =
    record {
      known = record {
        long = long;
        based = based;
        sound = sound;
        held_is = held;
        entries_are = head_entries base e;
        asides_are = head_asides base e;
      };
      used_is = used;
    }
