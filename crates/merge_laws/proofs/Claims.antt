-- K1 of the records: either way round the union is the same, with itself a log is itself, and 11 is answered exactly if it has no room.
-- Assumes nothing.
use Prim.Native.Nat.{◌≤◌}
use native.Mathlib.Omega.{arith}
use mathlib.Core.Path.{◌≡◌, sym}
use mathlib.Core.Logic.{inl, inr, ⊎_elim, ◌↔◌}
use mathlib.Core.List.{List, []}
use lib.ListN.{length}
use Rattle.model.specs.Record.{Rec}
use Rattle.model.specs.Log.{vector_of}
use Rattle.model.specs.File.{fault}
use Rattle.model.specs.Merge.{union, room_fault}
use Rattle.log_laws.specs.Members.{Agree}
use Rattle.log_laws.specs.Sound.{Sound}
use Rattle.log_laws.proofs.Claims.{order_fixed}
use Rattle.log_laws.proofs.Same.{unique}
use Rattle.log_laws.proofs.Tests.{means_sound}
use Rattle.merge_laws.specs.Both.{Both}
use Rattle.merge_laws.proofs.Union.{union_both}
use Rattle.merge_laws.proofs.Counts.{union-longer}
use Rattle.merge_laws.proofs.Faults.{room_left, left_room}

pub agree_exchanged : (a b : List Rec) → Agree a b → Agree b a
agree_exchanged a b g r s i j u n = sym (g s r j i (sym u) (sym n))

same_records_lem : (a b u v : List Rec) → Both a b u → Both a b v → u ≡ v
same_records_lem a b u v x y =
    order_fixed u v (means_sound u x.sound) (means_sound v y.sound)
    (λ r. (
      λ i. ⊎_elim (λ j. y.first r j) (λ j. y.second r j) (x.from r i),
      λ i. ⊎_elim (λ j. x.first r j) (λ j. x.second r j) (y.from r i),
    ))

-- whichever is the first, the records of both are the same
pub union_exchanged : (a b : List Rec) → Sound a → Sound b → Agree a b → union a b ≡ union b a
union_exchanged a b sa sb g =
    let w = union_both b a sb sa (agree_exchanged a b g) in
    same_records_lem a b (union a b) (union b a) (union_both a b sa sb g)
    (record { sound = w.sound; first = w.second; second = w.first; from = λ r i. ⊎_elim (λ j. inr j) (λ j. inl j) (w.from r i) })

-- with itself a log is itself
pub union_itself : (a : List Rec) → Sound a → union a a ≡ a
union_itself a sa =
    same_records_lem a a (union a a) a (union_both a a sa sa (unique [] a sa))
    (record { sound = sa; first = λ r i. i; second = λ r i. i; from = λ r i. inl i })

-- 11 is answered exactly if the union has more than 512 records
pub full_exactly : (a b : List Rec) → length a ≤ 512 → ((room_fault (vector_of a) (length a) 0 b).number ≡ 0) ↔ (length (union a b) ≤ 512)
unfolding fault
full_exactly a b k = (
  λ z. omega (arith, room_left (vector_of a) (length a) 0 b k z, union-longer a b),
  λ z. rw (left_room (vector_of a) (length a) 0 b (omega (arith, union-longer a b))),
)
