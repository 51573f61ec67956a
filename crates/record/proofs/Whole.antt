-- What `well_formed` is asked at each way out, over plain values.
-- Assumes nothing.
use mathlib.Core.Path.{◌≡◌}
use mathlib.Core.Bool.{Bool, true, false}
use lib.Dec.{eqb}
use lib.ListN.{length}
use borrow.Author.Tests.{eq-eqb, ne_eqb}
use Rattle.model.specs.Record.{Rec, head_fits, object_fits, folder_fits, date_fits, label_fits, mark_fits, well_formed}

pub other_length : (r : Rec) → (length r ≡ 80 → ⊥) → eqb (length r) 80 ≡ well_formed r
unfolding well_formed
other_length r n = rw (ne_eqb (length r) 80 n)

module _ (r : Rec) {h : Bool} (n : length r ≡ 80) (eh : h ≡ head_fits r) where
  pub bad_head : h ≡ false → h ≡ well_formed r
  unfolding well_formed
  bad_head f = rw (eq-eqb (length r) 80 n, ← eh, f)

  module _ {o : Bool} (gh : h ≡ true) (eo : o ≡ object_fits r) where
    pub bad_object : o ≡ false → o ≡ well_formed r
    unfolding well_formed
    bad_object f = rw (eq-eqb (length r) 80 n, ← eh, gh, ← eo, f)

    module _ {p : Bool} (go : o ≡ true) (ep : p ≡ folder_fits r) where
      pub bad_folder : p ≡ false → p ≡ well_formed r
      unfolding well_formed
      bad_folder f = rw (eq-eqb (length r) 80 n, ← eh, gh, ← eo, go, ← ep, f)

      module _ {d : Bool} (gp : p ≡ true) (ed : d ≡ date_fits r) where
        pub bad_date : d ≡ false → d ≡ well_formed r
        unfolding well_formed
        bad_date f = rw (eq-eqb (length r) 80 n, ← eh, gh, ← eo, go, ← ep, gp, ← ed, f)

        module _ {l : Bool} (gd : d ≡ true) (el : l ≡ label_fits r) where
          pub bad_label : l ≡ false → l ≡ well_formed r
          unfolding well_formed
          bad_label f = rw (eq-eqb (length r) 80 n, ← eh, gh, ← eo, go, ← ep, gp, ← ed, gd, ← el, f)

          pub mark_last : {m : Bool} → l ≡ true → m ≡ mark_fits r → m ≡ well_formed r
          unfolding well_formed
          mark_last gl em = rw (eq-eqb (length r) 80 n, ← eh, gh, ← eo, go, ← ep, gp, ← ed, gd, ← el, gl, em)
