-- The labels of a base, entered one by one: until its turn an entry counts as if it were removed.
-- Assumes nothing.
use Prim.Native.Nat.{ℕ, zero, suc, ◌+◌, ◌≤◌, ◌<◌}
use native.Mathlib.Omega.{arith}
use mathlib.Core.Path.{◌≡◌, refl, sym, ap, ◌∙◌}
use mathlib.Core.Bool.{false}
use mathlib.Core.List.{List, [], ◌∷◌}
use lib.ListN.{get_or, length, set}
use Rattle.model.specs.Replay.{Entry, is_present, is_in, removed}
use Rattle.byte_slice.proofs.Numbers.{not_both}
use Rattle.hash_chains.specs.Chains.{nodes_in, first_of}
use Rattle.tree_maps.specs.Keys.{register_size, children_of, made_at, folder_at, OneEach, Keyed}
use Rattle.base_load.specs.Loading.{awaiting}

-- ---- entries that wait

pub await_long : (i : ℕ) (es : List Entry) → length (awaiting i es) ≡ length es
unfolding awaiting
await_long i [] = refl
await_long zero (e ∷ l) = ap suc (await_long zero l)
await_long (suc i) (e ∷ l) = ap suc (await_long i l)

await_made : (i : ℕ) (es : List Entry) (j : ℕ) → made_at (awaiting i es) j ≡ made_at es j
unfolding awaiting made_at removed
await_made i [] j = refl
await_made zero (e ∷ l) zero = refl
await_made zero (e ∷ l) (suc j) = await_made zero l j
await_made (suc i) (e ∷ l) zero = refl
await_made (suc i) (e ∷ l) (suc j) = await_made i l j

pub await_folder : (i : ℕ) (es : List Entry) (p : ℕ) → folder_at (awaiting i es) p ≡ folder_at es p
unfolding folder_at
await_folder i es zero = refl
await_folder i es (suc p) = await_made i es p

pub await_each : (i : ℕ) (es : List Entry) → OneEach es → OneEach (awaiting i es)
await_each i es h p q a b e =
    h p q (omega (arith, await_long i es)) (omega (arith, await_long i es)) (sym (await_folder i es p) ∙ e ∙ await_folder i es q)

-- the entry whose turn it is
pub await_here : (i : ℕ) (es : List Entry) (d : Entry) → i < length es → get_or (awaiting i es) i d ≡ removed (get_or es i d)
unfolding awaiting
await_here i [] d h = absurd (omega arith)
await_here zero (e ∷ l) d h = refl
await_here (suc i) (e ∷ l) d h = await_here i l d (omega arith)

await_set : (i : ℕ) (es : List Entry) (d : Entry) → i < length es → set (awaiting i es) i (get_or es i d) ≡ awaiting (suc i) es
unfolding awaiting
await_set i [] d h = absurd (omega arith)
await_set zero (e ∷ l) d h = refl
await_set (suc i) (e ∷ l) d h = ap (λ (x : List Entry). e ∷ x) (await_set i l d (omega arith))

pub await_next : (i : ℕ) (es : List Entry) (d : Entry) → i < length es → set (awaiting i es) i (get_or es i d) ≡ awaiting (i + 1) es
await_next i es d h = let z : i + 1 ≡ suc i = omega arith in rw z (await_set i es d h)

pub await_all : (es : List Entry) → awaiting (length es) es ≡ es
unfolding awaiting
await_all [] = refl
await_all (e ∷ l) = ap (λ (x : List Entry). e ∷ x) (await_all l)

-- ---- none has had its turn

gone : (e : Entry) → is_present (removed e) ≡ false
unfolding is_present removed
gone e = refl

no_children : (k : ℕ) (es : List Entry) → children_of k (awaiting 0 es) ≡ 0
unfolding awaiting children_of is_in is_present removed
no_children k [] = refl
no_children k (e ∷ l) = no_children k l

none_here : (es : List Entry) (i : ℕ) (d : Entry) → i < length es → is_present (get_or (awaiting 0 es) i d) ≡ false
unfolding awaiting
none_here [] i d h = absurd (omega arith)
none_here (e ∷ l) zero d h = gone e
none_here (e ∷ l) (suc i) d h = none_here l i d (omega arith)

pub keyed_none : (l : List ℕ) (n : ℕ) (es : List Entry) → length es ≡ n → length l ≡ register_size → ((q : ℕ) → 4097 ≤ q → get_or l q 0 ≡ 0) → Keyed l n (awaiting 0 es)
unfolding nodes_in first_of
keyed_none l n es fit wide blank =
    let none : get_or l (4097 + 4096) 0 ≡ 0 = blank (4097 + 4096) (omega arith) in
    record {
      wide = wide;
      chains =
          record {
            long = omega arith;
            few = omega arith;
            firsts = λ h u. omega (arith, blank (4097 + h) (omega arith));
            falls = λ q u v. absurd (omega arith);
          };
      rows = λ q u v. absurd (omega arith);
      counted = λ p u. blank (8194 + p) (omega arith) ∙ sym (no_children (folder_at (awaiting 0 es) p) es);
      spare = λ p u v. blank (8194 + p) (omega arith);
      kept = λ i d h p. absurd (not_both (is_present (get_or (awaiting 0 es) i d)) p (none_here es i d (omega arith)));
    }
