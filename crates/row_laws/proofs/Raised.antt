-- Block k of a row that is handed out is the block for the vector raised by the records before.
-- Assumes nothing.
use Prim.Native.Nat.{ℕ, zero, suc, ◌+◌, ◌-◌, ◌*◌, ◌≤◌, ◌<◌}
use native.Mathlib.Omega.{arith}
use mathlib.Core.Path.{◌≡◌, refl, sym, ap, ◌∙◌, subst}
use mathlib.Core.Logic.{◌⊎◌, inl, inr, ⊎_elim}
use mathlib.Core.List.{List, [], ◌∷◌, ◌++◌, append_assoc}
use lib.ListN.{get_or, length, take, drop, set, length-set, length-append}
use lib.Seq.{get_or-set_same, get_or-set_other}
use borrow.Author.Tests.{lt-ltb, le-ltb}
use Rattle.model.specs.Vector.{blocks_for}
use Rattle.model.specs.Bytes.{part, padded}
use Rattle.model.specs.Record.{Rec, unit, num}
use Rattle.model.specs.Log.{count_on, lacking}
use Rattle.model.specs.File.{header_of, block_at}
use Rattle.call_model.specs.Outcome.{hand_block}
use Rattle.byte_slice.proofs.Numbers.{lt_or_ge, eq_or_ne}
use Rattle.byte_slice.proofs.Parts.{part_middle}
use Rattle.block_laws.proofs.Fields.{Sized, length_block}
use Rattle.log_laws.specs.Members.{Has}
use Rattle.log_laws.specs.Sound.{SoundAfter, SoundOn}
use Rattle.log_laws.proofs.Counts.{count_own, numbers_on, unit_of_on}
use Rattle.log_laws.proofs.Lacking.{lacking-cons, lacking-nil, lacking_beyond, has_lacking}
use Rattle.encoding_laws.proofs.Files.{sized_take, sized_drop, six}
use Rattle.row_model.specs.Row.{row_block, row_to, row_of}
use Rattle.row_laws.specs.Raised.{raised}

-- ---- one record more is held

-- vectors that lack the same of each record lack the same
lacking-alike : (v w : List ℕ) (l : List Rec) → ((s : Rec) → Has s l → ((get_or v (unit s) 0 < num s) × (get_or w (unit s) 0 < num s)) ⊎ ((num s ≤ get_or v (unit s) 0) × (num s ≤ get_or w (unit s) 0))) → lacking v l ≡ lacking w l
unfolding lacking
lacking-alike v w [] h = refl
lacking-alike v w (r ∷ l) h =
    let e = lacking-alike v w l (λ s i. h s (inr i)) in
    ⊎_elim
    (λ (x : (get_or v (unit r) 0 < num r) × (get_or w (unit r) 0 < num r)). rw (lt-ltb (get_or v (unit r) 0) (num r) x.0, lt-ltb (get_or w (unit r) 0) (num r) x.1, e))
    (λ (x : (num r ≤ get_or v (unit r) 0) × (num r ≤ get_or w (unit r) 0)). rw (le-ltb (get_or v (unit r) 0) (num r) x.0, le-ltb (get_or w (unit r) 0) (num r) x.1, e))
    (h r (inl refl))

module _ (v : List ℕ) (r : Rec) (u : unit r < length v) where
  own : get_or (set v (unit r) (num r)) (unit r) 0 ≡ num r
  own = get_or-set_same v (unit r) (num r) 0 u

  other : (s : Rec) → (unit s ≡ unit r → ⊥) → get_or (set v (unit r) (num r)) (unit s) 0 ≡ get_or v (unit s) 0
  other s d = get_or-set_other v (unit r) (unit s) (num r) 0 d

  -- behind r the records of its unit have higher numbers
  behind : (base : List ℕ) (pre l : List Rec) → get_or v (unit r) 0 < num r → SoundAfter base pre (r ∷ l) → lacking (set v (unit r) (num r)) l ≡ lacking v l
  behind base pre l g h =
      sym (lacking-alike v (set v (unit r) (num r)) l
      (λ s i.
      ⊎_elim
      (λ (e : unit s ≡ unit r).
      let n : count_on base (unit s) (r ∷ pre) < num s = (numbers_on base (r ∷ pre) l s h.1 i).0 in
      let m : num r < num s = omega (arith, (rw e at n), count_own r pre, h.0.next) in
      inl (rw e (omega (arith, g)), rw (e, own) m))
      (λ (d : unit s ≡ unit r → ⊥).
      ⊎_elim
      (λ (x : get_or v (unit s) 0 < num s). inl (x, rw (other s d) x))
      (λ (x : num s ≤ get_or v (unit s) 0). inr (x, rw (other s d) x))
      (lt_or_ge (get_or v (unit s) 0) (num s)))
      (eq_or_ne (unit s) (unit r))))

  skips : (s : Rec) → num s ≤ get_or v (unit s) 0 → get_or v (unit r) 0 < num r → num s ≤ get_or (set v (unit r) (num r)) (unit s) 0
  skips s h g =
      ⊎_elim
      (λ (e : unit s ≡ unit r). rw (e, own) (omega (arith, g, (rw e at h))))
      (λ (d : unit s ≡ unit r → ⊥). rw (other s d) h)
      (eq_or_ne (unit s) (unit r))

not_lacked : (v : List ℕ) (x : Rec) (l : List Rec) → num x ≤ get_or v (unit x) 0 → lacking v (x ∷ l) ≡ lacking v l
unfolding lacking
not_lacked v x l h = rw (le-ltb (get_or v (unit x) 0) (num x) h)

cons_same : {x y : Rec} {a b : List Rec} → x ∷ a ≡ y ∷ b → (x ≡ y) × (a ≡ b)
cons_same {x} {y} {a} {b} e = ((let p : x ≡ y = cc in p), (let q : a ≡ b = cc in q))

-- the first record that a vector lacks, counted as held: the others are lacked still
raise_one : (base v : List ℕ) (pre l : List Rec) (r : Rec) (w : List Rec) → unit r < length v → SoundAfter base pre l → lacking v l ≡ r ∷ w → lacking (set v (unit r) (num r)) l ≡ w
raise_one base v pre [] r w u h e = absurd (let z : ◌≡◌ {A = ℕ} 0 1 = cc (lacking-nil v) in omega arith)
raise_one base v pre (x ∷ l) r w u h e =
    ⊎_elim
    (λ (k : (get_or v (unit x) 0 < num x) × (lacking v (x ∷ l) ≡ x ∷ lacking v l)).
    let c = cons_same (sym k.1 ∙ e) in
    first c.0 c.1 k.0)
    (λ (k : (num x ≤ get_or v (unit x) 0) × (lacking v (x ∷ l) ≡ lacking v l)).
    let f : lacking v l ≡ r ∷ w = sym k.1 ∙ e in
    let g : get_or v (unit r) 0 < num r = lacking_beyond v l r (subst (Has r) (sym f) (inl refl)) in
    not_lacked (set v (unit r) (num r)) x l (skips v r u x k.0 g) ∙ raise_one base v (x ∷ pre) l r w u h.1 f)
    (lacking-cons v x l)
  where
    first : x ≡ r → lacking v l ≡ w → get_or v (unit x) 0 < num x → lacking (set v (unit r) (num r)) (x ∷ l) ≡ w
    first p q g =
        let g' : get_or v (unit r) 0 < num r = subst (λ (y : Rec). get_or v (unit y) 0 < num y) p g in
        let h' : SoundAfter base pre (r ∷ l) = subst (λ (y : Rec). SoundAfter base pre (y ∷ l)) p h in
        ap (λ (y : Rec). lacking (set v (unit r) (num r)) (y ∷ l)) p ∙ not_lacked (set v (unit r) (num r)) r l (rw (own v r u) (omega arith)) ∙ behind v r u base pre l g' h' ∙ q

-- ---- the vector raised by the first k records that it lacks

pub raised_lacks : (base : List ℕ) (k : ℕ) (v : List ℕ) (l : List Rec) → 8 ≤ length v → SoundOn base l → lacking (raised v (take k (lacking v l))) l ≡ drop k (lacking v l)
unfolding raised
raised_lacks base zero v l n h = refl
raised_lacks base (suc k) v l n h = go (λ x y. raised_lacks base k x l y h) (lacking v l) refl
  where
    go : ((x : List ℕ) → 8 ≤ length x → lacking (raised x (take k (lacking x l))) l ≡ drop k (lacking x l)) → (w : List Rec) → lacking v l ≡ w → lacking (raised v (take (suc k) w)) l ≡ drop (suc k) w
    go ih [] e = e
    go ih (r ∷ w) e =
        let i : Has r l = has_lacking v l r (subst (Has r) (sym e) (inl refl)) in
        let u : unit r < length v = omega (arith, unit_of_on base [] l r h i) in
        let f : lacking (set v (unit r) (num r)) l ≡ w = raise_one base v [] l r w u h e in
        rw f at (ih (set v (unit r) (num r)) (omega (arith, length-set v (unit r) (num r))))

-- block k of the row is the block that is handed out to the vector raised by the records of the blocks before
pub row_hands : (archive u : ℕ) (base held v : List ℕ) (l : List Rec) (k : ℕ) → 8 ≤ length v → SoundOn base l
    → row_block archive u held (lacking v l) k ≡ hand_block archive u held l (raised v (take (6 * k) (lacking v l)))
unfolding row_block hand_block
row_hands archive u base held v l k n h = rw (raised_lacks base (6 * k) v l n h)

-- as many blocks as pass all records, and no more
pub row_counts : (n : ℕ) → (n ≤ 6 * blocks_for n) × (6 * blocks_for n < n + 6)
unfolding blocks_for
row_counts n = (omega arith, omega arith)

-- ---- the blocks in the bytes of a row

module _ (archive u : ℕ) (held : List ℕ) (w : List Rec) (z : Sized w) where
  pub length-row_block : (k : ℕ) → length (row_block archive u held w k) ≡ 512
  unfolding row_block
  length-row_block k = length_block (header_of archive u 0 held) (take 6 (drop (6 * k) w)) (sized_take 6 (drop (6 * k) w) (sized_drop (6 * k) w z)) (six (drop (6 * k) w))

  pub length-row_to : (n : ℕ) → length (row_to archive u held w n) ≡ 512 * n
  unfolding row_to
  length-row_to zero = refl
  length-row_to (suc n) = omega (arith, length-append (row_to archive u held w n) (row_block archive u held w n), length-row_to n, length-row_block n)

  -- block k of the first n, whatever stands behind them
  pub block_of_row : (n k : ℕ) (t : List ℕ) → k < n → block_at (row_to archive u held w n ++ t) k ≡ row_block archive u held w k
  unfolding row_to block_at
  block_of_row zero k t h = absurd (omega arith)
  block_of_row (suc n) k t h =
      let a : List ℕ = row_to archive u held w n in
      let b : List ℕ = row_block archive u held w n in
      ⊎_elim
      (λ (e : k < n). rw (append_assoc a b t) (block_of_row n k (b ++ t) e))
      (λ (e : n ≤ k). let q : k ≡ n = omega arith in rw (append_assoc a b t, q) (last a b t n (length-row_to n) (length-row_block n)))
      (lt_or_ge k n)
    where
      last : (a b t : List ℕ) (n : ℕ) → length a ≡ 512 * n → length b ≡ 512 → part (a ++ (b ++ t)) (512 * n) 512 ≡ b
      last a b t n p q = rw (p, q) at (part_middle a b t)

-- block k of the bytes that are handed out
pub handed_block : (archive u : ℕ) (base held v : List ℕ) (l : List Rec) (k : ℕ) → 8 ≤ length v → SoundOn base l → Sized (lacking v l) → k < blocks_for (length (lacking v l))
    → block_at (padded 44032 (row_of archive u held l v)) k ≡ hand_block archive u held l (raised v (take (6 * k) (lacking v l)))
unfolding padded row_of
handed_block archive u base held v l k n h z i = block_of_row archive u held (lacking v l) z (blocks_for (length (lacking v l))) k _ i ∙ row_hands archive u base held v l k n h
