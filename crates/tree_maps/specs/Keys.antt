-- What the register beside a table says: the role of each identity, the chain in which the holder of a label is found, and how many
-- entries each folder has.
--   0-4,096 the chains of identities, with their roles as rows; 4,097-8,193 the chains of labels; 8,194-9,218 how many entries a folder
--   has, the root first and then the folder of each row.
-- Assumes nothing.
use Rattle.std.specs.Prelude.{ℕ, zero, suc, ◌+◌, ◌-◌, ◌*◌, ◌%◌, ◌≤◌, ◌<◌, ◌≡◌, Bool, true, cond, ◌&&◌, List, [], ◌∷◌, leb, ltb, get_or, length, set}
use Rattle.model.specs.Replay.{Entry, is_present, is_in}
use Rattle.hash_chains.specs.Chains.{nodes_in, first_of, row_at, pushed, popped, Chains, Found}

-- how many numbers the register has
abbrev pub register_size : ℕ
register_size = 9219

-- ---- identities

-- an identity of unit 0 to 7 and number 1 to 65,535; the root is none
unfoldable pub is_identity : ℕ → Bool
is_identity k = leb 8 k && ltb k 524288

-- the chain of an identity
unfoldable pub link_of : ℕ → ℕ
link_of k = k % 1021

-- an identity gets a role
unfoldable pub named : List ℕ → ℕ → ℕ → List ℕ
named l k role = pushed 0 l (link_of k) role

-- ---- labels

unfoldable pub weights : List ℕ
weights =
    20251
    ∷ 30011
    ∷ 26489
    ∷ 21157
    ∷ 31247
    ∷ 17681
    ∷ 14551
    ∷ 23609
    ∷ 28711
    ∷ 12289
    ∷ 19427
    ∷ 32009
    ∷ 11083
    ∷ 25013
    ∷ 16553
    ∷ 29297
    ∷ 13477
    ∷ 22147
    ∷ 27407
    ∷ 18301
    ∷ 10459
    ∷ 31687
    ∷ 15241
    ∷ 24181
    ∷ 20899
    ∷ 29873
    ∷ 12697
    ∷ 26041
    ∷ 17093
    ∷ 21613
    ∷ 30529
    ∷ 14071
    ∷ []

-- the first so many bytes of a label by their weights; of each byte what a capital and its small letter have in common
unfoldable pub weighed : ℕ → List ℕ → ℕ
weighed zero t = 0
weighed (suc i) t = weighed i t + get_or t i 0 % 32 * get_or weights i 0

-- the chain of a label in a folder. Labels that are the same must have the same chain: this and `label_key` change together
unfoldable pub hash_of : ℕ → List ℕ → ℕ
hash_of f t = (weighed 32 t + f % 1021 * 577) % 1021

unfoldable pub chain_of : Entry → ℕ
chain_of e = hash_of e.inside e.label

-- ---- folders

-- how many entries the folder k has
unfoldable pub children_of : ℕ → List Entry → ℕ
children_of k [] = 0
children_of k (e ∷ l) = cond (is_in k e) (suc (children_of k l)) (children_of k l)

-- the identity of the entry in row i
unfoldable pub made_at : List Entry → ℕ → ℕ
made_at [] i = 0
made_at (e ∷ l) zero = e.made
made_at (e ∷ l) (suc i) = made_at l i

-- the folder at a place: the root, and then the entries by their rows
unfoldable pub folder_at : List Entry → ℕ → ℕ
folder_at es zero = 0
folder_at es (suc i) = made_at es i

-- no folder has two places
abbrev pub OneEach : List Entry → Type 0
OneEach es = (p q : ℕ) → p ≤ length es → q ≤ length es → folder_at es p ≡ folder_at es q → p ≡ q

-- one entry more, or less, in the folder at the place p
unfoldable pub counted_up : List ℕ → ℕ → List ℕ
counted_up l p = set l (8194 + p) (get_or l (8194 + p) 0 + 1)

unfoldable pub counted_down : List ℕ → ℕ → List ℕ
counted_down l p = set l (8194 + p) (get_or l (8194 + p) 0 - 1)

-- ---- what entries do to the register

-- an entry is made in the folder f at the place p
unfoldable pub entered : List ℕ → ℕ → ℕ → List ℕ → ℕ → List ℕ
entered l p f t row = pushed 4097 (counted_up l p) (hash_of f t) row

-- an entry gets another label
unfoldable pub relabelled : List ℕ → ℕ → List ℕ → List ℕ → ℕ → List ℕ
relabelled l f old t row = pushed 4097 (popped 4097 l (hash_of f old) row) (hash_of f t) row

-- an entry leaves its folder
unfoldable pub left : List ℕ → ℕ → ℕ → List ℕ → ℕ → List ℕ
left l p f t row = counted_down (popped 4097 l (hash_of f t) row) p

-- an entry leaves the folder f at the place p and goes to the folder g at the place q under another label
unfoldable pub shifted : List ℕ → ℕ → ℕ → List ℕ → ℕ → ℕ → List ℕ → ℕ → List ℕ
shifted l p f old q g t row = entered (left l p f old row) q g t row

-- the register of n entries
pub record Keyed (l : List ℕ) (n : ℕ) (es : List Entry) : Type 0 where
  pub wide : length l ≡ register_size
  pub chains : Chains 4097 l
  pub rows : (q : ℕ) → 1 ≤ q → q ≤ nodes_in 4097 l → row_at 4097 l q < n
  pub counted : (p : ℕ) → p ≤ n → get_or l (8194 + p) 0 ≡ children_of (folder_at es p) es
  pub spare : (p : ℕ) → n < p → p ≤ 1024 → get_or l (8194 + p) 0 ≡ 0
  pub kept : (i : ℕ) (d : Entry) → i < n → is_present (get_or es i d) ≡ true → Found 4097 l (first_of 4097 l (chain_of (get_or es i d))) i
