-- What is claimed of another maker's order: what the three conditions mean, as types, and that rank order is accepted.
-- Document 02, K12.
-- Assumes nothing.
use Rattle.std.specs.Prelude.{ℕ, ◌<◌, ◌≡◌, true, ◌↔◌, ◌⊎◌, List, [], ◌∷◌, ◌++◌, length}
use Rattle.model.specs.Lengths.{log_size, base_size, tree_size}
use Rattle.model.specs.Bytes.{blank}
use Rattle.model.specs.Record.{Rec, unit, num, seen, self_of}
use Rattle.model.specs.Log.{records_of, sound_log}
use Rattle.model.specs.Replay.{Entry, Aside, Tree, replay, present_ones, is_disputed}
use Rattle.model.specs.Table.{identity_bytes, table_bytes}
use Rattle.base_model.specs.Base.{base_vector, sound_state, tree_of}
use Rattle.order_model.specs.Order.{times, in_order_of, failed_of, Ordered, ordered, order_of}
use Rattle.log_laws.specs.Members.{Has as Member}
use Rattle.tree_laws.specs.Replayed.{Has, selves}

-- ---- the conditions

-- each record is named exactly once, and each name is a record's [F176]
pub record NamesEach (ks : List ℕ) (l : List Rec) : Type 0 where
  pub once : (r : Rec) → Member r l → times (self_of r) ks ≡ 1
  pub held : (k : ℕ) → Has k ks → (r : Rec) × Member r l × (self_of r ≡ k)

-- of two records the one that stands first has not seen the other [F177]
abbrev pub SeenFirst : List Rec → Type 0
SeenFirst [] = Unit {0}
SeenFirst (r ∷ l) = ((s : Rec) → Member s l → seen r (unit s) < num s) × SeenFirst l

-- the same entry, as trees with the asides s and t show it [F178]
pub record SameEntry (s t : List Aside) (e f : Entry) : Type 0 where
  pub same_made : e.made ≡ f.made
  pub same_kind : e.kind ≡ f.kind
  pub same_folder : e.inside ≡ f.inside
  pub same_label : e.label ≡ f.label
  pub same_date : e.date ≡ f.date
  pub same_mark : e.mark ≡ f.mark
  pub same_dispute : is_disputed e.made s ≡ is_disputed f.made t

-- every entry of t that is present and every aside of t is one of u [F178]
pub record ShownBy (u t : Tree) : Type 0 where
  pub entries : (e : Entry) → Has e (present_ones t.entries) → (f : Entry) × Has f (present_ones u.entries) × SameEntry t.asides u.asides e f
  pub asides : (a : Aside) → Has a t.asides → Has a u.asides

-- both ways: the same entries and the same set of asides
abbrev pub SameShown : Tree → Tree → Type 0
SameShown t u = ShownBy u t × ShownBy t u

-- ---- the answer

-- an order is accepted exactly if all three conditions hold [F179]
abbrev pub AcceptedExactly : List ℕ → List Rec → Type 0
AcceptedExactly ks l =
    (failed_of ks l ≡ 0) ↔ (NamesEach ks l × SeenFirst (in_order_of ks l) × SameShown (replay l) (replay (in_order_of ks l)))

-- the condition that is answered fails, and those before it hold [F179]
pub record FirstFailed (ks : List ℕ) (l : List Rec) : Type 0 where
  pub known : (failed_of ks l ≡ 0) ⊎ ((failed_of ks l ≡ 1) ⊎ ((failed_of ks l ≡ 2) ⊎ (failed_of ks l ≡ 3)))
  pub first : failed_of ks l ≡ 1 → NamesEach ks l → ⊥
  pub second : failed_of ks l ≡ 2 → NamesEach ks l × (SeenFirst (in_order_of ks l) → ⊥)
  pub third : failed_of ks l ≡ 3 → NamesEach ks l × SeenFirst (in_order_of ks l) × (SameShown (replay l) (replay (in_order_of ks l)) → ⊥)

-- ---- rank order, and what our table shows

-- the names of records, four bytes each
unfoldable pub name_bytes : List Rec → List ℕ
name_bytes [] = []
name_bytes (r ∷ l) = identity_bytes (self_of r) ++ name_bytes l

-- a sound state of which nothing is folded, and two tables of their length
pub record Whole (log base ours theirs : List ℕ) : Type 0 where
  pub log_long : length log ≡ log_size
  pub base_long : length base ≡ base_size
  pub ours_long : length ours ≡ tree_size
  pub theirs_long : length theirs ≡ tree_size
  pub sound : sound_state log base ≡ true
  pub unfolded : blank (base_vector base) ≡ true

-- rank order itself is accepted, and both tables show the tree of the state [F182]
abbrev pub RankAccepted : List ℕ → List ℕ → List ℕ → List ℕ → Type 0
RankAccepted log base ours theirs =
    Whole log base ours theirs
    → order_of log base (name_bytes (records_of log)) ours theirs
    ≡ ordered 0 0 0 (table_bytes (tree_of log base)) (table_bytes (tree_of log base))
