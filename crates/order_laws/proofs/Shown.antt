-- What it means that two trees show the same.
-- Assumes nothing.
use mathlib.Core.Path.{◌≡◌, refl, sym, ap, ◌∙◌}
use mathlib.Core.Logic.{inl, inr, ⊎_elim}
use mathlib.Core.Bool.{Bool, true, false, not, ◌&&◌, ◌||◌, false≢true}
use mathlib.Core.List.{List, [], ◌∷◌}
use lib.Dec.{eqb}
use borrow.Author.Tests.{eq-eqb, eqb-true}
use Rattle.model.specs.Bytes.{same_bytes}
use Rattle.model.specs.Replay.{Entry, Aside, Tree, present_ones, is_disputed}
use Rattle.byte_slice.proofs.Numbers.{and_true, true_and, or_true}
use Rattle.byte_slice.proofs.Compare.{same_eq, eq_same}
use Rattle.tree_laws.specs.Replayed.{Has}
use Rattle.order_model.specs.Order.{equal_flags, entry_alike, aside_alike, shows_entry, entries_among, shows_aside, asides_among, shown_within, shown_alike}
use Rattle.order_laws.specs.Claims.{SameEntry, ShownBy, SameShown}

-- ---- tests

pub or_left : (a b : Bool) → a ≡ true → (a || b) ≡ true
or_left a b e = rw e

pub or_right : (a b : Bool) → b ≡ true → (a || b) ≡ true
or_right true b e = refl
or_right false b e = e

pub flags_same : (a b : Bool) → equal_flags a b ≡ true → a ≡ b
unfolding equal_flags
flags_same true b e = sym e
flags_same false true e = absurd (false≢true e)
flags_same false false e = refl

pub same_flags : (a b : Bool) → a ≡ b → equal_flags a b ≡ true
unfolding equal_flags
same_flags true b e = sym e
same_flags false b e = rw (← e)

-- ---- one entry, one aside

pub alike-entry : (s t : List Aside) (e f : Entry) → entry_alike s t e f ≡ true → SameEntry s t e f
unfolding entry_alike
alike-entry s t e f h =
    let (a, h1) = and_true (eqb e.made f.made) (eqb e.kind f.kind && (eqb e.inside f.inside && (same_bytes e.label f.label && (same_bytes e.date f.date && (same_bytes e.mark f.mark && equal_flags (is_disputed e.made s) (is_disputed f.made t)))))) h in
    let (b, h2) = and_true (eqb e.kind f.kind) (eqb e.inside f.inside && (same_bytes e.label f.label && (same_bytes e.date f.date && (same_bytes e.mark f.mark && equal_flags (is_disputed e.made s) (is_disputed f.made t))))) h1 in
    let (c, h3) = and_true (eqb e.inside f.inside) (same_bytes e.label f.label && (same_bytes e.date f.date && (same_bytes e.mark f.mark && equal_flags (is_disputed e.made s) (is_disputed f.made t)))) h2 in
    let (d, h4) = and_true (same_bytes e.label f.label) (same_bytes e.date f.date && (same_bytes e.mark f.mark && equal_flags (is_disputed e.made s) (is_disputed f.made t))) h3 in
    let (x, h5) = and_true (same_bytes e.date f.date) (same_bytes e.mark f.mark && equal_flags (is_disputed e.made s) (is_disputed f.made t)) h4 in
    let (y, z) = and_true (same_bytes e.mark f.mark) (equal_flags (is_disputed e.made s) (is_disputed f.made t)) h5 in
    record {
      same_made = eqb-true e.made f.made a;
      same_kind = eqb-true e.kind f.kind b;
      same_folder = eqb-true e.inside f.inside c;
      same_label = same_eq e.label f.label d;
      same_date = same_eq e.date f.date x;
      same_mark = same_eq e.mark f.mark y;
      same_dispute = flags_same (is_disputed e.made s) (is_disputed f.made t) z;
    }

pub entry-alike : (s t : List Aside) (e f : Entry) → SameEntry s t e f → entry_alike s t e f ≡ true
unfolding entry_alike
entry-alike s t e f h =
    rw (eq-eqb e.made f.made h.same_made)
    (rw (eq-eqb e.kind f.kind h.same_kind)
    (rw (eq-eqb e.inside f.inside h.same_folder)
    (rw (eq_same e.label f.label h.same_label)
    (rw (eq_same e.date f.date h.same_date)
    (rw (eq_same e.mark f.mark h.same_mark) (same_flags (is_disputed e.made s) (is_disputed f.made t) h.same_dispute))))))

pub alike-aside : (a b : Aside) → aside_alike a b ≡ true → a ≡ b
unfolding aside_alike
alike-aside a b h =
    let (p, h1) = and_true (eqb a.who b.who) (eqb a.reason b.reason && (eqb a.marked b.marked && equal_flags a.is_open b.is_open)) h in
    let (q, h2) = and_true (eqb a.reason b.reason) (eqb a.marked b.marked && equal_flags a.is_open b.is_open) h1 in
    let (r, s) = and_true (eqb a.marked b.marked) (equal_flags a.is_open b.is_open) h2 in
    let who_is = eqb-true a.who b.who p in
    let reason_is = eqb-true a.reason b.reason q in
    let marked_is = eqb-true a.marked b.marked r in
    let open_is = flags_same a.is_open b.is_open s in
    λ i. record { who = who_is i; reason = reason_is i; marked = marked_is i; is_open = open_is i }

pub aside-alike : (a b : Aside) → a ≡ b → aside_alike a b ≡ true
unfolding aside_alike
aside-alike a b e =
    rw (eq-eqb a.who b.who (ap (λ (x : Aside). x.who) e))
    (rw (eq-eqb a.reason b.reason (ap (λ (x : Aside). x.reason) e))
    (rw (eq-eqb a.marked b.marked (ap (λ (x : Aside). x.marked) e)) (same_flags a.is_open b.is_open (ap (λ (x : Aside). x.is_open) e))))

-- ---- one of many, and each of many

-- each of the entries m is one of the entries l
abbrev pub EntriesIn : List Aside → List Aside → List Entry → List Entry → Type 0
EntriesIn s t m l = (e : Entry) → Has e m → (f : Entry) × Has f l × SameEntry s t e f

shows_some : (s t : List Aside) (e : Entry) (l : List Entry) → shows_entry s t e l ≡ true → (f : Entry) × Has f l × SameEntry s t e f
unfolding shows_entry
shows_some s t e [] h = absurd (false≢true h)
shows_some s t e (x ∷ l) h =
    ⊎_elim
    (λ (a : entry_alike s t e x ≡ true). (x, inl refl, alike-entry s t e x a))
    (λ (a : shows_entry s t e l ≡ true). let (f, i, b) = shows_some s t e l a in (f, inr i, b))
    (or_true (entry_alike s t e x) (shows_entry s t e l) h)

some_shows : (s t : List Aside) (e : Entry) (l : List Entry) (f : Entry) → Has f l → SameEntry s t e f → shows_entry s t e l ≡ true
unfolding shows_entry
some_shows s t e [] f i h = absurd i
some_shows s t e (x ∷ l) f (inl q) h = or_left (entry_alike s t e x) (shows_entry s t e l) (ap (entry_alike s t e) (sym q) ∙ entry-alike s t e f h)
some_shows s t e (x ∷ l) f (inr i) h = or_right (entry_alike s t e x) (shows_entry s t e l) (some_shows s t e l f i h)

pub among_in : (s t : List Aside) (m l : List Entry) → entries_among s t m l ≡ true → EntriesIn s t m l
unfolding entries_among
among_in s t [] l h e i = absurd i
among_in s t (x ∷ m) l h e (inl q) = rw q (shows_some s t x l (and_true (shows_entry s t x l) (entries_among s t m l) h).0)
among_in s t (x ∷ m) l h e (inr i) = among_in s t m l (and_true (shows_entry s t x l) (entries_among s t m l) h).1 e i

pub in_among : (s t : List Aside) (m l : List Entry) → EntriesIn s t m l → entries_among s t m l ≡ true
unfolding entries_among
in_among s t [] l h = refl
in_among s t (x ∷ m) l h =
    let (f, i, a) = h x (inl refl) in
    true_and (shows_entry s t x l) (entries_among s t m l) (some_shows s t x l f i a) (in_among s t m l (λ e j. h e (inr j)))

-- each of the asides m is one of the asides l
abbrev pub AsidesIn : List Aside → List Aside → Type 0
AsidesIn m l = (a : Aside) → Has a m → Has a l

shows_has : (a : Aside) (l : List Aside) → shows_aside a l ≡ true → Has a l
unfolding shows_aside
shows_has a [] h = absurd (false≢true h)
shows_has a (x ∷ l) h =
    ⊎_elim
    (λ (b : aside_alike a x ≡ true). inl (alike-aside a x b))
    (λ (b : shows_aside a l ≡ true). inr (shows_has a l b))
    (or_true (aside_alike a x) (shows_aside a l) h)

has_shows : (a : Aside) (l : List Aside) → Has a l → shows_aside a l ≡ true
unfolding shows_aside
has_shows a [] i = absurd i
has_shows a (x ∷ l) (inl q) = or_left (aside_alike a x) (shows_aside a l) (aside-alike a x q)
has_shows a (x ∷ l) (inr i) = or_right (aside_alike a x) (shows_aside a l) (has_shows a l i)

pub asides_in : (m l : List Aside) → asides_among m l ≡ true → AsidesIn m l
unfolding asides_among
asides_in [] l h a i = absurd i
asides_in (x ∷ m) l h a (inl q) = rw q (shows_has x l (and_true (shows_aside x l) (asides_among m l) h).0)
asides_in (x ∷ m) l h a (inr i) = asides_in m l (and_true (shows_aside x l) (asides_among m l) h).1 a i

pub in_asides : (m l : List Aside) → AsidesIn m l → asides_among m l ≡ true
unfolding asides_among
in_asides [] l h = refl
in_asides (x ∷ m) l h =
    true_and (shows_aside x l) (asides_among m l) (has_shows x l (h x (inl refl))) (in_asides m l (λ a i. h a (inr i)))

-- ---- two trees

within_means : (t u : Tree) → shown_within t u ≡ true → ShownBy u t
unfolding shown_within
within_means t u h =
    let s : List Aside = t.asides in
    let r : List Aside = u.asides in
    let (a, b) = and_true (entries_among s r (present_ones t.entries) (present_ones u.entries)) (asides_among s r) h in
    record { entries = among_in s r (present_ones t.entries) (present_ones u.entries) a; asides = asides_in s r b }

means_within : (t u : Tree) → ShownBy u t → shown_within t u ≡ true
unfolding shown_within
means_within t u h =
    let s : List Aside = t.asides in
    let r : List Aside = u.asides in
    true_and (entries_among s r (present_ones t.entries) (present_ones u.entries)) (asides_among s r)
    (in_among s r (present_ones t.entries) (present_ones u.entries) h.entries)
    (in_asides s r h.asides)

pub alike_means : (t u : Tree) → shown_alike t u ≡ true → SameShown t u
unfolding shown_alike
alike_means t u h =
    let (a, b) = and_true (shown_within t u) (shown_within u t) h in
    (within_means t u a, within_means u t b)

pub means_alike : (t u : Tree) → SameShown t u → shown_alike t u ≡ true
unfolding shown_alike
means_alike t u h = true_and (shown_within t u) (shown_within u t) (means_within t u h.0) (means_within u t h.1)

-- a tree shows what it shows
shown_itself : (t : Tree) → ShownBy t t
shown_itself t =
    record {
      entries = λ e i. (e, i, record { same_made = refl; same_kind = refl; same_folder = refl; same_label = refl; same_date = refl; same_mark = refl; same_dispute = refl });
      asides = λ a i. i;
    }

pub alike_itself : (t : Tree) → shown_alike t t ≡ true
alike_itself t = means_alike t t (shown_itself t, shown_itself t)
