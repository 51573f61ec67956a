-- A plan as it is read: each block keeps it on its way, and what is printed fits the lent text.
-- Assumes nothing.
use Rattle.std.proofs.Common.{ℕ, ◌+◌, ◌≤◌, arith, ◌≡◌, sym, subst, List, ◌++◌, length, take, drop, replicate, length-append}
use Rattle.model.specs.Bytes.{put_at}
use Rattle.line_text.specs.Written.{Wrote}
use Rattle.plan_model.specs.Plan.{round}
use Rattle.plan_model.specs.Feed.{Fed, begun, feed_of}
use Rattle.plan_feed.specs.Going.{fed, Going}
use Rattle.plan_feed.proofs.Keeping.{going_new, going_fed}

pub going_begun : (n p k a m s : ℕ) (logs : List ℕ) → logs ≡ replicate 327680 0 → fed n p k a (round (replicate 327680 0) m s) ≡ begun
    → Going (fed n p k a (round logs m s))
going_begun n p k a m s logs z e =
    subst (λ (l : List ℕ). Going (fed n p k a (round l m s))) (sym z) (subst Going (sym e) going_new)

pub going_next : (s s' : Fed) (b : List ℕ) → Going s → s' ≡ feed_of s b → Going s'
going_next s s' b g e = subst Going (sym e) (going_fed s b g)

put_fits : (d s : List ℕ) → length s ≤ length (put_at d 0 s)
unfolding put_at
put_fits d s = omega (arith, length-append (take 0 d) (s ++ drop (0 + length s) d), length-append s (drop (0 + length s) d))

pub printed_fits : (text text' s : List ℕ) (r : ℕ) → Wrote text text' 0 r s → r ≤ length text'
printed_fits text text' s r w = rw w.bytes (omega (arith, w.next, put_fits text s))
