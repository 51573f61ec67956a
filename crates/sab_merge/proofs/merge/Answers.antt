-- Makes one file of two, by way of a lent log.
use mathlib.Core.Path.{◌≡◌, refl}
use native.Mathlib.Omega.{arith}
use Rattle.model.specs.Merge.{merged, merge_of}
use Rattle.refusal.specs.Refusals.{number_of}
use Rattle.refusal.proofs.Refusals.{not_zero}
use Rattle.sab_merge.proofs.Calls.{tells_file, tells_blocks}
use Rattle.sab_merge.proofs.merge.Goals as goal

pub returns-in-Ok : goal.returns-in-Ok
returns-in-Ok c = search (tells_blocks, c.in-Ok.ensures)

pub returns-in-Err-Buffer : goal.returns-in-Err-Buffer
returns-in-Err-Buffer c =
    let e : merged 1 0 0 0 c.merge.new.log c.merge.new.file ≡ merge_of c.args.first.now c.args.second.now c.args.log.now c.args.file.now = rw (c.in-Err-Buffer.field-0-is) at c.in-Err-Buffer.ensures in
    tells_file _ e c.answer_word.ensures (λ z. omega arith) refl

pub returns-in-Err-First : goal.returns-in-Err-First
returns-in-Err-First c =
    let e : merged (number_of c.in-Err-First.fault.refusal) c.in-Err-First.fault.place 1 0 c.merge.new.log c.merge.new.file ≡ merge_of c.args.first.now c.args.second.now c.args.log.now c.args.file.now = rw (c.in-Err-First.field-0-is) at c.in-Err-First.ensures in
    let word = rw (c.from-in-Err-First.ensures) at c.pack-in-Err-First.ensures in
    tells_file _ e word (not_zero _) refl

pub returns-in-Err-Second : goal.returns-in-Err-Second
returns-in-Err-Second c =
    let e = rw (c.in-Err-Second.field-0-is) at c.in-Err-Second.ensures in
    let word = rw (c.from-in-Err-Second.ensures) at c.pack-in-Err-Second.ensures in
    search (tells_file, e, word, not_zero)
