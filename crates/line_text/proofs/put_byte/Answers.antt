-- One byte is written.
use native.Mathlib.Omega.{arith}
use mathlib.Core.Path.{refl}
use Rattle.byte_slice.proofs.PutAt.{set-put}
use Rattle.line_text.proofs.put_byte.Goals as goal

pub returns : goal.returns
returns c = record { bytes = set-put c.args.out.now c.args.at c.args.b (omega arith); next = refl }
