-- A file of either form and any archive is read into a lent log and base, whose old bytes are not judged.
use Rattle.read_either.proofs.Forms.{is_form}
use Rattle.read_either.proofs.read_either.Goals as goal

pub read_alone-requires : goal.read_alone-requires
read_alone-requires c = search (is_form)

pub read_sab1-requires : goal.read_sab1-requires
read_sab1-requires c = search (is_form)
