-- The rehearsed listings for refusal 18 are read as the table says: computed.
use mathlib.Core.Path.{refl}
use Rattle.listing.specs.Bytes.{nodes_of, bytes_of}
use Rattle.listing.specs.Form.{
  wrong_mark,
  wrong_f,
  heading_rules,
  wrong_routine,
  wrong_kind,
  wrong_location,
  astray,
  wrong_successor,
  wrong_order,
  node_rules,
  form_rules,
}
use Rattle.order.specs.Rows.{All}
use Rattle.order.proofs.Entering.{entered?}
use Rattle.reader.specs.Read.{dead, read_rules}
use Rattle.reader.specs.Cases.{cases, Right}

-- EVERY ROW IS RIGHT
pub entries_right : All Right cases
unfolding nodes_of bytes_of read_rules dead entered? form_rules heading_rules
    wrong_mark wrong_f node_rules wrong_routine wrong_kind wrong_location wrong_successor astray wrong_order
entries_right = (refl, (refl, (refl, (refl, (refl, (refl, (refl, (refl, tt))))))))
