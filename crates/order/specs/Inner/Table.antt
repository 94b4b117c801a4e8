-- What the code says of the need-for-order table.
use Rattle.order.specs.Need.{Entry, need, leave, leave_unless_rmw}
use Rattle.order.specs.declared.table.Needed.{Needed}
use Rattle.order.specs.declared.table.Needed.TheVariants.{Never, Always, IfRmwInside}

-- the entry that the code's answer stands for
abbrev pub as_entry : Needed → Entry
as_entry Never = leave
as_entry Always = need
as_entry IfRmwInside = leave_unless_rmw
