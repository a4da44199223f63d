-- Calls and their needs as the code has them.
use Rattle.cp_client_rules.specs.Calls as rules
use Rattle.cp_client_rules.specs.Asking as asking
use Rattle.cp_client.specs.declared.call.Call.{Call}
use Rattle.cp_client.specs.declared.asking.Need.{Need}
use Rattle.cp_client.specs.declared.asking.Need.TheVariants as need

abbrev pub call_of : Call → rules.Call
call_of call = record { thread = call.thread; group = call.group; op = call.op; deadline = call.deadline }

abbrev pub need_is : Need → asking.Need
need_is need.Nothing = asking.Nothing
need_is (need.HoldingSession name) = asking.HoldingSession name
need_is need.ItsSession = asking.ItsSession
need_is need.SessionToClose = asking.SessionToClose
need_is (need.Round name) = asking.Round name
