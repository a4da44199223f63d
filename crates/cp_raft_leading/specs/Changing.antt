-- Who asks for a change.
use Rattle.std.specs.Prelude.{◌≡◌, length, Option, Some}
use Rattle.cp_base.specs.declared.identifier.Invocation.{Invocation}

-- the call names its client by sixteen bytes
abbrev pub IsNamed : Option Invocation → Type 0
IsNamed call = (c : Invocation) → call ≡ Some c → length c.client.0 ≡ 16
