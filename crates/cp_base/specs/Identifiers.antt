-- Identifiers of clients.
use Rattle.std.specs.Prelude.{[], ◌∷◌}
use Rattle.cp_base.specs.declared.identifier.ClientNo.{ClientNo}
use Rattle.cp_base.specs.declared.identifier.ClientId.{ClientId}

-- 00000000-0000-8000-8000-0000000000cc, cc being the client's number
abbrev pub replay_id : ClientNo → ClientId
replay_id client = record { 0 = 0 ∷ 0 ∷ 0 ∷ 0 ∷ 0 ∷ 0 ∷ 128 ∷ 0 ∷ 128 ∷ 0 ∷ 0 ∷ 0 ∷ 0 ∷ 0 ∷ 0 ∷ client.0 ∷ [] }
