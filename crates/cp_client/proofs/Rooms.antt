-- Counts of holds.
use Rattle.std.proofs.Common.{◌≡◌, ◌<◌, Bool, true, false, [], ◌∷◌, Some, subst, cond}
use Rattle.std.specs.Prelude.{◌^◌, All}
use Rattle.std.specs.Map.{values_of}
use Rattle.std.specs.BTreeMap.{is_at}
use Rattle.std.proofs.lemmas.List.Elements.{All-head, All-tail}
use Rattle.cp_group_state.specs.Rows.{find}
use Rattle.cp_client_rules.specs.declared.rows.HoldRecord.{HoldRecord}
use Rattle.cp_client_rules.specs.Clients.{Holds, lock_cmp}
use Rattle.cp_client.specs.Rooms.{HoldsHaveRoom}

abbrev pub HasFew : HoldRecord → Type 0
HasFew h = h.holds < 2 ^ 62

some_same : (h k : HoldRecord) → Some h ≡ Some k → h ≡ k
some_same h k e = cc

pub all_room : (holds : Holds) → All HasFew (values_of holds) → HoldsHaveRoom holds
all_room [] all key h e = cc
all_room (row ∷ rows) all key h e = by (is_at (lock_cmp key) row.0) (all_room rows (All-tail HasFew row.1 (values_of rows) all) key h) e where
  by : (b : Bool) → (find lock_cmp rows key ≡ Some h → HasFew h) → cond b (Some row.1) (find lock_cmp rows key) ≡ Some h → HasFew h
  by true rest e = subst HasFew (some_same row.1 h e) (All-head HasFew row.1 (values_of rows) all)
  by false rest e = rest e
